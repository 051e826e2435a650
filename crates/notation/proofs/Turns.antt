-- Items read in turn: one step on, a fault, and the end. Assumes nothing.
use Rattle.std.proofs.Common.{◌≡◌, ℕ, ◌+◌, ◌<◌, ◌≤◌, List, ◌∷◌, length, get_or, drop, Ok, Err, Result, sym, ap, ◌∙◌}
use Rattle.std.proofs.lemmas.List.{at_drop_more, at_drop_all}
use Rattle.faults.specs.declared.Fault.{Fault}
use Rattle.notation.specs.Reading.{in_turn}

-- what is left after one item, by what the step answered
abbrev onward : {S X : Type 0} → (ℕ → S → X → Result S Fault) → ℕ → List X → Result S Fault → Result S Fault
onward step i xs r = elim r [ Ok t ↦ in_turn step (i + 1) t xs | Err fault ↦ Err fault ]

module _ {S X : Type 0} (step : ℕ → S → X → Result S Fault) where
  pub turn_one : (s t : S) (x : X) (xs : List X) (i : ℕ) → step i s x ≡ Ok t → in_turn step i s (x ∷ xs) ≡ in_turn step (i + 1) t xs
  turn_one s t x xs i e = ap (onward step i xs) e

  pub turn_more : (s t : S) (xs : List X) (i : ℕ) (d : X) → i < length xs → step i s (get_or xs i d) ≡ Ok t
      → in_turn step (i + 1) t (drop (i + 1) xs) ≡ in_turn step i s (drop i xs)
  turn_more s t xs i d h e =
      sym (at_drop_more (in_turn step i s) xs i d h ∙ ap (onward step i (drop (i + 1) xs)) e)

  pub turn_fault : (s : S) (xs : List X) (i : ℕ) (d : X) (f : Fault) → i < length xs → step i s (get_or xs i d) ≡ Err f
      → in_turn step i s (drop i xs) ≡ Err f
  turn_fault s xs i d f h e =
      at_drop_more (in_turn step i s) xs i d h ∙ ap (onward step i (drop (i + 1) xs)) e

  pub turn_all : (s : S) (xs : List X) (i : ℕ) → length xs ≤ i → in_turn step i s (drop i xs) ≡ Ok s
  turn_all s xs i h = at_drop_all (in_turn step i s) xs i h
