-- The characters of a bit text: one more, a fault, and the end. Assumes nothing.
use Rattle.std.proofs.Common.{◌≡◌, ℕ, ◌+◌, ◌<◌, ◌≤◌, List, length, get_or, drop, Ok, Err, arith}
use Rattle.std.proofs.lemmas.Bool.Decides.{nat_tests}
use Rattle.faults.specs.declared.Fault.{Fault}
use Rattle.notation.specs.Bits.{Sofar, character_taken, characters_taken}
use Rattle.notation.proofs.Turns.{turn_more, turn_fault, turn_all}

module _ (s : Sofar) (cs : List ℕ) (i : ℕ) where
  pub taken_more : (t : Sofar) → i < length cs → character_taken s (get_or cs i 0) ≡ Ok t
      → characters_taken (i + 1) t (drop (i + 1) cs) ≡ characters_taken i s (drop i cs)
  taken_more t h e = turn_more (λ place. character_taken) s t cs i 0 h e

  -- one character adds one line or one column at most
  pub taken_near : (t : Sofar) → character_taken s (get_or cs i 0) ≡ Ok t → (t.0.lines ≤ s.0.lines + 1) × (t.0.columns ≤ s.0.columns + 1)
  taken_near t e = grind (arith, nat_tests)

  pub taken_fault : (f : Fault) → i < length cs → character_taken s (get_or cs i 0) ≡ Err f → characters_taken i s (drop i cs) ≡ Err f
  taken_fault f h e = turn_fault (λ place. character_taken) s cs i 0 f h e

  pub taken_all : length cs ≤ i → characters_taken i s (drop i cs) ≡ Ok s
  taken_all h = turn_all (λ place. character_taken) s cs i h

pub ruleset text_steps = (taken_more, taken_near, taken_fault, taken_all)
