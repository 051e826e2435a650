-- How text is read: item by item, up to the first fault.
use Rattle.std.specs.Prelude.{ℕ, ◌+◌, List, [], ◌∷◌, Ok, Err, Result}
use Rattle.faults.specs.declared.Fault.{Fault}

-- The items in turn from the state s on, each with its place counted from 0. The first fault is the answer.
abbrev pub in_turn : {S X : Type 0} → (ℕ → S → X → Result S Fault) → ℕ → S → List X → Result S Fault
in_turn step place s [] = Ok s
in_turn step place s (x ∷ xs) = elim (step place s x) [ Ok t ↦ in_turn step (place + 1) t xs | Err fault ↦ Err fault ]
