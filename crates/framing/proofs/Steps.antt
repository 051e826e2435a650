-- What one more bit does to the reading of a history.
use Rattle.std.proofs.Common.{◌≡◌, suc, ◌≤◌, Bool, true, false, List, [], ◌∷◌, ◌++◌, refl, append-nil, arith}
use Rattle.std.proofs.lemmas.Bool.{ne_eqb}
use Rattle.framing.specs.Reading.{ones, flag_ends, abort_ends, since, also, place, closed_by_flag, stretches}

pub no_flag_0 : (h : List Bool) → ones h ≤ 5 → flag_ends (false ∷ h) ≡ false
no_flag_0 [] k = refl
no_flag_0 (false ∷ h) k = refl
no_flag_0 (true ∷ []) k = refl
no_flag_0 (true ∷ false ∷ h) k = refl
no_flag_0 (true ∷ true ∷ []) k = refl
no_flag_0 (true ∷ true ∷ false ∷ h) k = refl
no_flag_0 (true ∷ true ∷ true ∷ []) k = refl
no_flag_0 (true ∷ true ∷ true ∷ false ∷ h) k = refl
no_flag_0 (true ∷ true ∷ true ∷ true ∷ []) k = refl
no_flag_0 (true ∷ true ∷ true ∷ true ∷ false ∷ h) k = refl
no_flag_0 (true ∷ true ∷ true ∷ true ∷ true ∷ []) k = refl
no_flag_0 (true ∷ true ∷ true ∷ true ∷ true ∷ false ∷ h) k = refl
no_flag_0 (true ∷ true ∷ true ∷ true ∷ true ∷ true ∷ h) k = absurd (omega arith)

no_abort_1 : (h : List Bool) → ones h ≤ 5 → abort_ends (true ∷ h) ≡ false
no_abort_1 h k = ne_eqb (suc (ones h)) 7 (λ e. omega arith)

-- with at most five 1s before it, a bit ends nothing
pub place_bit : (b : Bool) (h : List Bool) → ones h ≤ 5 → place (b ∷ h) ≡ also b (place h)
place_bit true h k = rw (no_abort_1 h k)
place_bit false h k = rw (no_flag_0 h k)

-- a 1 ends no stretch, and a 0 none where no flag ends
pub stretches_1 : (h : List Bool) → stretches (true ∷ h) ≡ stretches h
stretches_1 h = append-nil (stretches h)

pub stretches_0 : (h : List Bool) → flag_ends (false ∷ h) ≡ false → stretches (false ∷ h) ≡ stretches h
stretches_0 h e = rw e (append-nil (stretches h))

pub stretches_bit : (b : Bool) (h : List Bool) → ones h ≤ 5 → stretches (b ∷ h) ≡ stretches h
stretches_bit true h k = stretches_1 h
stretches_bit false h k = stretches_0 h (no_flag_0 h k)

-- a flag ends
pub stretches_flag : (h : List Bool) → flag_ends (false ∷ h) ≡ true → stretches (false ∷ h) ≡ stretches h ++ closed_by_flag (place h)
stretches_flag h e = rw e

pub place_flag : (h : List Bool) → flag_ends (false ∷ h) ≡ true → place (false ∷ h) ≡ since []
place_flag h e = rw e
