-- A layer over a line holds no more levels than it has places, and each level is 0 or 1.
use Rattle.std.specs.Prelude.{◌≡◌, ℕ, zero, suc, ◌<◌, true, false, cond, List, [], ◌∷◌, map, length, ◌==◌, refl}
use Rattle.std.proofs.Common.{ap, arith, lit<}
use Rattle.std.proofs.lemmas.List.{length-map}
use Rattle.line.specs.Meaning.{Meaning, Levels, Sound}
use Rattle.layers.specs.Layers.{inverted, crossed, decoded, decoded_levels, nrzi_over}

pub inverted_levels : (xs : List ℕ) → Levels (map inverted xs)
inverted_levels [] k = lit< tt
inverted_levels (x ∷ xs) zero = omega arith
inverted_levels (x ∷ xs) (suc k) = inverted_levels xs k

pub crossed_sound : (m : Meaning) → Sound m → Sound (crossed m)
crossed_sound m h = record { within = rw length-map h.within; binary = omega arith; levels = inverted_levels m.waiting }

pub decoded_low : (p x : ℕ) → decoded p x < 2
decoded_low p x = elim (p == x) as (λ t. cond t 1 0 < 2) [ true ↦ lit< tt | false ↦ lit< tt ]

pub decoded_all_low : (p : ℕ) (xs : List ℕ) → Levels (decoded_levels p xs)
decoded_all_low p [] k = lit< tt
decoded_all_low p (x ∷ xs) zero = decoded_low p x
decoded_all_low p (x ∷ xs) (suc k) = decoded_all_low x xs k

pub decoded_length : (p : ℕ) (xs : List ℕ) → length (decoded_levels p xs) ≡ length xs
decoded_length p [] = refl
decoded_length p (x ∷ xs) = ap suc (decoded_length x xs)

pub nrzi_sound : (m : Meaning) (a : ℕ) → Sound m → a < 2 → Sound (nrzi_over m a)
nrzi_sound m a h l =
    record { within = rw decoded_length h.within; binary = l; levels = decoded_all_low m.last m.waiting }
