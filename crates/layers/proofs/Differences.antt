-- What NRZI keeps of the line below.
use Rattle.std.proofs.Common.{◌≡◌, ℕ, zero, suc, ◌<◌, ◌≤◌, List, [], ◌∷◌, ◌++◌, length, Some, None, refl, ap, arith}
use Rattle.std.specs.List.{slice_get}
use Rattle.std.proofs.lemmas.Bool.Decides.{nat_tests}
use Rattle.layers.specs.Soundness.{decoded_length}
use Rattle.layers.specs.Laws.{NrziRule}
use Rattle.line.specs.Meaning.{Meaning, Levels, Sound, put_answer, put_after, appended, newest_level}
use Rattle.layers.specs.Layers.{decoded, decoded_levels, encoded, encoded_on, nrzi_over}
use Rattle.layers.proofs.Layered.{layer_answer, layer_after}

-- the level before the one past the end is the newest
pub newest_at : (p : ℕ) (xs : List ℕ) → slice_get (p ∷ xs) (length xs) ≡ Some (newest_level p xs)
newest_at p [] = refl
newest_at p (x ∷ xs) = newest_at x xs

pub newest_low : (p : ℕ) (xs : List ℕ) → p < 2 → Levels xs → newest_level p xs < 2
newest_low p [] l h = l
newest_low p (x ∷ xs) l h = newest_low x xs (h 0) (λ k. h (suc k))

pub encoded_low : (p l : ℕ) → p < 2 → encoded p l < 2
encoded_low p l h = grind (arith, nat_tests)

-- a level that went below comes back
pub decoded_encoded : (p l : ℕ) → p < 2 → l < 2 → decoded p (encoded p l) ≡ l
decoded_encoded p l h k = grind (arith, nat_tests)

pub decoded_push : (p : ℕ) (xs : List ℕ) (x : ℕ) → decoded_levels p (xs ++ x ∷ []) ≡ decoded_levels p xs ++ decoded (newest_level p xs) x ∷ []
decoded_push p [] x = refl
decoded_push p (y ∷ xs) x = ap (λ zs. decoded p y ∷ zs) (decoded_push y xs x)

-- the level at k, by the one below and the one before it
pub decoded_at : (p : ℕ) (xs : List ℕ) (k y x : ℕ) → slice_get (p ∷ xs) k ≡ Some y → slice_get xs k ≡ Some x → slice_get (decoded_levels p xs) k ≡ Some (decoded y x)
decoded_at p [] k y x e f = grind arith
decoded_at p (w ∷ xs) zero y x e f = grind arith
decoded_at p (w ∷ xs) (suc k) y x e f = decoded_at w xs k y x e f

pub decoded_none : (p : ℕ) (xs : List ℕ) (k : ℕ) → slice_get xs k ≡ None → slice_get (decoded_levels p xs) k ≡ None
decoded_none p [] k e = refl
decoded_none p (w ∷ xs) zero e = cc
decoded_none p (w ∷ xs) (suc k) e = decoded_none w xs k e

pub decoded_none_before : (p : ℕ) (xs : List ℕ) (k : ℕ) → slice_get (p ∷ xs) k ≡ None → slice_get (decoded_levels p xs) k ≡ None
decoded_none_before p [] k e = refl
decoded_none_before p (w ∷ xs) zero e = grind arith
decoded_none_before p (w ∷ xs) (suc k) e = decoded_none_before w xs k e

pub ruleset decoded_lemmas = (decoded_at, decoded_none, decoded_none_before)

module _ (m : Meaning) (a l : ℕ) (h : Sound m) (low : l ≤ 1) where
  newest_is : newest_level m.last m.waiting < 2
  newest_is = newest_low m.last m.waiting h.binary h.levels

  goes_low : encoded_on m l ≤ 1
  goes_low = let k = encoded_low (newest_level m.last m.waiting) l newest_is in omega arith

  nrzi_appended : appended (nrzi_over m a) l ≡ nrzi_over (appended m (encoded_on m l)) a
  nrzi_appended =
      simp (decoded_push, decoded_encoded (newest_level m.last m.waiting) l newest_is (omega arith))

  pub nrzi_put_answer : put_answer (nrzi_over m a) l ≡ put_answer m (encoded_on m l)
  nrzi_put_answer = layer_answer (λ x. nrzi_over x a) m l (encoded_on m l) low goes_low refl (decoded_length m.last m.waiting)

  pub nrzi_put_after : put_after (nrzi_over m a) l ≡ nrzi_over (put_after m (encoded_on m l)) a
  nrzi_put_after =
      layer_after (λ x. nrzi_over x a) m l (encoded_on m l) low goes_low refl (decoded_length m.last m.waiting) nrzi_appended

pub nrzi_rule : NrziRule
nrzi_rule before [] k h = let b : ⊥ = omega arith in absurd b
nrzi_rule before (x ∷ xs) zero h = (grind (arith, nat_tests), grind (arith, nat_tests))
nrzi_rule before (x ∷ xs) (suc k) h = nrzi_rule x xs k (omega arith)
