-- Zero deletion undoes zero insertion.
use Rattle.std.proofs.Common.{◌≡◌, ℕ, suc, ◌≤◌, Bool, true, false, eqb, List, [], ◌∷◌, reverse, refl, ap, ◌∙◌, arith}
use mathlib.Core.List.{reverse_aux, reverse-reverse}
use Rattle.std.proofs.lemmas.Bool.{le-leb, lt-leb, eqb-true, eqb-false}
use Rattle.framing.specs.Reading.{ones, deleted, left}
use Rattle.framing.specs.Insertion.{inserted_from, inserted}

-- zero insertion at a 1 that is the fifth in a row, and at one that is not
pub inserted_fifth : (k : ℕ) (c : List Bool) → eqb k 4 ≡ true → inserted_from k (true ∷ c) ≡ true ∷ false ∷ inserted_from 0 c
inserted_fifth k c e = rw e

pub inserted_other : (k : ℕ) (c : List Bool) → eqb k 4 ≡ false → inserted_from k (true ∷ c) ≡ true ∷ inserted_from (suc k) c
inserted_other k c e = rw e

undone : (c s : List Bool) → ones s ≤ 4 → deleted (reverse_aux (inserted_from (ones s) c) s) ≡ reverse_aux c (deleted s)
undone [] s l = refl
undone (false ∷ c) s l = undone c (false ∷ s) (omega arith) ∙ ap (reverse_aux c) (rw (lt-leb 5 (ones s) (omega arith)))
undone (true ∷ c) s l = go (eqb (ones s) 4) refl (undone c)
  where
    go :
        (y : Bool) →
        eqb (ones s) 4 ≡ y →
        ((n : List Bool) → ones n ≤ 4 → deleted (reverse_aux (inserted_from (ones n) c) n) ≡ reverse_aux c (deleted n)) →
        deleted (reverse_aux (inserted_from (ones s) (true ∷ c)) s) ≡ reverse_aux (true ∷ c) (deleted s)
    go true e ih =
        rw e
        (ih (false ∷ true ∷ s) (omega arith) ∙
        ap (reverse_aux c) (rw (le-leb 5 (suc (ones s)) (let d = eqb-true (ones s) 4 e in omega arith))))
    go false e ih = rw e (ih (true ∷ s) (let d : ones s ≡ 4 → ⊥ = eqb-false (ones s) 4 e in omega arith))

pub insertion_undone : (c : List Bool) → left (reverse (inserted c)) ≡ c
insertion_undone c = ap reverse (undone c [] (omega arith)) ∙ reverse-reverse c
