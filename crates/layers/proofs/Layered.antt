-- A layer puts on the line below: the answer is the line's own, and what then stands is seen through the layer.
use Rattle.std.proofs.Common.{◌≡◌, ℕ, ◌≤◌, length, Ok, Err, sym, refl, ap, ◌∙◌, arith}
use Rattle.std.proofs.lemmas.Bool.Decides.{nat_tests}
use Rattle.line.specs.Meaning.{Answer, Meaning, Memory, admitted, appended, if_accepted, put_answer, put_after}

-- a level is admitted like any other
admitted_same : (l e n p : ℕ) → l ≤ 1 → e ≤ 1 → admitted l n p ≡ admitted e n p
admitted_same l e n p low under = grind (arith, nat_tests)

accepted_through : {A B : Type 0} (f : A → B) (a : Answer) (new old : A) → f (if_accepted a new old) ≡ if_accepted a (f new) (f old)
accepted_through f (Ok n) new old = refl
accepted_through f (Err e) new old = refl

-- a layer over m, as big as m, where l goes below as e
module _ (over : Meaning → Meaning) (m : Meaning) (l e : ℕ) (low : l ≤ 1) (under : e ≤ 1)
    (size : (over m).places ≡ m.places) (many : length (over m).waiting ≡ length m.waiting) where
  pub layer_answer : put_answer (over m) l ≡ put_answer m e
  layer_answer =
      ap (λ n. admitted l n (over m).places) many ∙ ap (admitted l (length m.waiting)) size
      ∙ admitted_same l e (length m.waiting) m.places low under

  pub layer_after : appended (over m) l ≡ over (appended m e) → put_after (over m) l ≡ over (put_after m e)
  layer_after more =
      ap (λ a. if_accepted a (appended (over m) l) (over m)) layer_answer
      ∙ ap (λ x. if_accepted (put_answer m e) x (over m)) more
      ∙ sym (accepted_through over (put_answer m e) (appended m e) m)

-- what the line below keeps of a put of y, where x is what went there
pub layer_stored : (m : Meaning) (written : ℕ → Memory) (memory kept : Memory) (x y : ℕ) (r : Answer)
    → kept ≡ if_accepted (put_answer m x) (written x) memory → x ≡ y → r ≡ put_answer m y → kept ≡ if_accepted r (written y) memory
layer_stored m written memory kept x y r s e a =
    s
    ∙ ap (λ v. if_accepted (put_answer m v) (written v) memory) e
    ∙ ap (λ v. if_accepted v (written y) memory) (sym a)
