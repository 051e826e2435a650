-- A burst of at most sixteen bits changes the register. Assumes nothing.
use Rattle.std.proofs.Common.{◌≡◌, ℕ, zero, suc, ◌+◌, ◌-◌, ◌/◌, ◌%◌, ◌^◌, ◌<◌, ◌≤◌, min, Bool, true, false, cond, eqb, ◌≢◌, List, [], ◌∷◌, ◌++◌, length, get_or, take, drop, replicate, sym, refl, ap, ◌∙◌, ap₂, arith, lit<, pow_mono}
use mathlib.Core.Bool.{xor}
use native.Mathlib.Nat.{div-eq_of_lt}
use lib.Bits.{bit_xor, xor_assoc, xor_self, xor_lt, xor_shr, xor_zero_r}
use Rattle.std.proofs.lemmas.List.{ext_get_or, length-take, length-drop, get_or-take, get_or-drop, take-append-drop, drop-drop}
use Rattle.std.proofs.lemmas.Bool.{true≢false, false≢true}
use Rattle.fcs.specs.Fcs.{bit_0, bit_step, register_after, low_bits, spelt, initial}
use Rattle.fcs.specs.Laws.{Burst, BurstLaw}
use Rattle.fcs.proofs.Fold.{after_append}
use Rattle.fcs.proofs.Linear.{after_low_bits}
use Rattle.fcs.proofs.Spelt.{spelt_lt, low_bits_spelt}
use Rattle.fcs.proofs.Residue.{step_lt, after_lt}

-- ---- a bit step, and so any bits, can be undone

undo : (x p : ℕ) → bit_xor (bit_xor x p) p ≡ x
undo x p = xor_assoc x p p ∙ ap (bit_xor x) (xor_self p) ∙ xor_zero_r x

-- bit 15 after the step is t
top : (x y : ℕ) → x < 2 ^ 15 → y < 2 ^ 15 → bit_xor x 0x8408 ≡ y → ⊥
top x y hx hy e =
    let one : bit_xor x 0x8408 / 2 ^ 15 ≡ 1 = xor_shr x 0x8408 15 ∙ ap (λ h. bit_xor h 1) (div-eq_of_lt hx) in
    let none : bit_xor x 0x8408 / 2 ^ 15 ≡ 0 = ap (λ h. h / 2 ^ 15) e ∙ div-eq_of_lt hy in
    omega arith

unstep : (t u : Bool) (x y : ℕ) → x < 2 ^ 15 → y < 2 ^ 15
    → cond t (bit_xor x 0x8408) x ≡ cond u (bit_xor y 0x8408) y → (t ≡ u) × (x ≡ y)
unstep true true x y hx hy e = (refl, sym (undo x 0x8408) ∙ ap (λ z. bit_xor z 0x8408) e ∙ undo y 0x8408)
unstep true false x y hx hy e = absurd (top x y hx hy e)
unstep false true x y hx hy e = absurd (top y x hy hx (sym e))
unstep false false x y hx hy e = (refl, e)

xor_twice : (b c : Bool) → xor b (xor b c) ≡ c
unfolding xor
xor_twice true true = refl
xor_twice true false = refl
xor_twice false true = refl
xor_twice false false = refl

unxor : (b c d : Bool) → xor b c ≡ xor b d → c ≡ d
unxor b c d e = sym (xor_twice b c) ∙ ap (xor b) e ∙ xor_twice b d

digit : (x y : ℕ) → x < 2 → y < 2 → eqb x 1 ≡ eqb y 1 → x ≡ y
digit zero zero hx hy e = refl
digit zero (suc zero) hx hy e = absurd (false≢true e)
digit (suc zero) zero hx hy e = absurd (true≢false e)
digit (suc zero) (suc zero) hx hy e = refl
digit (suc (suc x)) y hx hy e = absurd (omega arith)
digit zero (suc (suc y)) hx hy e = absurd (omega arith)
digit (suc zero) (suc (suc y)) hx hy e = absurd (omega arith)

step_injective : (r s : ℕ) (b : Bool) → r < 2 ^ 16 → s < 2 ^ 16 → bit_step r b ≡ bit_step s b → r ≡ s
unfolding bit_step bit_0
step_injective r s b hr hs e =
    let parts = unstep (xor b (bit_0 r)) (xor b (bit_0 s)) (r / 2) (s / 2) (omega arith) (omega arith) e in
    let low : r % 2 ≡ s % 2 = digit (r % 2) (s % 2) (omega arith) (omega arith) (unxor b (bit_0 r) (bit_0 s) parts.0) in
    let high : r / 2 ≡ s / 2 = parts.1 in
    omega arith

after_injective : (bs : List Bool) (r s : ℕ) → r < 2 ^ 16 → s < 2 ^ 16 → register_after r bs ≡ register_after s bs → r ≡ s
unfolding register_after
after_injective [] r s hr hs e = e
after_injective (b ∷ bs) r s hr hs e =
    step_injective r s b hr hs (after_injective bs (bit_step r b) (bit_step s b) (step_lt r b hr) (step_lt s b hs) e)

-- ---- at most sixteen bits, as a number

-- from one register, at most sixteen bits are told by the register that they leave
module _ (r : ℕ) (small : r < 2 ^ 16) where
  put : List Bool → ℕ
  put bs = bit_xor r (spelt bs)

  put_lt : (bs : List Bool) → length bs ≤ 16 → put bs < 2 ^ 16
  unfolding put
  put_lt bs few = xor_lt 16 r (spelt bs) small (omega (arith, spelt_lt bs, pow_mono few))

  put_after : (bs : List Bool) → register_after r bs ≡ register_after (put bs) (replicate (length bs) false)
  unfolding put
  put_after bs = ap (register_after r) (sym (low_bits_spelt bs)) ∙ after_low_bits (length bs) r (spelt bs) (spelt_lt bs)

  same_put : (us vs : List Bool) → put us ≡ put vs → spelt us ≡ spelt vs
  unfolding put
  same_put us vs e = sym (back (spelt us)) ∙ ap (bit_xor r) e ∙ back (spelt vs)
    where
      back : (n : ℕ) → bit_xor r (bit_xor r n) ≡ n
      back n = sym (xor_assoc r r n) ∙ ap (λ x. bit_xor x n) (xor_self r)

  pub window : (us vs : List Bool) → length us ≡ length vs → length us ≤ 16 → register_after r us ≡ register_after r vs → us ≡ vs
  window us vs same few e =
      let zeros = replicate (length us) false in
      let put_e : register_after (put us) zeros ≡ register_after (put vs) zeros =
      sym (put_after us) ∙ e ∙ put_after vs ∙ ap (λ n. register_after (put vs) (replicate n false)) (sym same) in
      let numbers = same_put us vs (after_injective zeros (put us) (put vs) (put_lt us few) (put_lt vs (omega arith)) put_e) in
      sym (low_bits_spelt us) ∙ ap₂ low_bits same numbers ∙ low_bits_spelt vs

-- ---- lists that differ by a burst: equal fronts, at most sixteen bits, equal ends

agree : (a b : Bool) → (a ≢ b → ⊥) → a ≡ b
agree true true h = refl
agree true false h = absurd (h true≢false)
agree false true h = absurd (h false≢true)
agree false false h = refl

module _ (xs ys : List Bool) (burst : Burst xs ys) where
  agrees : (k : ℕ) → ((burst.first ≤ k) × (k < burst.first + 16) → ⊥) → get_or xs k false ≡ get_or ys k false
  agrees k far = agree (get_or xs k false) (get_or ys k false) (λ ne. far (burst.near k ne))

  same_front : take burst.first xs ≡ take burst.first ys
  same_front =
      ext_get_or false (take burst.first xs) (take burst.first ys)
      (simp length-take (ap (min burst.first) burst.same_length))
      (λ k h. let lt : k < burst.first = omega (arith, length-take burst.first xs) in simp get_or-take (agrees k (λ within. omega arith)))

  same_end : drop (burst.first + 16) xs ≡ drop (burst.first + 16) ys
  same_end =
      ext_get_or false (drop (burst.first + 16) xs) (drop (burst.first + 16) ys)
      (simp length-drop (ap (λ n. n - (burst.first + 16)) burst.same_length))
      (λ k h. simp get_or-drop (agrees (burst.first + 16 + k) (λ within. omega arith)))

-- a list by its bits before place i, the sixteen from there on, and those after them
parts : (xs : List Bool) (i : ℕ) → take i xs ++ (take 16 (drop i xs) ++ drop (i + 16) xs) ≡ xs
parts xs i =
    ap (λ l. take i xs ++ (take 16 (drop i xs) ++ l)) (sym (drop-drop 16 i xs))
    ∙ ap (λ l. take i xs ++ l) (take-append-drop 16 (drop i xs)) ∙ take-append-drop i xs

after_parts : (xs : List Bool) (i : ℕ) → register_after initial xs ≡ register_after (register_after (register_after initial (take i xs)) (take 16 (drop i xs))) (drop (i + 16) xs)
after_parts xs i =
    ap (register_after initial) (sym (parts xs i))
    ∙ after_append initial (take i xs) (take 16 (drop i xs) ++ drop (i + 16) xs)
    ∙ after_append (register_after initial (take i xs)) (take 16 (drop i xs)) (drop (i + 16) xs)

pub burst_law : BurstLaw
burst_law xs ys burst e =
    let i = burst.first in
    let front = same_front xs ys burst in
    let end = same_end xs ys burst in
    let r = register_after initial (take i xs) in
    let small = after_lt initial (take i xs) (lit< tt) in
    let us = take 16 (drop i xs) in
    let vs = take 16 (drop i ys) in
    let ends : register_after (register_after r us) (drop (i + 16) xs) ≡ register_after (register_after r vs) (drop (i + 16) xs) =
    sym (after_parts xs i) ∙ e ∙ after_parts ys i
    ∙ ap₂ (λ f l. register_after (register_after (register_after initial f) vs) l) (sym front) (sym end) in
    let left : register_after r us ≡ register_after r vs =
    after_injective (drop (i + 16) xs) (register_after r us) (register_after r vs) (after_lt r us small) (after_lt r vs small) ends in
    let same_size : length us ≡ length vs = simp (length-take, length-drop) (ap (λ n. min 16 (n - i)) burst.same_length) in
    let few : length us ≤ 16 = simp length-take (omega arith) in
    let same : xs ≡ ys =
    sym (parts xs i) ∙ ap₂ ◌++◌ front (ap₂ ◌++◌ (window r small us vs same_size few left) end) ∙ parts ys i in
    burst.differ (ap (λ l. get_or l burst.place false) same)
