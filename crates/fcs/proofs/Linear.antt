-- The check register runs by exclusive-or: bits fed one by one are as good as bits put into the register beforehand.
-- Assumes nothing.
use Rattle.std.proofs.Common.{◌≡◌, ℕ, zero, suc, ◌*◌, ◌/◌, ◌%◌, ◌^◌, ◌<◌, Bool, true, false, cond, eqb, ◌∷◌, replicate, sym, refl, ap, ◌∙◌, ap₂, mod-lt, div-one, one-add, arith}
use mathlib.Core.Bool.{xor}
use native.Mathlib.Nat.{div-eq_of_lt}
use lib.Bits.{bit_xor, xor_assoc, xor_comm, xor_mod, xor_shr, xor_zero_r, xor_shifted, shifted_half, shifted_even}
use Rattle.std.proofs.lemmas.Nat.{shr-shr, shl-shr, shr_split, pow_pos}
use Rattle.fcs.specs.Fcs.{bit_0, bit_step, register_after, low_bits}

digit_xor : (x y : ℕ) → x < 2 → y < 2 → eqb (bit_xor x y) 1 ≡ xor (eqb x 1) (eqb y 1)
unfolding xor
digit_xor zero zero hx hy = refl
digit_xor zero (suc zero) hx hy = refl
digit_xor (suc zero) zero hx hy = refl
digit_xor (suc zero) (suc zero) hx hy = refl
digit_xor (suc (suc x)) y hx hy = absurd (omega arith)
digit_xor zero (suc (suc y)) hx hy = absurd (omega arith)
digit_xor (suc zero) (suc (suc y)) hx hy = absurd (omega arith)

bit_0_xor : (r n : ℕ) → bit_0 (bit_xor r n) ≡ xor (bit_0 r) (bit_0 n)
unfolding bit_0
bit_0_xor r n =
    ap (λ x. eqb x 1) (xor_mod r n 1) ∙ digit_xor (r % 2) (n % 2) (mod-lt r (omega arith)) (mod-lt n (omega arith))

swap : (x y z : ℕ) → bit_xor (bit_xor x y) z ≡ bit_xor (bit_xor x z) y
swap x y z = xor_assoc x y z ∙ ap (bit_xor x) (xor_comm y z) ∙ sym (xor_assoc x z y)

stepped : (a b : Bool) (x y : ℕ) →
    cond (xor false (xor a b)) (bit_xor (bit_xor x y) 0x8408) (bit_xor x y) ≡ bit_xor (cond (xor b a) (bit_xor x 0x8408) x) y
unfolding xor
stepped true true x y = refl
stepped true false x y = swap x y 0x8408
stepped false true x y = swap x y 0x8408
stepped false false x y = refl

-- a number's bit 0 fed to the register is as good as the number put into the register
step_xor : (r n : ℕ) → bit_step (bit_xor r n) false ≡ bit_xor (bit_step r (bit_0 n)) (n / 2)
unfolding bit_step
step_xor r n =
    ap₂ (λ t h. cond (xor false t) (bit_xor h 0x8408) h) (bit_0_xor r n) (xor_shr r n 1)
    ∙ stepped (bit_0 r) (bit_0 n) (r / 2) (n / 2)

-- and so for k bits: what is left of the number stays in the register
pub after_xor : (k r n : ℕ) → register_after (bit_xor r n) (replicate k false) ≡ bit_xor (register_after r (low_bits k n)) (n / 2 ^ k)
unfolding register_after low_bits
after_xor zero r n = ap (bit_xor r) (sym (div-one n))
after_xor (suc k) r n =
    ap (λ x. register_after x (replicate k false)) (step_xor r n)
    ∙ after_xor k (bit_step r (bit_0 n)) (n / 2)
    ∙ ap (bit_xor (register_after (bit_step r (bit_0 n)) (low_bits k (n / 2)))) (shr-shr n 1 k ∙ ap (λ m. n / 2 ^ m) (one-add k))

pub after_low_bits : (k r n : ℕ) → n < 2 ^ k → register_after r (low_bits k n) ≡ register_after (bit_xor r n) (replicate k false)
after_low_bits k r n h =
    sym (after_xor k r n ∙ ap (bit_xor (register_after r (low_bits k n))) (div-eq_of_lt h) ∙ xor_zero_r (register_after r (low_bits k n)))

low_bits_shifted : (k h : ℕ) → low_bits k (h * 2 ^ k) ≡ replicate k false
unfolding low_bits bit_0
low_bits_shifted zero h = refl
low_bits_shifted (suc k) h =
    ap₂ ◌∷◌ (ap (λ x. eqb x 1) (shifted_even h k)) (ap (low_bits k) (shifted_half h k) ∙ low_bits_shifted k h)

-- k steps with bit 0 shift the high part of the register down, and leave on it what they make of the low part
pub after_zeros : (k r : ℕ) → register_after r (replicate k false) ≡ bit_xor (r / 2 ^ k) (register_after (r % 2 ^ k) (replicate k false))
after_zeros k r =
    let high = r / 2 ^ k in
    let low = r % 2 ^ k in
    let parts : bit_xor low (high * 2 ^ k) ≡ r =
    xor_comm low (high * 2 ^ k) ∙ xor_shifted high k low (mod-lt r (pow_pos k)) ∙ shr_split r k in
    ap (λ x. register_after x (replicate k false)) (sym parts)
    ∙ after_xor k low (high * 2 ^ k)
    ∙ ap₂ (λ bs x. bit_xor (register_after low bs) x) (low_bits_shifted k high) (shl-shr high k)
    ∙ xor_comm (register_after low (replicate k false)) high
