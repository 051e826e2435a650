-- A bit step, by whether the bit differs from bit 0 of the register. Assumes nothing.
use Rattle.std.proofs.Common.{◌≡◌, ℕ, ◌/◌, Bool, true, false, not, cond, eqb, sym, refl, ap, ◌∙◌}
use mathlib.Core.Bool.{xor, beq}
use lib.Bits.{bit_xor, bit_and, and_mask}
use Rattle.fcs.specs.Fcs.{bit_0, bit_step}

-- two bits differ where their exclusive-or is 1
differ : (b c : Bool) → not (beq b c) ≡ xor b c
unfolding xor
differ true true = refl
differ true false = refl
differ false true = refl
differ false false = refl

chosen : (r : ℕ) (b t : Bool) → not (beq b (eqb (bit_and r 1) 1)) ≡ t → cond t (bit_xor (r / 2) 0x8408) (r / 2) ≡ bit_step r b
unfolding bit_step bit_0
chosen r b t h =
    ap (λ u. cond u (bit_xor (r / 2) 0x8408) (r / 2)) (sym h ∙ ap (λ n. not (beq b (eqb n 1))) (and_mask r 1) ∙ differ b (bit_0 r))

pub step_differs : (r : ℕ) (b : Bool) → not (beq b (eqb (bit_and r 1) 1)) ≡ true → bit_step r b ≡ bit_xor (r / 2) 0x8408
step_differs r b h = sym (chosen r b true h)

pub step_equal : (r : ℕ) (b : Bool) → not (beq b (eqb (bit_and r 1) 1)) ≡ false → bit_step r b ≡ r / 2
step_equal r b h = sym (chosen r b false h)
