-- The table's entries one by one, and a byte step by the table. Assumes nothing.
use Rattle.std.proofs.Common.{◌≡◌, ℕ, ◌/◌, ◌%◌, ◌<◌, ◌^◌, map, get_or, sym, refl, ap, ◌∙◌, ap₂, mod-lt, arith}
use native.Mathlib.Nat.{div-eq_of_lt}
use lib.Bits.{bit_xor, bit_and, and_mask, xor_comm, xor_shr, xor_zero_r}
use Rattle.std.specs.List.{range_with_len}
use Rattle.std.proofs.lemmas.List.FromFn.{get_or-map-range_with_len}
use Rattle.fcs.specs.Fcs.{register_after, low_bits, table_entry, table}
use Rattle.fcs.proofs.Linear.{after_low_bits, after_zeros}

pub table_is : table ≡ map table_entry (range_with_len 0 256)
unfolding table
table_is = refl

pub entry_is : (i : ℕ) → i < 256 → get_or table i 0 ≡ table_entry i
entry_is i h = ap (λ l. get_or l i 0) table_is ∙ get_or-map-range_with_len table_entry 0 256 i i 0 h (omega arith)

-- a byte's eight bits, by the entry at the low byte of the register and the byte
pub step_by_table : (r b : ℕ) → b < 2 ^ 8 → register_after r (low_bits 8 b) ≡ bit_xor (get_or table (bit_and (bit_xor r b) 255) 0) (r / 256)
step_by_table r b h =
    let mixed = bit_xor r b in
    let high : mixed / 256 ≡ r / 256 = xor_shr r b 8 ∙ ap (bit_xor (r / 256)) (div-eq_of_lt h) ∙ xor_zero_r (r / 256) in
    sym
    (ap₂ (λ i x. bit_xor (get_or table i 0) x) (and_mask mixed 8) (sym high)
    ∙ ap (λ e. bit_xor e (mixed / 256)) (entry_is (mixed % 256) (mod-lt mixed (omega arith)))
    ∙ xor_comm (table_entry (mixed % 256)) (mixed / 256)
    ∙ sym (after_low_bits 8 r b h ∙ after_zeros 8 mixed))
