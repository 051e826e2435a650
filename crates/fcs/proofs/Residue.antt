-- Bytes followed by their check sequence match. Assumes nothing.
use Rattle.std.proofs.Common.{◌≡◌, ℕ, zero, suc, ◌+◌, ◌*◌, ◌/◌, ◌%◌, ◌^◌, ◌<◌, Bool, true, false, cond, eqb, List, [], ◌∷◌, ◌++◌, replicate, sym, refl, ap, ◌∙◌, ap₂, append_assoc, append-nil, suc-add, zero-add, div-one, add-one, one-add, arith, lit<}
use mathlib.Core.Bool.{xor}
use lib.Bits.{bit_xor, xor_assoc, xor_self, xor_lt}
use Rattle.std.proofs.lemmas.Nat.{shr-shr, mod-pow-add}
use Rattle.fcs.specs.Fcs.{bit_0, bit_step, register_after, low_bits, byte_bits, initial, good_residue, check_sequence}
use Rattle.fcs.specs.Laws.{ResidueLaw}
use Rattle.fcs.proofs.Fold.{after_append}
use Rattle.fcs.proofs.Linear.{after_low_bits}

-- a register stays below 2 ^ 16
chosen_lt : (t : Bool) (x : ℕ) → x < 2 ^ 16 → cond t (bit_xor x 0x8408) x < 2 ^ 16
chosen_lt true x h = xor_lt 16 x 0x8408 h (lit< tt)
chosen_lt false x h = h

pub step_lt : (r : ℕ) (b : Bool) → r < 2 ^ 16 → bit_step r b < 2 ^ 16
unfolding bit_step
step_lt r b h = chosen_lt (xor b (bit_0 r)) (r / 2) (omega arith)

pub after_lt : (r : ℕ) (bs : List Bool) → r < 2 ^ 16 → register_after r bs < 2 ^ 16
unfolding register_after
after_lt r [] h = h
after_lt r (b ∷ bs) h = after_lt (bit_step r b) bs (step_lt r b h)

-- sixteen bits that are the register inverted act as sixteen 0 bits from FFFF hex
inverted_leaves : (r : ℕ) → r < 2 ^ 16 → register_after r (low_bits 16 (bit_xor r 0xFFFF)) ≡ good_residue
unfolding register_after bit_step bit_0 xor
inverted_leaves r h =
    after_low_bits 16 r (bit_xor r 0xFFFF) (xor_lt 16 r 0xFFFF h (lit< tt))
    ∙ ap (λ x. register_after x (replicate 16 false)) (sym (xor_assoc r r 0xFFFF) ∙ ap (λ x. bit_xor x 0xFFFF) (xor_self r))

as_bits : (bytes : List ℕ) → register_after initial (byte_bits bytes ++ low_bits 16 (check_sequence bytes)) ≡ good_residue
as_bits bytes =
    after_append initial (byte_bits bytes) (low_bits 16 (check_sequence bytes))
    ∙ inverted_leaves (register_after initial (byte_bits bytes)) (after_lt initial (byte_bits bytes) (lit< tt))

-- ---- the check sequence as two bytes

byte_bits_append : (xs ys : List ℕ) → byte_bits (xs ++ ys) ≡ byte_bits xs ++ byte_bits ys
unfolding byte_bits
byte_bits_append [] ys = refl
byte_bits_append (x ∷ xs) ys =
    ap (λ l. low_bits 8 x ++ l) (byte_bits_append xs ys) ∙ sym (append_assoc (low_bits 8 x) (byte_bits xs) (byte_bits ys))

low_bits_split : (j k n : ℕ) → low_bits (j + k) n ≡ low_bits j n ++ low_bits k (n / 2 ^ j)
unfolding low_bits
low_bits_split zero k n = ap₂ low_bits (zero-add k) (sym (div-one n))
low_bits_split (suc j) k n =
    ap (λ m. low_bits m n) (suc-add j k)
    ∙ ap (λ l. bit_0 n ∷ l) (low_bits_split j k (n / 2) ∙ ap (λ m. low_bits j (n / 2) ++ low_bits k m) (shr-shr n 1 j ∙ ap (λ m. n / 2 ^ m) (one-add j)))

-- the low k bits do not ask for what stands above them
low_bits_mod : (k n : ℕ) → low_bits k (n % 2 ^ k) ≡ low_bits k n
unfolding low_bits bit_0
low_bits_mod zero n = refl
low_bits_mod (suc k) n =
    let e : n % 2 ^ suc k ≡ (n / 2 % 2 ^ k) * 2 + n % 2 = ap (λ m. n % 2 ^ m) (sym (add-one k)) ∙ mod-pow-add n k 1 in
    let low : n % 2 ^ suc k % 2 ≡ n % 2 = omega arith in
    let high : n % 2 ^ suc k / 2 ≡ n / 2 % 2 ^ k = omega arith in
    ap₂ ◌∷◌ (ap (λ x. eqb x 1) low) (ap (low_bits k) high ∙ low_bits_mod k (n / 2))

two_bytes : (n : ℕ) → byte_bits (n % 256 ∷ n / 256 ∷ []) ≡ low_bits 16 n
unfolding byte_bits
two_bytes n =
    ap₂ ◌++◌ (low_bits_mod 8 n) (append-nil (low_bits 8 (n / 256))) ∙ sym (low_bits_split 8 8 n)

pub residue_law : ResidueLaw
residue_law = record {
  as_bits = as_bits;
  as_bytes = λ bytes.
      let n = check_sequence bytes in
      ap (register_after initial) (byte_bits_append bytes (n % 256 ∷ n / 256 ∷ []) ∙ ap (λ l. byte_bits bytes ++ l) (two_bytes n))
      ∙ as_bits bytes;
}
