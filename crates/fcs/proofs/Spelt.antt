-- Bits as a number, and a number as bits. Assumes nothing.
use Rattle.std.proofs.Common.{◌≡◌, ℕ, zero, suc, ◌+◌, ◌*◌, ◌/◌, ◌%◌, ◌^◌, ◌<◌, ◌≤◌, Bool, true, false, eqb, List, [], ◌∷◌, length, refl, ap, ◌∙◌, ap₂, pow-suc, arith, lit<}
use Rattle.fcs.specs.Fcs.{bit_0, low_bits, bit_value, spelt}

value_le : (b : Bool) → bit_value b ≤ 1
value_le true = omega arith
value_le false = omega arith

pub spelt_lt : (bs : List Bool) → spelt bs < 2 ^ length bs
spelt_lt [] = lit< tt
spelt_lt (b ∷ bs) = rw pow-suc (omega (arith, spelt_lt bs, value_le b))

lowest : (b : Bool) (n : ℕ) → bit_0 (bit_value b + 2 * n) ≡ b
unfolding bit_0
lowest true n = let e : (1 + 2 * n) % 2 ≡ 1 = omega arith in ap (λ x. eqb x 1) e
lowest false n = let e : (0 + 2 * n) % 2 ≡ 0 = omega arith in ap (λ x. eqb x 1) e

-- bits are the lowest bits of the number that they spell
pub low_bits_spelt : (bs : List Bool) → low_bits (length bs) (spelt bs) ≡ bs
unfolding low_bits
low_bits_spelt [] = refl
low_bits_spelt (b ∷ bs) =
    let half : (bit_value b + 2 * spelt bs) / 2 ≡ spelt bs = omega (arith, value_le b) in
    ap₂ ◌∷◌ (lowest b (spelt bs)) (ap (low_bits (length bs)) half ∙ low_bits_spelt bs)

value_of_bit_0 : (n : ℕ) → bit_value (bit_0 n) ≡ n % 2
unfolding bit_0
value_of_bit_0 n = go (n % 2) (omega arith)
  where
    go : (m : ℕ) → m < 2 → bit_value (eqb m 1) ≡ m
    go zero h = refl
    go (suc zero) h = refl
    go (suc (suc m)) h = absurd (omega arith)

-- and a number is what its lowest bits spell, if it has no others
pub spelt_low_bits : (k n : ℕ) → n < 2 ^ k → spelt (low_bits k n) ≡ n
unfolding low_bits
spelt_low_bits zero n h = omega arith
spelt_low_bits (suc k) n h =
    let e : spelt (low_bits k (n / 2)) ≡ n / 2 = spelt_low_bits k (n / 2) (omega (arith, pow-suc 2 k)) in
    omega (arith, e, value_of_bit_0 n)
