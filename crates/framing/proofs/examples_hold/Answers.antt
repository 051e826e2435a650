use Rattle.std.proofs.Common.{◌≡◌, ℕ, ◌+◌, ◌-◌, ◌/◌, Bool, List, length, take, refl, ap, ◌∙◌, arith}
use mathlib.Core.Bool.{xor}
use Rattle.std.proofs.lemmas.List.{length-take}
use Rattle.fcs.specs.Fcs.{bit_0, bit_step, register_after, low_bits, byte_bits, matches}
use Rattle.framing.specs.Bytes.{bytes}
use Rattle.framing.specs.Reading.{judged, verdict_of}
use Rattle.framing.specs.declared.outcome.Verdict.TheVariants.{Ignored, Bad}
use Rattle.framing.proofs.Packed.{length_bytes}
use Rattle.framing.proofs.examples_hold.Goals as goal

verdict_24 : (bits : List Bool) → length bits ≡ 24 → (judged bits).verdict ≡ Ignored
verdict_24 bits e = ap (λ (n : ℕ). verdict_of n (matches bits)) e

judged_25 : (bits : List Bool) → length bits ≡ 25 → judged bits ≡ record { verdict = Bad; n = 25; content = bytes (take 9 bits) }
judged_25 bits e =
    ap (λ (n : ℕ). record { verdict = verdict_of n (matches bits); n = n; content = bytes (take (n - 16) bits) }) e

nine_bits : (bits : List Bool) → length bits ≡ 25 → length (judged bits).content ≡ 2
nine_bits bits e =
    let content = take (length bits - 16) bits in
    let nine : length content ≡ 9 = omega (arith, length-take (length bits - 16) bits, e) in
    length_bytes content ∙ ap (λ (n : ℕ). (n + 7) / 8) nine

pub returns : goal.returns
unfolding bit_0 bit_step register_after low_bits byte_bits xor
returns c = record {
  two_bytes = refl;
  low_byte_first = refl;
  on_the_line = refl;
  no_bytes = refl;
  no_match = refl;
  sixteen_zeros = refl;
  sixteen_ignored = refl;
  entry_1 = refl;
  entry_255 = refl;
  left_24 = verdict_24;
  left_25 = judged_25;
  nine_bits = nine_bits;
  shared_flags = refl;
  shared_empty = refl;
  three_flags = refl;
  three_no_frame = refl;
}
