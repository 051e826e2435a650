-- What a format writes of a byte, as a character and with `{:02X}`. Assumes nothing.
use Rattle.std.proofs.Common.{◌≡◌, ℕ, ◌-◌, ◌^◌, ◌<◌, true, [], ◌∷◌, Some, refl, arith}
use lib.Utf8.{encode}
use Rattle.std.proofs.lemmas.Bool.Decides.{nat_tests}
use Rattle.std.proofs.lemmas.Fmt.{hex_byte}
use Rattle.std.proofs.lemmas.Str.{encode_ascii}
use Rattle.std.specs.Char.{is_ascii_graphic}
use Rattle.std.specs.Fmt.{digits, digits_output, styled_digits_output, format_spec}
use Rattle.faults.specs.Digits.{hex_pair}
use Rattle.faults.specs.Messages.{visible}

pub byte_printed : (d : _) (s : _) (byte : ℕ) → s ≡ format_spec 32 0 4 2 (2 ^ 64 - 1) → digits_output d ≡ Some (digits 16 true byte) → byte < 256
    → styled_digits_output d s ≡ Some (hex_pair byte)
byte_printed d s byte laid out h = rw (laid, out, hex_byte true byte h) refl

pub visible_by_class : (byte : ℕ) → is_ascii_graphic byte ≡ visible byte
visible_by_class byte = grind (arith, nat_tests)

below : (byte : ℕ) → is_ascii_graphic byte ≡ true → byte < 128
below byte e = grind (arith, nat_tests)

pub visible_printed : (byte : ℕ) → is_ascii_graphic byte ≡ true → encode byte ≡ byte ∷ []
visible_printed byte e = encode_ascii byte (below byte e)

pub ruleset named_steps = (byte_printed, visible_by_class, visible_printed)
