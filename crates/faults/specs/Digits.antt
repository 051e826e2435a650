-- Hexadecimal digits as characters.
use Rattle.std.specs.Prelude.{ℕ, ◌+◌, ◌/◌, ◌%◌, cond, List, [], ◌∷◌, nat_lt}

-- the upper-case character of a digit
abbrev pub digit_glyph : ℕ → ℕ
digit_glyph digit = cond (nat_lt digit 10) (48 + digit) (55 + digit)

-- a byte as two digits
abbrev pub hex_pair : ℕ → List ℕ
hex_pair byte = digit_glyph (byte / 16) ∷ digit_glyph (byte % 16) ∷ []
