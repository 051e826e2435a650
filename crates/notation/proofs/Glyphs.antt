-- The characters of bits, as bytes. Assumes nothing.
use Rattle.std.proofs.Common.{◌≡◌, Bool, true, false, List, [], ◌∷◌, ◌++◌, map, refl, ap₂, arith}
use lib.Utf8.{encodes}
use Rattle.std.proofs.lemmas.Str.{encode_ascii}
use Rattle.notation.specs.Bits.{bit_glyph, bit_text}

-- each is ASCII, and so it is one byte
pub glyphs_encoded : (bits : List Bool) → encodes (map bit_glyph bits) ≡ bit_text bits
glyphs_encoded [] = refl
glyphs_encoded (true ∷ bits) = ap₂ (λ x y. x ++ y) (encode_ascii 49 (omega arith)) (glyphs_encoded bits)
glyphs_encoded (false ∷ bits) = ap₂ (λ x y. x ++ y) (encode_ascii 48 (omega arith)) (glyphs_encoded bits)
