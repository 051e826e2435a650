-- Worked examples of the check sequence, of framing and of the reading, as one statement about the definitions.
use Rattle.std.specs.Prelude.{◌≡◌, ℕ, Bool, false, cond, List, [], ◌∷◌, ◌++◌, reverse, length, take, replicate, codes, ◌==◌}
use Rattle.fcs.specs.Fcs.{register_after, low_bits, byte_bits, table_entry, initial, check_sequence, matches}
use Rattle.framing.specs.Bytes.{bytes}
use Rattle.framing.specs.Reading.{flag_bits, flags, judged, reading, good_frames}
use Rattle.framing.specs.Insertion.{frame_bits}
use Rattle.framing.specs.declared.outcome.Verdict.TheVariants.{Ignored, Bad}

-- line bits as written, the first one first, with blanks between them
abbrev bits_written : List ℕ → List Bool
bits_written [] = []
bits_written (c ∷ cs) = let bs = bits_written cs in cond (c == 32) bs ((c == 49) ∷ bs)

-- how many flags they hold
abbrev flags_in : List ℕ → ℕ
flags_in cs = flags (reverse (bits_written cs))

pub record Examples : Type 0 where
  -- 03 3F hex have check sequence EC5B hex, which is sent as 5B and then EC
  pub two_bytes : check_sequence (0x03 ∷ 0x3F ∷ []) ≡ 0xEC5B
  pub low_byte_first : low_bits 16 (check_sequence (0x03 ∷ 0x3F ∷ [])) ≡ byte_bits (0x5B ∷ 0xEC ∷ [])
  -- as they go out: a 0 is inserted after the five 1s of 3F
  pub on_the_line : frame_bits (0x03 ∷ 0x3F ∷ []) ≡ bits_written (codes "01111110 11000000 11111 0 100 11011010 00110111 01111110")
  -- no bytes: check sequence 0, and they do not match
  pub no_bytes : check_sequence [] ≡ 0
  pub no_match : matches (byte_bits []) ≡ false
  -- sixteen 0 bits leave F0B8 hex, and still 16 bits are too few
  pub sixteen_zeros : register_after initial (replicate 16 false) ≡ 0xF0B8
  pub sixteen_ignored :
      reading (flag_bits ++ (replicate 16 false ++ flag_bits)) ≡ record { verdict = Ignored; n = 16; content = [] } ∷ []
  -- entries of the table
  pub entry_1 : table_entry 1 ≡ 0x1189
  pub entry_255 : table_entry 255 ≡ 0x0F78
  -- 24 bits left are ignored, and 25 are bad, with nine bits of content in two bytes, whatever the bits are
  pub left_24 : (bits : List Bool) → length bits ≡ 24 → (judged bits).verdict ≡ Ignored
  pub left_25 : (bits : List Bool) → length bits ≡ 25 → judged bits ≡ record { verdict = Bad; n = 25; content = bytes (take 9 bits) }
  pub nine_bits : (bits : List Bool) → length bits ≡ 25 → length (judged bits).content ≡ 2
  -- two flags that share a 0 hold an empty stretch
  pub shared_flags : flags_in (codes "011111101111110") ≡ 2
  pub shared_empty : reading (bits_written (codes "011111101111110")) ≡ record { verdict = Ignored; n = 0; content = [] } ∷ []
  -- three flags and no good frame
  pub three_flags : flags_in (codes "01111110 0111111 01111110") ≡ 3
  pub three_no_frame : good_frames (bits_written (codes "01111110 0111111 01111110")) ≡ []
