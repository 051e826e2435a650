-- What the commands tell, line by line.
use Rattle.std.specs.Prelude.{ℕ, ◌+◌, ◌/◌, ◌%◌, Bool, cond, List, [], ◌∷◌, ◌++◌, length, Ok, Err, codes, decimal, Result, ◌==◌}
use Rattle.fcs.specs.Fcs.{check_sequence, matches, byte_bits}
use Rattle.framing.specs.Insertion.{frame_bits}
use Rattle.framing.specs.Reading.{Judgement, good_contents, reading}
use Rattle.framing.specs.Words.{verdict_word}
use Rattle.faults.specs.declared.Fault.{Fault}
use Rattle.notation.specs.Bits.{bit_text, bits_read}
use Rattle.notation.specs.Hex.{hex_text, sequence_text}

abbrev pub hex_or_none : List ℕ → List ℕ
hex_or_none bytes = cond (length bytes == 0) (codes "none") (hex_text bytes)

-- the low byte is sent first
abbrev pub sequence_line : ℕ → List ℕ
sequence_line sequence =
    codes "check sequence: " ++ (sequence_text sequence ++ (codes ", sent as " ++ (hex_text (sequence % 256 ∷ sequence / 256 ∷ []) ++ 10 ∷ [])))

abbrev pub match_text : List ℕ → List ℕ
match_text bytes =
    cond (matches (byte_bits bytes)) (codes "yes") (codes "no")

-- what `check` tells
abbrev pub check_told : List ℕ → List ℕ
check_told bytes =
    codes "bytes: " ++ (hex_or_none bytes ++ (10 ∷ codes "number of bytes: " ++ (decimal (length bytes)
    ++ (10 ∷ (sequence_line (check_sequence bytes) ++ (codes "match: " ++ (match_text bytes ++ 10 ∷ [])))))))

-- what is told of bytes and line bits
abbrev pub frame_told : List ℕ → List Bool → List ℕ
frame_told bytes bits =
    codes "bytes: " ++ (hex_or_none bytes ++ (10 ∷ (sequence_line (check_sequence bytes)
    ++ (codes "number of line bits: " ++ (decimal (length bits) ++ (10 ∷ (bit_text bits ++ 10 ∷ [])))))))

-- what `encode` tells
abbrev pub encode_told : List ℕ → List ℕ
encode_told bytes = frame_told bytes (frame_bits bytes)

-- the stretch at a place, counted from 0
abbrev pub stretch_line : ℕ → Judgement → List ℕ
stretch_line place j =
    codes "stretch " ++ (decimal (place + 1) ++ (codes ": " ++ (verdict_word j.verdict ++ (codes ", " ++ (decimal j.n
    ++ (codes " bits, content " ++ (hex_or_none j.content ++ 10 ∷ [])))))))

abbrev pub stretch_lines : ℕ → List Judgement → List ℕ
stretch_lines place [] = []
stretch_lines place (j ∷ js) = stretch_line place j ++ stretch_lines (place + 1) js

-- how many line bits, stretches and good frames there are
abbrev pub summary_lines : (bits : ℕ) → List Judgement → List ℕ
summary_lines bits js =
    codes "line bits: " ++ (decimal bits ++ (10 ∷ codes "stretches: " ++ (decimal (length js)
    ++ (10 ∷ codes "good frames: " ++ (decimal (length (good_contents js)) ++ 10 ∷ [])))))

-- what is told of the stretches in a number of line bits
abbrev pub stretches_told : ℕ → List Judgement → List ℕ
stretches_told bits js = stretch_lines 0 js ++ summary_lines bits js

-- what `read` tells of line bits
abbrev pub read_told : List Bool → List ℕ
read_told bits = stretches_told (length bits) (reading bits)

-- and of a text of bits: that, or the first mistake in the text
abbrev pub bits_told : Result (List Bool) Fault → Result (List ℕ) Fault
bits_told (Ok bits) = Ok (read_told bits)
bits_told (Err fault) = Err fault

abbrev pub text_told : List ℕ → Result (List ℕ) Fault
text_told text = bits_told (bits_read text)
