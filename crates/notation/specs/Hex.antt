-- Bytes as hexadecimal words.
use Rattle.std.specs.Prelude.{◌≡◌, ℕ, ◌+◌, ◌-◌, ◌*◌, ◌/◌, ◌%◌, ◌<◌, Bool, cond, ◌&&◌, List, [], ◌∷◌, ◌++◌, length, Some, None, Ok, Err, Option, Result, ◌==◌, nat_le}
use Rattle.faults.specs.declared.Fault.{Fault}
use Rattle.faults.specs.declared.Fault.TheVariants.{EmptyWord, NoHexDigit, OddDigits}
use Rattle.std.specs.List.{AllByRecursion, flat_map}
use Rattle.faults.specs.Digits.{hex_pair}
use Rattle.notation.specs.Reading.{in_turn}

abbrev between : ℕ → ℕ → ℕ → Bool
between low high c = nat_le low c && nat_le c high

-- the value of a digit, of either case: 0 to 9, A to F, a to f
abbrev pub digit_value : ℕ → Option ℕ
digit_value c = cond (between 48 57 c) (Some (c - 48)) (cond (between 65 70 c) (Some (c - 55)) (cond (between 97 102 c) (Some (c - 87)) None))

-- What is read of a word so far: the high digit of a byte whose low digit is to come, and the bytes, those of the words before it too.
abbrev pub Sofar : Type 0
Sofar = Option ℕ × List ℕ

-- a digit more: a high one waits, and a low one ends its byte
abbrev pub with_digit : Option ℕ → List ℕ → ℕ → Sofar
with_digit None bytes digit = (Some digit, bytes)
with_digit (Some high) bytes digit = (None, bytes ++ (high * 16 + digit) ∷ [])

-- a digit, or what stands for a character that is none
abbrev pub digit_read : Result Sofar Fault → Sofar → Option ℕ → Result Sofar Fault
digit_read else s None = else
digit_read else s (Some digit) = Ok (with_digit s.0 s.1 digit)

-- one character of a word
abbrev pub character_read : (word : ℕ) → (place : ℕ) → Sofar → ℕ → Result Sofar Fault
character_read word place s c = digit_read (Err (NoHexDigit word (place + 1) c)) s (digit_value c)

-- after the last character no digit may wait
abbrev pub word_ended : (word : ℕ) → Sofar → Result (List ℕ) Fault
word_ended word s = elim s.0 [ None ↦ Ok s.1 | Some high ↦ Err (OddDigits word) ]

-- a word by what its characters gave
abbrev pub ended : (word : ℕ) → Result Sofar Fault → Result (List ℕ) Fault
ended word r = elim r [ Ok s ↦ word_ended word s | Err fault ↦ Err fault ]

abbrev pub characters_read : (word : ℕ) → (place : ℕ) → Sofar → List ℕ → Result (List ℕ) Fault
characters_read word place s cs = ended word (in_turn (character_read word) place s cs)

-- the bytes of one word after those before it
abbrev pub word_read : (place : ℕ) → List ℕ → List ℕ → Result (List ℕ) Fault
word_read place bytes cs = cond (length cs == 0) (Err (EmptyWord (place + 1))) (characters_read (place + 1) 0 (None, bytes) cs)

-- the bytes of all words
abbrev pub words_read : List (List ℕ) → Result (List ℕ) Fault
words_read words = in_turn word_read 0 [] words

-- bytes as pairs of digits with a blank between two
abbrev pub hex_text : List ℕ → List ℕ
hex_text [] = []
hex_text (byte ∷ bytes) = hex_pair byte ++ flat_map (λ b. 32 ∷ hex_pair b) bytes

-- sixteen bits as four digits
abbrev pub sequence_text : ℕ → List ℕ
sequence_text sequence = hex_pair (sequence / 256) ++ hex_pair (sequence % 256)

-- a text cut at its blanks, as a command line is; `word` are the characters since the last blank
abbrev word_if_any : List ℕ → List (List ℕ)
word_if_any word = cond (length word == 0) [] (word ∷ [])

abbrev pub cut_at_blanks : (word : List ℕ) → List ℕ → List (List ℕ)
cut_at_blanks word [] = word_if_any word
cut_at_blanks word (c ∷ cs) = cond (c == 32) (word_if_any word ++ cut_at_blanks [] cs) (cut_at_blanks (word ++ c ∷ []) cs)

-- the text of bytes, as words, is read as these bytes
abbrev pub ReadBack : Type 0
ReadBack = (bytes : List ℕ) → AllByRecursion (λ b. b < 256) bytes → words_read (cut_at_blanks [] (hex_text bytes)) ≡ Ok bytes
