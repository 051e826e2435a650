-- What a fault is told by.
use Rattle.std.specs.Prelude.{ℕ, Bool, cond, ◌&&◌, List, [], ◌∷◌, ◌++◌, codes, decimal, nat_lt}
use Rattle.faults.specs.declared.Fault.{Fault}
use Rattle.faults.specs.declared.Fault.TheVariants.{EmptyWord, NoHexDigit, OddDigits, NoBit, UnknownCommand, NoFile, SecondFile, Memory}
use Rattle.faults.specs.Digits.{hex_pair}

abbrev pub visible : ℕ → Bool
visible byte = nat_lt 32 byte && nat_lt byte 127

-- a visible ASCII character in quotes, or two hexadecimal digits
unfoldable pub named : ℕ → List ℕ
named byte = cond (visible byte) (39 ∷ byte ∷ 39 ∷ []) (codes "byte " ++ hex_pair byte)

abbrev pub message : Fault → List ℕ
message (EmptyWord word) = codes "word " ++ (decimal word ++ codes " is empty")
message (NoHexDigit word character byte) =
    codes "word " ++ (decimal word ++ (codes ", character " ++ (decimal character ++ (codes ": " ++ (named byte ++ codes " is no hexadecimal digit")))))
message (OddDigits word) = codes "word " ++ (decimal word ++ codes " has an odd number of digits")
message (NoBit line column byte) =
    codes "line " ++ (decimal line ++ (codes ", column " ++ (decimal column ++ (codes ": " ++ (named byte ++ codes " is no 0, 1 or white space")))))
message UnknownCommand = codes "no such command: bench --help lists them"
message NoFile = codes "no file is named: name one, or - for standard input"
message SecondFile = codes "more than one file is named"
message Memory = codes "out of memory"

-- a place in what is complained of follows, or not
abbrev pub separator : Fault → List ℕ
separator (EmptyWord word) = codes ", "
separator (NoHexDigit word character byte) = codes ", "
separator (OddDigits word) = codes ", "
separator (NoBit line column byte) = codes ", "
separator UnknownCommand = codes ": "
separator NoFile = codes ": "
separator SecondFile = codes ": "
separator Memory = codes ": "

-- the line that tells of a fault in a file or a command
abbrev pub complaint : (about : List ℕ) → Fault → List ℕ
complaint about fault = codes "bench: " ++ (about ++ (separator fault ++ message fault))
