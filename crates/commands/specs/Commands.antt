-- What a command line asks for.
use Rattle.std.specs.Prelude.{ℕ, Bool, cond, ◌||◌, List, [], ◌∷◌, Ok, Err, vec_items, string_bytes, codes, Result}
use Rattle.std.specs.Str.{bytes_eq}
use Rattle.commands.specs.declared.Command.{Command}
use Rattle.commands.specs.declared.Command.TheVariants as command
use Rattle.commands.specs.declared.Source.{Source}
use Rattle.commands.specs.declared.Source.TheVariants.{StandardInput, File}
use Rattle.faults.specs.declared.Fault.{Fault}
use Rattle.faults.specs.declared.Fault.TheVariants.{UnknownCommand, NoFile, SecondFile}
use Rattle.notation.specs.Hex.{words_read}

-- where bit text comes from: standard input, or the file of a name
pub data From : Type 0 where
  input : From
  file : List ℕ → From

-- what is asked for: help, the check or the frame of bytes, or the stretches in bit text
pub data Asked : Type 0 where
  help : Asked
  check : List ℕ → Asked
  encode : List ℕ → Asked
  read : From → Asked

abbrev pub source_shown : Source → From
source_shown StandardInput = input
source_shown (File path) = file (string_bytes path)

abbrev pub command_shown : Command → Asked
command_shown command.Help = help
command_shown (command.Check bytes) = check (vec_items bytes)
command_shown (command.Encode bytes) = encode (vec_items bytes)
command_shown (command.Read source) = read (source_shown source)

-- one word after `read`: a file's name, or - for standard input
abbrev pub source_meant : List (List ℕ) → Result From Fault
source_meant [] = Err NoFile
source_meant (path ∷ []) = Ok (cond (bytes_eq path (codes "-")) input (file path))
source_meant (path ∷ word ∷ words) = Err SecondFile

abbrev after : {X Y : Type 0} → (X → Y) → Result X Fault → Result Y Fault
after f r = elim r [ Ok x ↦ Ok (f x) | Err fault ↦ Err fault ]

abbrev is_help : List ℕ → Bool
is_help word = bytes_eq word (codes "help") || (bytes_eq word (codes "--help") || bytes_eq word (codes "-h"))

-- a command's name, and the words after it
abbrev pub named_meant : List ℕ → List (List ℕ) → Result Asked Fault
named_meant name words =
    cond (is_help name) (Ok help)
    (cond (bytes_eq name (codes "check")) (after check (words_read words))
    (cond (bytes_eq name (codes "encode")) (after encode (words_read words))
    (cond (bytes_eq name (codes "read")) (after read (source_meant words)) (Err UnknownCommand))))

-- all words after the program's name
abbrev pub command_meant : List (List ℕ) → Result Asked Fault
command_meant [] = Ok help
command_meant (name ∷ words) = named_meant name words
