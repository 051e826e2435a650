-- What the program prints for each command.
use Rattle.std.specs.Prelude.{◌≡◌, ℕ, List, Ok, Err, string_bytes, Result, String}
use Rattle.std.specs.declared.alloc.Global.{Global}
use Rattle.bench.specs.declared.Failure.{Failure}
use Rattle.bench.specs.declared.Failure.TheVariants.{Told, Memory, Input, Output}
use Rattle.bench.specs.Failures.{Tells}
use Rattle.commands.specs.Commands.{Asked, help, check, encode, read}
use Rattle.faults.specs.Answers.{Answers}
use Rattle.faults.specs.declared.Fault.{Fault}
use Rattle.faults.specs.Messages.{complaint}
use Rattle.reports.specs.Reports.{check_told, encode_told, text_told}

-- a text to print, or why there is none
abbrev pub Printed : Type 0
Printed = Result (String Global) Failure

-- this text, unless there is no memory for it
abbrev pub Text : Printed → List ℕ → Type 0
Text (Ok told) text = string_bytes told ≡ text
Text (Err Memory) text = Unit {0}
Text (Err (Told line)) text = ⊥
Text (Err (Input e)) text = ⊥
Text (Err (Output e)) text = ⊥

-- the first mistake in a text is told, with the name of what holds the text
pub record Complained (failure : Failure) (name text : List ℕ) : Type 0 where
  pub fault : Fault
  pub found : Answers {X = String Global} string_bytes (Err fault) (text_told text)
  pub tells : Tells failure (complaint name fault)

-- what `read` tells of a text from a place of this name
abbrev pub Read : Printed → (name text : List ℕ) → Type 0
Read (Ok told) name text = text_told text ≡ Ok (string_bytes told)
Read (Err failure) name text = Complained failure name text

-- What each command prints. What a file or standard input holds is no part of this: `Read` says what is told of it.
abbrev pub Answered : (help_text : List ℕ) → Printed → Asked → Type 0
Answered help_text r help = Text r help_text
Answered help_text r (check bytes) = Text r (check_told bytes)
Answered help_text r (encode bytes) = Text r (encode_told bytes)
Answered help_text r (read source) = Unit {0}
