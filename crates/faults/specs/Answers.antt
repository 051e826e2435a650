-- What a reader of text answers: what was read, the fault in it, or that memory ran out.
use Rattle.std.specs.Prelude.{◌≡◌, Bool, true, false, cond, Ok, Err, Result}
use Rattle.faults.specs.declared.Fault.{Fault}
use Rattle.faults.specs.declared.Fault.TheVariants.{EmptyWord, NoHexDigit, OddDigits, NoBit, UnknownCommand, NoFile, SecondFile, Memory}

abbrev pub is_memory : Fault → Bool
is_memory (EmptyWord word) = false
is_memory (NoHexDigit word character byte) = false
is_memory (OddDigits word) = false
is_memory (NoBit line column byte) = false
is_memory UnknownCommand = false
is_memory NoFile = false
is_memory SecondFile = false
is_memory Memory = true

-- The answer r is what e says: its value, as `view` shows it, or its fault. Memory may run out first, and that is told.
abbrev pub Answers : {X Y : Type 0} → (X → Y) → Result X Fault → Result Y Fault → Type 0
Answers view (Ok x) e = e ≡ Ok (view x)
Answers view (Err fault) e = cond (is_memory fault) (Unit {0}) (e ≡ Err fault)
