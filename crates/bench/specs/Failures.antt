-- What a failure says on standard error.
use Rattle.std.specs.Prelude.{◌≡◌, ℕ, List, [], ◌∷◌, Option, Some, None, string_bytes, codes}
use Rattle.bench.specs.declared.Failure.{Failure}
use Rattle.bench.specs.declared.Failure.TheVariants.{Told, Memory, Input, Output}

-- the line for standard error; how the system words an error of its own is not said
abbrev pub told : Failure → Option (List ℕ)
told (Told line) = Some (string_bytes line)
told Memory = Some (codes "bench: out of memory")
told (Input e) = None
told (Output e) = None

-- a line for standard error, unless there is no memory for it
abbrev pub Tells : Failure → List ℕ → Type 0
Tells (Told line) text = string_bytes line ≡ text
Tells Memory text = Unit {0}
Tells (Input e) text = ⊥
Tells (Output e) text = ⊥

-- a command is named by its first word
abbrev pub command_name : List (List ℕ) → List ℕ
command_name [] = codes "command line"
command_name (word ∷ words) = word
