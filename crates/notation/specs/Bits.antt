-- Bits as text of 0 and 1.
use Rattle.std.specs.Prelude.{◌≡◌, ℕ, ◌+◌, Bool, true, false, cond, ◌||◌, List, [], ◌∷◌, ◌++◌, map, Ok, Err, Result, ◌==◌}
use Rattle.notation.specs.declared.bits.Place.{Place}
use Rattle.faults.specs.declared.Fault.{Fault}
use Rattle.faults.specs.declared.Fault.TheVariants.{NoBit}
use Rattle.notation.specs.Reading.{in_turn}

-- what is read so far: the place of the next character, and the bits
abbrev pub Sofar : Type 0
Sofar = Place × List Bool

abbrev right : Place → Place
right at = record { lines = at.lines; columns = at.columns + 1 }

abbrev below : Place → Place
below at = record { lines = at.lines + 1; columns = 0 }

-- space, tab and carriage return; a line feed also ends a line
abbrev blank : ℕ → Bool
blank c = c == 32 || (c == 9 || c == 13)

-- one character: 0 or 1 is a bit, white space is passed over, and anything else is a fault at its line and column, counted from 1
abbrev pub character_taken : Sofar → ℕ → Result Sofar Fault
character_taken s c =
    cond (c == 48) (Ok (right s.0, s.1 ++ false ∷ []))
    (cond (c == 49) (Ok (right s.0, s.1 ++ true ∷ []))
    (cond (c == 10) (Ok (below s.0, s.1))
    (cond (blank c) (Ok (right s.0, s.1)) (Err (NoBit (s.0.lines + 1) (s.0.columns + 1) c)))))

abbrev pub characters_taken : (place : ℕ) → Sofar → List ℕ → Result Sofar Fault
characters_taken = in_turn (λ place. character_taken)

abbrev pub bits_of : Result Sofar Fault → Result (List Bool) Fault
bits_of r = elim r [ Ok s ↦ Ok s.1 | Err fault ↦ Err fault ]

-- the bits of a text
abbrev pub bits_read : List ℕ → Result (List Bool) Fault
bits_read text = bits_of (characters_taken 0 (record { lines = 0; columns = 0 }, []) text)

abbrev pub bit_glyph : Bool → ℕ
bit_glyph bit = cond bit 49 48

-- bits as text
abbrev pub bit_text : List Bool → List ℕ
bit_text bits = map bit_glyph bits

-- the text of bits is read as these bits
abbrev pub ReadBack : Type 0
ReadBack = (bits : List Bool) → bits_read (bit_text bits) ≡ Ok bits
