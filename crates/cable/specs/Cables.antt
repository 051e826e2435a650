-- A cable: what it means, and the caller's bytes that it is kept in.
use Rattle.std.specs.Prelude.{ℕ, ◌+◌, ◌%◌, min, Bool, List, [], ◌∷◌, ◌++◌, length, drop, replicate, slice_index, slice_set}
use Rattle.line.specs.Kinds.{line_of}
use Rattle.line.specs.Levels.{level_of}
use Rattle.line.specs.Meaning.{Meaning, Memory}
use Rattle.cable.specs.declared.Cable.{Cable}

-- A cable has the smaller of the number of its bytes and 4096 places.
abbrev pub places_over : ℕ → ℕ
places_over n = min n 4096

-- The level at k of a ring of `places` bytes whose oldest is at `first`: the lowest bit of a byte.
abbrev pub ring : List ℕ → ℕ → ℕ → ℕ → ℕ
ring bytes places first k = slice_index bytes ((first + k) % places) % 2

-- A cable, told for any numbers, so that every value of its fields means a line.
abbrev pub cable_of : List ℕ → ℕ → ℕ → Bool → Meaning
cable_of bytes first count last =
    line_of (places_over (length bytes)) (level_of last) (ring bytes (places_over (length bytes)) first) (min count (places_over (length bytes)))

-- The byte that the next accepted put writes.
abbrev pub next_of : List ℕ → ℕ → ℕ → ℕ
next_of bytes first count = (first + min count (places_over (length bytes))) % places_over (length bytes)

-- The bytes of a fresh cable: 1 at its places, and beyond them as they were.
abbrev pub fresh_bytes : List ℕ → List ℕ
fresh_bytes bytes = replicate (places_over (length bytes)) 1 ++ drop (places_over (length bytes)) bytes

abbrev pub cable_meaning : Cable → Meaning
cable_meaning s = cable_of s.bytes.now s.first s.count s.last

abbrev pub cable_memory : Cable → Memory
cable_memory s = record { bytes = s.bytes.now; next = next_of s.bytes.now s.first s.count; borrows = s.bytes.ghost_name ∷ [] }

-- An accepted put writes its level to the next byte, and the one after it, round the places, is then the next.
abbrev pub ring_written : ℕ → Memory → ℕ → Memory
ring_written places m level = record { bytes = slice_set m.bytes m.next level; next = (m.next + 1) % places; borrows = m.borrows }

abbrev pub cable_written : Cable → ℕ → Memory
cable_written s level = ring_written (cable_meaning s).places (cable_memory s) level
