-- The jumper and the word, told by the values that each keeps, and any line told by its places.
use Rattle.std.specs.Prelude.{ℕ, ◌/◌, ◌%◌, ◌^◌, Bool, List, [], ◌∷◌, map, Some, None, Option}
use Rattle.std.specs.List.{range_with_len}
use Rattle.line.specs.Levels.{level_of}
use Rattle.line.specs.Meaning.{Meaning}

-- A jumper, one place, by what it holds.
abbrev pub held_levels : Option Bool → List ℕ
held_levels None = []
held_levels (Some high) = level_of high ∷ []

abbrev pub jumper_of : Option Bool → Bool → Meaning
jumper_of held last = record { places = 1; last = level_of last; waiting = held_levels held }

-- The list f 0, f 1, .. of n levels.
abbrev pub counted : (ℕ → ℕ) → ℕ → List ℕ
counted f n = map f (range_with_len 0 n)

-- A line whose waiting level at k is f k.
abbrev pub line_of : ℕ → ℕ → (ℕ → ℕ) → ℕ → Meaning
line_of places last f count = record { places = places; last = last; waiting = counted f count }

-- Bit k of a word, from the lowest.
abbrev pub bit : ℕ → ℕ → ℕ
bit w k = w / 2 ^ k % 2

-- A word, 64 places: the oldest level is the lowest bit.
abbrev pub word_of : ℕ → ℕ → Bool → Meaning
word_of levels count last = line_of 64 (level_of last) (bit levels) count
