-- The two layers: a line told by the line below it.
use Rattle.std.specs.Prelude.{ℕ, ◌-◌, cond, List, [], ◌∷◌, map, ◌==◌, nat_lt}
use Rattle.line.specs.Levels.{level_of}
use Rattle.line.specs.Meaning.{Meaning, newest_level, put_after}
use Rattle.layers.specs.declared.nrzi.Nrzi.{Nrzi}

-- The other level.
abbrev pub inverted : ℕ → ℕ
inverted level = 1 - level

-- The crossed pair shows every level of the line below inverted.
abbrev pub crossed : Meaning → Meaning
crossed m = record { places = m.places; last = inverted m.last; waiting = map inverted m.waiting }

-- NRZI: a level is 1 exactly if the level below equals the one before it.
abbrev pub decoded : ℕ → ℕ → ℕ
decoded before level = cond (before == level) 1 0

-- The levels that those below stand for, with `before` the level before the first.
abbrev pub decoded_levels : ℕ → List ℕ → List ℕ
decoded_levels before [] = []
decoded_levels before (x ∷ xs) = decoded before x ∷ decoded_levels x xs

-- What goes below: the level before it for 1, and the other for 0.
abbrev pub encoded : ℕ → ℕ → ℕ
encoded before level = cond (level == 1) before (inverted before)

-- What goes below for a put on the line m.
abbrev pub encoded_on : Meaning → ℕ → ℕ
encoded_on m level = encoded (newest_level m.last m.waiting) level

-- What a put on NRZI leaves of the line m below: only 0 and 1 go there.
abbrev pub nrzi_put_below : Meaning → ℕ → Meaning
nrzi_put_below m level = cond (nat_lt 1 level) m (put_after m (encoded_on m level))

-- The same for puts one after the other.
abbrev pub nrzi_puts_below : Meaning → List ℕ → Meaning
nrzi_puts_below m [] = m
nrzi_puts_below m (level ∷ levels) = nrzi_puts_below (nrzi_put_below m level) levels

-- NRZI over the line m, with the level that it answered last.
abbrev pub nrzi_over : Meaning → ℕ → Meaning
nrzi_over m answered = record { places = m.places; last = answered; waiting = decoded_levels m.last m.waiting }

abbrev pub nrzi_meaning : {L : Type 0} → (L → Meaning) → Nrzi L → Meaning
nrzi_meaning meaning s = nrzi_over (meaning s.below) (level_of s.answered)
