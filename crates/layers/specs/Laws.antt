-- NRZI: its rule, and an example.
use Rattle.std.specs.Prelude.{◌≡◌, ℕ, ◌<◌, List, [], ◌∷◌, length, ◌≢◌, slice_index}
use Rattle.line.specs.Meaning.{fresh}
use Rattle.layers.specs.Layers.{decoded_levels, nrzi_puts_below}

-- NRZI in words: the level at k is 1 exactly if the level below at k equals the one before it, else 0.
abbrev pub NrziRule : Type 0
NrziRule =
    (before : ℕ) (xs : List ℕ) (k : ℕ) → k < length xs
    → (slice_index xs k ≡ slice_index (before ∷ xs) k → slice_index (decoded_levels before xs) k ≡ 1)
    × ((slice_index xs k ≢ slice_index (before ∷ xs) k) → slice_index (decoded_levels before xs) k ≡ 0)

-- On a fresh line, so after level 1, the levels 1, 0, 0, 1 go below as 1, 0, 1, 1, and are read from there as 1, 0, 0, 1.
abbrev pub NrziExample : Type 0
NrziExample =
    ((nrzi_puts_below (fresh 4) (1 ∷ 0 ∷ 0 ∷ 1 ∷ [])).waiting ≡ 1 ∷ 0 ∷ 1 ∷ 1 ∷ [])
    × (decoded_levels 1 (1 ∷ 0 ∷ 1 ∷ 1 ∷ []) ≡ 1 ∷ 0 ∷ 0 ∷ 1 ∷ [])
