-- What holds of the check sequence: the residue, and which errors are always seen.
use Rattle.std.specs.Prelude.{◌≡◌, ℕ, ◌+◌, ◌/◌, ◌%◌, ◌<◌, ◌≤◌, Bool, false, ◌≢◌, List, [], ◌∷◌, ◌++◌, length, slice_index_or}
use Rattle.fcs.specs.Fcs.{register_after, low_bits, byte_bits, initial, good_residue, check_sequence}

-- Any bytes followed by their check sequence leave F0B8 hex: as bits, bit 0 of the sequence first; and so as bytes, its low byte first.
pub record ResidueLaw : Type 0 where
  pub as_bits : (bytes : List ℕ) → register_after initial (byte_bits bytes ++ low_bits 16 (check_sequence bytes)) ≡ good_residue
  pub as_bytes : (bytes : List ℕ)
      → register_after initial (byte_bits (bytes ++ (check_sequence bytes % 256 ∷ check_sequence bytes / 256 ∷ []))) ≡ good_residue

-- two bit lists differ at the place k
abbrev pub Differ : List Bool → List Bool → ℕ → Type 0
Differ xs ys k = slice_index_or xs k false ≢ slice_index_or ys k false

-- Two bit lists of equal length differ in one or more places, and all of these lie inside sixteen neighbouring places.
pub record Burst (xs ys : List Bool) : Type 0 where
  pub same_length : length xs ≡ length ys
  pub place : ℕ
  pub differ : Differ xs ys place
  pub first : ℕ
  pub near : (k : ℕ) → Differ xs ys k → (first ≤ k) × (k < first + 16)

-- They leave different registers, so not both of them match.
abbrev pub BurstLaw : Type 0
BurstLaw = (xs ys : List Bool) → Burst xs ys → register_after initial xs ≢ register_after initial ys
