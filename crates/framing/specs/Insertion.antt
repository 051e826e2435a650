-- Zero insertion, and a whole frame on the line. Bits stand in the order in which they are sent.
use Rattle.std.specs.Prelude.{ℕ, suc, Bool, true, false, List, [], ◌∷◌, ◌++◌, ◌==◌}
use Rattle.fcs.specs.Fcs.{low_bits, byte_bits, check_sequence}
use Rattle.framing.specs.Reading.{flag_bits}

-- After every fifth 1 in a row a 0 is inserted; k content bits of 1 have come with no 0 inserted since the first of them.
abbrev pub inserted_from : ℕ → List Bool → List Bool
inserted_from k [] = []
inserted_from k (false ∷ bs) = false ∷ inserted_from 0 bs
inserted_from k (true ∷ bs) = true ∷ elim (k == 4) [ true ↦ false ∷ inserted_from 0 bs | false ↦ inserted_from (suc k) bs ]

-- content bits after zero insertion
abbrev pub inserted : List Bool → List Bool
inserted bs = inserted_from 0 bs

-- the content bits of a frame: its bytes, bit 0 of each first, and then their check sequence, bit 0 first
abbrev pub content_bits : List ℕ → List Bool
content_bits g = byte_bits g ++ low_bits 16 (check_sequence g)

-- the bits of one frame of these bytes, from its opening to its closing flag
abbrev pub frame_bits : List ℕ → List Bool
frame_bits g = flag_bits ++ (inserted (content_bits g) ++ flag_bits)
