-- What holds of frames and of their reading.
use Rattle.std.specs.Prelude.{◌≡◌, ℕ, ◌+◌, ◌*◌, ◌≤◌, Bool, cond, List, [], ◌∷◌, reverse, length, nat_le}
use Rattle.fcs.specs.Laws.{Burst}
use Rattle.framing.specs.Reading.{Judgement, reading, good_frames, left, judged}
use Rattle.framing.specs.Insertion.{inserted}
use Rattle.framing.specs.declared.outcome.Verdict.TheVariants.{Ignored, Good}

-- zero deletion undoes zero insertion
abbrev pub InsertionUndone : Type 0
InsertionUndone = (c : List Bool) → left (reverse (inserted c)) ≡ c

-- one frame of these bytes, as the reading has it: two bytes or more are good, fewer are too few to be a frame
abbrev pub whole : List ℕ → Judgement
whole g = record { verdict = cond (nat_le 2 (length g)) Good Ignored; n = 8 * length g + 16; content = g }

-- A sent frame is read back. The reading of its bits is one stretch with these bytes as its content, and nothing else; and for two
-- bytes or more these bytes are the one good frame.
pub record ReadBack (g : List ℕ) (bits : List Bool) : Type 0 where
  pub stretch : reading bits ≡ whole g ∷ []
  pub frame : 2 ≤ length g → good_frames bits ≡ g ∷ []

-- a stretch, its newest bit first, is good
abbrev pub IsGood : List Bool → Type 0
IsGood s = (judged (left s)).verdict ≡ Good

-- Of two stretches, from any source, that have equally many bits after zero deletion and differ there in one or more places, all inside
-- sixteen neighbouring ones, not both are good.
abbrev pub BurstLaw : Type 0
BurstLaw = (s t : List Bool) → Burst (left s) (left t) → IsGood s → IsGood t → ⊥
