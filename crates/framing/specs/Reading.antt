-- The reading of line bits. A bit is a Bool, true for 1. A history has all bits so far, the NEWEST FIRST, so that a bit more is `b ∷ h`.
use Rattle.std.specs.Prelude.{ℕ, suc, ◌-◌, Bool, true, false, cond, ◌&&◌, List, [], ◌∷◌, ◌++◌, reverse, length, take, drop, vec_items, ◌==◌, nat_le, nat_lt}
use Rattle.std.specs.Bool.{beq}
use Rattle.fcs.specs.Fcs.{matches}
use Rattle.framing.specs.Bytes.{bytes}
use Rattle.framing.specs.declared.outcome.Stretch.{Stretch}
use Rattle.framing.specs.declared.outcome.Verdict.{Verdict}
use Rattle.framing.specs.declared.outcome.Verdict.TheVariants.{Ignored, Bad, Good}

-- a flag, which reads the same from both ends
abbrev pub flag_bits : List Bool
flag_bits = false ∷ true ∷ true ∷ true ∷ true ∷ true ∷ true ∷ false ∷ []

-- the list starts with the pattern
abbrev pub starts : List Bool → List Bool → Bool
starts [] h = true
starts (p ∷ ps) [] = false
starts (p ∷ ps) (b ∷ h) = beq p b && starts ps h

-- how many 1s in a row are the latest bits
abbrev pub ones : List Bool → ℕ
ones [] = 0
ones (false ∷ h) = 0
ones (true ∷ h) = suc (ones h)

-- a flag ends at the newest bit: the latest eight bits are 01111110
abbrev pub flag_ends : List Bool → Bool
flag_ends h = starts flag_bits h

-- an abort ends at the newest bit: it is the seventh 1 in a row
abbrev pub abort_ends : List Bool → Bool
abort_ends h = ones h == 7

-- Where a reader stands: no flag has ended since the start or since the latest abort, or these bits came since the latest flag,
-- the newest first.
pub data Place : Type 0 where
  hunting : Place
  since : List Bool → Place

abbrev pub also : Bool → Place → Place
also b hunting = hunting
also b (since s) = since (b ∷ s)

abbrev pub place : List Bool → Place
place [] = hunting
place (b ∷ h) = cond (flag_ends (b ∷ h)) (since []) (cond (abort_ends (b ∷ h)) hunting (also b (place h)))

-- Every 0 that follows five 1s in a row in a stretch is deleted. The newest bit comes first.
abbrev pub deleted : List Bool → List Bool
deleted [] = []
deleted (true ∷ s) = true ∷ deleted s
deleted (false ∷ s) = let d = deleted s in cond (nat_le 5 (ones s)) d (false ∷ d)

-- the bits of a stretch that zero deletion leaves, the oldest first; the stretch has its newest first
abbrev pub left : List Bool → List Bool
left s = reverse (deleted s)

-- A stretch by the n bits left: below 25 it is ignored, from 25 to 31 bad, else good if all of them match the check and bad if not.
abbrev pub verdict_of : ℕ → Bool → Verdict
verdict_of n matching = cond (nat_lt n 25) Ignored (cond (nat_lt n 32) Bad (cond matching Good Bad))

-- what the reading says of a stretch: its verdict, n, and its content in bytes
pub record Judgement : Type 0 where
  pub verdict : Verdict
  pub n : ℕ
  pub content : List ℕ

-- a stretch that the code gives, as a judgement
abbrev pub as_read : Stretch → Judgement
as_read s = record { verdict = s.verdict; n = s.n; content = vec_items s.content }

-- a stretch by the bits left of it, the oldest first: the content is all of them but the last 16
abbrev pub judged : List Bool → Judgement
judged bits =
    record
    { verdict = verdict_of (length bits) (matches bits); n = length bits; content = bytes (take (length bits - 16) bits) }

-- A stretch is the bits after one flag and before the first bit of the next. Before the last bit of that next flag, its seven other
-- bits have come since the flag before it, or six if the two share a 0; then the stretch is empty.
abbrev pub closed_by_flag : Place → List Judgement
closed_by_flag hunting = []
closed_by_flag (since s) = judged (left (drop 7 s)) ∷ []

-- the stretches of a history, judged, the oldest first
abbrev pub stretches : List Bool → List Judgement
stretches [] = []
stretches (b ∷ h) = stretches h ++ elim (flag_ends (b ∷ h)) [ true ↦ closed_by_flag (place h) | false ↦ [] ]

-- a good frame is the content of a good stretch
abbrev pub good_content : Verdict → List ℕ → List (List ℕ)
good_content Ignored content = []
good_content Bad content = []
good_content Good content = content ∷ []

abbrev pub good_contents : List Judgement → List (List ℕ)
good_contents [] = []
good_contents (j ∷ js) = good_content j.verdict j.content ++ good_contents js

-- the good frames of a history, the oldest first
abbrev pub frames : List Bool → List (List ℕ)
frames h = good_contents (stretches h)

-- how many flags end in a history
abbrev pub flags : List Bool → ℕ
flags [] = 0
flags (b ∷ h) = let n = flags h in cond (flag_ends (b ∷ h)) (suc n) n

-- the reading of line bits in the order in which they came: every stretch, and the good frames
abbrev pub reading : List Bool → List Judgement
reading bits = stretches (reverse bits)

abbrev pub good_frames : List Bool → List (List ℕ)
good_frames bits = frames (reverse bits)
