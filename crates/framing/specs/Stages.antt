-- How the code goes, bit by bit: what its private functions leave. The promises of the public calls do not rest on these words.
use Rattle.std.specs.Prelude.{ℕ, ◌+◌, ◌-◌, min, Bool, true, false, cond, List, [], ◌∷◌, ◌++◌, length, take, fold, Option, Some, None, ◌==◌}
use Rattle.std.specs.Option.{option_map}
use Rattle.framing.specs.Reading.{Judgement, judged}

-- bits so far, and the run of 1s at their end, as zero insertion or zero deletion counts it
pub record Counted : Type 0 where
  pub bits : List Bool
  pub run : ℕ

abbrev pub nothing : Counted
nothing = record { bits = []; run = 0 }

-- ---- sending

-- a content bit is the fifth 1 in a row; and the run after it
abbrev pub fifth : ℕ → Bool → Bool
fifth k false = false
fifth k true = k == 4

abbrev pub run_on : ℕ → Bool → ℕ
run_on k false = 0
run_on k true = cond (k == 4) 0 (k + 1)

-- one content bit, and then more of them
abbrev pub sent_bit : Counted → Bool → Counted
sent_bit s b =
    let bits = s.bits ++ (b ∷ []) in
    record { bits = cond (fifth s.run b) (bits ++ (false ∷ [])) bits; run = run_on s.run b }

abbrev pub sent : List Bool → Counted → Counted
sent bs s = fold sent_bit s bs

-- ---- zero deletion, the oldest bit first; the run is at most five

abbrev pub kept_bit : Counted → Bool → Counted
kept_bit k true = record { bits = k.bits ++ (true ∷ []); run = min 5 (k.run + 1) }
kept_bit k false = record { bits = cond (k.run == 5) k.bits (k.bits ++ (false ∷ [])); run = 0 }

-- ---- reading

-- the stretch that a flag ends, by all bits since the flag before it, the oldest first, but for the last bit of the flag that ends it
abbrev pub stretch_of : List Bool → List Bool
stretch_of bits = take (length bits - 7) bits

abbrev pub judged_since : List Bool → Judgement
judged_since bits = judged (fold kept_bit nothing (stretch_of bits)).bits

-- How a reader stands: the 1s in a row that came last, at most seven, and seven while no 0 has come; the bits since the latest flag, the
-- oldest first, if one has ended and no abort since; and the stretches so far.
pub record ReaderState : Type 0 where
  pub ones : ℕ
  pub since : Option (List Bool)
  pub found : List Judgement

abbrev pub initial_state : ReaderState
initial_state = record { ones = 7; since = None; found = [] }

-- a bit is kept only after a flag
abbrev pub keeps : Option (List Bool) → Bool → Option (List Bool)
keeps since b = option_map (λ bits. bits ++ (b ∷ [])) since

abbrev pub kept_by : ReaderState → Bool → ReaderState
kept_by s b = record { ones = s.ones; since = keeps s.since b; found = s.found }

-- a flag ends a stretch only after another flag
abbrev pub closes : Option (List Bool) → List Judgement → List Judgement
closes None found = found
closes (Some bits) found = found ++ (judged_since bits ∷ [])

abbrev pub closed_by : ReaderState → ReaderState
closed_by s = record { ones = s.ones; since = Some []; found = closes s.since s.found }

-- after an abort no bit is kept until the next flag
abbrev pub aborted_by : ReaderState → ReaderState
aborted_by s = record { ones = s.ones; since = None; found = s.found }

-- a bit after exactly six 1s: a 1 ends an abort, and a 0 a flag
abbrev pub ended_by : ReaderState → Bool → ReaderState
ended_by s true = record { ones = 7; since = None; found = s.found }
ended_by s false = record { ones = 0; since = Some []; found = closes s.since s.found }

-- any other bit
abbrev pub going_on : ReaderState → Bool → ReaderState
going_on s true = record { ones = min 7 (s.ones + 1); since = keeps s.since true; found = s.found }
going_on s false = record { ones = 0; since = keeps s.since false; found = s.found }

abbrev pub received : ReaderState → Bool → ReaderState
received s b = cond (s.ones == 6) (ended_by s b) (going_on s b)
