-- Puts and takes on a line, refused or not, and what is told from any sequence of them.
use Rattle.std.specs.Prelude.{◌≡◌, ℕ, List, [], ◌∷◌, ◌++◌, Ok, Err}
use Rattle.line.specs.Histories.{Event, History}
use Rattle.line.specs.Histories.History.{none, then}
use Rattle.line.specs.Meaning.{Answer, Meaning, Memory, if_accepted, put_answer, put_after, take_answer, take_after}
use Rattle.line.specs.declared.act.Act.{Act}
use Rattle.line.specs.declared.act.Act.TheVariants.{Put, Take}

-- What lines of the type L show of themselves: the ghost members of the trait.
pub record Shown (L : Type 0) : Type 0 where
  pub meaning : L → Meaning
  pub memory : L → Memory
  pub written : L → ℕ → Memory

abbrev pub shown : {L : Type 0} → (L → Meaning) → (L → Memory) → (L → ℕ → Memory) → Shown L
shown meaning memory written = record { meaning = meaning; memory = memory; written = written }

abbrev pub answer_to : Act → Meaning → Answer
answer_to Take m = take_answer m
answer_to (Put level) m = put_answer m level

abbrev pub left_by : Act → Meaning → Meaning
left_by Take m = take_after m
left_by (Put level) m = put_after m level

abbrev pub memory_left_by : {L : Type 0} → Shown L → Act → L → Memory
memory_left_by k Take line = k.memory line
memory_left_by k (Put level) line = if_accepted (put_answer (k.meaning line) level) (k.written line level) (k.memory line)

-- The act is answered r at one line, and leaves another in its place: what the trait says of put and take.
pub record Happens {L : Type 0} (k : Shown L) (before : L) (act : Act) (r : Answer) (after : L) : Type 0 where
  pub answers : r ≡ answer_to act (k.meaning before)
  pub stands : k.meaning after ≡ left_by act (k.meaning before)
  pub stored : k.memory after ≡ memory_left_by k act before

-- The level that an act put, and the one that it took, if it did.
abbrev pub put_by : Act → Answer → List ℕ
put_by Take r = []
put_by (Put level) (Ok n) = level ∷ []
put_by (Put level) (Err e) = []

abbrev pub taken_by : Act → Answer → List ℕ
taken_by Take (Ok level) = level ∷ []
taken_by Take (Err e) = []
taken_by (Put level) r = []

-- The levels of all accepted puts, and of all accepted takes, in order.
abbrev pub levels_put : {L : Type 0} {k : Shown L} {start end : L} → History (Happens k) start end → List ℕ
levels_put none = []
levels_put (then h act r x) = levels_put h ++ put_by act r

abbrev pub levels_taken : {L : Type 0} {k : Shown L} {start end : L} → History (Happens k) start end → List ℕ
levels_taken none = []
levels_taken (then h act r x) = levels_taken h ++ taken_by act r

-- The levels of accepted puts among acts with their answers.
abbrev pub accepted_levels : List (Event Act) → List ℕ
accepted_levels [] = []
accepted_levels (e ∷ es) = put_by e.call e.answer ++ accepted_levels es
