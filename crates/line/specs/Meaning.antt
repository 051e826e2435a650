-- What a line is: a queue of levels, 0 or 1, with a fixed number of places.
use Rattle.std.specs.Prelude.{◌≡◌, ℕ, ◌<◌, ◌≤◌, cond, List, [], ◌∷◌, ◌++◌, length, Ok, Err, Result, nat_le, nat_lt, slice_index}
use Rattle.refusal.specs.declared.Refusal.{Refusal}
use Rattle.refusal.specs.declared.Refusal.TheVariants.{LevelAboveOne, LineFull, LineEmpty}

-- The number of places, the level last taken, and the waiting levels, oldest first.
pub record Meaning : Type 0 where
  pub places : ℕ
  pub last : ℕ
  pub waiting : List ℕ

-- Each level of the list is 0 or 1. (Past the end `slice_index` gives 0.)
abbrev pub Levels : List ℕ → Type 0
Levels xs = (k : ℕ) → slice_index xs k < 2

-- What holds of every line: no more levels wait than it has places, and each level is 0 or 1.
pub record Sound (m : Meaning) : Type 0 where
  pub within : length m.waiting ≤ m.places
  pub binary : m.last < 2
  pub levels : Levels m.waiting

-- A line of so many places, as its callers see it: what it means, and that this is sound.
pub record Queue (places : ℕ) : Type 0 where
  pub meaning : Meaning
  pub sound : Sound meaning
  pub sized : places ≡ meaning.places

-- A new line of a kind that is no layer: empty, with level last taken 1.
abbrev pub fresh : ℕ → Meaning
fresh places = record { places = places; last = 1; waiting = [] }

-- A number, or a refusal.
abbrev pub Answer : Type 0
Answer = Result ℕ Refusal

-- What a call changes if it is accepted, and leaves as it was if it is refused.
abbrev pub if_accepted : {A : Type 0} → Answer → A → A → A
if_accepted (Ok n) new old = new
if_accepted (Err e) new old = old

-- A level above 1 is refused.
abbrev pub checked : ℕ → Answer
checked level = cond (nat_lt 1 level) (Err LevelAboveOne) (Ok level)

-- A put is refused first for its level, and then for want of a place; an accepted one answers 0.
abbrev pub admitted : ℕ → ℕ → ℕ → Answer
admitted level count places = cond (nat_lt 1 level) (Err LevelAboveOne) (cond (nat_le places count) (Err LineFull) (Ok 0))

abbrev pub put_answer : Meaning → ℕ → Answer
put_answer m level = admitted level (length m.waiting) m.places

-- The level waits behind all others.
abbrev pub appended : Meaning → ℕ → Meaning
appended m level = record { places = m.places; last = m.last; waiting = m.waiting ++ level ∷ [] }

abbrev pub put_after : Meaning → ℕ → Meaning
put_after m level = if_accepted (put_answer m level) (appended m level) m

-- A take answers the oldest level, and is refused if none waits.
abbrev pub oldest : List ℕ → Answer
oldest [] = Err LineEmpty
oldest (x ∷ xs) = Ok x

abbrev pub take_answer : Meaning → Answer
take_answer m = oldest m.waiting

-- The oldest level leaves the queue, and is then the level last taken; with none waiting, all stands.
abbrev pub left_over : List ℕ → List ℕ
left_over [] = []
left_over (x ∷ xs) = xs

abbrev pub latest : ℕ → List ℕ → ℕ
latest last [] = last
latest last (x ∷ xs) = x

abbrev pub take_after : Meaning → Meaning
take_after m = record { places = m.places; last = latest m.last m.waiting; waiting = left_over m.waiting }

-- The newest level: the last that waits, else the level last taken.
abbrev pub newest_level : ℕ → List ℕ → ℕ
newest_level last [] = last
newest_level last (x ∷ xs) = newest_level x xs

-- The caller's bytes that a line is kept in, and which of them the next accepted put writes.
-- A borrow's name tells whoever lent the bytes that they are still the same ones.
pub record Memory : Type 0 where
  pub bytes : List ℕ
  pub next : ℕ
  pub borrows : List ℕ

-- A line that keeps its levels in itself has no caller's bytes.
abbrev pub no_memory : Memory
no_memory = record { bytes = []; next = 0; borrows = [] }
