-- Sequences of calls with their answers, on whatever is changed by calls: a line, a module, a pair.
use Rattle.std.specs.Prelude.{◌≡◌, List, [], ◌∷◌, ◌++◌}
use Rattle.line.specs.Meaning.{Answer}

-- How a state came from what it was at the start: nothing was called, or one call more was made.
-- `Step before call r after` says that the call is answered r at one state, and leaves the other.
pub data History {S C : Type 0} (Step : S → C → Answer → S → Type 0) (start : S) : S → Type 0 where
  none : History Step start start
  then : {before after : S} → History Step start before → (call : C) (r : Answer) → Step before call r after → History Step start after

-- A call with its answer.
pub record Event (C : Type 0) : Type 0 where
  pub call : C
  pub answer : Answer

-- All calls with their answers, in order.
abbrev pub told : {S C : Type 0} {Step : S → C → Answer → S → Type 0} {start end : S} → History Step start end → List (Event C)
told none = []
told (then h call r x) = told h ++ record { call = call; answer = r } ∷ []

-- Calls beside answers, as far as both go.
abbrev pub events : {C : Type 0} → List C → List Answer → List (Event C)
events [] rs = []
events (c ∷ cs) [] = []
events (c ∷ cs) (r ∷ rs) = record { call = c; answer = r } ∷ events cs rs

-- These calls, with these answers, led from one state to the other.
abbrev pub Done : {S C : Type 0} → (S → C → Answer → S → Type 0) → S → List C → List Answer → S → Type 0
Done Step start calls answers end = (h : History Step start end) × (told h ≡ events calls answers)
