-- The caller's bytes under a cable, over all histories.
use Rattle.std.specs.Prelude.{◌≡◌, ℕ, ◌+◌, ◌%◌, cond, List, [], ◌∷◌, ◌++◌, length, drop, ◌==◌}
use Rattle.line.specs.Acts.{Shown, Happens, levels_put, shown}
use Rattle.line.specs.Histories.{Done, History}
use Rattle.line.specs.Meaning.{Answer, fresh}
use Rattle.line.specs.declared.act.Act.{Act}
use Rattle.cable.specs.Cables.{places_over, cable_meaning, cable_memory, cable_written}
use Rattle.line.specs.Kinds.{counted}
use Rattle.cable.specs.declared.Cable.{Cable}

-- Puts go round the bytes of a ring: number i, from 0, to byte i modulo places.
-- What stands in byte k after the levels of puts number i and on, if it held `kept` before them.
abbrev pub fell_on : ℕ → ℕ → ℕ → ℕ → List ℕ → ℕ
fell_on places k i kept [] = kept
fell_on places k i kept (level ∷ levels) = fell_on places k (i + 1) (cond (i % places == k) level kept) levels

-- The level of the last put that fell on byte k, else 1.
abbrev pub byte_after : ℕ → List ℕ → ℕ → ℕ
byte_after places levels k = fell_on places k 0 1 levels

-- The caller's bytes after these puts on a cable that was made over them: those beyond its places stand.
abbrev pub bytes_after : List ℕ → List ℕ → List ℕ
bytes_after lent levels = counted (byte_after (places_over (length lent)) levels) (places_over (length lent)) ++ drop (places_over (length lent)) lent

abbrev pub cable_shown : Shown Cable
cable_shown = shown cable_meaning cable_memory cable_written

-- A cable after any puts and takes since it was made over the bytes that were lent to it.
pub record GoesRound {made end : Cable} (lent : List ℕ) (h : History (Happens cable_shown) made end) : Type 0 where
  -- after i accepted puts the next goes to byte i modulo places
  pub next : (cable_memory end).next ≡ length (levels_put h) % places_over (length lent)
  pub bytes : (cable_memory end).bytes ≡ bytes_after lent (levels_put h)
  pub borrow : (cable_memory end).borrows ≡ (cable_memory made).borrows

abbrev pub AlwaysRound : List ℕ → Cable → Type 0
AlwaysRound lent made = (end : Cable) (h : History (Happens cable_shown) made end) → GoesRound lent h

-- These acts had these answers on a cable that was new, with so many places.
abbrev pub DoneFromFresh : ℕ → List Act → List Answer → Type 0
DoneFromFresh places acts answers =
    (start : Cable) × (end : Cable) × (cable_meaning start ≡ fresh places) × Done (Happens cable_shown) start acts answers end
