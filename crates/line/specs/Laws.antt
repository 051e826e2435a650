-- The law of every line, over all histories.
use Rattle.std.specs.Prelude.{◌≡◌, ◌++◌}
use Rattle.line.specs.Acts.{Shown, Happens, levels_put, levels_taken}
use Rattle.line.specs.Histories.{History}
use Rattle.line.specs.Meaning.{newest_level}

-- A line carries levels in order and loses, adds and alters none.
pub record Carries {L : Type 0} {k : Shown L} {start end : L} (h : History (Happens k) start end) : Type 0 where
  -- those that waited at the start, and then those put, are those taken, and then those that wait
  pub levels : (k.meaning start).waiting ++ levels_put h ≡ levels_taken h ++ (k.meaning end).waiting
  -- the level last taken is the newest that was taken, if any was
  pub last : (k.meaning end).last ≡ newest_level (k.meaning start).last (levels_taken h)
  pub places : (k.meaning end).places ≡ (k.meaning start).places

-- From a line on, whatever is done.
abbrev pub AlwaysCarries : {L : Type 0} → Shown L → L → Type 0
AlwaysCarries {L} k start = (end : L) (h : History (Happens k) start end) → Carries h
