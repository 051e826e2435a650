use Rattle.std.proofs.Common.{◌≡◌, ◌++◌, map, drop, string_bytes}
use Rattle.framing.specs.Reading.{as_read}
use Rattle.reports.specs.Reports.{stretch_lines}
use Rattle.reports.proofs.read_report.Given as goal

abbrev pub invariant-loop-i : goal.invariant-loop-i
invariant-loop-i l = string_bytes l.text ++ stretch_lines l.i (map as_read (drop l.i l.stretch-items)) ≡ stretch_lines 0 (map as_read l.stretch-items)
