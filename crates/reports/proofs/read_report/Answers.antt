use Rattle.std.proofs.Common.{rules}
use Rattle.reports.proofs.Lines.{line_more}
use Rattle.reports.proofs.read_report.Goals as goal

pub loop-i-preserved : goal.loop-i-preserved
loop-i-preserved c =
    let line = rw c.deref.ensures.value at c.in_ok-writeln.ensures.bytes in
    line_more c.deref-stretch-items.result.now c.loop-i.i c.stretch-item.result _ _ _ (search rules) c.stretch-item.is line c.loop-i.invariant
