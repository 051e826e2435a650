use Rattle.std.proofs.Common.{◌∙◌, arith}
use Rattle.fcs.specs.Fcs.{initial}
use Rattle.fcs.proofs.Fold.{after_more}
use Rattle.fcs.proofs.register_after.Goals as goal

pub loop-unit-preserved : goal.loop-unit-preserved
loop-unit-preserved g c =
    let bits = g.T.CheckUnit.bits in
    let stepped = rw c.loop-unit.invariant.1 at c.step-register.ensures in
    (omega arith, stepped ∙ after_more bits initial c.args.units.now c.loop-unit.unit-index c.unit-item.result c.loop-unit-test.true c.unit-item.is)
