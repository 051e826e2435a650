use Rattle.std.proofs.Common.{◌≡◌, ◌≤◌, length, take}
use Rattle.std.specs.List.{flat_map}
use Rattle.fcs.specs.Fcs.{register_after, initial}
use Rattle.fcs.proofs.register_after.Given as goal

abbrev pub invariant-loop-unit : goal.invariant-loop-unit
invariant-loop-unit g l =
    (l.unit-index ≤ length l.units) × (l.register ≡ register_after initial (flat_map g.T.CheckUnit.bits (take l.unit-index l.units)))
