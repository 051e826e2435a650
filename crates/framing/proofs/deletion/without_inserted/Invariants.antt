use Rattle.std.proofs.Common.{◌≡◌, take, fold}
use Rattle.framing.specs.Stages.{nothing, kept_bit}
use Rattle.framing.proofs.deletion.without_inserted.Given as goal

abbrev pub invariant-loop-bit : goal.invariant-loop-bit
invariant-loop-bit l = l.kept ≡ fold kept_bit nothing (take l.bit-index l.stretch)
