use Rattle.std.proofs.Common.{◌≡◌, take, fold}
use Rattle.framing.specs.Stages.{initial_state, received}
use Rattle.framing.proofs.reader.read.Given as goal

abbrev pub invariant-loop-bit : goal.invariant-loop-bit
invariant-loop-bit l = l.reader ≡ fold received initial_state (take l.bit-index l.bits)
