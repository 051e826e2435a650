use Rattle.std.proofs.Common.{◌≡◌, ◌-◌}
use Rattle.fcs.specs.Fcs.{low_bits}
use Rattle.framing.specs.Stages.{sent}
use Rattle.framing.proofs.encoder.Run+4.low_bits.Given as goal

-- the bits that are left take the line to where all of them take it
abbrev pub invariant-loop-k : goal.invariant-loop-k
invariant-loop-k l =
    sent (low_bits (l.width - l._k) l.rest) l.self ≡ sent (low_bits l.width l.value) l.initial.self
