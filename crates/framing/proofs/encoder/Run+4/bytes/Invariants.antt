use Rattle.std.proofs.Common.{◌≡◌, drop}
use Rattle.fcs.specs.Fcs.{byte_bits}
use Rattle.framing.specs.Stages.{sent}
use Rattle.framing.proofs.encoder.Run+4.bytes.Given as goal

-- the bytes that are left take the line to where all of them take it
abbrev pub invariant-loop-byte : goal.invariant-loop-byte
invariant-loop-byte l =
    sent (byte_bits (drop l.byte-index l.bytes)) l.self ≡ sent (byte_bits l.bytes) l.initial.self
