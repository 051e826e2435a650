use Rattle.std.proofs.Common.{fold, ap, ◌∙◌}
use Rattle.std.proofs.lemmas.List.{take_all}
use Rattle.framing.specs.Stages.{ReaderState, initial_state, received}
use Rattle.framing.proofs.Received.{received_is}
use Rattle.framing.proofs.Bursts.{burst_law}
use Rattle.framing.proofs.reader.read.Goals as goal

pub returns-in_err-bit-clause-bursts : goal.returns-in_err-bit-clause-bursts
returns-in_err-bit-clause-bursts c = burst_law

pub returns-clause-stretches : goal.returns-clause-stretches
returns-clause-stretches c =
    let bits = c.args.bits.now in
    ap (λ (s : ReaderState). s.found)
    (c.reader-2.view_is ∙ c.loop-bit.invariant ∙ ap (fold received initial_state) (take_all c.loop-bit.bit-index bits c.loop-bit-test.false))
    ∙ received_is bits

pub returns-clause-bursts : goal.returns-clause-bursts
returns-clause-bursts c = burst_law
