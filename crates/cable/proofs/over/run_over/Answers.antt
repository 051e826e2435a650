use Rattle.std.proofs.Common.{◌≡◌, ap, ◌∙◌, rules}
use Rattle.line.specs.Acts.{accepted_levels}
use Rattle.line.specs.Histories.{events}
use Rattle.cable.specs.Bytes.{bytes_after}
use Rattle.line.proofs.Told.{levels_told}
use Rattle.cable.proofs.over.run_over.Goals as goal

pub returns : goal.returns
returns c =
    let lent = c.args.bytes.now in
    let end = c.run.new.line in
    let h = c.run.ensures.done.0 in
    let round = c.new-cable.ensures.round end h in
    let same : end.bytes.ghost_name ≡ c.new-cable.result.bytes.ghost_name = cc round.borrow in
    let left : end.bytes.now ≡ bytes_after lent (accepted_levels (events c.args.acts.now c.run.new.answers)) =
    round.bytes ∙ ap (bytes_after lent) (levels_told h ∙ ap accepted_levels c.run.ensures.done.1) in
    record {
      count = c.run.ensures.count;
      done = (c.new-cable.result, end, c.new-cable.ensures.meaning, c.run.ensures.done);
      rest = c.run.ensures.rest;
      bytes = search rules;
    }
