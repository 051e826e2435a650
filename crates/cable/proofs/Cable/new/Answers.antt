use Rattle.std.proofs.Common.{ap, ◌∙◌}
use Rattle.cable.specs.Cables.{places_over}
use Rattle.line.specs.Meaning.{Meaning, Memory}
use Rattle.cable.proofs.Round.{always_round}
use Rattle.cable.proofs.Cable.new.Goals as goal

pub returns-clause-round : goal.returns-clause-round
returns-clause-round c =
    let same = c.empty.ensures in
    always_round _ c.empty.result (ap (λ (m : Meaning). m.places) same.meaning ∙ ap places_over c.raise.auto.bytes)
    (ap (λ (m : Memory). m.bytes) same.memory ∙ c.raise.ensures) (ap (λ (m : Memory). m.next) same.memory)
