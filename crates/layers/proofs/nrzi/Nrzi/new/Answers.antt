use Rattle.layers.proofs.Differences.{nrzi_rule}
use Rattle.layers.proofs.nrzi.Nrzi.new.Goals as goal

pub returns-clause-rule : goal.returns-clause-rule
returns-clause-rule g c = nrzi_rule
