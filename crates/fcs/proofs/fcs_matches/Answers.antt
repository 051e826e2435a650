use Rattle.fcs.proofs.Burst.{burst_law}
use Rattle.fcs.proofs.fcs_matches.Goals as goal

pub returns-clause-burst : goal.returns-clause-burst
returns-clause-burst c = burst_law
