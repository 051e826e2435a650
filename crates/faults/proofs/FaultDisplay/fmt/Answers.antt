use Rattle.faults.proofs.FaultDisplay.fmt.Goals as goal

pub returns-in-NoHexDigit-clause-writes : goal.returns-in-NoHexDigit-clause-writes
returns-in-NoHexDigit-clause-writes g c = rw c.in-NoHexDigit.is c.write-in-NoHexDigit.ensures.writes
