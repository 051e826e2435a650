use Rattle.std.proofs.Common.{refl}
use Rattle.notation.proofs.Pairs.{zeros_ascii}
use Rattle.notation.proofs.hex.after_blanks.Goals as goal

pub loop-i-init : goal.loop-i-init
loop-i-init c = (refl, (refl, zeros_ascii))
