-- A level as a flag.
use Rattle.std.proofs.Common.{◌≡◌, ℕ, ◌<◌, eqb, arith}
use Rattle.std.proofs.lemmas.Bool.Decides.{nat_tests}
use Rattle.line.specs.Levels.{level_of}

pub flag_of : (x : ℕ) → x < 2 → level_of (eqb x 1) ≡ x
flag_of x h = grind (arith, nat_tests)
