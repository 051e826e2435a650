-- A level that the code keeps as a flag.
use Rattle.std.specs.Prelude.{ℕ, ◌<◌, Bool, true, false, cond}
use Rattle.std.proofs.Common.{lit<}

-- The level of a flag: 1 if it is set.
abbrev pub level_of : Bool → ℕ
level_of high = cond high 1 0

pub level_low : (high : Bool) → level_of high < 2
level_low true = lit< tt
level_low false = lit< tt
