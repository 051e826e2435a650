-- What a line of two places means, and that it is a line.
use Rattle.std.specs.Prelude.{Bool, List, [], ◌∷◌, ℕ, zero, suc, ◌≤◌, length}
use Rattle.std.proofs.Common.{lit<, lit≤}
use Rattle.line.specs.Levels.{level_low, level_of}
use Rattle.line.specs.Meaning.{Levels, Meaning, Sound}
use Rattle.sample_line.specs.declared.Held.{Held}
use Rattle.sample_line.specs.declared.Held.TheVariants.{Nothing, One, Two}

abbrev pub held_levels : Held → List ℕ
held_levels Nothing = []
held_levels (One oldest) = level_of oldest ∷ []
held_levels (Two oldest newest) = level_of oldest ∷ level_of newest ∷ []

abbrev pub two_places : Held → Bool → Meaning
two_places held last = record { places = 2; last = level_of last; waiting = held_levels held }

-- no more than two wait
few : (held : Held) → length (held_levels held) ≤ 2
few Nothing = lit≤ tt
few (One oldest) = lit≤ tt
few (Two oldest newest) = lit≤ tt

-- each is 0 or 1
low : (held : Held) → Levels (held_levels held)
low Nothing k = lit< tt
low (One oldest) zero = level_low oldest
low (One oldest) (suc k) = lit< tt
low (Two oldest newest) zero = level_low oldest
low (Two oldest newest) (suc zero) = level_low newest
low (Two oldest newest) (suc (suc k)) = lit< tt

pub two_places_sound : (held : Held) (last : Bool) → Sound (two_places held last)
two_places_sound held last = record { within = few held; binary = level_low last; levels = low held }
