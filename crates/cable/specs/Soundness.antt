-- A cable holds no more levels than it has places, and each level is 0 or 1.
use Rattle.std.specs.Prelude.{ℕ, min, Bool, List, length}
use Rattle.std.proofs.Common.{arith}
use Rattle.line.specs.Levels.{level_low, level_of}
use Rattle.line.specs.Meaning.{Sound}
use Rattle.line.specs.Soundness.{counted_sound}
use Rattle.cable.specs.Cables.{cable_of, places_over, ring}

pub cable_sound : (bytes : List ℕ) (first count : ℕ) (last : Bool) → Sound (cable_of bytes first count last)
cable_sound bytes first count last =
    counted_sound (places_over (length bytes)) (level_of last) (min count (places_over (length bytes))) (ring bytes (places_over (length bytes)) first)
    (omega arith) (level_low last) (λ k l. omega arith)
