-- What the crossed pair keeps of the line below.
use Rattle.std.proofs.Common.{◌≡◌, ℕ, ◌≤◌, refl, arith}
use Rattle.std.proofs.lemmas.List.{length-map, map_push}
use Rattle.layers.specs.Layers.{inverted, crossed}
use Rattle.line.specs.Meaning.{Meaning, appended, put_answer, put_after}
use Rattle.layers.proofs.Layered.{layer_answer, layer_after}

-- a level put and read through the pair is itself
twice : (l : ℕ) → l ≤ 1 → inverted (inverted l) ≡ l
twice l h = omega arith

crossed_appended : (m : Meaning) (l : ℕ) → l ≤ 1 → appended (crossed m) l ≡ crossed (appended m (inverted l))
crossed_appended m l h = simp (map_push, twice l h)

pub crossed_put_answer : (m : Meaning) (l : ℕ) → l ≤ 1 → put_answer (crossed m) l ≡ put_answer m (inverted l)
crossed_put_answer m l h = layer_answer crossed m l (inverted l) h (omega arith) refl (length-map m.waiting inverted)

pub crossed_put_after : (m : Meaning) (l : ℕ) → l ≤ 1 → put_after (crossed m) l ≡ crossed (put_after m (inverted l))
crossed_put_after m l h =
    layer_after crossed m l (inverted l) h (omega arith) refl (length-map m.waiting inverted) (crossed_appended m l h)

pub ruleset crossed_lemmas = (length-map, crossed_put_answer, crossed_put_after)
