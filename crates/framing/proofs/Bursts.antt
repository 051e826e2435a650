-- Of two stretches that differ by a burst not both are good.
use Rattle.std.proofs.Common.{◌≡◌, ℕ, Bool, true, false, cond, ltb, List, length, sym, refl, ◌∙◌, arith}
use Rattle.std.proofs.lemmas.Bool.{eqb-true}
use Rattle.fcs.specs.Fcs.{matches, register_after, initial, good_residue}
use Rattle.fcs.specs.Laws.{Burst}
use Rattle.fcs.proofs.Burst as fcs
use Rattle.framing.specs.Reading.{left, verdict_of}
use Rattle.framing.specs.Laws.{IsGood}
use Rattle.framing.specs.declared.outcome.Verdict.TheVariants.{Ignored, Bad, Good}

good_matches : (n : ℕ) (m : Bool) → verdict_of n m ≡ Good → m ≡ true
good_matches n m e = go (ltb n 25) (ltb n 32) m e
  where
    go : (x y z : Bool) → cond x Ignored (cond y Bad (cond z Good Bad)) ≡ Good → z ≡ true
    go true y z h = absurd (let o : ◌≡◌ {A = ℕ} 0 1 = cc in omega arith)
    go false true z h = absurd (let o : ◌≡◌ {A = ℕ} 0 1 = cc in omega arith)
    go false false true h = refl
    go false false false h = absurd (let o : ◌≡◌ {A = ℕ} 0 1 = cc in omega arith)

good_register : (s : List Bool) → IsGood s → register_after initial (left s) ≡ good_residue
good_register s g =
    eqb-true (register_after initial (left s)) good_residue (good_matches (length (left s)) (matches (left s)) g)

pub burst_law : (s t : List Bool) → Burst (left s) (left t) → IsGood s → IsGood t → ⊥
burst_law s t burst gs gt = fcs.burst_law (left s) (left t) burst (good_register s gs ∙ sym (good_register t gt))
