-- One stretch more of a report, and the good ones among the stretches. Assumes nothing.
use Rattle.std.proofs.Common.{◌≡◌, ℕ, ◌+◌, ◌<◌, Bool, true, false, cond, List, [], ◌∷◌, ◌++◌, map, length, fold, count_by, vec_items, get_or, drop, refl, sym, ap, ◌∙◌, append_assoc, arith}
use Rattle.std.proofs.lemmas.List.{at_drop_more, length-append}
use Rattle.framing.specs.declared.outcome.Stretch.{Stretch}
use Rattle.framing.specs.declared.outcome.Verdict.{Verdict}
use Rattle.framing.specs.declared.outcome.Verdict.TheVariants.{Ignored, Bad, Good}
use Rattle.framing.specs.Reading.{as_read, good_content, good_contents}
use Rattle.reports.specs.Reports.{stretch_line, stretch_lines}

-- one that the reading calls good
abbrev is_good : Verdict → Bool
is_good Ignored = false
is_good Bad = false
is_good Good = true

good_from : (stretches : List Stretch) (n : ℕ) → fold (λ n s. n + cond (is_good s.verdict) 1 0) n stretches ≡ n + length (good_contents (map as_read stretches))
good_from [] n = omega arith
good_from (s ∷ stretches) n =
    good_from stretches (n + cond (is_good s.verdict) 1 0)
    ∙ omega (arith, one s.verdict, length-append (good_content s.verdict (vec_items s.content)) (good_contents (map as_read stretches)))
  where
    one : (v : Verdict) → length (good_content v (vec_items s.content)) ≡ cond (is_good v) 1 0
    one Ignored = refl
    one Bad = refl
    one Good = refl

pub good_count : (stretches : List Stretch) → count_by (λ s. is_good s.verdict) stretches ≡ length (good_contents (map as_read stretches))
good_count stretches = good_from stretches 0 ∙ omega arith

pub line_more : (stretches : List Stretch) (i : ℕ) (s : Stretch) (text next all : List ℕ) → i < length stretches → s ≡ get_or stretches i s → next ≡ text ++ stretch_line i (as_read s)
    → text ++ stretch_lines i (map as_read (drop i stretches)) ≡ all → next ++ stretch_lines (i + 1) (map as_read (drop (i + 1) stretches)) ≡ all
line_more stretches i s text next all h is e inv =
    let rest = stretch_lines (i + 1) (map as_read (drop (i + 1) stretches)) in
    ap (λ l. l ++ rest) e ∙ append_assoc text (stretch_line i (as_read s)) rest
    ∙ ap (λ l. text ++ l) (ap (λ x. stretch_line i (as_read x) ++ rest) is ∙ sym (at_drop_more (λ l. stretch_lines i (map as_read l)) stretches i s h)) ∙ inv
