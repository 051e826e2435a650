use Rattle.std.proofs.Common.{◌≡◌, ◌<◌, Bool, length, map, fold, refl, ap, ◌∙◌, rules, arith}
use Rattle.std.proofs.lemmas.Fn.{serves_by}
use Rattle.std.proofs.lemmas.List.{length-map}
use Rattle.std.proofs.lemmas.Iterator.Adapters.{YieldsList-from_rev_slice}
use Rattle.std.proofs.lemmas.Iterator.Consumers.{fold_from_yields_List}
use denote.Ref.{Bor}
use Rattle.std.specs.Slice.Iter.{iter_rest}
use Rattle.framing.proofs.Packed.{above, fold_above, fold_more, fold_few, rev_before}
use Rattle.framing.proofs.packing.byte_of.Goals as goal

pub fold-requires-clause-callable : goal.fold-requires-clause-callable
fold-requires-clause-callable c =
    serves_by _ (λ xs q. q.1 ≡ fold above 0 (map (λ y. y.now) xs))
    (λ xs q x v so_far k. let one : v.1 ≡ above q.1 x.now = search rules in one ∙ fold_more xs x q.1 so_far)
    _ _ _ _ refl
    (λ xs t q x u came next so_far.
    let all = ap (λ s. length (iter_rest s)) c.rev.ensures.source ∙ ap length c.iter.ensures.rest in
    let before : length xs < 8 = rev_before xs c.rev.result t u x 8 came next (omega (arith, all, c.requires)) in
    let small : q.1 < 128 = omega (arith, so_far, fold_few (map (λ y. y.now) xs) (omega (arith, length-map xs (λ (y : Bor Bool). y.now), before))) in
    search rules)

pub returns : goal.returns
returns c =
    fold_from_yields_List _ above 0 c.fold.result c.fold.ensures.ran
    (YieldsList-from_rev_slice c.args.bits.now (ap (λ s. iter_rest s) c.rev.ensures.source ∙ c.iter.ensures.rest))
    (λ a x b q k. (search rules, search rules))
    ∙ fold_above c.args.bits.now
