use Rattle.std.proofs.Common.{refl, ap, ◌∙◌, rules}
use Rattle.std.specs.Slice.Iter.{chunks_rest, chunks_size}
use Rattle.framing.proofs.Packed.{collected}
use Rattle.framing.proofs.packing.packed.Goals as goal

pub returns : goal.returns
returns c =
    collected _ c.map.result.f (λ x r q k. search rules) c.collect.result c.map.result c.args.bits.now c.collect.ensures.ran
    (ap chunks_size c.map.ensures.source ∙ c.chunks.ensures.size) refl (ap chunks_rest c.map.ensures.source ∙ c.chunks.ensures.rest)
