use Rattle.std.proofs.Common.{◌≡◌, ◌<◌, min, sym, ◌∙◌, refl, length, arith}
use Rattle.cable.specs.Cables.{places_over}
use Rattle.line.specs.Soundness.{length_counted}
use Rattle.cable.proofs.Rings.{more, more_memory}
use Rattle.cable.proofs.Cable.append.Goals as goal

pub returns : goal.returns
returns c =
    let s = c.args.self.now in
    let n = c.count-waiting.result in
    let p = places_over (length s.bytes.now) in
    let f : min s.count p ≡ n = sym (length_counted _ _) ∙ sym c.count-waiting.ensures in
    let room : n < p = omega arith in
    record {
      meaning = rw c.byte_on-at.ensures (more s.bytes.now s.first n c.args.level s.last p s.count refl f c.requires.0 room);
      memory = rw c.byte_on-at.ensures (more_memory s.bytes.now s.first n c.args.level s.last p s.count refl f c.requires.0 room s.bytes.ghost_name);
    }
