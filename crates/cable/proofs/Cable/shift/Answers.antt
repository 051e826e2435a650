use Rattle.std.proofs.Common.{◌≡◌, ◌<◌, min, sym, ◌∙◌, refl, length, arith}
use Rattle.cable.specs.Cables.{places_over}
use Rattle.line.specs.Soundness.{length_counted}
use Rattle.cable.proofs.Rings.{fewer, fewer_memory}
use Rattle.cable.proofs.Cable.shift.Goals as goal

pub returns : goal.returns
returns c =
    let s = c.args.self.now in
    let n = c.count.result in
    let p = places_over (length s.bytes.now) in
    let f : min s.count p ≡ n = sym (length_counted _ _) ∙ sym c.count.ensures in
    let some : 0 < n = omega arith in
    let less = fewer s.bytes.now s.first n s.last p s.count refl f some in
    record {
      answer = rw c.byte_on.ensures less.0;
      meaning = rw (c.byte_on.ensures, c.byte_on-self.ensures) less.1;
      memory = rw c.byte_on-self.ensures (fewer_memory s.bytes.now s.first n s.last p s.count refl f some s.bytes.ghost_name);
    }
