use Rattle.std.proofs.Common.{◌<◌, sym, subst, arith}
use Rattle.std.proofs.lemmas.Bool.Decides.{nat_tests}
use Rattle.line.specs.Levels.{level_of}
use Rattle.layers.proofs.Differences.{newest_low, nrzi_put_after, nrzi_put_answer}
use Rattle.layers.proofs.nrzi.NrziLine.put.Goals as goal

pub encode-requires : goal.encode-requires
encode-requires g c =
    let m = g.L.Line.meaning c.args.self.now.below in
    let s = g.L.Line.sound c.args.self.now.below in
    let low : c.newest-before.result < 2 =
    subst (λ n. n < 2) (sym c.newest-before.ensures) (newest_low m.last m.waiting s.binary s.levels) in
    omega arith

pub returns : goal.returns
returns g c =
    let below = c.args.self.now.below in
    let m = g.L.Line.meaning below in
    let a = level_of c.args.self.now.answered in
    let answer = nrzi_put_answer m a c.args.level (g.L.Line.sound below) c.in_ok-check_level.ensures.low in
    let after = nrzi_put_after m a c.args.level (g.L.Line.sound below) c.in_ok-check_level.ensures.low in
    record { answer = grind arith; after = grind arith; stored = grind arith; below = grind (arith, nat_tests) }
