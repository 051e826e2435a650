use Rattle.std.proofs.Common.{◌≡◌, ◌<◌, drop, refl, subst, arith}
use Rattle.std.proofs.lemmas.List.{length-take}
use Rattle.line.specs.Histories.History.{none}
use Rattle.line.proofs.Carried.{always_carries}
use Rattle.line.proofs.Scripted.{done_more, rest_done, whole_done}
use Rattle.line.proofs.script.run.Goals as goal

pub loop-n-init : goal.loop-n-init
loop-n-init g c = record { done = (none, refl); rest = refl }

pub loop-n-preserved : goal.loop-n-preserved
loop-n-preserved g c =
    let n = c.loop-n.n in
    let rs = c.loop-n.answers in
    let most = c.min-most.result in
    let below : n < most = omega (arith, length-take most c.args.acts.now) in
    record {
      done = done_more c.args.acts.now rs most n _ _ below (omega arith) (omega arith) c.loop-n.invariant.done c.perform.ensures;
      rest = rest_done rs c.args.answers.now n _ c.loop-n.invariant.rest;
    }

pub returns : goal.returns
returns g c =
    let all : c.loop-n.n ≡ c.min-most.result = omega (arith, length-take c.min-most.result c.args.acts.now) in
    record {
      count = c.min-most.ensures;
      done = whole_done c.args.acts.now c.loop-n.answers c.loop-n.n (omega arith) c.loop-n.invariant.done;
      rest = subst (λ n. drop n c.loop-n.answers ≡ drop n c.args.answers.now) all c.loop-n.invariant.rest;
      carries = always_carries;
    }
