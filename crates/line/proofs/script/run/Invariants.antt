use Rattle.std.proofs.Common.{◌≡◌, take, drop}
use Rattle.line.specs.Acts.{Happens, shown}
use Rattle.line.specs.Histories.{Done}
use Rattle.line.proofs.script.run.Given as goal

abbrev pub invariant-loop-n : goal.invariant-loop-n
invariant-loop-n g l = record {
  done : Done (Happens (shown g.L.Line.meaning g.L.Line.memory g.L.Line.written)) l.initial.line (take l.n l.acts) (take l.n l.answers) l.line;
  rest : drop l.n l.answers ≡ drop l.n l.initial.answers;
}
