use Rattle.std.proofs.Common.{◌≡◌}
use Rattle.std.specs.Fmt.{IsPlainFormatter}
use Rattle.notation.specs.Hex.{hex_text}
use Rattle.notation.proofs.Pairs.{WrittenTo}
use Rattle.notation.proofs.hex.HexWordsDisplay.fmt.Given as goal

abbrev pub invariant-loop-some : goal.invariant-loop-some
invariant-loop-some g l =
    (l.some-iterator.size ≡ 16)
    × (IsPlainFormatter l.fn.f → WrittenTo g.W.Write.write_str_gives l.fn.f (hex_text l.fn.self.0.now) l.some-iterator.rest.now l.f)
