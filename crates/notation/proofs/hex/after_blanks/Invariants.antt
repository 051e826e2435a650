use Rattle.std.proofs.Common.{◌≡◌, ◌*◌, length, take, IsAscii}
use Rattle.std.specs.List.{flat_map}
use Rattle.notation.proofs.Pairs.{after_blank}
use Rattle.notation.proofs.hex.after_blanks.Given as goal

abbrev pub invariant-loop-i : goal.invariant-loop-i
invariant-loop-i l = (take (3 * l.i) l.text ≡ flat_map after_blank (take l.i l.bytes)) × ((length l.text ≡ 48) × IsAscii l.text)
