use Rattle.std.proofs.Common.{◌≡◌, [], map, drop, vec_items, string_bytes}
use Rattle.notation.specs.Hex.{word_read}
use Rattle.notation.specs.Reading.{in_turn}
use Rattle.notation.proofs.hex.parse_hex.Given as goal

abbrev pub invariant-loop-i : goal.invariant-loop-i
invariant-loop-i l =
    in_turn word_read l.i (vec_items l.bytes) (drop l.i (map string_bytes l.words)) ≡ in_turn word_read 0 [] (map string_bytes l.words)
