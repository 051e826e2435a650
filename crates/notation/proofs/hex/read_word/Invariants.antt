use Rattle.std.proofs.Common.{◌≡◌, ◌+◌, drop, None, vec_items}
use Rattle.notation.specs.Hex.{character_read}
use Rattle.notation.specs.Reading.{in_turn}
use Rattle.notation.proofs.hex.read_word.Given as goal

abbrev pub invariant-loop-i : goal.invariant-loop-i
invariant-loop-i l =
    let step = character_read (l.place + 1) in in_turn step l.i l.reader (drop l.i l.word) ≡ in_turn step 0 (None, vec_items l.fn.bytes) l.word
