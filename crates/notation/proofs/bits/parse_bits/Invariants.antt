use Rattle.std.proofs.Common.{◌≡◌, ◌≤◌, [], drop}
use Rattle.notation.specs.Bits.{characters_taken}
use Rattle.notation.proofs.bits.parse_bits.Given as goal

abbrev pub invariant-loop-byte : goal.invariant-loop-byte
invariant-loop-byte l =
    (characters_taken l.byte-index (l.reader.at, l.reader.bits.now.items) (drop l.byte-index l.text) ≡ characters_taken 0 (record { lines = 0; columns = 0 }, []) l.text)
    × (l.reader.at.lines ≤ l.byte-index) × (l.reader.at.columns ≤ l.byte-index)
    × (l.reader.bits.ghost_name ≡ l.initial.reader.bits.ghost_name)
