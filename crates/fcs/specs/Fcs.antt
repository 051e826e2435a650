-- The 16-bit frame check sequence (FCS) of ISO/IEC 13239 and RFC 1662.
-- A register is a number below 2 ^ 16, a byte one below 2 ^ 8, and a bit a Bool: true is 1.
use Rattle.std.specs.Prelude.{ℕ, zero, suc, ◌+◌, ◌*◌, ◌/◌, ◌%◌, Bool, true, false, cond, List, [], ◌∷◌, ◌++◌, map, replicate, ◌==◌, bit_xor}
use Rattle.std.specs.Bool.{xor}
use Rattle.std.specs.List.{range_with_len}

-- bit 0 of a number
unfoldable pub bit_0 : ℕ → Bool
bit_0 n = n % 2 == 1

-- One bit taken into the register: t is the exclusive-or of the bit and register bit 0. The register shifts right by one,
-- and is exclusive-ored with 8408 hex if t is 1.
unfoldable pub bit_step : ℕ → Bool → ℕ
bit_step register b =
    cond (xor b (bit_0 register)) (bit_xor (register / 2) 0x8408) (register / 2)

-- the register after more bits, the first one first
unfoldable pub register_after : ℕ → List Bool → ℕ
register_after register [] = register
register_after register (b ∷ bs) = register_after (bit_step register b) bs

-- the lowest k bits of a number, bit 0 first
unfoldable pub low_bits : ℕ → ℕ → List Bool
low_bits zero n = []
low_bits (suc k) n = bit_0 n ∷ low_bits k (n / 2)

-- a bit as a number, and the number that bits spell, the first bit as bit 0
abbrev pub bit_value : Bool → ℕ
bit_value true = 1
bit_value false = 0

abbrev pub spelt : List Bool → ℕ
spelt [] = 0
spelt (b ∷ bs) = bit_value b + 2 * spelt bs

-- the bits of a list of bytes: byte by byte, bit 0 of each first
unfoldable pub byte_bits : List ℕ → List Bool
byte_bits [] = []
byte_bits (byte ∷ bytes) = low_bits 8 byte ++ byte_bits bytes

-- the table's entry at an index: the register after eight bit steps with bit 0, started from the index
abbrev pub table_entry : ℕ → ℕ
table_entry index = register_after index (replicate 8 false)

-- the whole table
unfoldable pub table : List ℕ
table = map table_entry (range_with_len 0 256)

-- the register before any bit, and the register that matching bits leave
abbrev pub initial : ℕ
initial = 0xFFFF

abbrev pub good_residue : ℕ
good_residue = 0xF0B8

-- a register with every bit inverted: what is sent after the bits that left it, bit 0 first
abbrev pub inverted : ℕ → ℕ
inverted register = bit_xor register 0xFFFF

-- the check sequence of a list of bytes
abbrev pub check_sequence : List ℕ → ℕ
check_sequence bytes = inverted (register_after initial (byte_bits bytes))

-- bits match when the register ends at the residue
abbrev pub matches : List Bool → Bool
matches bs = register_after initial bs == good_residue
