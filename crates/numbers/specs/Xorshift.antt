-- The sequence of the generator.
use Rattle.std.specs.Prelude.{ℕ, ◌*◌, ◌/◌, ◌%◌, ◌^◌, ◌==◌, if◌then◌else◌}
use Rattle.std.specs.Int.Bits.{bit_xor}

-- a number and itself shifted up in 64 bits, or down, exclusive-ored
abbrev pub mixed_up : ℕ → ℕ → ℕ
mixed_up k x = bit_xor x (x * 2 ^ k % 2 ^ 64)

abbrev pub mixed_down : ℕ → ℕ → ℕ
mixed_down k x = bit_xor x (x / 2 ^ k)

abbrev pub stepped : ℕ → ℕ
stepped x = mixed_up 17 (mixed_down 7 (mixed_up 13 x))

-- from the upper 48 bits, since the lower ones are the weaker
abbrev pub drawn_below : ℕ → ℕ → ℕ
drawn_below x limit = if limit == 0 then 0 else x / 2 ^ 16 % limit
