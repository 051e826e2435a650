-- Neither the jumper nor the word holds more levels than it has places, and each level is 0 or 1.
use Rattle.std.specs.Prelude.{◌≡◌, ℕ, zero, suc, ◌<◌, ◌≤◌, Bool, length, Some, None, Option, slice_index}
use Rattle.std.proofs.Common.{sym, subst, ⊎_elim, zero-add, arith, lit<, lit≤}
use Rattle.std.proofs.lemmas.List.FromFn.{length-map-range_with_len, get_or-map-range_with_len}
use Rattle.std.proofs.lemmas.List.{get_or_past}
use Rattle.std.proofs.lemmas.Bool.{cases_lt}
use Rattle.std.proofs.lemmas.Nat.Bits.{bit_at-lt}
use Rattle.line.specs.Levels.{level_low, level_of}
use Rattle.line.specs.Meaning.{Levels, Sound}
use Rattle.line.specs.Kinds.{held_levels, jumper_of, counted, line_of, bit, word_of}

held_low : (held : Option Bool) → Levels (held_levels held)
held_low None k = lit< tt
held_low (Some high) zero = level_low high
held_low (Some high) (suc k) = lit< tt

held_few : (held : Option Bool) → length (held_levels held) ≤ 1
held_few None = lit≤ tt
held_few (Some high) = lit≤ tt

pub jumper_sound : (held : Option Bool) (last : Bool) → Sound (jumper_of held last)
jumper_sound held last = record { within = held_few held; binary = level_low last; levels = held_low held }

pub length_counted : (f : ℕ → ℕ) (n : ℕ) → length (counted f n) ≡ n
length_counted f n = length-map-range_with_len f 0 n

pub get_or_counted : (f : ℕ → ℕ) (n k : ℕ) → k < n → slice_index (counted f n) k ≡ f k
get_or_counted f n k h = get_or-map-range_with_len f 0 n k k 0 h (zero-add k)

pub counted_levels : (f : ℕ → ℕ) (n : ℕ) → ((k : ℕ) → k < n → f k < 2) → Levels (counted f n)
counted_levels f n h k =
    let e = length_counted f n in
    ⊎_elim
    (λ (l : k < n). subst (λ x. x < 2) (sym (get_or_counted f n k l)) (h k l))
    (λ (l : n ≤ k). subst (λ x. x < 2) (sym (get_or_past (counted f n) k 0 (omega arith))) (lit< tt))
    (cases_lt k n)

pub counted_sound : (p last n : ℕ) (f : ℕ → ℕ) → n ≤ p → last < 2 → ((k : ℕ) → k < n → f k < 2) → Sound (line_of p last f n)
counted_sound p last n f w b h =
    record { within = rw length_counted w; binary = b; levels = counted_levels f n h }

pub bit_low : (w k : ℕ) → bit w k < 2
bit_low = bit_at-lt

pub word_sound : (levels count : ℕ) (last : Bool) → count ≤ 64 → Sound (word_of levels count last)
word_sound levels count last w = counted_sound 64 (level_of last) count (bit levels) w (level_low last) (λ k _. bit_low levels k)
