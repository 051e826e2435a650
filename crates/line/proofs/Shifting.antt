-- The bits of a word to which one is added above, or from which the lowest is taken.
use Rattle.std.proofs.Common.{◌≡◌, ℕ, ◌+◌, ◌-◌, ◌*◌, ◌/◌, ◌%◌, ◌^◌, ◌<◌, ◌≤◌, Bool, eqb, Ok, sym, ap, ◌∙◌, subst, mod-eq_of_lt, arith}
use lib.Bits.{bit_or}
use Rattle.std.proofs.lemmas.Nat.{pow-add, shr_high, shr-shr, shr_below, shl_whole, mul-le}
use Rattle.std.proofs.lemmas.Nat.Bits.{bit_at_cat_low, bit_at_lowest}
use Rattle.std.specs.Int.Bits.{or_shifted_r}
use Rattle.line.specs.Kinds.{bit, line_of, word_of}
use Rattle.line.specs.Levels.{level_of}
use Rattle.line.specs.Meaning.{appended, take_answer, take_after}
use Rattle.line.proofs.Counting.{line_appended, take_some}
use Rattle.line.proofs.Flags.{flag_of}

module _ (l n w : ℕ) (low : l ≤ 1) (clear : w < 2 ^ n) where
  pub bits_kept : (k : ℕ) → k < n → bit w k ≡ bit (l * 2 ^ n + w) k
  bits_kept k h = sym (bit_at_cat_low l n w k h)

  pub bit_added : bit (l * 2 ^ n + w) n ≡ l
  bit_added = ap (λ x. x % 2) (shr_high l n w clear) ∙ mod-eq_of_lt {n = l} {m = 2} (omega arith)

  pub still_clear : l * 2 ^ n + w < 2 ^ (n + 1)
  still_clear =
      let p : 2 ^ (n + 1) ≡ 2 ^ n * 2 = pow-add 2 n 1 in
      let z : l * 2 ^ n ≤ 1 * 2 ^ n = mul-le l (2 ^ n) 1 (2 ^ n) low (omega arith) in
      omega arith

  pub raised_word : (last : Bool) → word_of (l * 2 ^ n + w) (n + 1) last ≡ appended (word_of w n last) l
  raised_word last = line_appended 64 (level_of last) n l (bit w) (bit (l * 2 ^ n + w)) bits_kept bit_added

-- the word with the level set above its bits, as the code has it
pub merged : (w l n : ℕ) → l ≤ 1 → n < 64 → w < 2 ^ n → bit_or w (l * 2 ^ n % 2 ^ 64) ≡ l * 2 ^ n + w
merged w l n low h clear = ap (bit_or w) (shl_whole l 1 n 64 (omega arith) (omega arith)) ∙ or_shifted_r l n w clear

pub merged_clear : (w l n : ℕ) → l ≤ 1 → n < 64 → w < 2 ^ n → bit_or w (l * 2 ^ n % 2 ^ 64) < 2 ^ (n + 1)
merged_clear w l n low h clear = subst (λ x. x < 2 ^ (n + 1)) (sym (merged w l n low h clear)) (still_clear l n w low clear)

pub ruleset put_lemmas = (merged, merged_clear, raised_word)

-- by `shr-shr`: std's `bit_at-suc` speaks of `suc k`, and the places of a line of `1 + k`
pub bits_down : (w k : ℕ) → bit w (1 + k) ≡ bit (w / 2) k
bits_down w k = sym (ap (λ x. x % 2) (shr-shr w 1 k))

pub half_clear : (w n m : ℕ) → n ≡ m + 1 → w < 2 ^ n → w / 2 < 2 ^ m
half_clear w n m e h = shr_below w m 1 (subst (λ i. w < 2 ^ i) e h)

-- the word without its lowest bit, as the code has it
pub halved_word : (w n : ℕ) (last : Bool) → 0 < n
    → (Ok (level_of (eqb (w % 2) 1)) ≡ take_answer (word_of w n last))
    × (word_of (w / 2) (n - 1) (eqb (w % 2) 1) ≡ take_after (word_of w n last))
halved_word w n last some =
    let low : level_of (eqb (w % 2) 1) ≡ bit w 0 = flag_of (w % 2) (omega arith) ∙ sym (bit_at_lowest w) in
    let whole : n ≡ n - 1 + 1 = omega arith in
    let a = take_some 64 (level_of last) n (n - 1) (bit w) (bit (w / 2)) whole (λ k _. bits_down w k) in
    (ap Ok low ∙ a.0, ap (λ x. line_of 64 x (bit (w / 2)) (n - 1)) low ∙ a.1)

pub ruleset take_lemmas = (half_clear, halved_word)
