-- Hexadecimal words: one digit of a word more, a character that is none, and the end; and the same of the words. Assumes nothing.
use Rattle.std.proofs.Common.{◌≡◌, ℕ, ◌+◌, ◌<◌, ◌≤◌, Bool, true, false, cond, List, [], map, length, get_or, drop, string_bytes, String, Some, None, Ok, Err, Result, sym, ap, ◌∙◌}
use Rattle.std.specs.declared.alloc.Global.{Global}
use Rattle.std.proofs.lemmas.List.{get_or-map, length-map}
use Rattle.faults.specs.Answers.{is_memory}
use Rattle.faults.specs.declared.Fault.{Fault}
use Rattle.faults.specs.declared.Fault.TheVariants.{NoHexDigit}
use Rattle.notation.specs.Hex.{Sofar, digit_value, with_digit, digit_read, character_read, word_read}
use Rattle.notation.specs.Reading.{in_turn}
use Rattle.notation.proofs.Turns.{turn_more, turn_fault, turn_all}

-- a fault that is told, as `Answers` has it: nothing is known of one that says that memory ran out
abbrev pub Told : Fault → Result (List ℕ) Fault → Type 0
Told f e = cond (is_memory f) (Unit {0}) (e ≡ Err f)

told : (f : Fault) (d e : Result (List ℕ) Fault) → (d ≡ Err f → e ≡ Err f) → Told f d → Told f e
told f d e k h = go (is_memory f) h
  where
    go : (b : Bool) → cond b (Unit {0}) (d ≡ Err f) → cond b (Unit {0}) (e ≡ Err f)
    go true h = tt
    go false h = k h

module _ (word : ℕ) (s : Sofar) (cs : List ℕ) (i : ℕ) where
  pub digit_more : (digit : ℕ) → i < length cs → digit_value (get_or cs i 0) ≡ Some digit
      → in_turn (character_read word) (i + 1) (with_digit s.0 s.1 digit) (drop (i + 1) cs) ≡ in_turn (character_read word) i s (drop i cs)
  digit_more digit h e = turn_more (character_read word) s _ cs i 0 h (ap (digit_read _ s) e)

  pub no_digit : i < length cs → digit_value (get_or cs i 0) ≡ None
      → in_turn (character_read word) i s (drop i cs) ≡ Err (NoHexDigit word (i + 1) (get_or cs i 0))
  no_digit h e = turn_fault (character_read word) s cs i 0 _ h (ap (digit_read _ s) e)

  pub digits_end : length cs ≤ i → in_turn (character_read word) i s (drop i cs) ≡ Ok s
  digits_end h = turn_all (character_read word) s cs i h

pub ruleset digit_steps = (digit_more, no_digit, digits_end)

module _ (bytes : List ℕ) (words : List (String Global)) (i : ℕ) where
  -- the text of the word at place i
  word_at : (w : String Global) → i < length words → w ≡ get_or words i w → get_or (map string_bytes words) i [] ≡ string_bytes w
  word_at w h is = get_or-map string_bytes words i w [] h ∙ ap string_bytes (sym is)

  pub word_more : (w : String Global) (next : List ℕ) → i < length words → w ≡ get_or words i w → word_read i bytes (string_bytes w) ≡ Ok next
      → in_turn word_read (i + 1) next (drop (i + 1) (map string_bytes words)) ≡ in_turn word_read i bytes (drop i (map string_bytes words))
  word_more w next h is e =
      turn_more word_read bytes next (map string_bytes words) i [] (simp length-map h) (ap (word_read i bytes) (word_at w h is) ∙ e)

  word_fault : (w : String Global) (f : Fault) → i < length words → w ≡ get_or words i w → word_read i bytes (string_bytes w) ≡ Err f
      → in_turn word_read i bytes (drop i (map string_bytes words)) ≡ Err f
  word_fault w f h is e =
      turn_fault word_read bytes (map string_bytes words) i [] f (simp length-map h) (ap (word_read i bytes) (word_at w h is) ∙ e)

  pub words_end : length words ≤ i → in_turn word_read i bytes (drop i (map string_bytes words)) ≡ Ok bytes
  words_end h = turn_all word_read bytes (map string_bytes words) i (simp length-map h)

  pub word_told : (w : String Global) (f : Fault) (all : Result (List ℕ) Fault) → i < length words → w ≡ get_or words i w
      → in_turn word_read i bytes (drop i (map string_bytes words)) ≡ all
      → Told f (word_read i bytes (string_bytes w)) → Told f all
  word_told w f all h is inv e = told f _ _ (λ k. sym inv ∙ word_fault w f h is k) e

pub ruleset word_steps = (word_more, word_told, words_end)
