-- What is rendered is read back. Assumes nothing.
use Rattle.std.proofs.Common.{◌≡◌, ℕ, ◌+◌, ◌*◌, ◌/◌, ◌%◌, ◌<◌, Bool, true, false, eqb, List, [], ◌∷◌, ◌++◌, map, Some, None, Ok, Option, sym, refl, ap, ◌∙◌, append_assoc, append-nil, arith}
use Rattle.std.specs.List.{flat_map, AllByRecursion}
use Rattle.std.proofs.lemmas.List.FromFn.{get_or-map-range_with_len}
use Rattle.std.proofs.lemmas.Bool.Decides.{nat_tests}
use Rattle.notation.specs.declared.bits.Place.{Place}
use Rattle.faults.specs.Digits.{digit_glyph, hex_pair}
use Rattle.notation.specs.Bits as bits
use Rattle.notation.specs.Hex.{digit_value, with_digit, digit_read, character_read, ended, hex_text, cut_at_blanks, word_read, words_read, ReadBack}
use Rattle.notation.specs.Reading.{in_turn}
use Rattle.notation.proofs.Pairs.{after_blank}
use Rattle.notation.proofs.Turns.{turn_one}

bits_after : (bs : List Bool) (place : ℕ) (at : Place) (done : List Bool) → bits.bits_of (bits.characters_taken place (at, done) (bits.bit_text bs)) ≡ Ok (done ++ bs)
bits_after [] place at done = ap (λ l. Ok l) (sym (append-nil done))
bits_after (true ∷ bs) place at done = bits_after bs (place + 1) _ (done ++ true ∷ []) ∙ ap (λ l. Ok l) (append_assoc done (true ∷ []) bs)
bits_after (false ∷ bs) place at done = bits_after bs (place + 1) _ (done ++ false ∷ []) ∙ ap (λ l. Ok l) (append_assoc done (false ∷ []) bs)

pub bits_back : bits.ReadBack
bits_back bs = bits_after bs 0 _ []

-- ---- hexadecimal

digit_back : (digit : ℕ) → digit < 16 → digit_value (digit_glyph digit) ≡ Some digit
digit_back digit h =
    sym (get_or-map-range_with_len (λ d. digit_value (digit_glyph d)) 0 16 digit digit None (omega arith) (omega arith))
    ∙ get_or-map-range_with_len (λ d. Some d) 0 16 digit digit None (omega arith) (omega arith)

no_blank : (digit : ℕ) → eqb (digit_glyph digit) 32 ≡ false
no_blank digit = grind (arith, nat_tests)

cut_pair : (byte : ℕ) (rest : List ℕ) → cut_at_blanks [] (hex_pair byte ++ rest) ≡ cut_at_blanks (hex_pair byte) rest
cut_pair byte rest = rw (no_blank (byte / 16), no_blank (byte % 16)) refl

cut_more : (bytes : List ℕ) (byte : ℕ) → cut_at_blanks (hex_pair byte) (flat_map after_blank bytes) ≡ map hex_pair (byte ∷ bytes)
cut_more [] byte = refl
cut_more (b ∷ bytes) byte = ap (λ l. hex_pair byte ∷ l) (cut_pair b (flat_map after_blank bytes) ∙ cut_more bytes b)

cut_text : (bytes : List ℕ) → cut_at_blanks [] (hex_text bytes) ≡ map hex_pair bytes
cut_text [] = refl
cut_text (b ∷ bytes) = cut_pair b (flat_map after_blank bytes) ∙ cut_more bytes b

-- one character, and a pair of them
read_digit : (word place digit : ℕ) (waiting : Option ℕ) (done : List ℕ) → digit < 16 → character_read word place (waiting, done) (digit_glyph digit) ≡ Ok (with_digit waiting done digit)
read_digit word place digit waiting done h = ap (digit_read _ (waiting, done)) (digit_back digit h)

pair_back : (place byte : ℕ) (done : List ℕ) → byte < 256 → word_read place done (hex_pair byte) ≡ Ok (done ++ byte ∷ [])
pair_back place byte done h =
    let step = character_read (place + 1) in
    let same : byte / 16 * 16 + byte % 16 ≡ byte = omega arith in
    ap (ended (place + 1))
    (turn_one step (None, done) (Some (byte / 16), done) (digit_glyph (byte / 16)) (digit_glyph (byte % 16) ∷ []) 0 (read_digit (place + 1) 0 (byte / 16) None done (omega arith))
    ∙ turn_one step (Some (byte / 16), done) (None, done ++ (byte / 16 * 16 + byte % 16) ∷ []) (digit_glyph (byte % 16)) [] 1 (read_digit (place + 1) 1 (byte % 16) (Some (byte / 16)) done (omega arith)))
    ∙ ap (λ b. Ok (done ++ b ∷ [])) same

pairs_back : (bytes : List ℕ) (place : ℕ) (done : List ℕ) → AllByRecursion (λ b. b < 256) bytes → in_turn word_read place done (map hex_pair bytes) ≡ Ok (done ++ bytes)
pairs_back [] place done h = ap (λ l. Ok l) (sym (append-nil done))
pairs_back (b ∷ bytes) place done h =
    turn_one word_read done (done ++ b ∷ []) (hex_pair b) (map hex_pair bytes) place (pair_back place b done h.0)
    ∙ pairs_back bytes (place + 1) (done ++ b ∷ []) h.1 ∙ ap (λ l. Ok l) (append_assoc done (b ∷ []) bytes)

pub hex_back : ReadBack
hex_back bytes h = ap words_read (cut_text bytes) ∙ pairs_back bytes 0 [] h
