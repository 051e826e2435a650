-- Bytes as pairs of digits: the text that is made of some of them, and what a formatter has written of all. Assumes nothing.
use Rattle.std.proofs.Common.{◌≡◌, ℕ, ◌+◌, ◌-◌, ◌*◌, ◌<◌, ◌≤◌, List, [], ◌∷◌, ◌++◌, length, get_or, set, take, drop, replicate, sym, ap, ap₂, ◌∙◌, append-nil, IsAscii, arith}
use Rattle.std.specs.List.{flat_map}
use Rattle.std.specs.Str.{IsUtf8}
use Rattle.std.proofs.lemmas.Grind.{flat_map-append, take-set_at}
use Rattle.std.proofs.lemmas.List.{append_assoc, flat_map_more, length-set, take_all, take_more, take_rest}
use Rattle.std.proofs.lemmas.List.Elements.{All-replicate}
use Rattle.std.proofs.lemmas.Str.{IsUtf8-from_ascii}
use Rattle.std.proofs.lemmas.Str.Ascii.{IsAscii-from_all, IsAscii-set}
use Rattle.std.proofs.Output.{has_written_append, has_written_of_eq}
use Rattle.std.specs.Fmt.{HasWritten}
use Rattle.std.specs.declared.fmt.Formatter.{Formatter}
use Rattle.faults.specs.Digits.{hex_pair}
use Rattle.notation.specs.Hex.{hex_text}

-- the library's lemma, under a name that an attribute can have
pub ascii_text : (bytes : List ℕ) → IsAscii bytes → IsUtf8 bytes
ascii_text = IsUtf8-from_ascii

abbrev pub after_blank : ℕ → List ℕ
after_blank byte = 32 ∷ hex_pair byte

pairs_more : (bytes : List ℕ) (i : ℕ) → i < length bytes
    → flat_map after_blank (take i bytes) ++ after_blank (get_or bytes i 0) ≡ flat_map after_blank (take (i + 1) bytes)
pairs_more bytes i h =
    flat_map_more after_blank [] (take i bytes) (get_or bytes i 0) ∙ sym (ap (flat_map after_blank) (take_more bytes i 0 h))

-- three bytes more of a text
three : (text : List ℕ) (n a b c : ℕ) → n + 2 < length text
    → take (n + 3) (set (set (set text n a) (n + 1) b) (n + 2) c) ≡ ((take n text ++ a ∷ []) ++ b ∷ []) ++ c ∷ []
three text n a b c h =
    let one = set text n a in
    let two = set one (n + 1) b in
    take-set_at two (n + 2) (n + 3) c (omega arith) (omega (arith, length-set one (n + 1) b, length-set text n a))
    ∙ ap (λ (l : List ℕ). l ++ c ∷ []) (take-set_at one (n + 1) (n + 2) b (omega arith) (omega (arith, length-set text n a))
    ∙ ap (λ (l : List ℕ). l ++ b ∷ []) (take-set_at text n (n + 1) a (omega arith) (omega arith)))

joined : (l : List ℕ) (a b c : ℕ) → ((l ++ a ∷ []) ++ b ∷ []) ++ c ∷ [] ≡ l ++ a ∷ b ∷ c ∷ []
joined l a b c = append_assoc (l ++ a ∷ []) (b ∷ []) (c ∷ []) ∙ append_assoc l (a ∷ []) (b ∷ c ∷ [])

-- one pair more in the front of the text
module _ (bytes text two : List ℕ) (i : ℕ) where
  pub pair_filled : i < length bytes → length bytes ≤ 16 → length text ≡ 48 → two ≡ hex_pair (get_or bytes i 0)
      → take (3 * i) text ≡ flat_map after_blank (take i bytes)
      → take (3 * (i + 1)) (set (set (set text (3 * i) 32) (3 * i + 1) (get_or two 0 0)) (3 * i + 2) (get_or two 1 0))
      ≡ flat_map after_blank (take (i + 1) bytes)
  pair_filled l few long pair before =
      let a = get_or two 0 0 in
      let b = get_or two 1 0 in
      let next : 3 * (i + 1) ≡ 3 * i + 3 = omega arith in
      ap (λ (n : ℕ). take n (set (set (set text (3 * i) 32) (3 * i + 1) a) (3 * i + 2) b)) next
      ∙ three text (3 * i) 32 a b (omega arith)
      ∙ ap (λ (l : List ℕ). ((l ++ 32 ∷ []) ++ a ∷ []) ++ b ∷ []) before
      ∙ joined (flat_map after_blank (take i bytes)) 32 a b
      ∙ ap (λ (l : List ℕ). flat_map after_blank (take i bytes) ++ 32 ∷ get_or l 0 0 ∷ get_or l 1 0 ∷ []) pair
      ∙ pairs_more bytes i l

-- the text stays ASCII, and as long as it was
pub filled_ascii : (text two : List ℕ) (i j k : ℕ) → IsAscii text → IsAscii two
    → IsAscii (set (set (set text i 32) j (get_or two 0 0)) k (get_or two 1 0))
filled_ascii text two i j k old new =
    IsAscii-set _ k _ (IsAscii-set _ j _ (IsAscii-set text i 32 old (omega arith)) (new 0)) (new 1)

pub filled_length : (text : List ℕ) (i j k a b c : ℕ) → length text ≡ 48 → length (set (set (set text i a) j b) k c) ≡ 48
filled_length text i j k a b c long = length-set _ k c ∙ (length-set _ j b ∙ (length-set text i a ∙ long))

-- after the last byte
pub all_filled : (bytes text : List ℕ) (i : ℕ) → length bytes ≤ i → i ≤ length bytes → take (3 * i) text ≡ flat_map after_blank (take i bytes)
    → take (3 * length bytes) text ≡ flat_map after_blank bytes
all_filled bytes text i past within before =
    let all : length bytes ≡ i = omega arith in
    ap (λ (n : ℕ). take (3 * n) text) all ∙ (before ∙ ap (flat_map after_blank) (take_all i bytes past))

-- before the first
pub zeros_ascii : IsAscii (replicate 48 0)
zeros_ascii = IsAscii-from_all (replicate 48 0) (All-replicate (λ b. b < 128) 48 0 (omega arith))

pub ruleset filling_steps = (pair_filled, filled_ascii, filled_length, all_filled)

-- what is written of a text, where the bytes that are left make the rest of it
module _ {W : Type 0} (took : W → List ℕ → W → Type 0) where
  pub record WrittenTo (f : Formatter W) (all left : List ℕ) (g : Formatter W) : Type 0 where
    pub done : List ℕ
    pub wrote : HasWritten took f done g
    pub sums : done ++ flat_map after_blank left ≡ all

  pub written_first : (f g : Formatter W) (bytes two : List ℕ) → 1 ≤ length bytes → two ≡ hex_pair (get_or bytes 0 0) → HasWritten took f two g
      → WrittenTo f (hex_text bytes) (take (length bytes - 1) (drop 1 bytes)) g
  written_first f g [] two some pair first = absurd (omega arith)
  written_first f g (b ∷ bytes) two some pair first = record {
    done = two;
    wrote = first;
    sums = ap₂ (λ x y. x ++ flat_map after_blank y) pair (take_rest (b ∷ bytes) 1);
  }

  pub written_more : (f g h : Formatter W) (all left some rest : List ℕ) → WrittenTo f all left g → HasWritten took g (flat_map after_blank some) h
      → left ≡ some ++ rest → WrittenTo f all rest h
  written_more f g h all left some rest before here parts = record {
    done = before.done ++ flat_map after_blank some;
    wrote = has_written_append took _ _ _ _ _ before.wrote here;
    sums =
        append_assoc before.done (flat_map after_blank some) (flat_map after_blank rest)
        ∙ (ap (λ l. before.done ++ l) (sym (flat_map-append after_blank some rest))
        ∙ (ap (λ l. before.done ++ flat_map after_blank l) (sym parts)
        ∙ before.sums));
  }

  pub written_all : (f g : Formatter W) (all left : List ℕ) → WrittenTo f all left g → left ≡ [] → HasWritten took f all g
  written_all f g all left before none =
      has_written_of_eq took _ _ _ _ (sym (append-nil before.done) ∙ (ap (λ l. before.done ++ flat_map after_blank l) (sym none) ∙ before.sums)) before.wrote

pub ruleset writing_steps = (written_first, written_more, written_all)
