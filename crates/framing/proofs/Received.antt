-- The reader of the code, bit by bit, is the reading.
use Rattle.std.proofs.Common.{◌≡◌, ℕ, suc, ◌+◌, ◌-◌, ◌<◌, ◌≤◌, min, Bool, true, false, cond, eqb, leb, ◌⊎◌, List, [], ◌∷◌, ◌++◌, reverse, length, take, drop, fold, sym, refl, ap, ◌∙◌, ap₂, Option, Some, None, inl, inr, append-nil, arith}
use mathlib.Core.List.{reverse_aux, reverse-cons, reverse-append}
use Rattle.std.proofs.lemmas.List.{take-append-drop, drop_all, drop_at, length-reverse, length-drop}
use Rattle.std.proofs.lemmas.Bool.{cases_lt, eqb-true, eqb-false, eq-eqb, ne_eqb, le-leb, lt-leb}
use Rattle.framing.specs.Reading.{ones, flag_ends, abort_ends, Place, hunting, since, also, place, deleted, left, Judgement, judged, closed_by_flag, stretches, reading}
use Rattle.framing.specs.Stages.{Counted, kept_bit, judged_since, stretch_of, ReaderState, initial_state, keeps, closes, ended_by, going_on, received}
use Rattle.framing.proofs.Steps.{stretches_1, stretches_0, stretches_flag, place_flag}

-- ---- lists

drop_reverse : (k : ℕ) (xs : List Bool) → drop k (reverse xs) ≡ reverse (take (length xs - k) xs)
drop_reverse k xs = go (cases_lt (length xs) k)
  where
    m : ℕ
    m = length xs - k

    go : (length xs < k) ⊎ (k ≤ length xs) → drop k (reverse xs) ≡ reverse (take (length xs - k) xs)
    go (inl l) =
        let none : length xs - k ≡ 0 = omega arith in
        drop_all k (reverse xs) (omega (arith, length-reverse xs)) ∙ sym (ap (λ (n : ℕ). reverse (take n xs)) none)
    go (inr l) =
        let front = take (length xs - k) xs in
        let end = drop (length xs - k) xs in
        let parts : reverse xs ≡ reverse end ++ reverse front =
        ap reverse (sym (take-append-drop (length xs - k) xs)) ∙ reverse-append front end in
        ap (drop k) parts ∙
        drop_at (reverse end) (reverse front) k (omega (arith, length-reverse end, length-drop (length xs - k) xs))

-- ---- zero deletion, the oldest bit first

abbrev kept_of : List Bool → Counted
kept_of h = record { bits = left h; run = min 5 (ones h) }

five : (n : ℕ) → eqb (min 5 n) 5 ≡ leb 5 n
five n = go (cases_lt n 5)
  where
    go : (n < 5) ⊎ (5 ≤ n) → eqb (min 5 n) 5 ≡ leb 5 n
    go (inl l) = ne_eqb (min 5 n) 5 (λ e. omega arith) ∙ sym (lt-leb 5 n l)
    go (inr l) = eq-eqb (min 5 n) 5 (omega arith) ∙ sym (le-leb 5 n l)

zero_kept : (y : Bool) (d : List Bool) → cond y (reverse d) (reverse d ++ (false ∷ [])) ≡ reverse (cond y d (false ∷ d))
zero_kept true d = refl
zero_kept false d = sym (reverse-cons false d)

kept_on : (b : Bool) (h : List Bool) → kept_bit (kept_of h) b ≡ kept_of (b ∷ h)
kept_on true h =
    let run : min 5 (min 5 (ones h) + 1) ≡ min 5 (suc (ones h)) = omega arith in
    ap₂ (λ (x : List Bool) (n : ℕ). record { bits = x; run = n }) (sym (reverse-cons true (deleted h))) run
kept_on false h =
    ap (λ (x : List Bool). record { bits = x; run = 0 })
    (ap (λ (y : Bool). cond y (left h) (left h ++ (false ∷ []))) (five (ones h)) ∙ zero_kept (leb 5 (ones h)) (deleted h))

kept_all : (xs h : List Bool) → fold kept_bit (kept_of h) xs ≡ kept_of (reverse_aux xs h)
kept_all [] h = refl
kept_all (b ∷ xs) h = ap (λ (k : Counted). fold kept_bit k xs) (kept_on b h) ∙ kept_all xs (b ∷ h)

judged_since_is : (bits : List Bool) → judged_since bits ≡ judged (left (drop 7 (reverse bits)))
judged_since_is bits =
    ap (λ (k : Counted). judged k.bits) (kept_all (stretch_of bits) []) ∙
    ap (λ (s : List Bool). judged (left s)) (sym (drop_reverse 7 bits))

-- ---- flags and aborts, by the 1s that the reader counts

-- the 1s in a row that came last, at most seven, and seven while no 0 has come
abbrev latest : List Bool → ℕ
latest [] = 7
latest (false ∷ h) = 0
latest (true ∷ h) = min 7 (latest h + 1)

-- a flag ends at a 0 after exactly six
flag_is : (h : List Bool) → flag_ends (false ∷ h) ≡ eqb (latest h) 6
flag_is [] = refl
flag_is (false ∷ h) = refl
flag_is (true ∷ []) = refl
flag_is (true ∷ false ∷ h) = refl
flag_is (true ∷ true ∷ []) = refl
flag_is (true ∷ true ∷ false ∷ h) = refl
flag_is (true ∷ true ∷ true ∷ []) = refl
flag_is (true ∷ true ∷ true ∷ false ∷ h) = refl
flag_is (true ∷ true ∷ true ∷ true ∷ []) = refl
flag_is (true ∷ true ∷ true ∷ true ∷ false ∷ h) = refl
flag_is (true ∷ true ∷ true ∷ true ∷ true ∷ []) = refl
flag_is (true ∷ true ∷ true ∷ true ∷ true ∷ false ∷ h) = refl
flag_is (true ∷ true ∷ true ∷ true ∷ true ∷ true ∷ []) = refl
flag_is (true ∷ true ∷ true ∷ true ∷ true ∷ true ∷ false ∷ h) = refl
flag_is (true ∷ true ∷ true ∷ true ∷ true ∷ true ∷ true ∷ h) =
    sym (ne_eqb (latest (true ∷ true ∷ true ∷ true ∷ true ∷ true ∷ true ∷ h)) 6 (λ e. omega arith))

-- below seven they are the 1s of the history
latest_few : (h : List Bool) → latest h < 7 → latest h ≡ ones h
latest_few [] l = absurd (omega arith)
latest_few (false ∷ h) l = refl
latest_few (true ∷ h) l = omega (arith, latest_few h (omega arith))

latest_le : (h : List Bool) → latest h ≤ 7
latest_le [] = omega arith
latest_le (false ∷ h) = omega arith
latest_le (true ∷ h) = omega arith

-- while no 0 has come no flag has ended
either : (t : Bool) → cond t hunting hunting ≡ hunting
either true = refl
either false = refl

still_1 : (h : List Bool) → place h ≡ hunting → place (true ∷ h) ≡ hunting
still_1 h p = rw p (either (abort_ends (true ∷ h)))

latest_all : (h : List Bool) → latest h ≡ 7 → ones h ≤ 6 → place h ≡ hunting
latest_all [] e l = refl
latest_all (false ∷ h) e l = absurd (omega arith)
latest_all (true ∷ h) e l = still_1 h (go (cases_lt (latest h) 7) (latest_all h))
  where
    go : (latest h < 7) ⊎ (7 ≤ latest h) → (latest h ≡ 7 → ones h ≤ 6 → place h ≡ hunting) → place h ≡ hunting
    go (inl few) ih = absurd (let same : latest h ≡ ones h = latest_few h few in omega arith)
    go (inr all) ih = ih (omega (arith, latest_le h)) (omega arith)

-- a 1 that is not the seventh that the reader counts
place_1 : (h : List Bool) → (latest h ≡ 6 → ⊥) → place (true ∷ h) ≡ also true (place h)
place_1 h other = go (cases_lt (latest h) 7) (cases_lt (ones h) 7)
  where
    go : (latest h < 7) ⊎ (7 ≤ latest h) → (ones h < 7) ⊎ (7 ≤ ones h) → place (true ∷ h) ≡ also true (place h)
    go (inl few) w = rw (ne_eqb (suc (ones h)) 7 (let same : latest h ≡ ones h = latest_few h few in λ e. other (omega arith)))
    go (inr all) (inl few) =
        let p : place h ≡ hunting = latest_all h (omega (arith, latest_le h)) (omega arith) in still_1 h p ∙ sym (ap (also true) p)
    go (inr all) (inr many) = rw (ne_eqb (suc (ones h)) 7 (λ e. omega arith))

-- ---- the reader

abbrev placed : Option (List Bool) → Place
placed None = hunting
placed (Some bits) = since (reverse bits)

record Follows (s : ReaderState) (h : List Bool) : Type 0 where
  ones_are : s.ones ≡ latest h
  stands : placed s.since ≡ place h
  found_are : s.found ≡ stretches h

placed_keeps : (o : Option (List Bool)) (b : Bool) → placed (keeps o b) ≡ also b (placed o)
placed_keeps None b = refl
placed_keeps (Some bits) b = ap since (reverse-append bits (b ∷ []))

closed : (o : Option (List Bool)) (found : List Judgement) → closes o found ≡ found ++ closed_by_flag (placed o)
closed None found = sym (append-nil found)
closed (Some bits) found = ap (λ (j : Judgement). found ++ (j ∷ [])) (judged_since_is bits)

-- after six 1s
follows_end : (b : Bool) (s : ReaderState) (h : List Bool) → s.ones ≡ 6 → Follows s h → Follows (ended_by s b) (b ∷ h)
follows_end true s h six f =
    let same : latest h ≡ ones h = latest_few h (omega (arith, f.ones_are)) in
    record {
      ones_are = omega (arith, f.ones_are);
      stands = rw (eq-eqb (suc (ones h)) 7 (omega (arith, f.ones_are)));
      found_are = f.found_are ∙ sym (stretches_1 h);
    }
follows_end false s h six f =
    let flag : flag_ends (false ∷ h) ≡ true = flag_is h ∙ eq-eqb (latest h) 6 (omega (arith, f.ones_are)) in
    record {
      ones_are = refl;
      stands = sym (place_flag h flag);
      found_are =
          closed s.since s.found
          ∙ (ap₂ (λ (x : List Judgement) (p : Place). x ++ closed_by_flag p) f.found_are f.stands ∙ sym (stretches_flag h flag));
    }

-- any other bit
follows_go : (b : Bool) (s : ReaderState) (h : List Bool) → (s.ones ≡ 6 → ⊥) → Follows s h → Follows (going_on s b) (b ∷ h)
follows_go true s h other f =
    record {
      ones_are = omega (arith, f.ones_are);
      stands = placed_keeps s.since true ∙ ap (also true) f.stands ∙ sym (place_1 h (λ e. other (omega (arith, f.ones_are))));
      found_are = f.found_are ∙ sym (stretches_1 h);
    }
follows_go false s h other f =
    let no_flag : flag_ends (false ∷ h) ≡ false = flag_is h ∙ ne_eqb (latest h) 6 (λ e. other (omega (arith, f.ones_are))) in
    record {
      ones_are = refl;
      stands = placed_keeps s.since false ∙ ap (also false) f.stands ∙ sym (place_0 no_flag);
      found_are = f.found_are ∙ sym (stretches_0 h no_flag);
    }
  where
    place_0 : flag_ends (false ∷ h) ≡ false → place (false ∷ h) ≡ also false (place h)
    place_0 e = rw e

follows_on : (b : Bool) (s : ReaderState) (h : List Bool) → Follows s h → Follows (received s b) (b ∷ h)
follows_on b s h f = go (eqb s.ones 6) refl
  where
    go : (t : Bool) → eqb s.ones 6 ≡ t → Follows (received s b) (b ∷ h)
    go true e = rw e (follows_end b s h (eqb-true s.ones 6 e) f)
    go false e = rw e (follows_go b s h (eqb-false s.ones 6 e) f)

follows_all : (bits : List Bool) (s : ReaderState) (h : List Bool) → Follows s h → Follows (fold received s bits) (reverse_aux bits h)
follows_all [] s h f = f
follows_all (b ∷ bits) s h f = follows_all bits (received s b) (b ∷ h) (follows_on b s h f)

pub received_is : (bits : List Bool) → (fold received initial_state bits).found ≡ reading bits
received_is bits =
    (follows_all bits initial_state [] (record { ones_are = refl; stands = refl; found_are = refl })).found_are
