-- A sent frame is read back.
use Rattle.std.proofs.Common.{◌≡◌, ℕ, suc, ◌+◌, ◌-◌, ◌*◌, ◌^◌, ◌<◌, ◌≤◌, Bool, true, false, cond, eqb, leb, List, [], ◌∷◌, ◌++◌, reverse, length, get_or, take, sym, refl, ap, ◌∙◌, subst, ap₂, arith}
use mathlib.Core.List.{reverse_aux, reverse_aux-append, reverse-reverse}
use Rattle.std.proofs.ByRecursion.{All-from_get_or}
use Rattle.std.proofs.lemmas.List.{take_at, length-append}
use Rattle.std.proofs.lemmas.Bool.{lt-ltb, le-ltb, le-leb, leb-true, leb-false, eqb-true, eqb-false}
use Rattle.fcs.specs.Fcs.{byte_bits, low_bits, check_sequence, matches, good_residue}
use Rattle.fcs.proofs.Residue.{residue_law}
use Rattle.framing.specs.Bytes.{bytes, Bytes}
use Rattle.framing.specs.Reading.{flag_bits, judged, verdict_of, Judgement, stretches, good_contents}
use Rattle.framing.specs.Insertion.{inserted_from, inserted, content_bits, frame_bits}
use Rattle.framing.specs.Laws.{whole, ReadBack}
use Rattle.framing.specs.Stages.{Counted, sent}
use Rattle.framing.specs.declared.outcome.Verdict.{Verdict}
use Rattle.framing.specs.declared.outcome.Verdict.TheVariants.{Ignored, Good}
use Rattle.framing.proofs.Packed.{length_low_bits, length_byte_bits, bytes_return}
use Rattle.framing.proofs.Steps.{stretches_1}
use Rattle.framing.proofs.Lines.{frame_is}
use Rattle.framing.proofs.Undone.{inserted_fifth, inserted_other}
use Rattle.framing.proofs.Wire.{Sending, sending_start, sending_bit, sending_zero, sending_stretches, closing_start, closing_one, closing_ends}

-- the bits l sent after h: all content has come, and no stretch ended
record SentAll (h l all : List Bool) : Type 0 where
  run : ℕ
  sending : Sending (reverse_aux l h) [] run all
  same : stretches (reverse_aux l h) ≡ stretches h

sends : (c h : List Bool) (k : ℕ) (all : List Bool) → Sending h c k all → k ≤ 4 → SentAll h (inserted_from k c) all
sends [] h k all s l = record { run = k; sending = s; same = refl }
sends (false ∷ c) h k all s l =
    let n = sends c (false ∷ h) 0 all (sending_bit h false c k all s l) (omega arith) in
    record { run = n.run; sending = n.sending; same = n.same ∙ sending_stretches h false (false ∷ c) k all s }
sends (true ∷ c) h k all s l = go (eqb k 4) refl (λ n a. sends c n 0 all a) (λ n a. sends c n (suc k) all a)
  where
    one : Sending (true ∷ h) c (suc k) all
    one = sending_bit h true c k all s l

    go :
        (y : Bool) →
        eqb k 4 ≡ y →
        ((n : List Bool) → Sending n c 0 all → 0 ≤ 4 → SentAll n (inserted_from 0 c) all) →
        ((n : List Bool) → Sending n c (suc k) all → suc k ≤ 4 → SentAll n (inserted_from (suc k) c) all) →
        SentAll h (inserted_from k (true ∷ c)) all
    go true e ih₀ ih₁ =
        let n =
        ih₀ (false ∷ true ∷ h) (sending_zero (true ∷ h) c (suc k) all one (ap suc (eqb-true k 4 e))) (omega arith) in
        subst (λ (i : List Bool). SentAll h i all) (sym (inserted_fifth k c e))
        (record {
          run = n.run;
          sending = n.sending;
          same = n.same ∙ (sending_stretches (true ∷ h) false c (suc k) all one ∙ stretches_1 h);
        })
    go false e ih₀ ih₁ =
        let n = ih₁ (true ∷ h) one (let d : k ≡ 4 → ⊥ = eqb-false k 4 e in omega arith) in
        subst (λ (i : List Bool). SentAll h i all) (sym (inserted_other k c e))
        (record { run = n.run; sending = n.sending; same = n.same ∙ stretches_1 h })

-- a closing flag after all content bits
closed : (h : List Bool) (k : ℕ) (all : List Bool) → Sending h [] k all → stretches (reverse_aux flag_bits h) ≡ stretches h ++ (judged (reverse all) ∷ [])
closed h k all s =
    let h₀ = false ∷ h in
    let h₁ = true ∷ h₀ in
    let h₂ = true ∷ h₁ in
    let h₃ = true ∷ h₂ in
    let h₄ = true ∷ h₃ in
    let h₅ = true ∷ h₄ in
    let h₆ = true ∷ h₅ in
    let c =
    closing_one h₅ 0 all
    (closing_one h₄ 1 all
    (closing_one h₃ 2 all
    (closing_one h₂ 3 all (closing_one h₁ 4 all (closing_one h₀ 5 all (closing_start h k all s)))))) in
    closing_ends h₆ all c ∙
    ap (λ (v : List Judgement). v ++ (judged (reverse all) ∷ []))
    (stretches_1 h₅ ∙
    (stretches_1 h₄ ∙
    (stretches_1 h₃ ∙ (stretches_1 h₂ ∙ (stretches_1 h₁ ∙ (stretches_1 h₀ ∙ sending_stretches h false [] k all s))))))

-- the bits of a frame are one stretch, whose bits left are the content bits
one_stretch : (c : List Bool) → stretches (reverse (flag_bits ++ (inserted c ++ flag_bits))) ≡ judged c ∷ []
one_stretch c =
    let h : List Bool = reverse flag_bits in
    let n : SentAll h (inserted c) (reverse c) = sends c h 0 (reverse c) (sending_start h c refl refl) (omega arith) in
    ap stretches (reverse_aux-append (inserted c) flag_bits h) ∙
    (closed (reverse_aux (inserted c) h) n.run (reverse c) n.sending ∙
    (ap (λ (v : List Judgement). v ++ (judged (reverse (reverse c)) ∷ [])) n.same ∙
    ap (λ (x : List Bool). judged x ∷ []) (reverse-reverse c)))

-- ---- bytes and their check sequence, as the reading judges them

length_content : (g : List ℕ) → length (content_bits g) ≡ 8 * length g + 16
length_content g =
    omega (arith, length-append (byte_bits g) (low_bits 16 (check_sequence g)), length_byte_bits g, length_low_bits 16 (check_sequence g))

content_matches : (g : List ℕ) → matches (content_bits g) ≡ true
content_matches g = ap (λ (r : ℕ). eqb r good_residue) (residue_law.as_bits g)

content_is : (g : List ℕ) → Bytes g → bytes (take (length (content_bits g) - 16) (content_bits g)) ≡ g
content_is g s =
    ap bytes
    (take_at (byte_bits g) (low_bits 16 (check_sequence g)) (length (content_bits g) - 16)
    (omega (arith, length_content g, length_byte_bits g))) ∙
    bytes_return g s

verdict_is : (k : ℕ) → verdict_of (8 * k + 16) true ≡ cond (leb 2 k) Good Ignored
verdict_is k = go (leb 2 k) refl
  where
    go : (y : Bool) → leb 2 k ≡ y → verdict_of (8 * k + 16) true ≡ cond y Good Ignored
    go true e =
        let l : 2 ≤ k = leb-true 2 k e in rw (le-ltb (8 * k + 16) 25 (omega arith), le-ltb (8 * k + 16) 32 (omega arith))
    go false e = let l : k < 2 = leb-false 2 k e in rw (lt-ltb (8 * k + 16) 25 (omega arith))

abbrev judgement : Verdict → ℕ → List ℕ → Judgement
judgement v n c = record { verdict = v; n = n; content = c }

judged_whole : (g : List ℕ) → Bytes g → judged (content_bits g) ≡ whole g
judged_whole g s =
    let long = length_content g in
    let v : verdict_of (length (content_bits g)) (matches (content_bits g)) ≡ (whole g).verdict =
    ap₂ verdict_of long (content_matches g) ∙ verdict_is (length g) in
    ap₂ (λ (x : Verdict) (k : ℕ). judgement x k (judged (content_bits g)).content) v long
    ∙ ap (judgement (whole g).verdict (whole g).n) (content_is g s)

good_whole : (g : List ℕ) → 2 ≤ length g → good_contents (whole g ∷ []) ≡ g ∷ []
good_whole g l = rw (le-leb 2 (length g) l)

pub frame_law : (g : List ℕ) → Bytes g → ReadBack g (frame_bits g)
frame_law g s =
    let read = one_stretch (content_bits g) ∙ ap (λ (j : Judgement). j ∷ []) (judged_whole g s) in
    record { stretch = read; frame = λ l. ap good_contents read ∙ good_whole g l }

-- and so are the bits that the code gives
pub sent_back : (g : List ℕ) (s : Counted) → ((i : ℕ) → i < length g → get_or g i 0 < 2 ^ 8) → s.bits ≡ flag_bits → s.run ≡ 0
    → ReadBack g ((sent (low_bits 16 (check_sequence g)) (sent (byte_bits g) s)).bits ++ flag_bits)
sent_back g s small flagged none = subst (ReadBack g) (sym (frame_is g s flagged none)) (frame_law g (All-from_get_or (λ b. b < 256) g 0 small))
