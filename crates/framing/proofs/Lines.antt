-- Sending content bits in parts, and what that makes of the line bits.
use Rattle.std.proofs.Common.{◌≡◌, ℕ, suc, ◌+◌, ◌-◌, ◌/◌, ◌%◌, ◌<◌, ◌≤◌, Bool, true, false, eqb, List, [], ◌∷◌, ◌++◌, length, get_or, drop, sym, refl, ap, ◌∙◌, append_assoc, append-nil, add-one, ap₂, arith}
use Rattle.std.proofs.lemmas.List.{at_drop_more, at_drop_all}
use Rattle.std.proofs.lemmas.List.Sums.{fold-append}
use Rattle.fcs.specs.Fcs.{bit_0, low_bits, byte_bits, check_sequence}
use Rattle.framing.specs.Reading.{flag_bits}
use Rattle.framing.specs.Insertion.{inserted_from, inserted, content_bits, frame_bits}
use Rattle.framing.proofs.Undone.{inserted_fifth, inserted_other}
use Rattle.framing.specs.Stages.{Counted, sent_bit, sent}

-- one bit more of a number's lowest bits, and none
pub low_bits_more : (w k n : ℕ) (s : Counted) → k < w → sent (low_bits (w - k) n) s ≡ sent (low_bits (w - (k + 1)) (n / 2)) (sent_bit s (eqb (n % 2) 1))
unfolding low_bits bit_0
low_bits_more w k n s h =
    let e : w - k ≡ suc (w - (k + 1)) = omega arith in
    ap (λ (m : ℕ). sent (low_bits m n) s) e

pub low_bits_none : (w k n : ℕ) (s : Counted) → w ≤ k → sent (low_bits (w - k) n) s ≡ s
unfolding low_bits
low_bits_none w k n s h = let e : w - k ≡ 0 = omega arith in ap (λ (m : ℕ). sent (low_bits m n) s) e

-- one byte more of a list, and none
pub bytes_more : (bytes : List ℕ) (i : ℕ) (s : Counted) → i < length bytes
    → sent (byte_bits (drop i bytes)) s ≡ sent (byte_bits (drop (i + 1) bytes)) (sent (low_bits 8 (get_or bytes i 0)) s)
unfolding byte_bits
bytes_more bytes i s h =
    at_drop_more (λ (l : List ℕ). sent (byte_bits l) s) bytes i 0 h
    ∙ fold-append sent_bit s (low_bits 8 (get_or bytes i 0)) (byte_bits (drop (i + 1) bytes))

pub bytes_none : (bytes : List ℕ) (i : ℕ) (s : Counted) → length bytes ≤ i → sent (byte_bits (drop i bytes)) s ≡ s
unfolding byte_bits
bytes_none bytes i s h = at_drop_all (λ (l : List ℕ). sent (byte_bits l) s) bytes i h

-- a 1 that is the fifth in a row, and one that is not
fifth_1 : (s : Counted) → eqb s.run 4 ≡ true → sent_bit s true ≡ record { bits = (s.bits ++ (true ∷ [])) ++ (false ∷ []); run = 0 }
fifth_1 s e = rw e

other_1 : (s : Counted) → eqb s.run 4 ≡ false → sent_bit s true ≡ record { bits = s.bits ++ (true ∷ []); run = s.run + 1 }
other_1 s e = rw e

-- content bits put zero insertion's bits on the line
sent_bits : (bs : List Bool) (s : Counted) → (sent bs s).bits ≡ s.bits ++ inserted_from s.run bs
sent_bits [] s = sym (append-nil s.bits)
sent_bits (false ∷ bs) s = sent_bits bs (sent_bit s false) ∙ append_assoc s.bits (false ∷ []) (inserted_from 0 bs)
sent_bits (true ∷ bs) s = go (eqb s.run 4) refl (sent_bits bs)
  where
    go :
        (y : Bool) →
        eqb s.run 4 ≡ y →
        ((t : Counted) → (sent bs t).bits ≡ t.bits ++ inserted_from t.run bs) →
        (sent bs (sent_bit s true)).bits ≡ s.bits ++ inserted_from s.run (true ∷ bs)
    go true e ih =
        ap (λ (t : Counted). (sent bs t).bits) (fifth_1 s e) ∙
        (ih (record { bits = (s.bits ++ (true ∷ [])) ++ (false ∷ []); run = 0 }) ∙
        (append_assoc (s.bits ++ (true ∷ [])) (false ∷ []) (inserted_from 0 bs) ∙
        (append_assoc s.bits (true ∷ []) (false ∷ inserted_from 0 bs) ∙
        ap (λ (l : List Bool). s.bits ++ l) (sym (inserted_fifth s.run bs e)))))
    go false e ih =
        ap (λ (t : Counted). (sent bs t).bits) (other_1 s e) ∙
        (ih (record { bits = s.bits ++ (true ∷ []); run = s.run + 1 }) ∙
        (append_assoc s.bits (true ∷ []) (inserted_from (s.run + 1) bs) ∙
        (ap (λ (k : ℕ). s.bits ++ (true ∷ inserted_from k bs)) (add-one s.run) ∙
        ap (λ (l : List Bool). s.bits ++ l) (sym (inserted_other s.run bs e)))))

-- a whole frame: flag, bytes, check sequence, flag
pub frame_is : (g : List ℕ) (s : Counted) → s.bits ≡ flag_bits → s.run ≡ 0 → (sent (low_bits 16 (check_sequence g)) (sent (byte_bits g) s)).bits ++ flag_bits ≡ frame_bits g
frame_is g s flagged none =
    ap (λ (x : List Bool). x ++ flag_bits)
    (ap (λ (t : Counted). t.bits) (sym (fold-append sent_bit s (byte_bits g) (low_bits 16 (check_sequence g))))
    ∙ sent_bits (content_bits g) s
    ∙ ap₂ (λ x k. x ++ inserted_from k (content_bits g)) flagged none)
    ∙ append_assoc flag_bits (inserted (content_bits g)) flag_bits
