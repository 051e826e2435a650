-- A cable's puts go round its bytes: by induction over what was done since it was made.
use Rattle.std.proofs.Common.{◌≡◌, ℕ, ◌+◌, ◌%◌, ◌<◌, cond, eqb, List, [], ◌∷◌, ◌++◌, length, drop, set, replicate, Ok, Err, sym, refl, ap, ◌∙◌, subst, append-nil, add-zero, mod-lt, zero-add, arith}
use native.Mathlib.Nat.{mod-add-mod, zero-mod}
use Rattle.std.proofs.lemmas.List.FromFn.{fill_by_all}
use Rattle.std.proofs.lemmas.List.{get_or-replicate, get_or-set_other, get_or-set_same, length_push, length-replicate, length-set, set-append_left}
use Rattle.std.proofs.lemmas.Bool.Decides.{nat_tests}
use Rattle.cable.specs.Cables.{cable_meaning, cable_memory, ring_written, fresh_bytes, places_over}
use Rattle.line.specs.Acts.{Happens, levels_put, put_by}
use Rattle.line.specs.Histories.{History}
use Rattle.line.specs.Histories.History.{none, then}
use Rattle.line.specs.Kinds.{counted}
use Rattle.cable.specs.Bytes.{AlwaysRound, byte_after, bytes_after, cable_shown, fell_on}
use Rattle.line.specs.Meaning.{Answer, Memory, admitted, if_accepted}
use Rattle.line.specs.Soundness.{get_or_counted, length_counted}
use Rattle.line.specs.declared.act.Act.{Act}
use Rattle.line.specs.declared.act.Act.TheVariants.{Put, Take}
use Rattle.cable.specs.declared.Cable.{Cable}
use Rattle.line.proofs.Carried.{same_places}

-- a put that is accepted found a place
room_for : (l n p v : ℕ) → Ok v ≡ admitted l n p → n < p
room_for l n p v e = grind (arith, nat_tests)

-- one put more falls on the byte of its number
fell_push : (p k i kept l : ℕ) (ls : List ℕ) → fell_on p k i kept (ls ++ l ∷ []) ≡ cond (eqb ((i + length ls) % p) k) l (fell_on p k i kept ls)
fell_push p k i kept l [] = ap (λ j. cond (eqb (j % p) k) l kept) (sym (add-zero i))
fell_push p k i kept l (x ∷ ls) =
    let e : i + 1 + length ls ≡ i + length (x ∷ ls) = omega arith in
    fell_push p k (i + 1) (cond (eqb (i % p) k) x kept) l ls
    ∙ ap (λ j. cond (eqb (j % p) k) l (fell_on p k (i + 1) (cond (eqb (i % p) k) x kept) ls)) e

byte_push : (p k l : ℕ) (ls : List ℕ) → byte_after p (ls ++ l ∷ []) k ≡ cond (eqb (length ls % p) k) l (byte_after p ls k)
byte_push p k l ls = fell_push p k 0 1 l ls ∙ ap (λ j. cond (eqb (j % p) k) l (byte_after p ls k)) (zero-add (length ls))

-- one element of a counted list is written
counted_set : (f g : ℕ → ℕ) (n i l : ℕ) → i < n → ((k : ℕ) → k < n → g k ≡ cond (eqb i k) l (f k)) → set (counted f n) i l ≡ counted g n
counted_set f g n i l h same =
    let e = length_counted f n in
    fill_by_all g (set (counted f n) i l) n 0 (length-set (counted f n) i l ∙ e)
    (λ k w. let a = same k w in let b = get_or_counted f n k w in grind (arith, nat_tests, get_or-set_same, get_or-set_other))

fresh_is : (lent : List ℕ) → fresh_bytes lent ≡ bytes_after lent []
fresh_is lent =
    let p = places_over (length lent) in
    ap (λ xs. xs ++ drop p lent) (fill_by_all (λ k. 1) (replicate p 1) p 0 (length-replicate p 1) (λ k h. get_or-replicate p k 1 0 h))

-- what stands in the memory after these puts
record At (lent borrows levels : List ℕ) (m : Memory) : Type 0 where
  next : m.next ≡ length levels % places_over (length lent)
  bytes : m.bytes ≡ bytes_after lent levels
  borrow : m.borrows ≡ borrows

module _ (lent borrows levels : List ℕ) (m : Memory) (h : At lent borrows levels m) where
  written_at : (l : ℕ) → 0 < places_over (length lent) → At lent borrows (levels ++ l ∷ []) (ring_written (places_over (length lent)) m l)
  written_at l some =
      let p = places_over (length lent) in
      let i = length levels % p in
      let w : i < p = mod-lt (length levels) some in
      let e = length_counted (byte_after p levels) p in
      record {
        next =
            ap (λ j. (j + 1) % p) h.next ∙ mod-add-mod (length levels) p 1 ∙ ap (λ j. j % p) (sym (length_push levels l));
        bytes =
            ap (λ xs. set xs m.next l) h.bytes
            ∙ ap (λ j. set (bytes_after lent levels) j l) h.next
            ∙ set-append_left (counted (byte_after p levels) p) (drop p lent) i l (omega arith)
            ∙ ap (λ xs. xs ++ drop p lent)
            (counted_set (byte_after p levels) (byte_after p (levels ++ l ∷ [])) p i l w (λ k _. byte_push p k l levels));
        borrow = h.borrow;
      }

  put_at : (q n l : ℕ) (r : Answer) → q ≡ places_over (length lent) → r ≡ admitted l n q → At lent borrows (levels ++ put_by (Put l) r) (if_accepted r (ring_written q m l) m)
  put_at q n l (Ok v) s e =
      let room = room_for l n q v e in
      subst (λ x. At lent borrows (levels ++ l ∷ []) (ring_written x m l)) (sym s) (written_at l (omega arith))
  put_at q n l (Err f) s e = subst (λ ls. At lent borrows ls m) (sym (append-nil levels)) h

  take_at : At lent borrows (levels ++ []) m
  take_at = subst (λ ls. At lent borrows ls m) (sym (append-nil levels)) h

module _ (lent : List ℕ) (made : Cable) (size : (cable_meaning made).places ≡ places_over (length lent))
    (bytes : (cable_memory made).bytes ≡ fresh_bytes lent) (next : (cable_memory made).next ≡ 0) where
  step : {before end : Cable} (h : History (Happens cable_shown) made before) (act : Act) (r : Answer) → Happens cable_shown before act r end
      → At lent (cable_memory made).borrows (levels_put h) (cable_memory before)
      → At lent (cable_memory made).borrows (levels_put h ++ put_by act r) (cable_memory end)
  step {before} h Take r x a =
      subst (At lent (cable_memory made).borrows (levels_put h ++ [])) (sym x.stored) (take_at lent _ (levels_put h) (cable_memory before) a)
  step {before} h (Put l) r x a =
      let q = (cable_meaning before).places in
      let b = put_at lent (cable_memory made).borrows (levels_put h) (cable_memory before) a q (length (cable_meaning before).waiting) l r (same_places h ∙ size) x.answers in
      subst (At lent (cable_memory made).borrows (levels_put h ++ put_by (Put l) r))
      (ap (λ v. if_accepted v (ring_written q (cable_memory before) l) (cable_memory before)) x.answers ∙ sym x.stored) b

  holds : {end : Cable} (h : History (Happens cable_shown) made end) → At lent (cable_memory made).borrows (levels_put h) (cable_memory end)
  holds none = record { next = next ∙ sym (zero-mod (places_over (length lent))); bytes = bytes ∙ fresh_is lent; borrow = refl }
  holds (then h act r x) = step h act r x (holds h)

  pub always_round : AlwaysRound lent made
  always_round end h = let a = holds h in record { next = a.next; bytes = a.bytes; borrow = a.borrow }
