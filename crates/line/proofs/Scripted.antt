-- One more call of a script.
use Rattle.std.proofs.Common.{◌≡◌, ℕ, zero, suc, ◌+◌, ◌<◌, ◌≤◌, min, List, [], ◌∷◌, ◌++◌, length, get_or, take, drop, set, sym, refl, ap, ◌∙◌, arith, length-take-le}
use Rattle.std.proofs.lemmas.List.{take_more, take_more_set, drop-set-lt, drop-drop, get_or-take}
use Rattle.line.specs.Histories.{Done, Event, events}
use Rattle.line.specs.Histories.History.{then}
use Rattle.line.specs.Meaning.{Answer}

module _ {C : Type 0} where
  abbrev event : C → Answer → Event C
  event c r = record { call = c; answer = r }

  events_push : (cs : List C) (rs : List Answer) (c : C) (r : Answer) → length cs ≡ length rs → events (cs ++ c ∷ []) (rs ++ r ∷ []) ≡ events cs rs ++ event c r ∷ []
  events_push [] [] c r e = refl
  events_push [] (x ∷ rs) c r e = absurd (omega arith)
  events_push (x ∷ cs) [] c r e = absurd (omega arith)
  events_push (x ∷ cs) (y ∷ rs) c r e = ap (λ (l : List (Event C)). event x y ∷ l) (events_push cs rs c r (omega arith))

  events_more : (cs : List C) (rs : List Answer) (n : ℕ) (d : C) (r : Answer) → n < length cs → n < length rs
      → events (take (n + 1) cs) (take (n + 1) (set rs n r)) ≡ events (take n cs) (take n rs) ++ event (get_or cs n d) r ∷ []
  events_more cs rs n d r h k =
      let even : length (take n cs) ≡ length (take n rs) = length-take-le n cs (omega arith) ∙ sym (length-take-le n rs (omega arith)) in
      (λ i. events (take_more cs n d h i) (take_more_set rs n r k i)) ∙ events_push (take n cs) (take n rs) (get_or cs n d) r even

  -- the events end where the calls or the answers do
  events_front : (cs : List C) (rs : List Answer) (n : ℕ) → min (length cs) (length rs) ≤ n → events (take n cs) (take n rs) ≡ events cs rs
  events_front [] rs zero h = refl
  events_front [] rs (suc n) h = refl
  events_front (c ∷ cs) [] zero h = refl
  events_front (c ∷ cs) [] (suc n) h = refl
  events_front (c ∷ cs) (r ∷ rs) zero h = absurd (omega arith)
  events_front (c ∷ cs) (r ∷ rs) (suc n) h = ap (λ (l : List (Event C)). event c r ∷ l) (events_front cs rs n (omega arith))

  module _ {S : Type 0} {Step : S → C → Answer → S → Type 0} {start : S} (cs : List C) where
    -- one of the first `most` calls more was made
    pub done_more : {now next : S} (rs : List Answer) (most n : ℕ) (d : C) (r : Answer) → n < most → n < length cs → n < length rs
        → Done Step start (take n cs) (take n rs) now → Step now (get_or (take most cs) n d) r next
        → Done Step start (take (n + 1) cs) (take (n + 1) (set rs n r)) next
    done_more rs most n d r m h k past x = (
      then past.0 (get_or cs n d) r (rw get_or-take at x),
      ap (λ (l : List (Event C)). l ++ event (get_or cs n d) r ∷ []) past.1 ∙ sym (events_more cs rs n d r h k),
    )

    pub whole_done : {end : S} (rs : List Answer) (n : ℕ) → min (length cs) (length rs) ≤ n → Done Step start (take n cs) (take n rs) end → Done Step start cs rs end
    whole_done rs n h past = (past.0, past.1 ∙ events_front cs rs n h)

-- the answers that no call has reached yet stand
pub rest_done : (rs old : List Answer) (n : ℕ) (r : Answer) → drop n rs ≡ drop n old → drop (n + 1) (set rs n r) ≡ drop (n + 1) old
rest_done rs old n r e =
    drop-set-lt (n + 1) rs n r (omega arith) ∙ sym (drop-drop 1 n rs) ∙ ap (drop 1) e ∙ drop-drop 1 n old
