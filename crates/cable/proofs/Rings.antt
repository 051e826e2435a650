-- The places of a ring, and what a cable's two changes leave of it.
use Rattle.std.proofs.Common.{◌≡◌, ℕ, ◌+◌, ◌-◌, ◌%◌, ◌<◌, ◌≤◌, min, Bool, eqb, ◌≢◌, ◌⊎◌, List, [], ◌∷◌, length, get_or, set, Ok, sym, ap, ◌∙◌, inl, inr, ⊎_elim, add_assoc, mod-lt, mod-eq_of_lt, arith}
use native.Mathlib.Nat.{mod-eq-sub-mod, mod-add-mod}
use Rattle.std.proofs.lemmas.List.{get_or-set_same, get_or-set_other, length-set}
use Rattle.std.proofs.lemmas.Bool.{cases_lt}
use Rattle.cable.specs.Cables.{ring, ring_written, cable_of, places_over, next_of}
use Rattle.line.specs.Kinds.{line_of}
use Rattle.line.specs.Levels.{level_of}
use Rattle.line.specs.Meaning.{Memory, appended, take_answer, take_after}
use Rattle.line.proofs.Counting.{line_appended, take_some}
use Rattle.line.proofs.Flags.{flag_of}

abbrev kept : List ℕ → ℕ → ℕ → Memory
kept bytes next borrow = record { bytes = bytes; next = next; borrows = borrow ∷ [] }

-- i modulo p, below twice p
wrap : (i p : ℕ) → i < p + p → ((i < p) × (i % p ≡ i)) ⊎ ((p ≤ i) × (i % p + p ≡ i))
wrap i p h =
    ⊎_elim
    (λ (l : i < p). inl (l, mod-eq_of_lt l))
    (λ (g : p ≤ i).
    let e : i % p ≡ i - p = mod-eq-sub-mod g ∙ mod-eq_of_lt (omega arith) in
    inr (g, omega arith))
    (cases_lt i p)

-- two places less than a whole turn apart are two bytes
apart_from : (p first k n : ℕ) → first < p → n < p → k < n → (first + k) % p ≢ (first + n) % p
apart_from p first k n a b c e =
    let x = wrap (first + k) p (omega arith) in
    let y = wrap (first + n) p (omega arith) in
    grind arith

-- the byte of a place, wherever the ring begins
pub place_is : (p first k : ℕ) → (first % p + k) % p ≡ (first + k) % p
place_is p first k = mod-add-mod first p k

apart : (p first k n : ℕ) → n < p → k < n → (first + k) % p ≢ (first + n) % p
apart p first k n b c e =
    apart_from p (first % p) k n (mod-lt first (omega arith)) b c (place_is p first k ∙ e ∙ sym (place_is p first n))

module _ (bytes : List ℕ) (p first n l : ℕ) (b : n < p) (w : p ≤ length bytes) where
  -- a put leaves the levels that wait
  ring_kept : (k : ℕ) → k < n → ring bytes p first k ≡ ring (set bytes ((first + n) % p) l) p first k
  ring_kept k c =
      let d = apart p first k n b c in
      ap (λ x. x % 2) (sym (get_or-set_other bytes ((first + n) % p) ((first + k) % p) l 0 d))

  -- and its level stands after them
  ring_added : l ≤ 1 → ring (set bytes ((first + n) % p) l) p first n ≡ l
  ring_added low =
      let m : (first + n) % p < p = mod-lt (first + n) (omega arith) in
      ap (λ x. x % 2) (get_or-set_same bytes ((first + n) % p) l 0 (omega arith)) ∙ mod-eq_of_lt {n = l} {m = 2} (omega arith)

-- a take moves each level one place on
ring_down : (bytes : List ℕ) (p first k : ℕ) → ring bytes p first (1 + k) ≡ ring bytes p ((first + 1) % p) k
ring_down bytes p first k =
    let e : (first + (1 + k)) % p ≡ ((first + 1) % p + k) % p = ap (λ i. i % p) (sym (add_assoc first 1 k)) ∙ sym (mod-add-mod (first + 1) p k) in
    ap (λ i. get_or bytes i 0 % 2) e

-- a cable from its parts, with p places and n levels
module _ (bytes : List ℕ) (first count : ℕ) (last : Bool) (p n : ℕ) (e : places_over (length bytes) ≡ p) (f : min count p ≡ n) where
  pub cable_is : cable_of bytes first count last ≡ line_of p (level_of last) (ring bytes p first) n
  cable_is =
      ap (λ q. line_of q (level_of last) (ring bytes q first) (min count q)) e ∙ ap (line_of p (level_of last) (ring bytes p first)) f

  next_is : next_of bytes first count ≡ (first + n) % p
  next_is = ap (λ q. (first + min count q) % q) e ∙ ap (λ m. (first + m) % p) f

-- a cable with one level more
module _ (bytes : List ℕ) (first n l : ℕ) (last : Bool) (p count : ℕ) (e : places_over (length bytes) ≡ p) (f : min count p ≡ n) (low : l ≤ 1) (room : n < p) where
  still : places_over (length (set bytes ((first + n) % p) l)) ≡ p
  still = ap places_over (length-set bytes ((first + n) % p) l) ∙ e

  grown : min (n + 1) p ≡ n + 1
  grown = omega arith

  pub more : cable_of (set bytes ((first + n) % p) l) first (n + 1) last ≡ appended (cable_of bytes first count last) l
  more =
      let w : p ≤ length bytes = omega arith in
      cable_is (set bytes ((first + n) % p) l) first (n + 1) last p (n + 1) still grown
      ∙ line_appended p (level_of last) n l (ring bytes p first) (ring (set bytes ((first + n) % p) l) p first)
      (ring_kept bytes p first n l room w) (ring_added bytes p first n l room w low)
      ∙ ap (λ m. appended m l) (sym (cable_is bytes first count last p n e f))

  more_next : next_of (set bytes ((first + n) % p) l) first (n + 1) ≡ (next_of bytes first count + 1) % p
  more_next =
      next_is (set bytes ((first + n) % p) l) first (n + 1) last p (n + 1) still grown
      ∙ ap (λ i. i % p) (sym (add_assoc first n 1)) ∙ sym (mod-add-mod (first + n) p 1)
      ∙ ap (λ i. (i + 1) % p) (sym (next_is bytes first count last p n e f))

  pub more_memory : (borrow : ℕ) → kept (set bytes ((first + n) % p) l) (next_of (set bytes ((first + n) % p) l) first (n + 1)) borrow
      ≡ ring_written p (kept bytes (next_of bytes first count) borrow) l
  more_memory borrow =
      let at = sym (next_is bytes first count last p n e f) in
      λ i. kept (set bytes (at i) l) (more_next i) borrow

-- a cable with one level less
module _ (bytes : List ℕ) (first n : ℕ) (last : Bool) (p count : ℕ) (e : places_over (length bytes) ≡ p) (f : min count p ≡ n) (some : 0 < n) where
  less : min (n - 1) p ≡ n - 1
  less = omega arith

  pub fewer :
      (Ok (get_or bytes ((first + 0) % p) 0 % 2) ≡ take_answer (cable_of bytes first count last))
      × (cable_of bytes ((first + 1) % p) (n - 1) (eqb (get_or bytes ((first + 0) % p) 0 % 2) 1) ≡ take_after (cable_of bytes first count last))
  fewer =
      let q = cable_is bytes first count last p n e f in
      let x = get_or bytes ((first + 0) % p) 0 % 2 in
      let whole : n ≡ n - 1 + 1 = omega arith in
      let a = take_some p (level_of last) n (n - 1) (ring bytes p first) (ring bytes p ((first + 1) % p)) whole (λ k _. ring_down bytes p first k) in (
        a.0 ∙ ap take_answer (sym q),
        cable_is bytes ((first + 1) % p) (n - 1) (eqb x 1) p (n - 1) e less
            ∙ ap (λ y. line_of p y (ring bytes p ((first + 1) % p)) (n - 1)) (flag_of x (omega arith))
            ∙ a.1 ∙ ap take_after (sym q),
      )

  same_next : next_of bytes ((first + 1) % p) (n - 1) ≡ next_of bytes first count
  same_next =
      let sum : first + 1 + (n - 1) ≡ first + n = omega arith in
      next_is bytes ((first + 1) % p) (n - 1) last p (n - 1) e less
      ∙ mod-add-mod (first + 1) p (n - 1) ∙ ap (λ i. i % p) sum
      ∙ sym (next_is bytes first count last p n e f)

  pub fewer_memory : (borrow : ℕ) → kept bytes (next_of bytes ((first + 1) % p) (n - 1)) borrow ≡ kept bytes (next_of bytes first count) borrow
  fewer_memory borrow i = kept bytes (same_next i) borrow
