-- Lists f 0, f 1, .. of n levels, as queues.
use Rattle.std.proofs.Common.{◌≡◌, ℕ, ◌+◌, ◌<◌, ◌≤◌, [], ◌∷◌, ◌++◌, map, Some, None, Ok, sym, refl, ap, ◌∙◌, zero-add, add-one, arith}
use Rattle.std.specs.List.{slice_get, range_with_len}
use Rattle.std.proofs.lemmas.List.FromFn.{length-map-range_with_len, get_or-map-range_with_len, map-range_with_len_more}
use Rattle.std.proofs.lemmas.List.{ext_get_or}
use Rattle.std.proofs.lemmas.Option.{slice_get-get_or, slice_get_past}
use Rattle.line.specs.Soundness.{length_counted, get_or_counted}
use Rattle.line.specs.Kinds.{counted, line_of}
use Rattle.line.specs.Meaning.{oldest, latest, left_over, appended, take_answer, take_after}

from_places : (f g : ℕ → ℕ) (a b n : ℕ) → ((k : ℕ) → k < n → f (a + k) ≡ g (b + k)) → map f (range_with_len a n) ≡ map g (range_with_len b n)
from_places f g a b n h =
    ext_get_or 0 (map f (range_with_len a n)) (map g (range_with_len b n))
    (length-map-range_with_len f a n ∙ sym (length-map-range_with_len g b n))
    (λ i l.
    let e = length-map-range_with_len f a n in
    let t : i < n = omega arith in
    get_or-map-range_with_len f a n i (a + i) 0 t refl ∙ h i t ∙ sym (get_or-map-range_with_len g b n i (b + i) 0 t refl))

pub counted_same : (f g : ℕ → ℕ) (n : ℕ) → ((k : ℕ) → k < n → f k ≡ g k) → counted f n ≡ counted g n
counted_same f g n h = from_places f g 0 0 n (λ k l. rw zero-add (h k l))

-- a put
pub counted_push : (f g : ℕ → ℕ) (n l : ℕ) → ((k : ℕ) → k < n → f k ≡ g k) → g n ≡ l → counted g (n + 1) ≡ counted f n ++ l ∷ []
counted_push f g n l h e =
    let s = counted_same f g n h in
    map-range_with_len_more g 0 n n (zero-add n) ∙ ap (λ xs. xs ++ g n ∷ []) (sym s) ∙ ap (λ x. counted f n ++ x ∷ []) e

-- a take
pub counted_pull : (f g : ℕ → ℕ) (n : ℕ) → ((k : ℕ) → k < n → f (1 + k) ≡ g k) → counted f (n + 1) ≡ f 0 ∷ counted g n
counted_pull f g n h =
    rw add-one (ap (λ xs. f 0 ∷ xs) (from_places f g 1 0 n (λ k l. rw (zero-add k) (h k l))))

pub counted_at : (f : ℕ → ℕ) (n k : ℕ) → k < n → slice_get (counted f n) k ≡ Some (f k)
counted_at f n k h =
    let e = length_counted f n in
    slice_get-get_or (counted f n) k 0 (omega arith) ∙ ap Some (get_or_counted f n k h)

pub counted_past : (f : ℕ → ℕ) (n k : ℕ) → n ≤ k → slice_get (counted f n) k ≡ None
counted_past f n k h = let e = length_counted f n in slice_get_past (counted f n) k (omega arith)

pub ruleset counted_lemmas = (counted_at, counted_past)

-- what one put and one take do to a line that is given by its places
pub line_appended : (p last n l : ℕ) (f g : ℕ → ℕ) → ((k : ℕ) → k < n → f k ≡ g k) → g n ≡ l → line_of p last g (n + 1) ≡ appended (line_of p last f n) l
line_appended p last n l f g same new =
    ap (λ xs. record { places = p; last = last; waiting = xs }) (counted_push f g n l same new)

pub take_some : (p last n m : ℕ) (f g : ℕ → ℕ) → n ≡ m + 1 → ((k : ℕ) → k < m → f (1 + k) ≡ g k) → (Ok (f 0) ≡ take_answer (line_of p last f n)) × (line_of p (f 0) g m ≡ take_after (line_of p last f n))
take_some p last n m f g e same =
    let q : counted f n ≡ f 0 ∷ counted g m = ap (counted f) e ∙ counted_pull f g m same in
    (sym (ap oldest q), sym (ap (λ xs. record { places = p; last = latest last xs; waiting = left_over xs }) q))
