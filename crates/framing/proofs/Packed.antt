-- Bits and bytes: bits of bytes, put in bytes again.
use Rattle.std.proofs.Common.{◌≡◌, ℕ, zero, suc, ◌+◌, ◌*◌, ◌/◌, ◌<◌, ◌≤◌, min, Bool, List, [], ◌∷◌, ◌++◌, map, reverse, fold, length, sym, None, Some, Result, Vec, IfOk, vec_items, vec_len, refl, ap, ◌∙◌, subst, ap₂, arith, pow_mono}
use mathlib.Core.List.{reverse-cons}
use denote.Param.Members.{Mut, Called}
use denote.Ref.{Bor}
use Rattle.std.specs.Bool.{⊤}
use Rattle.std.proofs.lemmas.List.{length-append, map-append, length-reverse, reverse-reverse}
use Rattle.std.proofs.lemmas.List.Sums.{fold-append}
use Rattle.std.specs.Iterator.{Yields, DrainsIf}
use Rattle.std.proofs.lemmas.Result.{IfOk-weaker}
use Rattle.std.specs.Iterator.Adapters.{map_source, map_callee, map_steps, rev_source, rev_steps}
use Rattle.std.specs.Slice.Iter.{chunks_rest, chunks_size, chunks_steps, iter_rest, iter_steps_back}
use Rattle.fcs.specs.Fcs.{low_bits, byte_bits, bit_value, spelt}
use Rattle.fcs.proofs.Spelt.{spelt_lt, spelt_low_bits}
use Rattle.framing.specs.Bytes.{bytes, Bytes}

pub length_low_bits : (k n : ℕ) → length (low_bits k n) ≡ k
unfolding low_bits
length_low_bits zero n = refl
length_low_bits (suc k) n = ap suc (length_low_bits k (n / 2))

pub length_byte_bits : (g : List ℕ) → length (byte_bits g) ≡ 8 * length g
unfolding byte_bits
length_byte_bits [] = refl
length_byte_bits (b ∷ g) =
    omega (arith, length-append (low_bits 8 b) (byte_bits g), length_low_bits 8 b, length_byte_bits g)

bytes_front : (b : ℕ) → b < 256 → (m : List Bool) → bytes (low_bits 8 b ++ m) ≡ b ∷ bytes m
unfolding low_bits
bytes_front b h m = ap (λ (x : ℕ). x ∷ bytes m) (spelt_low_bits 8 b h)

-- the bits of bytes, put in bytes again, are these bytes
pub bytes_return : (g : List ℕ) → Bytes g → bytes (byte_bits g) ≡ g
unfolding byte_bits
bytes_return [] s = refl
bytes_return (b ∷ g) s = bytes_front b s.0 (byte_bits g) ∙ ap (λ (x : List ℕ). b ∷ x) (bytes_return g s.1)

-- bits fill an eighth as many bytes, rounded up
pub length_bytes : (s : List Bool) → length (bytes s) ≡ (length s + 7) / 8
length_bytes [] = refl
length_bytes (a ∷ []) = refl
length_bytes (a ∷ b ∷ []) = refl
length_bytes (a ∷ b ∷ c ∷ []) = refl
length_bytes (a ∷ b ∷ c ∷ d ∷ []) = refl
length_bytes (a ∷ b ∷ c ∷ d ∷ e ∷ []) = refl
length_bytes (a ∷ b ∷ c ∷ d ∷ e ∷ f ∷ []) = refl
length_bytes (a ∷ b ∷ c ∷ d ∷ e ∷ f ∷ g ∷ []) = refl
length_bytes (a ∷ b ∷ c ∷ d ∷ e ∷ f ∷ g ∷ h ∷ s) = omega (arith, length_bytes s)

-- fewer than eight bits leave room for one more
pub spelt_few : (bs : List Bool) → length bs ≤ 7 → spelt bs < 128
spelt_few bs few = omega (arith, spelt_lt bs, pow_mono few)

bytes_none : (bits : List Bool) → length bits ≡ 0 → bytes bits ≡ []
bytes_none [] e = refl
bytes_none (b ∷ bits) e = absurd (omega arith)

-- a chunk of bits from the front, eight or all that there are, is one byte
bytes_chunk : (chunk more : List Bool) → length chunk ≡ min 8 (length (chunk ++ more)) → 0 < length (chunk ++ more) → bytes (chunk ++ more) ≡ spelt chunk ∷ bytes more
bytes_chunk [] more e h = absurd (omega arith)
bytes_chunk (a ∷ []) [] e h = refl
bytes_chunk (a ∷ b ∷ []) [] e h = refl
bytes_chunk (a ∷ b ∷ c ∷ []) [] e h = refl
bytes_chunk (a ∷ b ∷ c ∷ d ∷ []) [] e h = refl
bytes_chunk (a ∷ b ∷ c ∷ d ∷ f ∷ []) [] e h = refl
bytes_chunk (a ∷ b ∷ c ∷ d ∷ f ∷ g ∷ []) [] e h = refl
bytes_chunk (a ∷ b ∷ c ∷ d ∷ f ∷ g ∷ i ∷ []) [] e h = refl
bytes_chunk (a ∷ b ∷ c ∷ d ∷ f ∷ g ∷ i ∷ j ∷ []) more e h = refl
bytes_chunk (a ∷ []) (x ∷ more) e h = absurd (omega arith)
bytes_chunk (a ∷ b ∷ []) (x ∷ more) e h = absurd (omega arith)
bytes_chunk (a ∷ b ∷ c ∷ []) (x ∷ more) e h = absurd (omega arith)
bytes_chunk (a ∷ b ∷ c ∷ d ∷ []) (x ∷ more) e h = absurd (omega arith)
bytes_chunk (a ∷ b ∷ c ∷ d ∷ f ∷ []) (x ∷ more) e h = absurd (omega arith)
bytes_chunk (a ∷ b ∷ c ∷ d ∷ f ∷ g ∷ []) (x ∷ more) e h = absurd (omega arith)
bytes_chunk (a ∷ b ∷ c ∷ d ∷ f ∷ g ∷ i ∷ []) (x ∷ more) e h = absurd (omega arith)
bytes_chunk (a ∷ b ∷ c ∷ d ∷ f ∷ g ∷ i ∷ j ∷ k ∷ chunk) more e h = absurd (omega arith)

-- what a chain makes of the chunks, one byte of each
pub bytes_of_chunks : {F : Type 0} (g : Mut F (Bor (List Bool) × Unit {0}) ℕ) (f : F)
    → ((x : Bor (List Bool)) (r : ℕ) (q : F) → Called g f (x, tt) r q → (q ≡ f) × (r ≡ spelt x.now))
    → (xs : List ℕ) (s t u : _) → chunks_size (map_source s) ≡ 8 → map_callee s ≡ f
    → Yields (map_steps chunks_steps g) s xs t → map_steps chunks_steps g t None u → xs ≡ bytes (chunks_rest (map_source s))
bytes_of_chunks g f h [] s t u eight same e end =
    sym (bytes_none (chunks_rest (map_source s)) (ap (λ k. length (chunks_rest (map_source k))) e ∙ end.0.1.0))
bytes_of_chunks g f h (y ∷ ys) s t u eight same (j, (x, step, call), more) end =
    let made = h x y (map_callee j) (subst (λ k. Called g k (x, tt) y (map_callee j)) same call) in
    let rest = bytes_of_chunks g f h ys j t u (step.0 ∙ eight) made.0 more end in
    let few : length x.now ≡ min 8 (length (x.now ++ chunks_rest (map_source j))) =
    step.1.1 ∙ ap₂ (λ n l. min n (length l)) eight step.1.0 in
    ap₂ ◌∷◌ made.1 rest
    ∙ sym (bytes_chunk x.now (chunks_rest (map_source j)) few (subst (λ l. 0 < length l) step.1.0 step.1.2))
    ∙ ap bytes (sym step.1.0)

pub collected : {F Z E : Type 0} (g : Mut F (Bor (List Bool) × Unit {0}) ℕ) (f : F)
    → ((x : Bor (List Bool)) (r : ℕ) (q : F) → Called g f (x, tt) r q → (q ≡ f) × (r ≡ spelt x.now))
    → (r : Result (Vec ℕ Z) E) (s : _) (bits : List Bool)
    → IfOk r (λ w. (xs : List ℕ) × DrainsIf (map_steps chunks_steps g) ⊤ s xs × ((vec_items w ≡ xs) × (vec_len w ≡ length xs)))
    → chunks_size (map_source s) ≡ 8 → map_callee s ≡ f → chunks_rest (map_source s) ≡ bits → IfOk r (λ w. vec_items w ≡ bytes bits)
collected g f h r s bits ran eight same all =
    IfOk-weaker r _ _
    (λ w (xs, (t, came, end), (made, long)).
    made ∙ bytes_of_chunks g f h xs s t (end tt).0 eight same came (end tt).1 ∙ ap bytes all)
    ran

-- ---- the bits of one byte, the last one first

abbrev pub above : ℕ → Bool → ℕ
above n b = 2 * n + bit_value b

pub fold_above : (bs : List Bool) → fold above 0 (reverse bs) ≡ spelt bs
fold_above [] = refl
fold_above (b ∷ bs) =
    ap (fold above 0) (reverse-cons b bs)
    ∙ fold-append above 0 (reverse bs) (b ∷ [])
    ∙ omega (arith, fold_above bs)

-- one bit more
pub fold_more : (xs : List (Bor Bool)) (x : Bor Bool) (n : ℕ) → n ≡ fold above 0 (map (λ y. y.now) xs)
    → above n x.now ≡ fold above 0 (map (λ y. y.now) (xs ++ (x ∷ [])))
fold_more xs x n e =
    ap (λ m. above m x.now) e
    ∙ sym (ap (fold above 0) (map-append (λ y. y.now) xs (x ∷ [])) ∙ fold-append above 0 (map (λ y. y.now) xs) (x.now ∷ []))

-- fewer than eight of them leave room for one more
pub fold_few : (bs : List Bool) → length bs ≤ 7 → fold above 0 bs < 128
fold_few bs few =
    let same = ap (fold above 0) (sym (reverse-reverse bs)) ∙ fold_above (reverse bs) in
    omega (arith, same, spelt_few (reverse bs) (omega (arith, few, length-reverse bs)))

rev_yields : (xs : List (Bor Bool)) (s t : _) → Yields (rev_steps iter_steps_back) s xs t
    → length xs + length (iter_rest (rev_source t)) ≡ length (iter_rest (rev_source s))
rev_yields [] s t e = omega (arith, ap (λ k. length (iter_rest (rev_source k))) e)
rev_yields (x ∷ xs) s t (j, step, more) =
    omega (arith, rev_yields xs j t more, ap length step, length-append (iter_rest (rev_source j)) (x.now ∷ []))

-- an item comes after fewer items than there are
pub rev_before : (xs : List (Bor Bool)) (s t u : _) (x : Bor Bool) (n : ℕ) → Yields (rev_steps iter_steps_back) s xs t
    → rev_steps iter_steps_back t (Some x) u → length (iter_rest (rev_source s)) ≤ n → length xs < n
rev_before xs s t u x n came next most =
    omega (arith, rev_yields xs s t came, ap length next, length-append (iter_rest (rev_source u)) (x.now ∷ []))
