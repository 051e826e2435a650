-- The register over bits in two parts, and the bits of bytes and of bits. Assumes nothing.
use Rattle.std.proofs.Common.{◌≡◌, ℕ, ◌+◌, ◌<◌, Bool, List, [], ◌∷◌, ◌++◌, length, get_or, take, sym, refl, ap, ◌∙◌, append-nil}
use Rattle.std.specs.List.{flat_map}
use Rattle.std.proofs.lemmas.List.{map-id, take_more}
use Rattle.std.proofs.lemmas.List.Concat.{flat_map_single, flat_map-append}
use Rattle.fcs.specs.Fcs.{bit_step, register_after, low_bits, byte_bits}

pub after_append : (r : ℕ) (xs ys : List Bool) → register_after r (xs ++ ys) ≡ register_after (register_after r xs) ys
unfolding register_after
after_append r [] ys = refl
after_append r (x ∷ xs) ys = after_append (bit_step r x) xs ys

-- what the units of a list of bytes spell, and those of a list of bits
pub bits_of_bytes : (bytes : List ℕ) → flat_map (low_bits 8) bytes ≡ byte_bits bytes
unfolding byte_bits
bits_of_bytes [] = refl
bits_of_bytes (byte ∷ bytes) = ap (λ l. low_bits 8 byte ++ l) (bits_of_bytes bytes)

pub bits_of_bits : (bits : List Bool) → flat_map (λ b. b ∷ []) bits ≡ bits
bits_of_bits bits = flat_map_single (λ b. b) bits ∙ map-id bits

-- one unit more
pub after_more : {X : Type 0} (bits : X → List Bool) (r : ℕ) (xs : List X) (i : ℕ) (x : X) → i < length xs → x ≡ get_or xs i x
    → register_after (register_after r (flat_map bits (take i xs))) (bits x) ≡ register_after r (flat_map bits (take (i + 1) xs))
after_more bits r xs i x within read =
    let one : take (i + 1) xs ≡ take i xs ++ (x ∷ []) = take_more xs i x within ∙ ap (λ y. take i xs ++ (y ∷ [])) (sym read) in
    sym
    (ap (λ l. register_after r (flat_map bits l)) one
    ∙ ap (register_after r) (flat_map-append bits (take i xs) (x ∷ []) ∙ ap (λ l. flat_map bits (take i xs) ++ l) (append-nil (bits x)))
    ∙ after_append r (flat_map bits (take i xs)) (bits x))
