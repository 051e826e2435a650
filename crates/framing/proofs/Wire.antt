-- Content bits on their way: what the reader holds since the opening flag.
use Rattle.std.proofs.Common.{◌≡◌, ℕ, zero, suc, ◌+◌, ◌≤◌, Bool, true, false, List, [], ◌∷◌, ◌++◌, reverse, refl, ap, ◌∙◌, arith}
use mathlib.Core.List.{reverse_aux}
use Rattle.std.proofs.lemmas.Bool.{le-leb, lt-leb}
use Rattle.framing.specs.Reading.{ones, flag_ends, Place, since, also, place, deleted, judged, closed_by_flag, stretches}
use Rattle.framing.proofs.Steps.{place_bit, stretches_bit, stretches_flag}

-- the run of 1s after a content bit, before a 0 is inserted
abbrev pub run_with : Bool → ℕ → ℕ
run_with true k = suc k
run_with false k = 0

-- Of the content bits `all`, the newest first, those in `to_come` are still to come; k is the run of 1s.
pub record Sending (h to_come : List Bool) (k : ℕ) (all : List Bool) : Type 0 where
  pub raw : List Bool
  pub stands : place h ≡ since raw
  pub same : ones h ≡ ones raw
  pub run : k ≡ ones raw
  pub few : k ≤ 5
  pub rest : reverse_aux to_come (deleted raw) ≡ all

pub sending_start : (h c : List Bool) → place h ≡ since [] → ones h ≡ 0 → Sending h c 0 (reverse c)
sending_start h c p o = record { raw = []; stands = p; same = o; run = refl; few = omega arith; rest = refl }

run_is : (b : Bool) (s : List Bool) (k : ℕ) → k ≡ ones s → run_with b k ≡ ones (b ∷ s)
run_is true s k e = ap suc e
run_is false s k e = refl

run_few : (b : Bool) (k : ℕ) → k ≤ 4 → run_with b k ≤ 5
run_few true k h = omega arith
run_few false k h = omega arith

deleted_kept : (b : Bool) (s : List Bool) → ones s ≤ 4 → deleted (b ∷ s) ≡ b ∷ deleted s
deleted_kept true s h = refl
deleted_kept false s h = rw (lt-leb 5 (ones s) (omega arith))

same_on : (b : Bool) (h s : List Bool) → ones h ≡ ones s → ones (b ∷ h) ≡ ones (b ∷ s)
same_on true h s e = ap suc e
same_on false h s e = refl

-- a content bit is given
pub sending_bit :
    (h : List Bool) (b : Bool) (to_come : List Bool) (k : ℕ) (all : List Bool) →
    Sending h (b ∷ to_come) k all →
    k ≤ 4 →
    Sending (b ∷ h) to_come (run_with b k) all
sending_bit h b to_come k all s l =
    record {
      raw = b ∷ s.raw;
      stands = place_bit b h (omega (arith, s.same, s.run)) ∙ ap (also b) s.stands;
      same = same_on b h s.raw s.same;
      run = run_is b s.raw k s.run;
      few = run_few b k l;
      rest = ap (reverse_aux to_come) (deleted_kept b s.raw (omega (arith, s.run))) ∙ s.rest;
    }

-- a 0 is inserted
pub sending_zero :
    (h to_come : List Bool) (k : ℕ) (all : List Bool) → Sending h to_come k all → k ≡ 5 → Sending (false ∷ h) to_come 0 all
sending_zero h to_come k all s l =
    record {
      raw = false ∷ s.raw;
      stands = place_bit false h (omega (arith, s.same, s.run)) ∙ ap (also false) s.stands;
      same = refl;
      run = refl;
      few = omega arith;
      rest = ap (reverse_aux to_come) dropped ∙ s.rest;
    }
  where
    dropped : deleted (false ∷ s.raw) ≡ deleted s.raw
    dropped = rw (le-leb 5 (ones s.raw) (omega (arith, s.run)))

pub sending_stretches :
    (h : List Bool) (b : Bool) (to_come : List Bool) (k : ℕ) (all : List Bool) → Sending h to_come k all → stretches (b ∷ h) ≡ stretches h
sending_stretches h b to_come k all s = stretches_bit b h (omega (arith, s.same, s.run, s.few))

-- n 1s after other bits
abbrev pub with_ones : ℕ → List Bool → List Bool
with_ones zero x = x
with_ones (suc n) x = true ∷ with_ones n x

ones_with_ones : (j : ℕ) (x : List Bool) → ones (with_ones j (false ∷ x)) ≡ j
ones_with_ones zero x = refl
ones_with_ones (suc j) x = ap suc (ones_with_ones j x)

-- A flag with k of its 1s to come.
pub record Flagging (h : List Bool) (k : ℕ) : Type 0 where
  pub past : ℕ
  pub before : List Bool
  pub counts : past + k ≡ 6
  pub bits_are : h ≡ with_ones past (false ∷ before)

pub flagging_start : (h : List Bool) → Flagging (false ∷ h) 6
flagging_start h = record { past = 0; before = h; counts = refl; bits_are = refl }

pub flagging_one : (h : List Bool) (k : ℕ) → Flagging h (suc k) → Flagging (true ∷ h) k
flagging_one h k f =
    record {
      past = suc f.past;
      before = f.before;
      counts = omega (arith, f.counts);
      bits_are = ap (λ (x : List Bool). true ∷ x) f.bits_are;
    }

pub flagging_ends : (h : List Bool) → Flagging h 0 → flag_ends (false ∷ h) ≡ true
flagging_ends h f =
    let e : f.past ≡ 6 = omega (arith, f.counts) in
    ap (λ (x : List Bool). flag_ends (false ∷ x)) (f.bits_are ∙ ap (λ (n : ℕ). with_ones n (false ∷ f.before)) e)

-- A closing flag with k of its 1s to come, after the content bits `all`, the newest first.
pub record Closing (h : List Bool) (k : ℕ) (all : List Bool) : Type 0 where
  pub flagging : Flagging h k
  pub raw : List Bool
  pub stands : place h ≡ since (with_ones flagging.past (false ∷ raw))
  pub rest : deleted raw ≡ all

pub closing_start : (h : List Bool) (k : ℕ) (all : List Bool) → Sending h [] k all → Closing (false ∷ h) 6 all
unfolding flagging_start
closing_start h k all s =
    record {
      flagging = flagging_start h;
      raw = s.raw;
      stands = place_bit false h (omega (arith, s.same, s.run, s.few)) ∙ ap (also false) s.stands;
      rest = s.rest;
    }

few_ones : (h : List Bool) (k : ℕ) → Flagging h (suc k) → ones h ≤ 5
few_ones h k f =
    let e : ones h ≡ f.past = ap ones f.bits_are ∙ ones_with_ones f.past f.before in
    omega (arith, f.counts)

pub closing_one : (h : List Bool) (k : ℕ) (all : List Bool) → Closing h (suc k) all → Closing (true ∷ h) k all
unfolding flagging_one
closing_one h k all c =
    record {
      flagging = flagging_one h k c.flagging;
      raw = c.raw;
      stands = place_bit true h (few_ones h k c.flagging) ∙ ap (also true) c.stands;
      rest = c.rest;
    }

pub closing_ends : (h all : List Bool) → Closing h 0 all → stretches (false ∷ h) ≡ stretches h ++ (judged (reverse all) ∷ [])
closing_ends h all c =
    let e : c.flagging.past ≡ 6 = omega (arith, c.flagging.counts) in
    stretches_flag h (flagging_ends h c.flagging) ∙
    ap (λ (v : Place). stretches h ++ closed_by_flag v) (c.stands ∙ ap (λ (n : ℕ). since (with_ones n (false ∷ c.raw))) e) ∙
    ap (λ (d : List Bool). stretches h ++ (judged (reverse d) ∷ [])) c.rest
