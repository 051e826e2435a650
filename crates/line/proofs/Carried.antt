-- A line carries levels in order: by induction over what was done.
use Rattle.std.proofs.Common.{◌≡◌, ℕ, List, [], ◌∷◌, ◌++◌, Ok, Err, sym, refl, ap, ◌∙◌, append_assoc, append-nil}
use Rattle.line.specs.Acts.{Shown, Happens, answer_to, left_by, put_by, taken_by, levels_put, levels_taken}
use Rattle.line.specs.Histories.{History}
use Rattle.line.specs.Histories.History.{none, then}
use Rattle.line.specs.Laws.{AlwaysCarries}
use Rattle.line.specs.Meaning.{Answer, Meaning, appended, if_accepted, latest, left_over, newest_level, oldest, put_answer}
use Rattle.line.specs.declared.act.Act.{Act}
use Rattle.line.specs.declared.act.Act.TheVariants.{Put, Take}

-- what one act moves
put_moves : (m : Meaning) (l : ℕ) (r : Answer) → m.waiting ++ put_by (Put l) r ≡ (if_accepted r (appended m l) m).waiting
put_moves m l (Ok n) = refl
put_moves m l (Err e) = append-nil m.waiting

take_moves : (ws : List ℕ) → ws ++ [] ≡ taken_by Take (oldest ws) ++ left_over ws
take_moves [] = refl
take_moves (x ∷ xs) = append-nil (x ∷ xs)

moves : (m : Meaning) (a : Act) → m.waiting ++ put_by a (answer_to a m) ≡ taken_by a (answer_to a m) ++ (left_by a m).waiting
moves m Take = take_moves m.waiting
moves m (Put l) = put_moves m l (put_answer m l)

put_keeps_last : (m : Meaning) (l : ℕ) (r : Answer) → (if_accepted r (appended m l) m).last ≡ m.last
put_keeps_last m l (Ok n) = refl
put_keeps_last m l (Err e) = refl

take_moves_last : (last : ℕ) (ws : List ℕ) → latest last ws ≡ newest_level last (taken_by Take (oldest ws))
take_moves_last last [] = refl
take_moves_last last (x ∷ xs) = refl

moves_last : (m : Meaning) (a : Act) → (left_by a m).last ≡ newest_level m.last (taken_by a (answer_to a m))
moves_last m Take = take_moves_last m.last m.waiting
moves_last m (Put l) = put_keeps_last m l (put_answer m l)

put_keeps_places : (m : Meaning) (l : ℕ) (r : Answer) → (if_accepted r (appended m l) m).places ≡ m.places
put_keeps_places m l (Ok n) = refl
put_keeps_places m l (Err e) = refl

keeps_places : (m : Meaning) (a : Act) → (left_by a m).places ≡ m.places
keeps_places m Take = refl
keeps_places m (Put l) = put_keeps_places m l (put_answer m l)

newest_append : (last : ℕ) (xs ys : List ℕ) → newest_level last (xs ++ ys) ≡ newest_level (newest_level last xs) ys
newest_append last [] ys = refl
newest_append last (x ∷ xs) ys = newest_append x xs ys

module _ {L : Type 0} {k : Shown L} {start : L} where
  all_levels : {end : L} (h : History (Happens k) start end) → (k.meaning start).waiting ++ levels_put h ≡ levels_taken h ++ (k.meaning end).waiting
  all_levels none = append-nil (k.meaning start).waiting
  all_levels {end} (then {before = b} h a r x) =
      let put = put_by a r in
      let took = taken_by a r in
      let step : (k.meaning b).waiting ++ put ≡ took ++ (k.meaning end).waiting =
      ap (λ v. (k.meaning b).waiting ++ put_by a v) x.answers
      ∙ moves (k.meaning b) a
      ∙ ap (λ v. taken_by a v ++ (left_by a (k.meaning b)).waiting) (sym x.answers)
      ∙ ap (λ (m : Meaning). took ++ m.waiting) (sym x.stands) in
      sym (append_assoc (k.meaning start).waiting (levels_put h) put)
      ∙ ap (λ v. v ++ put) (all_levels h)
      ∙ append_assoc (levels_taken h) (k.meaning b).waiting put
      ∙ ap (λ v. levels_taken h ++ v) step
      ∙ sym (append_assoc (levels_taken h) took (k.meaning end).waiting)

  last_taken : {end : L} (h : History (Happens k) start end) → (k.meaning end).last ≡ newest_level (k.meaning start).last (levels_taken h)
  last_taken none = refl
  last_taken {end} (then {before = b} h a r x) =
      ap (λ (m : Meaning). m.last) x.stands
      ∙ moves_last (k.meaning b) a
      ∙ ap (λ v. newest_level (k.meaning b).last (taken_by a v)) (sym x.answers)
      ∙ ap (λ v. newest_level v (taken_by a r)) (last_taken h)
      ∙ sym (newest_append (k.meaning start).last (levels_taken h) (taken_by a r))

  pub same_places : {end : L} (h : History (Happens k) start end) → (k.meaning end).places ≡ (k.meaning start).places
  same_places none = refl
  same_places (then {before = b} h a r x) =
      ap (λ (m : Meaning). m.places) x.stands ∙ keeps_places (k.meaning b) a ∙ same_places h

  pub always_carries : AlwaysCarries k start
  always_carries end h = record { levels = all_levels h; last = last_taken h; places = same_places h }
