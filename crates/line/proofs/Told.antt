-- What is told from a history is told from its acts and answers alone.
use Rattle.std.proofs.Common.{◌≡◌, List, [], ◌∷◌, ◌++◌, sym, refl, ap, ◌∙◌, append_assoc, append-nil}
use Rattle.line.specs.Acts.{Happens, Shown, accepted_levels, levels_put, put_by}
use Rattle.line.specs.Histories.{Event, History, told}
use Rattle.line.specs.Histories.History.{none, then}
use Rattle.line.specs.declared.act.Act.{Act}

accepted_push : (es : List (Event Act)) (e : Event Act) → accepted_levels (es ++ e ∷ []) ≡ accepted_levels es ++ put_by e.call e.answer
accepted_push [] e = append-nil (put_by e.call e.answer)
accepted_push (x ∷ es) e =
    ap (λ ls. put_by x.call x.answer ++ ls) (accepted_push es e)
    ∙ sym (append_assoc (put_by x.call x.answer) (accepted_levels es) (put_by e.call e.answer))

pub levels_told : {L : Type 0} {k : Shown L} {start end : L} (h : History (Happens k) start end) → levels_put h ≡ accepted_levels (told h)
levels_told none = refl
levels_told (then h act r x) =
    ap (λ ls. ls ++ put_by act r) (levels_told h) ∙ sym (accepted_push (told h) (record { call = act; answer = r }))
