use Rattle.std.proofs.Common.{◌≡◌, ℕ, ◌+◌, ◌<◌, List, [], ◌∷◌, ◌++◌, length, take, get_or, sym, ap, ◌∙◌}
use Rattle.std.proofs.lemmas.List.{take_more, take_all, map-append}
use Rattle.sl_machine.specs.declared.wiring.Entry.{Entry}
use Rattle.sl_model.specs.Books.{schedule_of}
use Rattle.sl_app.proofs.polling.schedule_of.Goals as goal

-- one entry more
schedule-more : (es : List Entry) (i : ℕ) (d : Entry) (before after : List (ℕ × ℕ)) → i < length es → before ≡ schedule_of (take i es) → after ≡ before ++ ((get_or es i d).actor, (get_or es i d).choice) ∷ [] → after ≡ schedule_of (take (i + 1) es)
schedule-more es i d before after low is more =
    more ∙ ap (λ (s : List (ℕ × ℕ)). s ++ ((get_or es i d).actor, (get_or es i d).choice) ∷ []) is
    ∙ sym (ap schedule_of (take_more es i d low) ∙ map-append (λ (e : Entry). (e.actor, e.choice)) (take i es) (get_or es i d ∷ []))

pub loop-entry-preserved : goal.loop-entry-preserved
loop-entry-preserved c = schedule-more c.args.entries.now c.loop-entry.entry-index _ _ _ c.loop-entry-test.true c.loop-entry.invariant c.in_ok-push.ensures.items

pub returns : goal.returns
returns c = c.loop-entry.invariant ∙ ap schedule_of (take_all c.loop-entry.entry-index c.args.entries.now c.loop-entry-test.false)
