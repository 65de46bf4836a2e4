use Rattle.std.proofs.Common.{◌≡◌, ◌+◌, ◌<◌, ◌≤◌, length, sym, ap, subst, ◌∙◌}
use Rattle.sl_saves.specs.Calls.{saves, saved}
use Rattle.sl_saves.specs.Views.{IsFitting, held_saved, read}
use Rattle.sl_model.specs.Calls.{calls}
use Rattle.sl_model.proofs.Saved.Entries.{number-calls}
use Rattle.sl_model.proofs.Saved.Rows.{saved-is-row}
use Rattle.sl_model.proofs.saved_laws.read_is_row.Goals as goal

pub returns-clause-held : goal.returns-clause-held
returns-clause-held c n cs h view k some s one p l =
    subst (λ m. k ≤ m → m < k + length view.slots → read view m k ≡ held_saved (saved k (saves n (calls cs h)))) (number-calls cs h)
    (λ p l. c.shown_is_read.ensures.held n view (calls cs h) k s one p l) p l
    ∙ ap held_saved (saved-is-row n cs h k some one p)

pub returns-clause-fitting : goal.returns-clause-fitting
returns-clause-fitting c n cs h view k some s one p l f =
    subst (λ m. k ≤ m → m < k + length view.slots → read view m k ≡ saved k (saves n (calls cs h))) (number-calls cs h)
    (λ q m. c.shown_is_read.ensures.fitting n view (calls cs h) k s one q m (subst IsFitting (sym (saved-is-row n cs h k some one p)) f)) p l
    ∙ saved-is-row n cs h k some one p
