use Rattle.std.proofs.Common.{◌≡◌, ◌+◌, ◌<◌, ◌≤◌, length, ap, subst, ◌∙◌, arith}
use Rattle.std.specs.Prelude.{map}
use Rattle.sl_layout.specs.Net.{data_channels}
use Rattle.sl_saves.specs.Calls.{saves, saved}
use Rattle.sl_saves.specs.Views.{IsLive, held_saved, read}
use Rattle.sl_model.specs.History.{id, last, first}
use Rattle.sl_model.proofs.Cuts.Collected.{least-start}
use Rattle.sl_model.specs.Calls.{calls}
use Rattle.sl_model.proofs.Saved.Entries.{number-calls}
use Rattle.sl_model.proofs.Saved.Rows.{saved-is-row}
use Rattle.sl_model.proofs.report_laws.brought_rows_are_read.Goals as goal

pub returns-clause-live : goal.returns-clause-live
returns-clause-live c net window u h m n credits cs view k b s w p q = let g = first n h in let l = least-start (map (λ c. last c g) (data_channels net u)) (id g) in let y = b.near k p in
    subst (λ j. k ≤ j → j < k + length view.slots → IsLive view j k) (number-calls cs g)
    (λ x y. c.shown_is_live.ensures credits view (calls cs g) k s (omega (arith, p)) x y) (omega (arith, q, l)) (omega (arith, y, w))

pub returns-clause-read : goal.returns-clause-read
returns-clause-read c net window u h m n credits cs view k b some s w p q = let g = first n h in let l = least-start (map (λ c. last c g) (data_channels net u)) (id g) in let y = b.near k p in
    subst (λ j. k ≤ j → j < k + length view.slots → read view j k ≡ held_saved (saved k (saves credits (calls cs g)))) (number-calls cs g)
    (λ x y. c.shown_is_read.ensures.held credits view (calls cs g) k s (omega (arith, p)) x y) (omega (arith, q, l)) (omega (arith, y, w))
    ∙ ap held_saved (saved-is-row credits cs g k some (omega (arith, p)) (omega (arith, q, l)))
