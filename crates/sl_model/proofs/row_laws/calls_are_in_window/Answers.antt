use Rattle.sl_model.proofs.Saved.Windows.{next-calls-within, all-within}
use Rattle.sl_model.proofs.row_laws.calls_are_in_window.Goals as goal

pub returns-clause-next : goal.returns-clause-next
returns-clause-next c s lost es e i step n q x = next-calls-within s lost es e i step (c.nets_are_wired.ensures s.net n) ((c.nets_are_wired.ensures s.net n).few_channels e.0 i q) q x

pub returns-clause-all : goal.returns-clause-all
returns-clause-all c s lost es u i n q = all-within s lost es u i (c.nets_are_wired.ensures s.net n) ((c.nets_are_wired.ensures s.net n).few_channels u i q) q
