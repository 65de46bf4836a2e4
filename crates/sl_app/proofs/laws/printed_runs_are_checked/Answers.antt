use Rattle.std.proofs.Common.{◌≤◌, List, ℕ, length, sym, subst}
use Rattle.std.specs.Prelude.{Ok}
use Rattle.sl_check.specs.declared.answer.Checked.TheVariants.{Yes}
use Rattle.sl_check.specs.Answer.{IsChecked}
use Rattle.sl_app.specs.Printed.{claimed}
use Rattle.sl_app.proofs.laws.printed_runs_are_checked.Goals as goal

pub returns-clause-stepped : goal.returns-clause-stepped
returns-clause-stepped c = λ bytes book front nodes text lines read printed few. subst (λ (t : List ℕ). IsChecked (claimed bytes t) (Ok Yes)) (sym printed.text_is)
    (c.printed_runs_are_right.ensures bytes book lines read (printed.run.run.legal, printed.run.ended.finished)
    (subst (λ (t : List ℕ). length (claimed bytes t) ≤ 4194304) printed.text_is few))

pub returns-clause-threaded : goal.returns-clause-threaded
returns-clause-threaded c = λ bytes book front nodes text lines read printed few. subst (λ (t : List ℕ). IsChecked (claimed bytes t) (Ok Yes)) (sym printed.text_is)
    (c.printed_runs_are_right.ensures bytes book lines read (printed.run.legal, printed.run.ended.finished)
    (subst (λ (t : List ℕ). length (claimed bytes t) ≤ 4194304) printed.text_is few))
