use Rattle.sl_model.specs.Losses.{losses}
use Rattle.sl_model.specs.Setup.{setup_of}
use Rattle.sl_model.specs.Books.{schedule_of}
use Rattle.sl_app.proofs.laws.served_worlds_are_in_window.Goals as goal

pub returns-clause-stepped : goal.returns-clause-stepped
returns-clause-stepped c = λ r book front nodes text run.
    let a = c.inputs_are_accepted.ensures run.accepted.bytes run.input run.accepted.input in
    c.worlds_are_in_window.ensures (setup_of run.input) (losses run.input) (schedule_of book) (record { made = a.net; right = a.right })

pub returns-clause-threaded : goal.returns-clause-threaded
returns-clause-threaded c = λ r book front nodes text run.
    let a = c.inputs_are_accepted.ensures run.accepted.bytes run.input run.accepted.input in
    c.worlds_are_in_window.ensures (setup_of run.input) (losses run.input) (schedule_of book) (record { made = a.net; right = a.right })
