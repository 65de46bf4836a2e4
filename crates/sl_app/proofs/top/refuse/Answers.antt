use Rattle.sl_app.proofs.EndLemmas.{err_fault}
use Rattle.sl_app.proofs.top.refuse.Goals as goal

pub returns-in-Err : goal.returns-in-Err
returns-in-Err g c =
    err_fault _ _ _ _ _ _ c.args.refusal.now c.text.result.now _ c.text.ensures c.in-Err.ensures.part c.in-Err.ensures.never_falls c.in-Err.ensures.fault
    c.tell_write_fault.ensures.told c.tell_write_fault.ensures.never_falls c.ended_without-in-Err.ensures
