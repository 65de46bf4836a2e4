use Rattle.std.proofs.Common.{rules}
use Rattle.sl_link.proofs.Moves.{puts_as, found, full_tells}
use Rattle.sl_link.proofs.ends.PutEnd.offer_again.Goals as goal

pub try_send_as-requires-clause-rule : goal.try_send_as-requires-clause-rule
try_send_as-requires-clause-rule g c = puts_as _ _ _ _ _ _ c.loop.invariant.1

pub returns-in-Err-Full-clause-full : goal.returns-in-Err-Full-clause-full
returns-in-Err-Full-clause-full g c = record { same_message = search rules; same_list = search rules; full = found _ _ (search rules); room = full_tells _ _ _ (found _ _ (search rules)) }
