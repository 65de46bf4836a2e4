use Rattle.std.proofs.Common.{inl, rules}
use Rattle.sl_app.specs.Served.{states_of}
use borrow.Author.Tests.{tests}
use Rattle.sl_app.proofs.top.one_thread.Goals as goal

pub returns-in-Ok : goal.returns-in-Ok
returns-in-Ok g c = inl (record { book = c.in-Ok.served.book; front = c.in-Ok.served.front; nodes = states_of c.in-Ok.served.nodes; status = c.in-Ok.served.status; text = c.in-Ok.served.text.items; served = c.in-Ok.ensures; reports = c.report.ensures })

pub returns-in-Err : goal.returns-in-Err
returns-in-Err c = search (tests, rules)
