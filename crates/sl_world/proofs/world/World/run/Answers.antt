use Rattle.sl_world.proofs.world.World.run.Goals as goal

pub returns-in-Some : goal.returns-in-Some
returns-in-Some g c = let e = c.run_by.ensures in record { ok = e.ok; front = e.front; plan = e.plan; book = e.book }

pub returns-in-None : goal.returns-in-None
returns-in-None g c = let e = c.run_each.ensures in record { ok = e.ok; front = e.front; plan = e.plan; book = e.book }
