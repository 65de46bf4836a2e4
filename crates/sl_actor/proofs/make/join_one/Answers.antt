use Rattle.std.proofs.Common.{refl}
use Rattle.sl_actor.proofs.make.join_one.Goals as goal

pub fill_at-requires-2-clause-row : goal.fill_at-requires-2-clause-row
fill_at-requires-2-clause-row g c = c.requires.from

pub fill_at-requires-2-clause-place : goal.fill_at-requires-2-clause-place
fill_at-requires-2-clause-place g c = c.requires.out

pub fill_at-requires-clause-row : goal.fill_at-requires-clause-row
fill_at-requires-clause-row g c = c.requires.to

pub fill_at-requires-clause-place : goal.fill_at-requires-clause-place
fill_at-requires-clause-place g c = c.requires.choice

pub returns-clause-joins : goal.returns-clause-joins
returns-clause-joins g c =
    let e = c.in_ok-put.ensures in
    record {
      end = c.in_ok-put.take;
      part = record { put = c.in_ok-put.put; outbox = c.new.result; loss = c.args.loss; lost = 0 };
      takes_are = c.fill_at.ensures;
      outs_are = c.fill_at-2.ensures;
      channel = e.channel;
      loss_is = refl;
      capacity_is = e.capacity;
      new_end = e.taken;
      new_part = record { put = e.put; empty = c.new.ensures.len; loss = c.requires.loss; lost = refl };
    }
