use Rattle.std.proofs.Common.{rules, subst, ◌≡◌}
use Rattle.std.specs.Prelude.{true, false}
use Rattle.sl_model.specs.End.{IsFin}
use Rattle.sl_proto.specs.Standing.{world_of, run_at}
use Rattle.sl_proto.specs.Fronts.{Whatever, Nothing, SettlesBy, SweepsBy}
use Rattle.sl_proto.specs.Calls.{LeadsFrom, AllDone, MoreRounds, RoundsLeft}
use Rattle.sl_proto.proofs.Standing.{keeps_none, keeps_on}
use Rattle.sl_proto.proofs.Fronts.{leads-none, leads-somewhere, done-short, finishing-settling, finishing-round}
use Rattle.sl_proto.proofs.finishing.finish_by.Goals as goal

pub take_round-requires : goal.take_round-requires
take_round-requires g c = let kept = c.settle_by.ensures.keeps in record {
  plan = kept.plan;
  observer = kept.observer (c.loop-round.invariant.keeps.observer c.requires.observer);
  pass = c.requires.pass;
  sweep = c.requires.sweep;
}

pub loop-round-init : goal.loop-round-init
loop-round-init g c = let v = g.T.Taker.scene c.args.taker.now in record {
  keeps = keeps_none g.T.Taker.scene g.T.Taker.fixed c.args.net.now c.args.taker.now c.requires.plan;
  leads = λ x pos h. leads-none x.setup x.lost (IsFin x.setup x.lost (world_of x v)) (run_at x v);
}

pub loop-round-preserved : goal.loop-round-preserved
loop-round-preserved g c =
    let scene = g.T.Taker.scene in
    let now = scene c.loop-round.taker in
    let mid = scene c.settle_by.new.taker in
    let new = scene c.take_round.new.taker in
    let so_far = c.loop-round.invariant in
    let settles = c.in_ok-settle_by.ensures in
    let b : c.in_ok-take_round.field-0 ≡ true = search rules in
    record {
      keeps = keeps_on scene g.T.Taker.fixed c.args.net.now c.args.taker.now c.settle_by.new.taker c.take_round.new.taker
          (keeps_on scene g.T.Taker.fixed c.args.net.now c.args.taker.now c.loop-round.taker c.settle_by.new.taker so_far.keeps settles.keeps) c.take_round.ensures.keeps;
      leads = λ x pos h. let there = so_far.keeps.stands x h in
          finishing-round x (scene c.args.taker.now) now mid (so_far.leads x pos h) new (IsFin x.setup x.lost (world_of x new)) (settles.leads x there)
          (subst (λ b. LeadsFrom x SweepsBy mid (MoreRounds x new b) new) b (c.in_ok-take_round.ensures.leads x pos (settles.keeps.stands x there) (settles.settled x there)));
    }

pub returns-in_err-settle_by-clause-leads : goal.returns-in_err-settle_by-clause-leads
returns-in_err-settle_by-clause-leads g c x pos h = let scene = g.T.Taker.scene in let so_far = c.loop-round.invariant in
    let old = scene c.args.taker.now in
    let now = scene c.loop-round.taker in
    let mid = scene c.settle_by.new.taker in
    done-short x.setup x.lost (IsFin x.setup x.lost (world_of x old)) Whatever (run_at x old) (run_at x mid) c.from_residual.result (search rules)
    (finishing-settling x old now mid (so_far.leads x pos h)
    (leads-somewhere x.setup x.lost (SettlesBy x.setup x.lost (world_of x now)) (AllDone c.settle_by.result) (run_at x now) (run_at x mid) (c.settle_by.ensures.leads x (so_far.keeps.stands x h))))

pub returns-in_err-take_round-clause-leads : goal.returns-in_err-take_round-clause-leads
returns-in_err-take_round-clause-leads g c x pos h =
    let scene = g.T.Taker.scene in
    let so_far = c.loop-round.invariant in
    let settles = c.in_ok-settle_by.ensures in
    let there = so_far.keeps.stands x h in
    let old = scene c.args.taker.now in
    let new = scene c.take_round.new.taker in
    let left = RoundsLeft x new c.take_round.result in
    done-short x.setup x.lost (IsFin x.setup x.lost (world_of x old)) left (run_at x old) (run_at x new) c.from_residual-in_err-take_round.result (search rules)
    (finishing-round x old (scene c.loop-round.taker) (scene c.settle_by.new.taker) (so_far.leads x pos h) new left (settles.leads x there)
    (c.take_round.ensures.leads x pos (settles.keeps.stands x there) (settles.settled x there)))

pub returns-then-not-branch-clause-leads : goal.returns-then-not-branch-clause-leads
returns-then-not-branch-clause-leads g c x pos h =
    let scene = g.T.Taker.scene in
    let mid = scene c.settle_by.new.taker in
    let new = scene c.take_round.new.taker in
    let so_far = c.loop-round.invariant in
    let settles = c.in_ok-settle_by.ensures in
    let there = so_far.keeps.stands x h in
    let b : c.in_ok-take_round.field-0 ≡ false = search rules in
    finishing-round x (scene c.args.taker.now) (scene c.loop-round.taker) mid (so_far.leads x pos h) new Nothing (settles.leads x there)
    (subst (λ b. LeadsFrom x SweepsBy mid (MoreRounds x new b) new) b (c.in_ok-take_round.ensures.leads x pos (settles.keeps.stands x there) (settles.settled x there)))

pub returns-clause-leads : goal.returns-clause-leads
returns-clause-leads g c x pos h =
    let old = run_at x (g.T.Taker.scene c.args.taker.now) in
    let now = run_at x (g.T.Taker.scene c.loop-round.taker) in
    leads-somewhere x.setup x.lost (IsFin x.setup x.lost old.world) (IsFin x.setup x.lost now.world) old now (c.loop-round.invariant.leads x pos h)

pub returns-in_err-settle_by-clause-keeps : goal.returns-in_err-settle_by-clause-keeps
returns-in_err-settle_by-clause-keeps g c = keeps_on g.T.Taker.scene g.T.Taker.fixed c.args.net.now c.args.taker.now c.loop-round.taker c.settle_by.new.taker c.loop-round.invariant.keeps c.settle_by.ensures.keeps

pub returns-in_err-take_round-clause-keeps : goal.returns-in_err-take_round-clause-keeps
returns-in_err-take_round-clause-keeps g c = keeps_on g.T.Taker.scene g.T.Taker.fixed c.args.net.now c.args.taker.now c.settle_by.new.taker c.take_round.new.taker
    (keeps_on g.T.Taker.scene g.T.Taker.fixed c.args.net.now c.args.taker.now c.loop-round.taker c.settle_by.new.taker c.loop-round.invariant.keeps c.settle_by.ensures.keeps) c.take_round.ensures.keeps

pub returns-then-not-branch-clause-keeps : goal.returns-then-not-branch-clause-keeps
returns-then-not-branch-clause-keeps g c = keeps_on g.T.Taker.scene g.T.Taker.fixed c.args.net.now c.args.taker.now c.settle_by.new.taker c.take_round.new.taker
    (keeps_on g.T.Taker.scene g.T.Taker.fixed c.args.net.now c.args.taker.now c.loop-round.taker c.settle_by.new.taker c.loop-round.invariant.keeps c.settle_by.ensures.keeps) c.take_round.ensures.keeps

pub returns-clause-keeps : goal.returns-clause-keeps
returns-clause-keeps g c = c.loop-round.invariant.keeps
