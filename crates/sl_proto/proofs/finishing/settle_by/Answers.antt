use Rattle.std.proofs.Common.{◌∙◌, arith, rules}
use Rattle.sl_proto.specs.Standing.{world_of, run_at}
use Rattle.sl_proto.specs.Fronts.{SettlesBy, Whatever}
use Rattle.sl_proto.proofs.Standing.{keeps_none, keeps_on}
use Rattle.sl_proto.proofs.Fronts.{leads-none, leads-somewhere, done-short, pass-front, pass-more, pass-ends, pass-settles}
use Rattle.sl_proto.proofs.finishing.settle_by.Goals as goal

pub loop-pass-init : goal.loop-pass-init
loop-pass-init g c = let v = g.T.Taker.scene c.args.taker.now in record {
  keeps = keeps_none g.T.Taker.scene g.T.Taker.fixed c.args.net.now c.args.taker.now c.requires.plan;
  leads = λ x h. leads-none x.setup x.lost (SettlesBy x.setup x.lost (world_of x v)) (run_at x v);
}

pub loop-pass-preserved : goal.loop-pass-preserved
loop-pass-preserved g c = let scene = g.T.Taker.scene in let so_far = c.loop-pass.invariant in let step = c.in_ok-drive.ensures.driven in record {
  keeps = keeps_on scene g.T.Taker.fixed c.args.net.now c.args.taker.now c.loop-pass.taker c.drive.new.taker so_far.keeps step.keeps;
  leads = λ x h. let there = so_far.keeps.stands x h in
      pass-more c.args.net.now x (scene c.args.taker.now) (scene c.loop-pass.taker) (scene c.drive.new.taker) c.as_slice.result.now (c.as_slice.ensures.value ∙ c.requires.pass.is) there (so_far.leads x h) (step.follows x there)
      (λ e. absurd (c.if-entries-before.false (omega arith)));
}

pub returns-in_err-drive-clause-leads : goal.returns-in_err-drive-clause-leads
returns-in_err-drive-clause-leads g c x h = let scene = g.T.Taker.scene in let so_far = c.loop-pass.invariant in let there = so_far.keeps.stands x h in
    let old = run_at x (scene c.args.taker.now) in let new = run_at x (scene c.drive.new.taker) in
    done-short x.setup x.lost (SettlesBy x.setup x.lost old.world) Whatever old new c.from_residual.result (search rules)
    (pass-front c.args.net.now x (scene c.args.taker.now) (scene c.loop-pass.taker) (scene c.drive.new.taker) c.as_slice.result.now (c.as_slice.ensures.value ∙ c.requires.pass.is) there (so_far.leads x h) (c.drive.ensures.driven.front x there))

pub returns-then-entries-before-clause-leads : goal.returns-then-entries-before-clause-leads
returns-then-entries-before-clause-leads g c x h = let scene = g.T.Taker.scene in let so_far = c.loop-pass.invariant in let there = so_far.keeps.stands x h in
    pass-ends c.args.net.now x (scene c.args.taker.now) (scene c.loop-pass.taker) (scene c.drive.new.taker) c.as_slice.result.now (c.as_slice.ensures.value ∙ c.requires.pass.is) there (so_far.leads x h)
    (c.in_ok-drive.ensures.driven.follows x there) (omega arith)

pub returns-then-entries-before-clause-settled : goal.returns-then-entries-before-clause-settled
returns-then-entries-before-clause-settled g c x h = let scene = g.T.Taker.scene in let so_far = c.loop-pass.invariant in let step = c.in_ok-drive.ensures.driven in let there = so_far.keeps.stands x h in
    pass-settles c.args.net.now x (scene c.args.taker.now) (scene c.loop-pass.taker) (scene c.drive.new.taker) c.as_slice.result.now (c.as_slice.ensures.value ∙ c.requires.pass.is) there (so_far.leads x h)
    (step.follows x there) c.idle_passes_settle.ensures (omega arith) (step.keeps.stands x there)

pub returns-clause-leads : goal.returns-clause-leads
returns-clause-leads g c x h =
    let old = run_at x (g.T.Taker.scene c.args.taker.now) in
    let now = run_at x (g.T.Taker.scene c.loop-pass.taker) in
    leads-somewhere x.setup x.lost (SettlesBy x.setup x.lost old.world) (SettlesBy x.setup x.lost now.world) old now (c.loop-pass.invariant.leads x h)

pub returns-in_err-drive-clause-keeps : goal.returns-in_err-drive-clause-keeps
returns-in_err-drive-clause-keeps g c = keeps_on g.T.Taker.scene g.T.Taker.fixed c.args.net.now c.args.taker.now c.loop-pass.taker c.drive.new.taker c.loop-pass.invariant.keeps c.drive.ensures.driven.keeps

pub returns-then-entries-before-clause-keeps : goal.returns-then-entries-before-clause-keeps
returns-then-entries-before-clause-keeps g c = keeps_on g.T.Taker.scene g.T.Taker.fixed c.args.net.now c.args.taker.now c.loop-pass.taker c.drive.new.taker c.loop-pass.invariant.keeps c.drive.ensures.driven.keeps

pub returns-clause-keeps : goal.returns-clause-keeps
returns-clause-keeps g c = c.loop-pass.invariant.keeps
