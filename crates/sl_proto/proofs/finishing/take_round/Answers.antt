use Rattle.std.proofs.Common.{sym, ◌∙◌, ◌≡◌, rules}
use Rattle.std.specs.Prelude.{true, false}
use Rattle.sl_model.specs.End.{is_collected, rose}
use Rattle.sl_model.specs.Books.{schedule_of}
use Rattle.sl_proto.specs.Standing.{world_of, run_at}
use Rattle.sl_proto.specs.Calls.{AllDone, RoundsLeft}
use Rattle.sl_proto.specs.Fronts.{SettlesBy, SweepsBy, Whatever}
use Rattle.sl_proto.proofs.Standing.{keeps_none, keeps_on}
use Rattle.sl_proto.proofs.Fronts.{leads-somewhere, rounds-short, collected-ends, round-swept, round-front, round-rose, round-level}
use Rattle.sl_proto.proofs.finishing.take_round.Goals as goal

pub returns-then-is_collected-clause-leads : goal.returns-then-is_collected-clause-leads
returns-then-is_collected-clause-leads g c x pos h settled =
    let v = g.T.Taker.scene c.args.taker.now in
    let q : is_collected x.setup (world_of x v) ≡ true = sym (c.is_collected.ensures x (schedule_of v.book) h.runnable.net pos settled (c.tell-before.ensures c.args.net.now x h)) ∙ c.if-is_collected.true in
    collected-ends x.setup x.lost (run_at x v) q

pub returns-in_err-drive-clause-leads : goal.returns-in_err-drive-clause-leads
returns-in_err-drive-clause-leads g c x pos h settled =
    let v = g.T.Taker.scene c.args.taker.now in
    let q : is_collected x.setup (world_of x v) ≡ false = sym (c.is_collected.ensures x (schedule_of v.book) h.runnable.net pos settled (c.tell-before.ensures c.args.net.now x h)) ∙ c.if-is_collected.false in
    let swept = g.T.Taker.scene c.drive.new.taker in
    rounds-short x (SweepsBy x.setup x.lost (world_of x v)) Whatever (run_at x v) (run_at x swept) swept c.from_residual.result (search rules)
    (round-swept c.args.net.now x v swept c.args.sweep.now h c.requires.sweep q (c.drive.ensures.driven.front x h))

pub returns-in_err-settle_by-clause-leads : goal.returns-in_err-settle_by-clause-leads
returns-in_err-settle_by-clause-leads g c x pos h settled =
    let scene = g.T.Taker.scene in
    let v = scene c.args.taker.now in
    let swept = c.in_ok-drive.ensures.driven in
    let q : is_collected x.setup (world_of x v) ≡ false = sym (c.is_collected.ensures x (schedule_of v.book) h.runnable.net pos settled (c.tell-before.ensures c.args.net.now x h)) ∙ c.if-is_collected.false in
    let mid = scene c.drive.new.taker in
    let u = scene c.settle_by.new.taker in
    rounds-short x (SweepsBy x.setup x.lost (world_of x v)) Whatever (run_at x v) (run_at x u) u c.from_residual-in_err-settle_by.result (search rules)
    (round-front c.args.net.now x v mid c.args.sweep.now h c.requires.sweep q (swept.follows x h) u
    (leads-somewhere x.setup x.lost (SettlesBy x.setup x.lost (world_of x mid)) (AllDone c.settle_by.result) (run_at x mid) (run_at x u) (c.settle_by.ensures.leads x (swept.keeps.stands x h))))

pub returns-then-rose_since-clause-leads : goal.returns-then-rose_since-clause-leads
returns-then-rose_since-clause-leads g c x pos h settled =
    let scene = g.T.Taker.scene in
    let net = c.args.net.now in
    let v = scene c.args.taker.now in
    let u = scene c.settle_by.new.taker in
    let swept = c.in_ok-drive.ensures.driven in
    let settles = c.in_ok-settle_by.ensures in
    let there = swept.keeps.stands x h in
    let before = c.tell-before.ensures net x h in
    let q : is_collected x.setup (world_of x v) ≡ false = sym (c.is_collected.ensures x (schedule_of v.book) h.runnable.net pos settled before) ∙ c.if-is_collected.false in
    let r : rose x.setup.net (world_of x v) (world_of x u) ≡ true = sym (c.rose_since.ensures x (world_of x v) (world_of x u) before (c.tell.ensures net x (settles.keeps.stands x there))) ∙ c.if-rose_since.true in
    round-rose net x v (scene c.drive.new.taker) c.args.sweep.now h c.requires.sweep q (swept.follows x h) u (settles.leads x there) r

pub returns-clause-leads : goal.returns-clause-leads
returns-clause-leads g c x pos h settled =
    let scene = g.T.Taker.scene in
    let net = c.args.net.now in
    let v = scene c.args.taker.now in
    let u = scene c.settle_by.new.taker in
    let z = scene c.take_resend.new.taker in
    let swept = c.in_ok-drive.ensures.driven in
    let settles = c.in_ok-settle_by.ensures in
    let there = swept.keeps.stands x h in
    let here = settles.keeps.stands x there in
    let before = c.tell-before.ensures net x h in
    let q : is_collected x.setup (world_of x v) ≡ false = sym (c.is_collected.ensures x (schedule_of v.book) h.runnable.net pos settled before) ∙ c.if-is_collected.false in
    let r : rose x.setup.net (world_of x v) (world_of x u) ≡ false = sym (c.rose_since.ensures x (world_of x v) (world_of x u) before (c.tell.ensures net x here)) ∙ c.if-rose_since.false in
    round-level net x v (scene c.drive.new.taker) c.args.sweep.now h c.requires.sweep q (swept.follows x h) u z (RoundsLeft x z c.take_resend.result) (settles.leads x there) r (c.take_resend.ensures.leads x here)

pub returns-then-is_collected-clause-keeps : goal.returns-then-is_collected-clause-keeps
returns-then-is_collected-clause-keeps g c = keeps_none g.T.Taker.scene g.T.Taker.fixed c.args.net.now c.args.taker.now c.requires.plan

pub returns-in_err-drive-clause-keeps : goal.returns-in_err-drive-clause-keeps
returns-in_err-drive-clause-keeps g c = c.drive.ensures.driven.keeps

pub returns-in_err-settle_by-clause-keeps : goal.returns-in_err-settle_by-clause-keeps
returns-in_err-settle_by-clause-keeps g c = keeps_on g.T.Taker.scene g.T.Taker.fixed c.args.net.now c.args.taker.now c.drive.new.taker c.settle_by.new.taker c.drive.ensures.driven.keeps c.settle_by.ensures.keeps

pub returns-then-rose_since-clause-keeps : goal.returns-then-rose_since-clause-keeps
returns-then-rose_since-clause-keeps g c = keeps_on g.T.Taker.scene g.T.Taker.fixed c.args.net.now c.args.taker.now c.drive.new.taker c.settle_by.new.taker c.drive.ensures.driven.keeps c.settle_by.ensures.keeps

pub returns-clause-keeps : goal.returns-clause-keeps
returns-clause-keeps g c = keeps_on g.T.Taker.scene g.T.Taker.fixed c.args.net.now c.args.taker.now c.settle_by.new.taker c.take_resend.new.taker
    (keeps_on g.T.Taker.scene g.T.Taker.fixed c.args.net.now c.args.taker.now c.drive.new.taker c.settle_by.new.taker c.drive.ensures.driven.keeps c.settle_by.ensures.keeps) c.take_resend.ensures.keeps
