use Rattle.std.proofs.Common.{◌≡◌, ◌+◌, ◌-◌, Ok, sym, ap, subst, arith, rules}
use Rattle.sl_model.specs.Schedule.{passes_of}
use Rattle.sl_proto.specs.Runs.{Follows}
use Rattle.sl_proto.specs.Standing.{run_at}
use Rattle.sl_proto.proofs.Choices.{passes-next}
use Rattle.sl_proto.proofs.Trails.{follows-passes, idle-again, idle-passes}
use Rattle.sl_proto.proofs.Standing.{keeps_on}
use Rattle.sl_proto.proofs.Driven.{driven-none, driven-as, driven-on, driven-short, driven-whole, passes-split}
use Rattle.sl_proto.proofs.script.drive_passes.Goals as goal

pub loop-done-init : goal.loop-done-init
loop-done-init g c = driven-none g.T.Taker.scene g.T.Taker.fixed c.args.net.now (Ok tt) c.args.taker.now c.requires.plan

pub loop-done-preserved : goal.loop-done-preserved
loop-done-preserved g c = let T = g.T.Taker in let net = c.args.net.now in let old = c.args.taker.now in let now = c.loop-done.taker in let new = c.drive.new.taker in
    let es = c.args.once.now.entries.items in let n = c.loop-done._done in
    driven-as T.scene T.fixed net (Ok tt) old new _ _ (sym (passes-next es n))
    (driven-on T.scene T.fixed net old now new (passes_of es n) es tt (Ok tt) c.loop-done.invariant (driven-as T.scene T.fixed net (Ok tt) now new _ es c.as_slice.ensures.value c.in_ok-drive.ensures.driven))

pub returns-in_err-drive : goal.returns-in_err-drive
returns-in_err-drive g c = let T = g.T.Taker in let net = c.args.net.now in let old = c.args.taker.now in let now = c.loop-done.taker in let new = c.drive.new.taker in
    let es = c.args.once.now.entries.items in let n = c.loop-done._done in let more = passes-split es n c.args.count (omega arith) in
    driven-short T.scene T.fixed net c.from_residual.result c.drive.result old new _ (passes_of es c.args.count) more.0 (search rules) more.1
    (driven-on T.scene T.fixed net old now new (passes_of es n) es tt c.drive.result c.loop-done.invariant (driven-as T.scene T.fixed net c.drive.result now new _ es c.as_slice.ensures.value c.drive.ensures.driven))

pub returns-then-entries-before : goal.returns-then-entries-before
returns-then-entries-before g c = let T = g.T.Taker in let net = c.args.net.now in let so_far = c.loop-done.invariant in let es = c.args.once.now.entries.items in let n = c.loop-done._done in
    let step = driven-as T.scene T.fixed net (Ok tt) c.loop-done.taker c.drive.new.taker _ es c.as_slice.ensures.value c.in_ok-drive.ensures.driven in
    let many : n + 1 + (c.args.count - (n + 1)) ≡ c.args.count = omega (arith, c.loop-done-test.true) in
    driven-whole T.scene T.fixed net (Ok tt) c.args.taker.now c.drive.new.taker (passes_of es c.args.count)
    (keeps_on T.scene T.fixed net c.args.taker.now c.loop-done.taker c.drive.new.taker so_far.keeps step.keeps)
    (λ x st.
    let old = run_at x (T.scene c.args.taker.now) in
    let mid = run_at x (T.scene c.loop-done.taker) in
    let new = run_at x (T.scene c.drive.new.taker) in
    let follows = step.follows x (so_far.keeps.stands x st) in
    subst (λ k. Follows x.setup x.lost old (passes_of es k) new) many
    (idle-passes x.setup x.lost old new es (n + 1) (c.args.count - (n + 1)) (follows-passes x.setup x.lost old mid new es n (so_far.follows x st) follows)
    (idle-again x.setup x.lost mid new es follows (omega arith))))

pub returns : goal.returns
returns g c = let T = g.T.Taker in let net = c.args.net.now in let so_far = c.loop-done.invariant in let es = c.args.once.now.entries.items in
    let all : c.loop-done._done ≡ c.args.count = omega arith in
    driven-as T.scene T.fixed net (Ok tt) c.args.taker.now c.loop-done.taker _ (passes_of es c.args.count) (ap (passes_of es) all)
    (driven-whole T.scene T.fixed net (Ok tt) c.args.taker.now c.loop-done.taker (passes_of es c.loop-done._done) so_far.keeps so_far.follows)
