use Rattle.std.proofs.Common.{◌≡◌, ◌+◌, Ok, ap, arith, take, take_all, drop, rules}
use Rattle.sl_net.specs.declared.input.Script1.TheVariants.{Pass}
use Rattle.sl_model.specs.Schedule.{expand}
use Rattle.sl_proto.proofs.Driven.{driven-none, driven-nothing, driven-as, driven-on, driven-short, driven-whole, script-next, script-split}
use Rattle.sl_proto.proofs.script.drive_script.Goals as goal

pub returns-in_err-once : goal.returns-in_err-once
returns-in_err-once g c = driven-nothing g.T.Taker.scene g.T.Taker.fixed c.args.net.now c.from_residual.result c.args.taker.now (expand c.args.net.now c.args.script.now) (search rules) c.requires.plan

pub loop-entry-init : goal.loop-entry-init
loop-entry-init g c = driven-none g.T.Taker.scene g.T.Taker.fixed c.args.net.now (Ok tt) c.args.taker.now c.requires.plan

pub loop-entry-preserved : goal.loop-entry-preserved
loop-entry-preserved g c = let T = g.T.Taker in let net = c.args.net.now in let old = c.args.taker.now in let new = c.drive_entry.new.taker in
    driven-as T.scene T.fixed net (Ok tt) old new _ _ (script-next net c.args.script.now c.loop-entry.entry-index (Pass 0) (omega arith))
    (driven-on T.scene T.fixed net old c.loop-entry.taker new _ _ tt (Ok tt) c.loop-entry.invariant c.in_ok-drive_entry.ensures)

pub returns-in_err-drive_entry : goal.returns-in_err-drive_entry
returns-in_err-drive_entry g c = let T = g.T.Taker in let net = c.args.net.now in let script = c.args.script.now in let i = c.loop-entry.entry-index in
    let old = c.args.taker.now in let new = c.drive_entry.new.taker in
    driven-short T.scene T.fixed net c.from_residual-in_err-drive_entry.result c.drive_entry.result old new _ (expand net script) (expand net (drop (i + 1) script)) (search rules) (script-split net script i (Pass 0) (omega arith))
    (driven-on T.scene T.fixed net old c.loop-entry.taker new _ _ tt c.drive_entry.result c.loop-entry.invariant c.drive_entry.ensures)

pub returns : goal.returns
returns g c = let T = g.T.Taker in let net = c.args.net.now in let so_far = c.loop-entry.invariant in let script = c.args.script.now in
    let all : take c.loop-entry.entry-index script ≡ script = take_all c.loop-entry.entry-index script (omega arith) in
    driven-as T.scene T.fixed net (Ok tt) c.args.taker.now c.loop-entry.taker _ (expand net script) (ap (expand net) all)
    (driven-whole T.scene T.fixed net (Ok tt) c.args.taker.now c.loop-entry.taker _ so_far.keeps so_far.follows)
