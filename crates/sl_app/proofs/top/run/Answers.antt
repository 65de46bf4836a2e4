use Rattle.std.proofs.Common.{◌≡◌, length, sym, subst, rules}
use Rattle.std.specs.Prelude.{◌<◌}
use Rattle.sl_app.specs.Ends.{asks_for_run, source_change, texts_of}
use Rattle.sl_app.proofs.EndLemmas.{too_many_told}
use Rattle.sl_app.proofs.RunLemmas.{threaded, nodes-passed}
use Rattle.sl_app.proofs.top.run.Goals as goal

pub returns-in-Ok-clause-serves : goal.returns-in-Ok-clause-serves
returns-in-Ok-clause-serves g c = let e = c.in_ok-accepted.ensures in let s = c.in-Ok.ensures.serves in
    let r = source_change g.I.Source (texts_of c.args.words.now) c.args.input.now c.accept.new.input in
    threaded r c.in_ok-accepted.accepted c.args.trace c.requires e.accepts.0 e.threads s.0 _ _ _ _ _ s.1.0 s.1.1

pub returns-in-Ok-clause-passed : goal.returns-in-Ok-clause-passed
returns-in-Ok-clause-passed g c = let s = c.in-Ok.ensures in
    nodes-passed g.G.Gate.passed c.args.gate.now c.in_ok-accepted.accepted c.args.trace _ _ c.in_ok-accepted.ensures.threads s.passed _ _ s.serves.1.0

pub returns-in-Err-TooMany-clause-serves : goal.returns-in-Err-TooMany-clause-serves
returns-in-Err-TooMany-clause-serves g c =
    let many : (256 < length c.in_ok-accepted.accepted.net.actors) × (c.in-Err-TooMany.actors ≡ length c.in_ok-accepted.accepted.net.actors) = search rules in
    let r = source_change g.I.Source (texts_of c.args.words.now) c.args.input.now c.accept.new.input in
    too_many_told r c.in_ok-accepted.accepted c.in-Err-TooMany.actors c.too_many.result (subst asks_for_run (sym c.requires) tt) c.in_ok-accepted.ensures.accepts.0 many.0 many.1 c.too_many.ensures
