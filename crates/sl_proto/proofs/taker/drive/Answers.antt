use Rattle.std.proofs.Common.{sym, subst, ◌∙◌, arith, take, length-take}
use Rattle.std.proofs.lemmas.Result.{on_ok_weaker}
use Rattle.sl_proto.specs.Runs.{Follows}
use Rattle.sl_proto.specs.Standing.{run_at, StandsFor, HasObserver}
use Rattle.sl_proto.proofs.Driven.{driven-nothing}
use Rattle.sl_proto.proofs.Fronts.{front-taken}
use Rattle.sl_proto.proofs.taker.drive.Goals as goal

pub returns-then-entries-limit-clause-driven : goal.returns-then-entries-limit-clause-driven
returns-then-entries-limit-clause-driven g c = driven-nothing g.T.Taker.scene g.T.Taker.fixed c.args.net.now _ c.args.taker.now c.args.schedule.now tt c.requires.plan

pub returns-clause-driven : goal.returns-clause-driven
returns-clause-driven g c =
    let f = c.run.ensures.front in
    let es = c.args.schedule.now in
    let net = c.args.net.now in
    let v = g.T.Taker.scene c.args.taker.now in
    let u = g.T.Taker.scene c.run.new.self in
    let n = length-take f.entries es in
    let follow = c.nodes_follow_their_books.ensures in
    record {
      keeps = record {
        plan = c.run.ensures.plan ∙ c.requires.plan;
        observer = λ h. subst HasObserver (sym f.is) (follow.observer v (take f.entries es) h);
        stands = λ x st. subst (StandsFor net x) (sym f.is) (follow.stands net v (take f.entries es) (omega (arith, n, f.within)) x st);
        fixed = c.run.ensures.fixed;
      };
      follows = on_ok_weaker c.run.result
          (λ is x st. subst (λ w. Follows x.setup x.lost (run_at x v) es (run_at x w)) (sym is) (follow.follows net v es (omega arith) x st)) c.run.ensures.ok;
      front = λ x st. front-taken x.setup x.lost (run_at x v) (run_at x u) es f.entries
          (subst (λ w. Follows x.setup x.lost (run_at x v) (take f.entries es) (run_at x w)) (sym f.is) (follow.follows net v (take f.entries es) (omega (arith, n, f.within)) x st));
    }
