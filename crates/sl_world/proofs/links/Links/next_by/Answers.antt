use Rattle.std.proofs.Common.{◌≡◌, ◌∙◌, ◌+◌, length, ap, sym, arith}
use Rattle.sl_world.specs.Scene.{line_at}
use Rattle.sl_world.specs.Looked.{step_at}
use Rattle.sl_world.proofs.LookupLemmas.{run_end, run_skipped}
use Rattle.sl_world.proofs.links.Links.next_by.Goals as goal

pub next-found-requires-clause-within : goal.next-found-requires-clause-within
next-found-requires-clause-within g c =
    let many : length c.self.inside.lines ≡ length c.args.self.now.plan.links = c.self.invariant.lines_each ∙ ap (λ m. length m.plan.links) c.self.view_is in
    omega (arith, many, run_end c.args.steps.now (length c.args.self.now.plan.links) c.loop-at.at c.requires.runs c.requires.links c.loop-at-test.true)

pub returns-then-found-end-clause-nothing : goal.returns-then-found-end-clause-nothing
returns-then-found-end-clause-nothing g c =
    let many : length c.self.inside.lines ≡ length c.args.self.now.plan.links = c.self.invariant.lines_each ∙ ap (λ m. length m.plan.links) c.self.view_is in
    let found = c.next-found.ensures in
    run_skipped c.args.steps.now c.args.self.now.lines (length c.args.self.now.plan.links) c.args.from c.loop-at.at c.next-found.result c.requires.runs c.loop-at-test.true (omega (arith, c.if-found-end.true)) c.loop-at.invariant.nothing
    (λ k from below. let none = found.none k from below (omega (arith, below, c.if-found-end.true)) in (omega (arith, many, none.0), ap (λ ls. (line_at ls k).queue) (sym (ap (λ m. m.lines) c.self.view_is)) ∙ none.1))

pub loop-at-preserved : goal.loop-at-preserved
loop-at-preserved g c =
    let many : length c.self.inside.lines ≡ length c.args.self.now.plan.links = c.self.invariant.lines_each ∙ ap (λ m. length m.plan.links) c.self.view_is in
    let found = c.next-found.ensures in
    let step = step_at c.args.steps.now c.loop-at.at in
    let skipped = run_skipped c.args.steps.now c.args.self.now.lines (length c.args.self.now.plan.links) c.args.from c.loop-at.at (step.link + step.run) c.requires.runs c.loop-at-test.true (omega arith) c.loop-at.invariant.nothing
    (λ k from below. let none = found.none k from (omega (arith, below, c.if-found-end.false)) (omega (arith, below)) in (omega (arith, many, none.0), ap (λ ls. (line_at ls k).queue) (sym (ap (λ m. m.lines) c.self.view_is)) ∙ none.1)) in
    record {
      from = omega (arith, c.loop-at.invariant.from);
      within = omega (arith, c.requires.runs.within c.loop-at.at c.loop-at-test.true);
      nothing = λ k low below. skipped k low (omega (arith, below));
    }
