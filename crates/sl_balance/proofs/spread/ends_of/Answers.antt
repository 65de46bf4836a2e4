use Rattle.std.proofs.Common.{ℕ, ◌+◌, ◌≡◌, [], ap, sym, ◌∙◌, drop}
use Rattle.std.proofs.lemmas.List.{drop_all}
use Rattle.sl_balance.specs.Spread.{lowest_of, highest_of}
use Rattle.sl_balance.proofs.Sums.{lowest_more, highest_more}
use Rattle.sl_balance.proofs.spread.ends_of.Goals as goal

pub loop-count-preserved : goal.loop-count-preserved
loop-count-preserved c =
    let i = c.loop-count.count-index in
    let rest = drop (i + 1) c.args.others.now in
    record {
      least = ap (λ (n : ℕ). lowest_of n rest) c.min-least.ensures ∙ sym (lowest_more c.loop-count.least c.args.others.now i c.loop-count-test.true) ∙ c.loop-count.invariant.least;
      greatest = ap (λ (n : ℕ). highest_of n rest) c.max-greatest.ensures ∙ sym (highest_more c.loop-count.greatest c.args.others.now i c.loop-count-test.true) ∙ c.loop-count.invariant.greatest;
    }

pub returns : goal.returns
returns c =
    let none : drop c.loop-count.count-index c.args.others.now ≡ [] = drop_all c.loop-count.count-index c.args.others.now c.loop-count-test.false in
    record { least = sym (ap (lowest_of c.loop-count.least) none) ∙ c.loop-count.invariant.least; greatest = sym (ap (highest_of c.loop-count.greatest) none) ∙ c.loop-count.invariant.greatest }
