use Rattle.std.proofs.Common.{rules}
use borrow.Author.Tests.{tests}
use Rattle.sl_app.specs.Ends.{source_change, texts_of}
use Rattle.sl_app.proofs.EndLemmas.{sample_served}
use Rattle.sl_app.proofs.top.serve.Goals as goal

pub returns-in-Ok-Some-Step : goal.returns-in-Ok-Some-Step
returns-in-Ok-Some-Step c = search (tests, rules)

pub returns-in-Ok-Some-Sample : goal.returns-in-Ok-Some-Sample
returns-in-Ok-Some-Sample g c =
    sample_served (source_change g.I.Source (texts_of c.args.words.now) c.args.input.now c.args.input.now) _ _ c.sample.result (search rules) (search rules) c.sample.ensures
