use borrow.Author.Rules.{rules}
use borrow.Author.Tests.{tests}
use Rattle.sl_words.proofs.sample.sample_number.Goals as goal

pub returns-in-54-clause-number : goal.returns-in-54-clause-number
returns-in-54-clause-number c = search (tests, rules)

pub returns-in-54-clause-few : goal.returns-in-54-clause-few
returns-in-54-clause-few c = search (tests, rules)
