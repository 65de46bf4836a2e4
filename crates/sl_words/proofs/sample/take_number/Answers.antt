use Rattle.std.proofs.Common.{append-nil}
use Rattle.std.proofs.lemmas.List.{drop_all}
use Rattle.sl_words.proofs.sample.take_number.Goals as goal

pub returns-in-Some-number : goal.returns-in-Some-number
returns-in-Some-number c =
    let told = rw (c.in-Some-number.is, drop_all c.loop-word.word-index c.args.words.now c.loop-word-test.false, append-nil) at c.loop-word.invariant.taken in
    let some = rw c.in-Some-number.is at c.loop-word.invariant.some in
    let few = rw c.in-Some-number.is at c.loop-word.invariant.few in
    record { taken = told; some = some; few = few }
