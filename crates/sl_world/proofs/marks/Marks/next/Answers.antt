use Rattle.std.proofs.Common.{◌+◌, ◌-◌, ◌/◌, ◌%◌, ◌^◌, ℕ, ap, arith}
use Rattle.sl_world.proofs.BitLemmas.{is_word, none_ahead, none_before, first_marked, no_mark}
use Rattle.sl_world.proofs.marks.Marks.next.Goals as goal

pub returns-then-ahead-ne0-clause-none : goal.returns-then-ahead-ne0-clause-none
returns-then-ahead-ne0-clause-none c =
    let w = c.index.result.now in
    let at = c.loop-at.at in
    let word = is_word c.self.inside.words.items c.args.self.now at c.args.end w c.self.view_is c.requires.room c.loop-at-test.true c.index.ensures in
    no_mark c.args.self.now c.args.from at _ c.loop-at.invariant.none
    (λ k low below. none_before c.args.self.now at (w / 2 ^ (at % 64)) (ap (λ (n : ℕ). n / 2 ^ (at % 64)) word) (omega (arith, word)) c.if-ahead-ne0.true k low below)

pub returns-then-ahead-ne0-clause-some : goal.returns-then-ahead-ne0-clause-some
returns-then-ahead-ne0-clause-some c _ =
    let w = c.index.result.now in
    let at = c.loop-at.at in
    let word = is_word c.self.inside.words.items c.args.self.now at c.args.end w c.self.view_is c.requires.room c.loop-at-test.true c.index.ensures in
    first_marked c.args.self.now at (w / 2 ^ (at % 64)) (ap (λ (n : ℕ). n / 2 ^ (at % 64)) word) (omega (arith, word)) c.if-ahead-ne0.true

pub loop-at-preserved : goal.loop-at-preserved
loop-at-preserved c =
    let w = c.index.result.now in
    let at = c.loop-at.at in
    let word = is_word c.self.inside.words.items c.args.self.now at c.args.end w c.self.view_is c.requires.room c.loop-at-test.true c.index.ensures in
    record {
      from = omega (arith, c.loop-at.invariant.from);
      none = no_mark c.args.self.now c.args.from at (at + (64 - at % 64)) c.loop-at.invariant.none (none_ahead c.args.self.now at (w / 2 ^ (at % 64)) (ap (λ (n : ℕ). n / 2 ^ (at % 64)) word) c.if-ahead-ne0.false);
    }
