use Rattle.std.proofs.Common.{◌≡◌, ◌≤◌, drop, map, string_bytes}
use Rattle.std.specs.Prelude.{IfSome}
use Rattle.sl_words.specs.Words.{take_number}
use Rattle.sl_words.proofs.NumberLemmas.{resumed}
use Rattle.sl_words.proofs.sample.take_number.Given as goal

abbrev pub invariant-loop-word : goal.invariant-loop-word
invariant-loop-word l = record {
  taken : resumed l.number (map (λ w. w.now) l.others.items) (map string_bytes (drop l.word-index l.words)) ≡ take_number (map string_bytes l.words);
  some : IfSome l.number (λ n. 1 ≤ n);
  few : IfSome l.number (λ n. n ≤ 64);
}
