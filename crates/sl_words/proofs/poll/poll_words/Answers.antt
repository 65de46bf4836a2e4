use Rattle.std.proofs.Common.{◌≡◌, length, map, string_bytes, arith}
use Rattle.std.proofs.lemmas.List.{length-map}
use Rattle.sl_words.proofs.PollLemmas.{too_few, too_many}
use Rattle.sl_words.proofs.poll.poll_words.Goals as goal

pub returns-in_default : goal.returns-in_default
returns-in_default c = let e : length (map string_bytes c.args.words.now) ≡ length c.args.words.now = simp length-map in too_few (map string_bytes c.args.words.now) (omega (arith, e))

pub returns-in_default-2 : goal.returns-in_default-2
returns-in_default-2 c = let e : length (map string_bytes c.args.words.now) ≡ length c.args.words.now = simp length-map in too_many (map string_bytes c.args.words.now) (omega (arith, e))
