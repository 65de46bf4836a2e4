use Rattle.std.proofs.Common.{map, string_bytes, sym, ◌∙◌}
use Rattle.sl_words.proofs.RouteLemmas.{no_option}
use Rattle.sl_words.proofs.command.is_bare.Goals as goal

pub returns-in-Some : goal.returns-in-Some
returns-in-Some c = no_option (map string_bytes c.args.words.now) _ (sym c.in-Some.is ∙ c.in_ok-asked.ensures)
