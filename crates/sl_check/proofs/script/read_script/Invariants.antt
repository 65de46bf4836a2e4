use Rattle.std.proofs.Common.{length}
use Rattle.sl_check.proofs.ScriptLemmas.{HasRead}
use Rattle.sl_check.proofs.script.read_script.Given as goal

abbrev pub invariant-loop-line : goal.invariant-loop-line
invariant-loop-line l = HasRead l.net l.text l.entries.items l.rest

abbrev pub decreases-loop-line : goal.decreases-loop-line
decreases-loop-line l = length l.rest
