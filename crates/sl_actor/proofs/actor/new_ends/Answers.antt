use Rattle.std.proofs.Common.{ap, arith, length}
use Rattle.sl_actor.specs.Made.{IsNewPart}
use Rattle.sl_actor.proofs.MakeLemmas.{all_filled}
use Rattle.sl_actor.proofs.actor.new_ends.Goals as goal

pub new-requires : goal.new-requires
new-requires g c k d low = (all_filled IsNewPart _ _ c.in_ok-parts.ensures c.requires.empty k d low).empty

pub returns-clause-outs : goal.returns-clause-outs
returns-clause-outs g c = (c.in_ok-parts.parts.items, c.in_ok-parts.ensures, c.in_ok-outs.ensures)

pub returns-clause-clear : goal.returns-clause-clear
returns-clause-clear g c = ap length c.in_ok-out.ensures.items

pub returns-clause-room : goal.returns-clause-room
returns-clause-room g c = omega (arith, c.in_ok-out.ensures.room, c.len-count.ensures)
