use Rattle.sl_machine.proofs.outputs.Outputs.with_room.Goals as goal

pub invariant_of-result : goal.invariant_of-result
invariant_of-result g c = c.in_ok-list.ensures.capacity
