use Rattle.std.proofs.Common.{◌≡◌, ◌∙◌, ap, arith, length}
use Rattle.std.proofs.lemmas.List.{length-replicate}
use Rattle.sl_saves.specs.Views.{free_slot}
use Rattle.sl_saves.proofs.list.ListSaves.write.Goals as goal

pub write_entries-requires-clause-small : goal.write_entries-requires-clause-small
write_entries-requires-clause-small c =
    let long : length c.args.view.now.slots ≡ c.args.self.now.ring = ap length c.requires ∙ length-replicate c.args.self.now.ring free_slot in
    omega arith
