use Rattle.std.proofs.Common.{◌++◌, ◌∷◌, [], ap, ◌∙◌, append_assoc}
use Rattle.std.specs.Prelude.{if◌then◌else◌}
use Rattle.sl_wire.specs.declared.message.Msg.TheVariants.{Done}
use Rattle.sl_wire.specs.Carried.{poll}
use Rattle.sl_control.proofs.known.Known.answer.Goals as goal

pub returns-clause-puts : goal.returns-clause-puts
returns-clause-puts c =
    let before = c.args.out.now.items in
    let again = if c.args.self.now.again then (c.args.self.now.wires.poll, poll) ∷ [] else [] in
    c.poll_again.ensures.puts ∙ ap (λ ps. ps ++ again) c.put.ensures.items ∙ append_assoc before ((c.args.done, Done c.set.new.self) ∷ []) again
    ∙ ap (λ d. before ++ (c.args.done, Done d) ∷ again) (c.set.ensures ∙ c.done_of.ensures)
