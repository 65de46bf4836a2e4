use Rattle.std.proofs.Common.{ap, length, map, ◌∙◌, arith}
use Rattle.sl_layout.specs.Net.{choice_of, link_numbers}
use Rattle.sl_layout.specs.Wires.{out_of}
use Rattle.sl_layout.proofs.wires.Wires.sorted.Goals as goal

pub returns-in-Receiver-clause-places : goal.returns-in-Receiver-clause-places
returns-in-Receiver-clause-places c = rw c.in-Receiver.is (c.self.invariant.choices_are ∙ ap (λ n. map (choice_of n) (link_numbers n)) c.self.view_is)

pub returns-in-Sender-clause-places : goal.returns-in-Sender-clause-places
returns-in-Sender-clause-places c = rw c.in-Sender.is (c.self.invariant.outs_are ∙ ap (λ n. map (out_of n) (link_numbers n)) c.self.view_is)

pub returns-in-Receiver-clause-few : goal.returns-in-Receiver-clause-few
returns-in-Receiver-clause-few c = omega (arith, c.self.invariant.few, ap length c.self.invariant.links_are, ap (λ n. length n.links) c.self.view_is)

pub returns-in-Sender-clause-few : goal.returns-in-Sender-clause-few
returns-in-Sender-clause-few c = omega (arith, c.self.invariant.few, ap length c.self.invariant.links_are, ap (λ n. length n.links) c.self.view_is)
