use Rattle.sl_net.specs.Wired.{IsNet}
use Rattle.sl_proto.proofs.finishing.takes_choices.Goals as goal

pub returns : goal.returns
returns c =
    let net : IsNet c.args.net.now = record { made = c.parts.ensures.net; right = c.parts.ensures.right } in
    record {
      sweeps = c.passes_are_choices.ensures.sweeps c.args.net.now net;
      resend = c.passes_are_choices.ensures.resend c.args.net.now net;
    }
