use Rattle.std.proofs.Common.{length, ap, ◌∙◌}
use Rattle.sl_flow.specs.Share.{all_packets}
use Rattle.sl_flow.proofs.Sending.{own_packets, own_share}
use Rattle.sl_flow.proofs.share.Share.of.Goals as goal

pub invariant_of-result : goal.invariant_of-result
invariant_of-result c =
    let counted = c.in_ok-count.ensures ∙ ap (λ flows. length (all_packets flows)) c.as_slice.ensures.value in
    own_share c.args.flows.now _ c.args.host _ c.requires c.in_ok-flows.ensures counted

pub returns-clause-packets : goal.returns-clause-packets
returns-clause-packets c = ap all_packets c.in_ok-flows.ensures ∙ own_packets c.args.flows.now c.args.host
