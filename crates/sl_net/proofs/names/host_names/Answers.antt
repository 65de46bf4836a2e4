use Rattle.std.proofs.Common.{get_or, subst, ◌∙◌, arith, below_more}
use Rattle.std.proofs.lemmas.List.{get_or_default}
use Rattle.sl_parts.specs.declared.parts.HostPart.{HostPart}
use Rattle.sl_parts.specs.Text.{IsName}
use Rattle.sl_net.proofs.names.host_names.Goals as goal

pub loop-host-preserved : goal.loop-host-preserved
loop-host-preserved c = below_more (λ k. (d : HostPart) → IsName (get_or c.args.hosts.now k d).name) c.loop-host.host-index c.loop-host.invariant
    (λ d. subst (λ (x : HostPart). IsName x.name) (c.host-item.is ∙ get_or_default c.args.hosts.now c.loop-host.host-index c.host-item.result d c.loop-host-test.true) c.as_str.ensures.name)

pub returns : goal.returns
returns c = λ k d h. c.loop-host.invariant k (omega arith) d
