use Rattle.std.proofs.Common.{◌+◌, take, arith, ap, sym, subst, ◌∙◌, length}
use Rattle.std.specs.Prelude.{option_map}
use Rattle.sl_parts.specs.declared.fault.NetFault.TheVariants.{N7}
use Rattle.sl_parts.specs.Ports.{HasGuests}
use Rattle.sl_parts.proofs.Tables.{host_step, host_clash, host_fits, host_added}
use Rattle.sl_parts.proofs.ports.seat_hosts.Goals as goal

pub returns-then-not-add_host-clause-err : goal.returns-then-not-add_host-clause-err
returns-then-not-add_host-clause-err c = λ _.
    let s = host_step _ _ _ _ _ _ _ c.requires.valid c.requires.ends c.loop-i.invariant.guests (ap (λ p. p.hosts) c.parts.view_is) (omega (arith, c.parts.inside.hosts.ok.0)) c.index.ensures c.add_host.ensures.free in
    ap (option_map N7) (sym c.loop-i.invariant.clash ∙ host_clash s c.if-not-add_host.true)

pub loop-i-preserved : goal.loop-i-preserved
loop-i-preserved c =
    let parts = c.args.parts.now in
    let s = host_step _ _ _ _ _ _ _ c.requires.valid c.requires.ends c.loop-i.invariant.guests (ap (λ p. p.hosts) c.parts.view_is) (omega (arith, c.parts.inside.hosts.ok.0)) c.index.ensures c.add_host.ensures.free in
    record {
      clash = host_fits s c.if-not-add_host.false ∙ c.loop-i.invariant.clash;
      guests = subst (HasGuests (length parts.devices) (take (c.loop-i.i + 1) parts.hosts)) (sym c.add_host.ensures.seated) (host_added s c.if-not-add_host.false);
    }
