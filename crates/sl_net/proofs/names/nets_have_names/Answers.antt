use Rattle.std.proofs.Common.{◌≡◌, ap, subst, ◌∙◌}
use Rattle.std.specs.List.{All}
use Rattle.sl_parts.specs.declared.parts.DevicePart.{DevicePart}
use Rattle.sl_parts.specs.declared.parts.HostPart.{HostPart}
use Rattle.sl_parts.specs.Text.{IsName}
use Rattle.sl_parts.specs.Parts.{Parts}
use Rattle.sl_net.proofs.names.nets_have_names.Goals as goal

pub returns : goal.returns
returns c =
    let d : c.parts.inside.devices.items ≡ c.parts-parts.result.now.devices = cc in
    let h : c.parts.inside.hosts.items ≡ c.parts-parts.result.now.hosts = cc in
    record {
      devices = subst (All (λ (d : DevicePart). IsName d.name)) (c.as_slice.ensures.value ∙ d ∙ ap (λ (p : Parts). p.devices) c.parts-parts.ensures.now) c.device_names.ensures;
      hosts = subst (All (λ (h : HostPart). IsName h.name)) (c.as_slice-2.ensures.value ∙ h ∙ ap (λ (p : Parts). p.hosts) c.parts-parts.ensures.now) c.host_names.ensures;
    }
