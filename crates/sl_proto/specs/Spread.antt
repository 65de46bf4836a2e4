-- Where a step puts its messages.
use Rattle.std.specs.Prelude.{◌≡◌, ℕ, ◌<◌, List, length}
use Rattle.sl_layout.specs.Net.{Net, link_of}
use Rattle.sl_model.specs.declared.message.Put.{Put}
use Rattle.sl_parts.specs.Lists.{Each}

-- on links from this actor
abbrev pub ArePutFrom : Net → ℕ → List Put → Type 0
ArePutFrom net a ps = Each (λ p. (p.link < length net.links) × ((link_of net p.link).from ≡ a)) ps
