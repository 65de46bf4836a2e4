-- Lengths of packets.
use Rattle.std.specs.Prelude.{◌<◌, ◌^◌, unwrap_or, option_map}
use Rattle.sl_model.specs.declared.message.Message.{Message}
use Rattle.sl_parts.specs.Lists.{Each}
use Rattle.sl_model.specs.History.{History}
use Rattle.sl_model.specs.Counting.{counted_in, counted}
use Rattle.sl_model.specs.Setup.{Setup}

-- the data packet of a message, if there is one, is shorter than 2 ^ 16 bytes
abbrev pub IsShort : Message → Type 0
IsShort m = unwrap_or (option_map (λ p. p.len) (counted_in m)) 0 < 2 ^ 16

-- so is each data packet that a unit counted
abbrev pub TakesShort : History → Type 0
TakesShort h = Each (λ s. unwrap_or (option_map (λ p. p.len) (counted s)) 0 < 2 ^ 16) h

-- flows of packets shorter than that, and frames of bytes
pub record SendsShort (s : Setup) : Type 0 where
  pub flows : Each (λ f. f.bytes < 2 ^ 16) s.flows
  pub raws : Each (λ r. Each (λ b. b < 256) r.bytes) s.raws
