-- The entries of a script, in a net.
use Rattle.sl_machine.specs.Plan.{HasChoice}
use Rattle.sl_net.specs.declared.input.Script1.{Script1}
use Rattle.sl_net.specs.declared.input.Script1.TheVariants.{Pass, Choice}
use Rattle.sl_layout.specs.Net.{Net}
use Rattle.sl_layout.specs.Wiring.{plan_of}

-- passes, or a choice of the net
abbrev pub IsScriptEntry : Net → Script1 → Type 0
IsScriptEntry net (Pass n) = Unit {0}
IsScriptEntry net (Choice a c) = HasChoice (plan_of net) a c
