-- Why a stream isn't checked whose input isn't read for this fault. Want of memory is one thing, wherever it comes.
use Rattle.sl_read.specs.declared.fault.InputFault.{InputFault}
use Rattle.sl_read.specs.declared.fault.InputFault.TheVariants as input
use Rattle.sl_check.specs.declared.answer.CheckFault.{CheckFault}
use Rattle.sl_check.specs.declared.answer.CheckFault.TheVariants as fault

abbrev pub fault_of : InputFault → CheckFault
fault_of input.Memory = fault.Memory
fault_of f = fault.Input f
