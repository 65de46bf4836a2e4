-- Trusted text.
-- The text of a refused input: one line with the number of the refusal and what it keeps.
use Rattle.std.specs.Prelude.{ℕ, List, [], ◌++◌, codes, decimal}
use Rattle.std.specs.Fmt.{signed_decimal}
use Rattle.sl_parts.specs.declared.fault.Place.{Place}
use Rattle.sl_parts.specs.declared.fault.Place.TheVariants.{Device, Cable, Host}
use Rattle.sl_parts.specs.declared.fault.NetFault.{NetFault}
use Rattle.sl_parts.specs.declared.fault.NetFault.TheVariants as net
use Rattle.sl_read.specs.declared.fault.InputFault.{InputFault}
use Rattle.sl_read.specs.declared.fault.InputFault.TheVariants as fault

-- a part of a net as the input names it
abbrev pub place_text : Place → List ℕ
place_text (Device i) = codes "device." ++ decimal i
place_text (Cable i) = codes "cable." ++ decimal i
place_text (Host i) = codes "host." ++ decimal i

abbrev pub net_words : NetFault → List ℕ
net_words net.N1 = codes "N1"
net_words (net.N2 n) = codes "N2 " ++ decimal n
net_words (net.N3 i) = codes "N3 device." ++ decimal i
net_words (net.N4 p) = codes "N4 " ++ place_text p
net_words (net.N5 i) = codes "N5 cable." ++ decimal i
net_words (net.N6 n) = codes "N6 " ++ decimal n
net_words (net.N7 i) = codes "N7 host." ++ decimal i
net_words (net.N8 p) = codes "N8 " ++ place_text p
net_words net.Memory = []

-- the number of a refusal and what it keeps
abbrev pub fault_words : InputFault → List ℕ
fault_words fault.I1 = codes "I1"
fault_words fault.I2 = codes "I2"
fault_words (fault.I3 path) = codes "I3 " ++ path
fault_words (fault.I4 path) = codes "I4 " ++ path
fault_words (fault.I5 path) = codes "I5 " ++ path
fault_words (fault.I6 path value) = codes "I6 " ++ (path ++ (codes " " ++ signed_decimal value))
fault_words (fault.I7 path) = codes "I7 " ++ path
fault_words (fault.I8 entry) = codes "I8 script." ++ decimal entry
fault_words (fault.I9 e) = codes "I9 " ++ net_words e
fault_words (fault.I10 count) = codes "I10 " ++ decimal count
fault_words (fault.I11 path) = codes "I11 " ++ path
fault_words (fault.I12 count) = codes "I12 " ++ decimal count
fault_words fault.Memory = []

unfoldable pub fault_text : InputFault → List ℕ
fault_text f = codes "speedlight: " ++ (fault_words f ++ codes "\n")
