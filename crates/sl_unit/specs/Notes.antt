-- Messages that a unit can put on several links.
use Rattle.sl_wire.specs.declared.message.Msg.{Msg}
use Rattle.sl_wire.specs.declared.message.Msg.TheVariants.{Frame, Notice}
use Rattle.sl_unit.specs.declared.puts.Note.{Note}
use Rattle.sl_unit.specs.declared.puts.Note.TheVariants.{Frame as OfFrame, Notice as OfNotice}

abbrev pub message_of : Note → Msg
message_of (OfFrame frame) = Frame frame
message_of OfNotice = Notice
