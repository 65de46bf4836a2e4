-- Trusted text.
-- The exit statuses, and the lines that are written for them.
use Rattle.std.specs.Prelude.{ℕ, List, [], ◌++◌, codes, decimal}
use Rattle.sl_app.specs.declared.ended.Refusal.{Refusal}
use Rattle.sl_app.specs.declared.ended.Refusal.TheVariants.{Usage, Input, Stream, ReadFault, TooMany, Memory}
use Rattle.sl_check.specs.declared.answer.Checked.{Checked}
use Rattle.sl_check.specs.declared.answer.Checked.TheVariants as answer
use Rattle.sl_check.specs.declared.answer.CheckFault.{CheckFault}
use Rattle.sl_check.specs.declared.answer.CheckFault.TheVariants as check
use Rattle.sl_report.specs.FaultText.{fault_text}

abbrev pub status_of : Refusal → ℕ
status_of Usage = 2
status_of (Input line) = 3
status_of (Stream line) = 3
status_of ReadFault = 4
status_of Memory = 6
status_of (TooMany line) = 7

unfoldable pub refusal_text : Refusal → List ℕ
refusal_text Usage = codes "speedlight: usage: speedlight step [--trace] | run [--trace] | routes | sample N [--input] | values | check | balance | poll S G\n"
refusal_text (Input line) = line.items
refusal_text (Stream line) = line.items
refusal_text ReadFault = codes "speedlight: read fault\n"
refusal_text Memory = codes "speedlight: out of memory\n"
refusal_text (TooMany line) = line.items

-- the line for a net of so many actors
unfoldable pub many_text : ℕ → List ℕ
many_text actors = codes "speedlight: " ++ (decimal actors ++ codes " actors, at most 256\n")

-- the line for a stream that isn't checked; want of memory has the line of status 6
unfoldable pub stream_fault_text : CheckFault → List ℕ
stream_fault_text check.TooLong = codes "speedlight: C1\n"
stream_fault_text check.NoMark = codes "speedlight: C2\n"
stream_fault_text (check.Input fault) = fault_text fault
stream_fault_text check.Memory = []

-- the status of an answer that was written: 0 for yes, else 8
abbrev pub answer_status : Checked → ℕ
answer_status answer.Yes = 0
answer_status _ = 8

-- the line of status 5
unfoldable pub write_fault_text : List ℕ
write_fault_text = codes "speedlight: write fault\n"
