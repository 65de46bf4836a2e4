-- What a run prints, as a claim, and the window of the world that it leads to.
--     claimed bytes text          the text of an input, a line `---`, and a text that is claimed of its run
--     IsRightOf IsBook i          what is printed of a run of the input with such a book, with its trace, is checked with yes
--     IsWindowed i book           the window law of the world to which the book of a run of the input leads
use Rattle.std.specs.Prelude.{◌≡◌, ℕ, ◌≤◌, true, List, ◌++◌, length, Ok, codes}
use Rattle.sl_machine.specs.declared.wiring.Entry.{Entry}
use Rattle.sl_net.specs.Input.{Input}
use Rattle.sl_read.specs.Inputs.{input_of}
use Rattle.sl_model.specs.History.{Losses}
use Rattle.sl_model.specs.Losses.{losses}
use Rattle.sl_model.specs.Setup.{setup_of}
use Rattle.sl_model.specs.World.{world}
use Rattle.sl_model.specs.Books.{schedule_of}
use Rattle.sl_model.specs.Window.{IsInWindow}
use Rattle.sl_proto.specs.Nodes.{NodeState}
use Rattle.sl_check.specs.declared.answer.Checked.TheVariants.{Yes}
use Rattle.sl_check.specs.Answer.{IsChecked, IsInputText}
use Rattle.sl_app.specs.Served.{IsPrinted}

abbrev pub claimed : List ℕ → List ℕ → List ℕ
claimed bytes text = bytes ++ (codes "---\n" ++ text)

abbrev pub IsRightOf : (Input → Losses → List Entry → ℕ → Type 0) → Input → Type 0
IsRightOf IsBook i = (bytes : List ℕ) (book : List Entry) (front : ℕ) (nodes : List NodeState) (text : List ℕ) → IsInputText bytes → input_of bytes ≡ Ok i
    → IsPrinted IsBook i (losses i) book front nodes true text → length (claimed bytes text) ≤ 4194304 → IsChecked (claimed bytes text) (Ok Yes)

abbrev pub IsWindowed : Input → List Entry → Type 0
IsWindowed i book = IsInWindow (setup_of i) (losses i) (world (setup_of i) (losses i) (schedule_of book))
