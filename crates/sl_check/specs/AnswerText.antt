-- Trusted text.
-- The text of an answer: one line.
use Rattle.std.specs.Prelude.{ℕ, List, ◌++◌, codes, decimal}
use Rattle.sl_check.specs.declared.answer.Checked.{Checked}
use Rattle.sl_check.specs.declared.answer.Checked.TheVariants.{Yes, NoTrace, NoLegal, NoFinished, NoReport}

abbrev pub answer_words : Checked → List ℕ
answer_words Yes = codes "yes"
answer_words NoTrace = codes "no trace"
answer_words (NoLegal n) = codes "no legal " ++ decimal n
answer_words NoFinished = codes "no finished"
answer_words NoReport = codes "no report"

unfoldable pub answer_text : Checked → List ℕ
answer_text a = codes "check " ++ (answer_words a ++ codes "\n")
