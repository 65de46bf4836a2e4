use Rattle.std.proofs.Common.{◌≡◌, ℕ, List, [], ◌++◌, ◌∙◌, ap, refl, append_assoc}
use Rattle.std.specs.List.{flat_map}
use Rattle.std.proofs.lemmas.Result.{IfOk-weaker}
use Rattle.sl_layout.specs.Net.{Net}
use Rattle.sl_model.specs.declared.findings.Finding.{Finding}
use Rattle.sl_model.specs.declared.findings.Findings.{Findings}
use Rattle.sl_model.specs.Books.{schedule_of}
use Rattle.sl_model.specs.Setup.{setup_of}
use Rattle.sl_model.specs.Findings.{findings}
use Rattle.sl_report.specs.Report.{observer_line, finding_text, report_front, report_back, report_text}
use Rattle.sl_world.specs.World.{scene}
use Rattle.sl_emul.proofs.reporting.report_of.Goals as goal

-- a report is its front, its snapshots and its back
whole : (net : Net) (count : ℕ) (found rest : Findings) (list : List Finding) (front middle text : List ℕ) → rest ≡ record found { list = [] } → list ≡ found.list
    → front ≡ report_front net count rest → middle ≡ front ++ flat_map (finding_text net) list → text ≡ middle ++ report_back net rest → text ≡ report_text net count found
unfolding observer_line
whole net count found rest list front middle text r l f m t =
    t ∙ ap (λ (x : List ℕ). x ++ report_back net rest) (m ∙ ap (λ (x : List ℕ). x ++ flat_map (finding_text net) list) f)
    ∙ ap (λ (g : Findings). (report_front net count g ++ flat_map (finding_text net) list) ++ report_back net g) r
    ∙ ap (λ (fs : List Finding). (report_front net count found ++ flat_map (finding_text net) fs) ++ report_back net found) l
    ∙ (simp append_assoc)

pub returns : goal.returns
returns c lost h finished =
    let i = c.args.input.now in
    let v = scene c.args.world.now in
    let o = c.observer_of-observer.result.now.state in
    let list = ap (λ (f : Findings). f.list) (c.nodes_tell_findings.ensures.told i lost v o h c.observer_of-observer.ensures.observer c.requires.book finished) in
    IfOk-weaker c.report_by-text.result _ _
    (λ text is. whole i.net i.snapshot.count (findings (setup_of i) lost (schedule_of v.book)) c.in_ok-rest.rest _ _ _ _ (c.in_ok-rest.ensures lost h finished) list refl refl is)
    c.report_by-text.ensures
