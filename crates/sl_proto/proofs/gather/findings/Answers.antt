use Rattle.std.proofs.Common.{◌≡◌, ap, sym, subst, ◌∙◌, List, map}
use Rattle.std.specs.List.{range_with_len}
use Rattle.sl_net.specs.Input.{Input}
use Rattle.sl_model.specs.declared.findings.Finding.{Finding}
use Rattle.sl_model.specs.declared.findings.Findings.{Findings}
use Rattle.sl_model.specs.Accounts.{finding_by}
use Rattle.sl_model.specs.Books.{schedule_of}
use Rattle.sl_model.specs.Setup.{setup_of}
use Rattle.sl_model.specs.Findings.{findings}
use Rattle.sl_world.specs.World.{scene}
use Rattle.sl_proto.specs.Told.{HasAllRows, accounts_of}
use Rattle.sl_proto.proofs.gather.findings.Goals as goal

pub finding_list-requires : goal.finding_list-requires
finding_list-requires c = subst (λ (i : Input). HasAllRows i.net c.observer_of-observer.result.now.state) (sym c.input.view_is) c.observer_of-observer.ensures.rows

pub returns : goal.returns
returns c lost h finished = let i = c.args.input.now in
    let v = scene c.args.world.now in
    let o = c.observer_of-observer.result.now.state in
    let all : Findings = findings (setup_of i) lost (schedule_of v.book) in
    let list : c.in_ok-list.list ≡ all.list = c.in_ok-list.ensures ∙ ap (λ (j : Input). map (finding_by o.issued (accounts_of o)) (range_with_len 1 j.snapshot.count)) c.input.view_is
    ∙ ap (λ (f : Findings). f.list) (c.nodes_tell_findings.ensures.told i lost v o h c.observer_of-observer.ensures.observer c.requires.book finished) in
    ap (λ (f : Findings). record f { list = c.in_ok-list.list }) (c.in_ok-findings.ensures lost h finished) ∙ ap (λ (fs : List Finding). record all { list = fs }) list
