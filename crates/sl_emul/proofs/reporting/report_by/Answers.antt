use Rattle.std.proofs.Common.{◌≡◌, ℕ, List, ◌++◌, ◌∙◌, ap, sym, subst, map, string_bytes, Vec, Global}
use Rattle.std.specs.List.{flat_map, range_with_len}
use Rattle.sl_net.specs.Input.{Input}
use Rattle.sl_model.specs.Accounts.{finding_by}
use Rattle.sl_report.specs.Report.{finding_text, report_back}
use Rattle.sl_proto.specs.Told.{HasAllRows, accounts_of}
use Rattle.sl_emul.proofs.reporting.report_by.Goals as goal

pub push_snapshots-requires : goal.push_snapshots-requires
push_snapshots-requires c = subst (λ (i : Input). HasAllRows i.net c.args.observer.now.state) (sym c.input.view_is) c.requires

pub returns : goal.returns
returns c =
    let i = c.args.input.now in
    let o = c.args.observer.now.state in
    let rest = c.args.rest.now in
    let list = map (finding_by o.issued (accounts_of o)) (range_with_len 1 i.snapshot.count) in
    let middle = subst (λ (j : Input). string_bytes c.push_snapshots.new.out ≡ string_bytes c.in_ok-out.out ++ flat_map (finding_text j.net) (map (finding_by o.issued (accounts_of o)) (range_with_len 1 j.snapshot.count))) c.input.view_is
    c.in_ok-push_snapshots.ensures in
    let text = subst (λ (j : Input). string_bytes c.push_back.new.out ≡ string_bytes c.push_snapshots.new.out ++ report_back j.net rest) c.input.view_is c.in_ok-push_back.ensures in
    ap (λ (bytes : Vec ℕ Global). bytes.items) c.into_bytes.ensures.value ∙ text
    ∙ ap (λ (x : List ℕ). x ++ report_back i.net rest) (middle ∙ ap (λ (x : List ℕ). x ++ flat_map (finding_text i.net) list) c.in_ok-out.ensures)
