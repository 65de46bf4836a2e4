use Rattle.std.proofs.Common.{ℕ, ◌≤◌, length, sym, ap, subst, ◌∙◌}
use Rattle.sl_layout.specs.Net.{Net}
use Rattle.sl_net.specs.Wired.{IsNet}
use Rattle.sl_model.specs.Findings.{findings}
use Rattle.sl_report.specs.Sayable.{IsSmall, IsSayable}
use Rattle.sl_report.proofs.Runs.{runs_sayable}
use Rattle.sl_report.proofs.report_laws.findings_are_sayable.Goals as goal

pub returns : goal.returns
returns c count s lost es run =
    let made : IsNet s.net = subst IsNet (sym run.net_is) (record { made = c.parts.ensures.net; right = c.parts.ensures.right }) in
    let links : length s.net.links ≤ 77888 = subst (λ ls. length ls ≤ 77888) (c.links.ensures.now ∙ ap (λ (n : Net). n.links) (sym run.net_is)) c.links.ensures.few in
    let sayable = runs_sayable s lost es (record {
      net = made;
      wired = c.nets_are_wired.ensures s.net made;
      turns = c.worlds_take_turns.ensures;
      links = links;
      count = subst IsSmall (sym run.count_is) run.few;
      few = run.short;
      window = c.worlds_are_in_window.ensures s lost es made;
      issues = c.issues_are_counted.ensures s lost es made;
      late = λ k l h. c.channel_values_are_late_data.ensures s lost es k l made h;
      packets = c.counts_fit.ensures.packets;
      bytes = c.counts_fit.ensures.bytes;
      short = λ u. c.packets_are_short.ensures s lost es u run.sends;
    }) in
    subst (λ (n : ℕ). IsSayable c.args.net.now n (findings s lost es)) run.count_is (subst (λ (n : Net). IsSayable n s.count (findings s lost es)) run.net_is sayable)
