use Rattle.std.proofs.Common.{◌≡◌, ◌∙◌, List, length, map, sym, subst, ap, arith}
use Rattle.std.proofs.lemmas.List.{length-map}
use Rattle.std.proofs.lemmas.Result.{IfOk-weaker}
use Rattle.sl_machine.specs.Plan.{Plan}
use Rattle.sl_machine.specs.declared.wiring.Link.{Link}
use Rattle.sl_machine.specs.declared.wiring.Entry.{Entry}
use Rattle.sl_actor.specs.Follows.{ActorView}
use Rattle.sl_actor.specs.Held.{held}
use Rattle.sl_world.specs.World.{scene}
use Rattle.sl_merge.specs.Merging.{IsMerge}
use Rattle.sl_merge.specs.Parted.{AreThere}
use Rattle.sl_merge.proofs.MergedLemmas.{there, ended, have_met, met_by, rests_by, are_rests, entries_of_logs, all_rise, actors_each, few_sorted, counts_of, IsMerged, merged, resumed_by}
use Rattle.sl_merge.proofs.merged.merge.Goals as goal

pub meet_all-requires-clause-there : goal.meet_all-requires-clause-there
meet_all-requires-clause-there g c =
    let p = c.in_ok-machines.field-0 in
    let links : c.as_slice-links.result.now ≡ c.args.wiring.now.links = c.as_slice-links.ensures.value ∙ ap (λ (p : Plan). p.links) c.wiring.view_is in
    subst (λ (l : List Link). AreThere {M = g.row.A-Msg.Denot} l p.takes.items p.outs.items) (sym links)
    (there c.args.wiring.now (map held c.args.actors.items) c.requires.wired p.takes.items p.outs.items c.in_ok-machines.ensures.takes c.in_ok-machines.ensures.outs)

pub merge_logs-requires : goal.merge_logs-requires
merge_logs-requires g c =
    let actors = map held c.args.actors.items in
    let met = met_by c.args.wiring.now actors c.requires.wired c.in_ok-machines.field-0.takes.items c.in_ok-machines.field-0.outs.items c.in_ok-machines.ensures.takes c.in_ok-machines.ensures.outs
    c.as_slice-links.result.now (c.as_slice-links.ensures.value ∙ ap (λ (p : Plan). p.links) c.wiring.view_is) c.in_ok-rests.rests c.in_ok-rests.ensures g.A.Machine.rules (map g.A.Machine.state c.args.first.now) (length-map c.args.first.now g.A.Machine.state ∙ c.requires.first) c.requires.follows in
    record {
      few = omega (arith, ap length c.as_slice.ensures.value, length-map c.in_ok-machines.field-0.logs.items (λ log. log.items), ap length c.in_ok-machines.ensures.logs, length-map actors (λ a. a.log), actors_each c.args.wiring.now actors c.requires.wired, c.requires.wired.sound.actors_fit);
      logs = all_rise g.A.Machine.rules _ (map (λ log. log.items) c.as_slice.result.now) met (ap (map (λ log. log.items)) c.as_slice.ensures.value ∙ c.in_ok-machines.ensures.logs);
    }

pub resume-requires-clause-fit : goal.resume-requires-clause-fit
resume-requires-clause-fit g c = record {
  sound = c.requires.wired.sound;
  machines_fit = counts_of g.A.Machine.counts (λ (a : ActorView g.A.Machine.State g.row.A-Msg.Denot). a.counts) c.args.wiring.now c.in_ok-machines.field-0.machines.items (map held c.args.actors.items) c.in_ok-machines.ensures.counts c.requires.wired.counts;
  losses_fit = ap length c.into_lists-losses.ensures.losses ∙ c.in_ok-rests.ensures.losses_each ∙ ap length (c.as_slice-links.ensures.value ∙ ap (λ (p : Plan). p.links) c.wiring.view_is);
}

pub resume-requires-clause-book : goal.resume-requires-clause-book
resume-requires-clause-book g c = few_sorted _ _ _ c.in_ok-book.ensures.merge.same_entries (entries_of_logs (map held c.args.actors.items) (map (λ log. log.items) c.as_slice.result.now) (ap (map (λ log. log.items)) c.as_slice.ensures.value ∙ c.in_ok-machines.ensures.logs)) c.requires.few

pub resume-requires-clause-numbers : goal.resume-requires-clause-numbers
resume-requires-clause-numbers g c =
    let actors = map held c.args.actors.items in
    let met = met_by c.args.wiring.now actors c.requires.wired c.in_ok-machines.field-0.takes.items c.in_ok-machines.field-0.outs.items c.in_ok-machines.ensures.takes c.in_ok-machines.ensures.outs
    c.as_slice-links.result.now (c.as_slice-links.ensures.value ∙ ap (λ (p : Plan). p.links) c.wiring.view_is) c.in_ok-rests.rests c.in_ok-rests.ensures g.A.Machine.rules (map g.A.Machine.state c.args.first.now) (length-map c.args.first.now g.A.Machine.state ∙ c.requires.first) c.requires.follows in
    let book = c.in_ok-book.book.entries in
    (c.actors_are_runs.ensures.run _ book met (subst (λ (es : List Entry). IsMerge es book) (entries_of_logs actors (map (λ log. log.items) c.as_slice.result.now) (ap (map (λ log. log.items)) c.as_slice.ensures.value ∙ c.in_ok-machines.ensures.logs)) c.in_ok-book.ensures.merge)).small

pub returns : goal.returns
returns g c =
    let plan = c.args.wiring.now in
    let actors = map held c.args.actors.items in
    let wired = c.requires.wired in
    let p = c.in_ok-machines.field-0 in
    let e = c.in_ok-machines.ensures in
    let rests = c.in_ok-rests.rests in
    let are = rests_by plan actors wired p.takes.items p.outs.items e.takes e.outs c.as_slice-links.result.now (c.as_slice-links.ensures.value ∙ ap (λ (p : Plan). p.links) c.wiring.view_is) rests c.in_ok-rests.ensures in
    let firsts = map g.A.Machine.state c.args.first.now in
    let each = length-map c.args.first.now g.A.Machine.state ∙ c.requires.first in
    let rules = g.A.Machine.rules in
    let end = ended plan actors wired p.takes.items p.outs.items e.takes e.outs rests are rules firsts each c.requires.follows in
    let met = have_met plan actors wired p.takes.items p.outs.items e.takes e.outs rests are rules firsts each c.requires.follows in
    let book = c.in_ok-book.book.entries in
    let m = subst (λ (es : List Entry). IsMerge es book) (entries_of_logs actors (map (λ log. log.items) c.as_slice.result.now) (ap (map (λ log. log.items)) c.as_slice.ensures.value ∙ c.in_ok-machines.ensures.logs)) c.in_ok-book.ensures.merge in
    let l = c.into_lists-losses.ensures in
    let run = c.merges_are_resumed.ensures end rests book met (are_rests plan actors wired p.takes.items p.outs.items e.takes e.outs rests are rules firsts each c.requires.follows) m in
    let all = IfOk-weaker c.resume.result _ (λ w. IsMerged plan actors wired p.takes.items p.outs.items e.takes e.outs rests are rules firsts each c.requires.follows book m (scene w))
    (λ w is. merged plan actors wired p.takes.items p.outs.items e.takes e.outs rests are rules firsts each c.requires.follows book m run (scene w)
    (resumed_by plan actors wired p.takes.items p.outs.items e.takes e.outs rests are rules firsts each c.requires.follows book m (scene w) _ _ _ _ is e.states l.losses l.lost l.messages))
    c.resume.ensures in
    record {
      run = IfOk-weaker c.resume.result _ _ (λ w h. h.run) all;
      numbers = IfOk-weaker c.resume.result _ _ (λ w h. h.numbers) all;
      small = IfOk-weaker c.resume.result _ _ (λ w h. h.small) all;
      book = IfOk-weaker c.resume.result _ _ (λ w h. h.book_is) all;
      order = IfOk-weaker c.resume.result _ _ (λ w h. h.order c.in_ok-book.ensures.ascending) all;
      plan = IfOk-weaker c.resume.result _ _ (λ w h. h.plan_is) all;
      machines = IfOk-weaker c.resume.result _ _ (λ w h. h.machines) all;
      links = IfOk-weaker c.resume.result _ _ (λ w h. h.links) all;
    }
