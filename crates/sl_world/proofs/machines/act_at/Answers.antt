use Rattle.std.proofs.Common.{◌∙◌, ◌+◌, ◌<◌, ◌≤◌, get_or, ap, sym, Some, ◌≡◌, subst, Bool, true, false}
use Rattle.std.proofs.lemmas.List.{map-set}
use Rattle.std.proofs.Math.Seq.{map-set_same}
use Rattle.std.specs.Bool.{OnTrue, OnFalse}
use Rattle.sl_machine.specs.Fit.{ins_of}
use Rattle.sl_machine.specs.Machine.{is_fitting}
use Rattle.sl_world.proofs.MachineLemmas.{same_counts, meaning_is, count_read}
use Rattle.sl_world.proofs.machines.act_at.Goals as goal

on_true : {P Q : Type 0} (b : Bool) → (P → Q) → OnTrue b P → OnTrue b Q
on_true true f h = f h
on_true false f h = h

on_false : {P Q : Type 0} (b : Bool) → (P → Q) → OnFalse b P → OnFalse b Q
on_false true f h = h
on_false false f h = f h

pub returns-clause-did : goal.returns-clause-did
returns-clause-did g c s h =
    let is = meaning_is g.A.Machine.state c.args.machines.now.items c.args.actor c.index_mut.result.now s c.requires.actor c.index_mut.ensures.value h in
    on_true c.act.result (λ e. (g.A.Machine.state c.act.new.self, map-set g.A.Machine.state c.args.machines.now.items c.args.actor c.act.new.self, subst (λ t. g.A.Machine.rules.act t c.args.choice ≡ Some (record { state = g.A.Machine.state c.act.new.self; puts = c.act.new.out.items })) is e)) c.act.ensures.did

pub returns-clause-idle : goal.returns-clause-idle
returns-clause-idle g c s h =
    let is = meaning_is g.A.Machine.state c.args.machines.now.items c.args.actor c.index_mut.result.now s c.requires.actor c.index_mut.ensures.value h in
    on_false c.act.result (λ e. ap (λ t. g.A.Machine.rules.act t c.args.choice) (sym is) ∙ e) c.act.ensures.idle

pub returns-clause-same : goal.returns-clause-same
returns-clause-same g c = on_false c.act.result (λ e. map-set_same _ _ _ _ c.index_mut.result.now (e ∙ ap g.A.Machine.state c.index_mut.ensures.value)) c.act.ensures.same

pub returns-clause-counts : goal.returns-clause-counts
returns-clause-counts g c = same_counts _ _ _ c.index_mut.result.now _ (c.act.ensures.counts ∙ ap g.A.Machine.counts c.index_mut.ensures.value)

pub act-requires : goal.act-requires
act-requires g c =
    let ins = count_read (λ a. (g.A.Machine.counts a).ins) c.args.machines.now.items c.args.actor c.index_mut.result.now c.requires.actor c.index_mut.ensures.value in
    let actions = count_read (λ a. (g.A.Machine.counts a).actions) c.args.machines.now.items c.args.actor c.index_mut.result.now c.requires.actor c.index_mut.ensures.value in
    record {
      low = subst (λ n. n ≤ c.args.choice) ins c.requires.low;
      action = subst (λ n. c.args.choice < n + (g.A.Machine.counts c.index_mut.result.now).actions) ins (subst (λ n. c.args.choice < get_or (ins_of g.A.Machine.counts c.args.machines.now.items) c.args.actor 0 + n) actions c.requires.choice);
      ready = meaning_is g.A.Machine.ready_for c.args.machines.now.items c.args.actor c.index_mut.result.now (Some c.args.choice) c.requires.actor c.index_mut.ensures.value c.requires.ready;
      empty = c.requires.empty;
      room = subst (λ n. n ≤ c.args.out.now.room) (count_read (λ a. (g.A.Machine.counts a).outs) c.args.machines.now.items c.args.actor c.index_mut.result.now c.requires.actor c.index_mut.ensures.value) c.requires.room;
    }

pub returns-clause-fitting : goal.returns-clause-fitting
returns-clause-fitting g c = subst (λ n. is_fitting n c.act.new.out.items ≡ true) (sym (count_read (λ a. (g.A.Machine.counts a).outs) c.args.machines.now.items c.args.actor c.index_mut.result.now c.requires.actor c.index_mut.ensures.value)) c.act.ensures.fitting
