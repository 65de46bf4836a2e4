use Rattle.std.proofs.Common.{◌≡◌, ◌∙◌, ◌<◌, ◌≤◌, ap, subst, sym, Some, true}
use Rattle.sl_machine.specs.Machine.{is_fitting}
use Rattle.sl_world.proofs.MachineLemmas.{same_counts, meaning_is, meaning_changed, count_read}
use Rattle.sl_world.proofs.machines.take_at.Goals as goal

pub returns-clause-states : goal.returns-clause-states
returns-clause-states g c s h =
    meaning_changed g.A.Machine.state c.args.machines.now.items c.args.actor c.index_mut.result.now c.take.new.self s (λ t. (g.A.Machine.rules.take t c.args.choice c.args.m).state) c.requires.actor c.index_mut.ensures.value h c.take.ensures.state

pub returns-clause-puts : goal.returns-clause-puts
returns-clause-puts g c s h =
    c.take.ensures.puts ∙ ap (λ t. (g.A.Machine.rules.take t c.args.choice c.args.m).puts) (meaning_is g.A.Machine.state c.args.machines.now.items c.args.actor c.index_mut.result.now s c.requires.actor c.index_mut.ensures.value h)

pub returns-clause-counts : goal.returns-clause-counts
returns-clause-counts g c = same_counts _ _ _ c.index_mut.result.now _ (c.take.ensures.counts ∙ ap g.A.Machine.counts c.index_mut.ensures.value)

pub take-requires : goal.take-requires
take-requires g c =
    record {
      link = subst (λ n. c.args.choice < n) (count_read (λ a. (g.A.Machine.counts a).ins) c.args.machines.now.items c.args.actor c.index_mut.result.now c.requires.actor c.index_mut.ensures.value) c.requires.choice;
      ready = meaning_is g.A.Machine.ready_for c.args.machines.now.items c.args.actor c.index_mut.result.now (Some c.args.choice) c.requires.actor c.index_mut.ensures.value c.requires.ready;
      empty = c.requires.empty;
      room = subst (λ n. n ≤ c.args.out.now.room) (count_read (λ a. (g.A.Machine.counts a).outs) c.args.machines.now.items c.args.actor c.index_mut.result.now c.requires.actor c.index_mut.ensures.value) c.requires.room;
    }

pub returns-clause-fitting : goal.returns-clause-fitting
returns-clause-fitting g c = subst (λ n. is_fitting n c.take.new.out.items ≡ true) (sym (count_read (λ a. (g.A.Machine.counts a).outs) c.args.machines.now.items c.args.actor c.index_mut.result.now c.requires.actor c.index_mut.ensures.value)) c.take.ensures.fitting
