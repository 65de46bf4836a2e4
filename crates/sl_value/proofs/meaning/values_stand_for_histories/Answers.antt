use Rattle.std.proofs.Common.{◌≡◌, length, subst, arith}
use Rattle.std.proofs.lemmas.List.{length-map}
use Rattle.sl_machine.specs.declared.wiring.Entry.{Entry}
use Rattle.sl_wire.specs.Sizes.{sizes_of}
use Rattle.sl_model.specs.Books.{schedule_of}
use Rattle.sl_model.specs.Losses.{losses}
use Rattle.sl_model.specs.Setup.{setup_of}
use Rattle.sl_model.specs.World.{world}
use Rattle.sl_proto.specs.Image.{IsImage}
use Rattle.sl_proto.specs.Standing.{case_of}
use Rattle.sl_value.specs.Standing.{ValueStands}
use Rattle.sl_value.proofs.Stand.{begun}
use Rattle.sl_value.proofs.meaning.values_stand_for_histories.Goals as goal

pub returns : goal.returns
returns c i v r stands ranged few a state here =
    let s = setup_of i in
    let x = case_of i (losses i) in
    let es = schedule_of v.book in
    let n : length es ≡ length v.book = length-map v.book (λ (e : Entry). (e.actor, e.choice)) in
    let b = begun c.worlds_take_turns.ensures i v r ranged c.nodes_start.ensures.stand (c.values_follow.ensures x stands.runnable) in
    let image = c.machines_stand_for_histories.ensures.image x b es (omega (arith, n, few)) in
    (subst (IsImage s (losses i) (sizes_of i.snapshot) (ValueStands s i.snapshot) (world s (losses i) es)) r.reached image).states a state here
