use Rattle.std.proofs.Common.{◌≡◌, true, false, length, ap, sym, ◌∙◌, refl, eq-eqb}
use Rattle.sl_layout.specs.Net.{Net}
use Rattle.sl_net.specs.Input.{Input}
use Rattle.sl_model.specs.Losses.{losses}
use Rattle.sl_model.specs.Setup.{setup_of}
use Rattle.sl_model.specs.Books.{schedule_of}
use Rattle.sl_world.specs.World.{scene}
use Rattle.sl_check.proofs.Ended.{ends-in, polled-is, differs, last-length}
use Rattle.sl_check.proofs.end.ends_well.Goals as goal

pub returns-then-is_collected : goal.returns-then-is_collected
returns-then-is_collected c =
    let i = c.args.input.now in
    let v = scene c.args.world.now in
    let o = c.observer-observer.result.now.state in
    let tells = c.observer_nodes_tell.ensures i v o c.requires.stands c.observer-observer.ensures in
    ends-in i v o true _ _ tells (sym c.is_collected.ensures ∙ c.if-is_collected.true) refl refl

pub returns-then-resent-input : goal.returns-then-resent-input
returns-then-resent-input c =
    let i = c.args.input.now in
    let v = scene c.args.world.now in
    let o = c.observer-observer.result.now.state in
    let tells = c.observer_nodes_tell.ensures i v o c.requires.stands c.observer-observer.ensures in
    let retries : c.input.inside.snapshot.retries ≡ i.snapshot.retries = ap (λ (i : Input). i.snapshot.retries) c.input.view_is in
    ends-in i v o false false _ tells (sym c.is_collected.ensures ∙ c.if-is_collected.false)
    (differs o.resent i.snapshot.retries (λ e. c.if-resent-input.true (c.resent.ensures ∙ e ∙ sym retries))) refl

pub returns : goal.returns
returns c =
    let i = c.args.input.now in
    let v = scene c.args.world.now in
    let o = c.observer-observer.result.now.state in
    let tells = c.observer_nodes_tell.ensures i v o c.requires.stands c.observer-observer.ensures in
    let retries : c.input.inside.snapshot.retries ≡ i.snapshot.retries = ap (λ (i : Input). i.snapshot.retries) c.input.view_is in
    let net : c.input.inside.net ≡ i.net = ap (λ (i : Input). i.net) c.input.view_is in
    let each : (length c.actors.result.now) ≡ length i.net.actors = ap length c.actors.ensures.now ∙ ap (λ (n : Net). length n.actors) net in
    ends-in i v o false true c.all_polled.result tells (sym c.is_collected.ensures ∙ c.if-is_collected.false)
    (eq-eqb o.resent i.snapshot.retries (sym c.resent.ensures ∙ c.if-resent-input.false ∙ retries))
    (polled-is c.worlds_take_turns.ensures (setup_of i) (losses i) (schedule_of v.book) c.args.schedule.now c.input.inside.net (length c.actors.result.now) c.as_slice.result.now c.all_polled.result
    c.requires.stands.legal c.requires.schedule net each (c.as_slice.ensures.value ∙ c.in_ok-last.ensures) c.all_polled.ensures)

pub all_polled-requires : goal.all_polled-requires
all_polled-requires c = ap length (c.as_slice.ensures.value ∙ c.in_ok-last.ensures) ∙ last-length (length c.actors.result.now) c.args.schedule.now ∙ ap length c.actors.ensures.now
