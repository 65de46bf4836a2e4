use Rattle.std.proofs.Common.{◌≡◌, ◌∙◌, ◌<◌, ◌+◌, ap, arith, length, subst, sym, true, false, get_or}
use Rattle.std.specs.Prelude.{slice_index}
use Rattle.sl_machine.specs.Machine.{is_fitting}
use Rattle.sl_machine.specs.Plan.{Plan}
use Rattle.sl_world.specs.Scene.{put_all}
use Rattle.sl_world.proofs.RoomLemmas.{all_fitting}
use Rattle.sl_world.proofs.MeshLemmas.{out_within, room_for_puts, lines_delivered, mesh_delivered}
use Rattle.sl_world.proofs.links.Links.deliver.Goals as goal

pub put_at_places-roomy-requires-clause-within : goal.put_at_places-roomy-requires-clause-within
put_at_places-roomy-requires-clause-within g c =
    let fields = c.self.inside in
    let low : c.args.actor < length fields.wiring.ins = omega (arith, ap (λ m. length m.plan.ins) c.self.view_is, c.requires.actor) in
    let fits = subst (λ (p : Plan). is_fitting (slice_index p.outs c.args.actor) c.args.out.now.items ≡ true) (sym (ap (λ m. m.plan) c.self.view_is)) c.requires.fitting in
    all_fitting (λ o. slice_index fields.outs.starts.items c.args.actor + o < length fields.outs.places.items) (slice_index fields.wiring.outs c.args.actor) c.args.out.now.items fits
    (λ o h. out_within fields.wiring fields.ins fields.outs fields.lines fields.roomy.items c.args.actor o c.self.invariant low h)

pub put_at_places-roomy-requires-clause-room : goal.put_at_places-roomy-requires-clause-room
put_at_places-roomy-requires-clause-room g c =
    let fields = c.self.inside in
    let low : c.args.actor < length fields.wiring.ins = omega (arith, ap (λ m. length m.plan.ins) c.self.view_is, c.requires.actor) in
    let fits = subst (λ (p : Plan). is_fitting (slice_index p.outs c.args.actor) c.args.out.now.items ≡ true) (sym (ap (λ m. m.plan) c.self.view_is)) c.requires.fitting in
    room_for_puts fields.wiring fields.ins fields.outs fields.lines fields.roomy.items c.args.actor c.args.out.now.items c.self.invariant low (ap (λ m. get_or m.roomy c.args.actor false) c.self.view_is ∙ c.requires.roomy) fits

pub invariant_of-self : goal.invariant_of-self
invariant_of-self g c =
    let fields = c.self.inside in
    let low : c.args.actor < length fields.wiring.ins = omega (arith, ap (λ m. length m.plan.ins) c.self.view_is, c.requires.actor) in
    let fits = subst (λ (p : Plan). is_fitting (slice_index p.outs c.args.actor) c.args.out.now.items ≡ true) (sym (ap (λ m. m.plan) c.self.view_is)) c.requires.fitting in
    mesh_delivered fields.wiring fields.ins fields.outs fields.lines c.put_at_places-roomy.new.lines fields.roomy.items c.args.actor c.args.out.now.items c.put_at_places-roomy.result c.self.invariant low (ap (λ m. get_or m.roomy c.args.actor false) c.self.view_is ∙ c.requires.roomy) fits c.put_at_places-roomy.ensures.lines c.put_at_places-roomy.ensures.others c.put_at_places-roomy.ensures.roomy

pub returns-clause-lines : goal.returns-clause-lines
returns-clause-lines g c =
    let fields = c.self.inside in
    let low : c.args.actor < length fields.wiring.ins = omega (arith, ap (λ m. length m.plan.ins) c.self.view_is, c.requires.actor) in
    let fits = subst (λ (p : Plan). is_fitting (slice_index p.outs c.args.actor) c.args.out.now.items ≡ true) (sym (ap (λ m. m.plan) c.self.view_is)) c.requires.fitting in
    lines_delivered fields.wiring fields.ins fields.outs fields.lines fields.roomy.items c.args.actor c.args.out.now.items _ c.self.invariant low fits c.put_at_places-roomy.ensures.lines
    ∙ ap (λ m. put_all m.plan.links c.args.actor c.args.out.now.items m.lines) c.self.view_is
