use Rattle.std.proofs.Common.{◌≡◌, ℕ, List, Option, None, ap, sym, subst, ◌∙◌}
use Rattle.std.specs.Prelude.{slice_get}
use Rattle.std.proofs.lemmas.Option.{slice_get_past}
use Rattle.sl_layout.specs.Net.{links_into}
use Rattle.sl_poll.specs.Hearing.{Hears}
use Rattle.sl_poll.specs.Ways.{pairs_told, counts_told}
use Rattle.sl_poll.proofs.Heard.{hears_nothing}
use Rattle.sl_poll.proofs.course.follow.Goals as goal

pub returns-in_ok-follow_action-in-None-clause-heard : goal.returns-in_ok-follow_action-in-None-clause-heard
returns-in_ok-follow_action-in-None-clause-heard g c =
    let none : slice_get (links_into c.args.net.now c.args.actor) c.args.choice ≡ None =
    ap (λ (ls : List ℕ). slice_get ls c.args.choice) (sym c.links_into.ensures.links) ∙ slice_get_past c.links_into.result.now c.args.choice c.in-None.ensures.lookup.3 in
    let net = c.args.net.now in let x = c.args.listener.now in let lanes = c.args.course.now.lanes.items in
    subst (λ (o : Option ℕ). Hears g.L.Listener.heard net x x (pairs_told net c.args.entry o lanes) (counts_told net c.args.entry c.args.actor o lanes)) (sym none) (hears_nothing g.L.Listener.heard net x)
