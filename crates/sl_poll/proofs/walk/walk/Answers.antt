use Rattle.std.proofs.Common.{◌≡◌, ℕ, ◌+◌, ◌++◌, [], length, get_or, refl, sym, ap, subst, ◌∙◌, arith}
use Rattle.std.specs.Prelude.{slice_get}
use Rattle.sl_parts.specs.Parts.{below}
use Rattle.sl_layout.specs.Net.{Net, links_into}
use Rattle.sl_net.specs.Input.{Input}
use Rattle.sl_net.specs.Wired.{IsWired}
use Rattle.sl_poll.specs.Lanes.{AreFew}
use Rattle.sl_poll.specs.Ways.{pairs_told, counts_told}
use Rattle.sl_poll.proofs.Heard.{hears_on, hears_same}
use Rattle.sl_poll.proofs.Traced.{few-first, traced_first, traced_actor, traced_more, traced_all}
use Rattle.sl_poll.proofs.walk.walk.Goals as goal

pub loop-actor-init : goal.loop-actor-init
loop-actor-init g c = let i = c.args.input.now in record {
  walked = record {
    told = [];
    counts = [];
    traced = traced_first i c.args.schedule.now c.in_ok-course.course.lanes.items c.in_ok-course.course.feeds.items [] []
        c.worlds_take_turns.ensures c.requires.legal c.in_ok-course.ensures.lanes c.in_ok-course.ensures.feeds refl refl;
    hears = c.requires.first;
  };
  few = subst AreFew (sym c.in_ok-course.ensures.lanes) (few-first i (below (length i.net.links)));
  entry = refl;
}

pub follow-requires : goal.follow-requires
follow-requires g c =
    let i = c.args.input.now in let x = c.loop-actor in let w = x.invariant.walked in let z : ℕ × ℕ = (0, 0) in
    let net : i.net ≡ c.input.inside.net = sym (ap (λ (j : Input). j.net) c.input.view_is) in record {
      routes = c.in_ok-routes.ensures;
      actor = omega (
        arith,
        ap (λ (n : Net). length n.actors) net,
        traced_actor i c.args.schedule.now x.actor-index x.course.lanes.items x.course.feeds.items w.told w.counts w.traced z c.loop-actor-test.true
            c.worlds_take_turns.ensures,
      );
      each = w.traced.follows.lanes_each ∙ ap (λ (n : Net). length n.links) net;
      few = x.invariant.few;
      feeds = w.traced.follows.feeds_each ∙ ap (λ (n : Net). length n.actors) net;
    }

pub loop-actor-preserved : goal.loop-actor-preserved
loop-actor-preserved g c =
    let i = c.args.input.now in let x = c.loop-actor in let w = x.invariant.walked in let z : ℕ × ℕ = (0, 0) in let y = c.follow.new in
    let heard = g.L.Listener.heard in
    let net : c.input.inside.net ≡ i.net = ap (λ (j : Input). j.net) c.input.view_is in
    let wired : IsWired i.net = subst IsWired net (c.nets_are_wired.ensures c.input.inside.net (record { made = c.parts-parts.ensures.net; right = c.parts-parts.ensures.right })) in
    let e = get_or c.args.schedule.now x.actor-index z in
    let told = pairs_told c.input.inside.net (x.entry + 1) (slice_get (links_into c.input.inside.net e.0) e.1) x.course.lanes.items in
    let counts = counts_told c.input.inside.net (x.entry + 1) e.0 (slice_get (links_into c.input.inside.net e.0) e.1) x.course.lanes.items in record {
      walked = record {
        told = w.told ++ told;
        counts = w.counts ++ counts;
        traced = traced_more i c.args.schedule.now x.actor-index x.course.lanes.items x.course.feeds.items w.told w.counts w.traced z c.loop-actor-test.true
            wired c.worlds_take_turns.ensures c.losses_answer_in_order.ensures c.input.inside.net net (x.entry + 1) (ap (λ j. j + 1) x.invariant.entry) y.course.lanes.items y.course.feeds.items (w.told ++ told) (w.counts ++ counts)
            c.in_ok-follow.ensures.lanes c.in_ok-follow.ensures.feeds refl refl c.in_ok-follow.ensures.few c.in_ok-follow.ensures.each;
        hears = hears_on heard c.input.inside.net i.net net c.args.listener.now x.listener y.listener w.told told w.counts counts c.in_ok-follow.ensures.heard w.hears;
      };
      few = c.in_ok-follow.ensures.few;
      entry = ap (λ j. j + 1) x.invariant.entry;
    }

pub returns : goal.returns
returns g c = let x = c.loop-actor in let w = x.invariant.walked in
    let all = traced_all c.args.input.now c.args.schedule.now x.actor-index x.course.lanes.items x.course.feeds.items w.told w.counts w.traced (omega arith) in
    hears_same g.L.Listener.heard c.args.input.now.net c.args.listener.now x.listener w.told _ w.counts _ (sym all.pairs) (sym all.counted) w.hears
