use Rattle.std.proofs.Common.{◌≡◌, List, [], sym, subst, ap, ◌∙◌}
use Rattle.sl_layout.specs.Net.{Net}
use Rattle.sl_net.specs.declared.input.Script1.{Script1}
use Rattle.sl_net.specs.Input.{Input}
use Rattle.sl_wire.specs.declared.message.Msg.{Msg}
use Rattle.sl_model.specs.Losses.{losses}
use Rattle.sl_model.specs.Schedule.{expand}
use Rattle.sl_model.specs.Setup.{setup_of}
use Rattle.sl_world.specs.Scene.{Scene}
use Rattle.sl_proto.specs.Nodes.{NodeState}
use Rattle.sl_proto.specs.Runs.{Follows}
use Rattle.sl_proto.specs.Standing.{case_of, run_at, StandsFor}
use Rattle.sl_proto.specs.Calls.{KeepsStanding}
use Rattle.sl_proto.specs.RunBook.{IsRunBook}
use Rattle.sl_proto.proofs.Books.{is-run}
use Rattle.sl_proto.proofs.run.run_script.Goals as goal

-- the nodes stand for an input's books where they do so for the net that it holds
goes : (i : Input) (n : Net) (v u : Scene NodeState Msg) → n ≡ i.net → KeepsStanding n v u → StandsFor i.net (case_of i (losses i)) v → StandsFor i.net (case_of i (losses i)) u
goes i n v u e k s = subst (λ (n : Net). StandsFor n (case_of i (losses i)) u) e (k (case_of i (losses i)) (subst (λ (n : Net). StandsFor n (case_of i (losses i)) v) (sym e) s))

pub returns-in_err-drive_script-clause-stands : goal.returns-in_err-drive_script-clause-stands
returns-in_err-drive_script-clause-stands g c =
    goes c.args.input.now c.input.inside.net _ _ (ap (λ (i : Input). i.net) c.input.view_is) c.drive_script.ensures.keeps.stands (c.first_nodes_stand.ensures _ c.requires.first)

pub returns-in_err-front-clause-stands : goal.returns-in_err-front-clause-stands
returns-in_err-front-clause-stands g c =
    let net = ap (λ (i : Input). i.net) c.input.view_is in
    goes c.args.input.now c.input.inside.net _ _ net c.end_run.ensures.keeps.stands (goes c.args.input.now c.input.inside.net _ _ net c.drive_script.ensures.keeps.stands (c.first_nodes_stand.ensures _ c.requires.first))

pub returns-clause-stands : goal.returns-clause-stands
returns-clause-stands g c =
    let net = ap (λ (i : Input). i.net) c.input.view_is in
    goes c.args.input.now c.input.inside.net _ _ net c.end_run.ensures.keeps.stands (goes c.args.input.now c.input.inside.net _ _ net c.drive_script.ensures.keeps.stands (c.first_nodes_stand.ensures _ c.requires.first))

pub returns-clause-book : goal.returns-clause-book
returns-clause-book g c =
    let i = c.args.input.now in
    let x = case_of i (losses i) in
    let v = g.T.Taker.scene c.args.taker.now in
    let u = g.T.Taker.scene c.drive_script.new.taker in
    let t = g.T.Taker.scene c.end_run.new.taker in
    let net : c.input.inside.net ≡ i.net = ap (λ (i : Input). i.net) c.input.view_is in
    let first : StandsFor c.input.inside.net x v = subst (λ (n : Net). StandsFor n x v) (sym net) (c.first_nodes_stand.ensures v c.requires.first) in
    let script : c.as_slice.result.now ≡ i.script = c.as_slice.ensures.value ∙ ap (λ (i : Input). i.script) c.input.view_is in
    let follows : Follows (setup_of i) (losses i) (run_at x v) (expand i.net i.script) (run_at x u) =
    subst (λ (s : List Script1). Follows (setup_of i) (losses i) (run_at x v) (expand i.net s) (run_at x u)) script
    (subst (λ (n : Net). Follows (setup_of i) (losses i) (run_at x v) (expand n c.as_slice.result.now) (run_at x u)) net (c.in_ok-drive_script.ensures.follows x first)) in
    let ends = c.in_ok-front.ensures.finishes x c.requires.can.snapshot.some_window (c.drive_script.ensures.keeps.stands x first) in
    let empty : v.book ≡ [] = ap (λ (s : Scene NodeState Msg). s.book) c.requires.first.is in
    subst (IsRunBook i (losses i) t.book) (sym c.in_ok-front.ensures.front)
    (is-run c.worlds_take_turns.ensures i (losses i) v u t c.books_grow_by_turns.ensures.append c.books_grow_by_turns.ensures.numbers empty follows ends c.inputs_are_bounded.ensures c.cuts_are_consistent.ensures c.requires.can.net
    (returns-clause-stands g c))
