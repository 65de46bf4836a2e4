-- What calls that drive schedules leave, one after the other.
use Rattle.std.proofs.Common.{◌≡◌, ℕ, zero, suc, ◌+◌, ◌-◌, ◌<◌, List, [], ◌++◌, length, refl, sym, ap, subst, ◌∙◌, Result, Ok, Err, OnOk, arith, append_assoc, append-nil, get_or, take, drop, take-append-drop}
use Rattle.std.proofs.lemmas.Grind.{flat_map-append}
use Rattle.std.proofs.lemmas.List.{take_more, flat_map_more}
use Rattle.std.proofs.lemmas.Result.{on_ok_weaker}
use Rattle.sl_net.specs.declared.input.Script1.{Script1}
use Rattle.sl_layout.specs.Net.{Net}
use Rattle.sl_layout.specs.Wiring.{plan_of}
use Rattle.sl_wire.specs.declared.message.Msg.{Msg}
use Rattle.sl_model.specs.World.{Entry}
use Rattle.sl_model.specs.Schedule.{passes_of, expand_one, expand}
use Rattle.sl_world.specs.Scene.{Scene}
use Rattle.sl_proto.specs.Nodes.{NodeState}
use Rattle.sl_proto.specs.Standing.{run_at}
use Rattle.sl_proto.specs.Calls.{Keeps, Drives, HasDriven}
use Rattle.sl_proto.proofs.Choices.{passes-next}
use Rattle.sl_proto.proofs.Trails.{follows-append}
use Rattle.sl_proto.proofs.Standing.{follows-none, keeps_none, keeps_on}
use Rattle.sl_proto.proofs.Fronts.{front-whole, front-after, front-longer}

on-any : {A E : Type 0} (answer : Result A E) {P : Type 0} → P → OnOk answer P
on-any (Ok _) h = h
on-any (Err _) h = tt

module _ {T F : Type 0} (scene_of : T → Scene NodeState Msg) (fixed_of : T → F) (net : Net) where
  -- the whole schedule
  pub driven-whole : {A E : Type 0} (answer : Result A E) (old new : T) (es : List Entry) → Keeps scene_of fixed_of net old new → Drives net (scene_of old) es (scene_of new)
      → HasDriven scene_of fixed_of net old es answer new
  driven-whole answer old new es keeps drives = record {
    keeps = keeps;
    follows = on-any answer drives;
    front = λ x st. front-whole x.setup x.lost (run_at x (scene_of old)) (run_at x (scene_of new)) es (drives x st);
  }

  pub driven-none : {A E : Type 0} (answer : Result A E) (t : T) → (scene_of t).plan ≡ plan_of net → HasDriven scene_of fixed_of net t [] answer t
  driven-none answer t plan = driven-whole answer t t [] (keeps_none scene_of fixed_of net t plan) (λ x st. follows-none x.setup x.lost (run_at x (scene_of t)))

  pub driven-as : {A E : Type 0} (answer : Result A E) (old new : T) (es fs : List Entry) → es ≡ fs → HasDriven scene_of fixed_of net old es answer new → HasDriven scene_of fixed_of net old fs answer new
  driven-as answer old new es fs q h = subst (λ xs. HasDriven scene_of fixed_of net old xs answer new) q h

  -- one after the other
  pub driven-on : {A B D E : Type 0} (old mid new : T) (es fs : List Entry) (a : A) (answer : Result B D) → HasDriven {A = A} {E = E} scene_of fixed_of net old es (Ok a) mid
      → HasDriven scene_of fixed_of net mid fs answer new → HasDriven scene_of fixed_of net old (es ++ fs) answer new
  driven-on old mid new es fs a answer one next = record {
    keeps = keeps_on scene_of fixed_of net old mid new one.keeps next.keeps;
    follows = on_ok_weaker answer (λ f x st. follows-append x.setup x.lost (run_at x (scene_of old)) (run_at x (scene_of mid)) (run_at x (scene_of new)) es fs (one.follows x st) (f x (one.keeps.stands x st))) next.follows;
    front = λ x st. front-after x.setup x.lost (run_at x (scene_of old)) (run_at x (scene_of mid)) (run_at x (scene_of new)) es fs (one.follows x st) (next.front x (one.keeps.stands x st));
  }

  -- a call that ends for want of memory, of a schedule that begins with what was driven
  pub driven-short : {A B D E : Type 0} (answer : Result A E) (part : Result B D) (old new : T) (es whole more : List Entry) → OnOk answer (Drives net (scene_of old) whole (scene_of new))
      → whole ≡ es ++ more → HasDriven scene_of fixed_of net old es part new → HasDriven scene_of fixed_of net old whole answer new
  driven-short answer part old new es whole more none q h = record {
    keeps = h.keeps;
    follows = none;
    front = λ x st. front-longer x.setup x.lost (run_at x (scene_of old)) (run_at x (scene_of new)) es whole more q (h.front x st);
  }

  -- a call that ends so before its first turn
  pub driven-nothing : {A E : Type 0} (answer : Result A E) (t : T) (es : List Entry) → OnOk answer (Drives net (scene_of t) es (scene_of t)) → (scene_of t).plan ≡ plan_of net
      → HasDriven scene_of fixed_of net t es answer t
  driven-nothing answer t es none plan = driven-short answer answer t t [] es es none refl (driven-none answer t plan)

-- Passes and scripts, so far and the rest.

passes-more : (es : List Entry) (n d : ℕ) → (more : List Entry) × (passes_of es (n + d) ≡ passes_of es n ++ more)
passes-more es n zero = let e : n + 0 ≡ n = omega arith in ([], ap (passes_of es) e ∙ sym (append-nil (passes_of es n)))
passes-more es n (suc d) = let e : n + suc d ≡ (n + d) + 1 = omega arith in let x = passes-more es n d in
    (x.0 ++ es, ap (passes_of es) e ∙ passes-next es (n + d) ∙ ap (λ r. r ++ es) x.1 ∙ append_assoc (passes_of es n) x.0 es)

pub passes-split : (es : List Entry) (n count : ℕ) → n < count → (more : List Entry) × (passes_of es count ≡ (passes_of es n ++ es) ++ more)
passes-split es n count h = let x = passes-more es (n + 1) (count - (n + 1)) in let e : (n + 1) + (count - (n + 1)) ≡ count = omega (arith, h) in
    (x.0, ap (passes_of es) (sym e) ∙ x.1 ∙ ap (λ xs. xs ++ x.0) (passes-next es n))

pub script-next : (net : Net) (script : List Script1) (i : ℕ) (d : Script1) → i < length script
    → expand net (take i script) ++ expand_one net (get_or script i d) ≡ expand net (take (i + 1) script)
script-next net script i d h = flat_map_more (expand_one net) [] (take i script) (get_or script i d) ∙ sym (ap (expand net) (take_more script i d h))

pub script-split : (net : Net) (script : List Script1) (i : ℕ) (d : Script1) → i < length script
    → expand net script ≡ (expand net (take i script) ++ expand_one net (get_or script i d)) ++ expand net (drop (i + 1) script)
script-split net script i d h = ap (expand net) (sym (take-append-drop (i + 1) script)) ∙ flat_map-append (expand_one net) (take (i + 1) script) (drop (i + 1) script)
    ∙ ap (λ xs. xs ++ expand net (drop (i + 1) script)) (sym (script-next net script i d h))
