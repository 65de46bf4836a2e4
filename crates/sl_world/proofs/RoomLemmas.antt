-- Room on links.
use Rattle.std.proofs.Common.{◌≡◌, ◌≢◌, ℕ, zero, suc, ◌+◌, ◌<◌, List, [], ◌∷◌, ◌++◌, length, get_or, replicate, set, refl, ap, sym, ◌∙◌, subst, arith, Bool, true, false, inl, inr}
use Rattle.std.specs.Prelude.{slice_index, All}
use Rattle.std.proofs.lemmas.Bool.Decides.{nat_tests}
use Rattle.std.proofs.lemmas.Bool.{cases_eq}
use Rattle.std.proofs.lemmas.List.{map-set, length-map, length-set, get_or-map, get_or-set_same, get_or-set_other, get_or_read}
use Rattle.std.proofs.Math.Seq.{map-set_same}
use Rattle.sl_machine.specs.declared.wiring.Link.{Link}
use Rattle.sl_machine.specs.Machine.{puts_on, is_fitting}
use Rattle.sl_machine.specs.Plan.{Plan, IsSound, link_out, link_at}
use Rattle.sl_world.specs.Scene.{Line, empty_line, line_at, line_put, put_at, put_each}
use Rattle.sl_world.proofs.ShapeLaws.{length-put_each}
use Rattle.sl_world.specs.LineView.{LineView}
use Rattle.sl_world.specs.Mesh.{lines_of, no_view, room_at, HasRoom, KeepsSomeRoom, HasRoomFor, IsElsewhere}
use Rattle.sl_world.specs.Places.{place_of, Leads}
use Rattle.sl_world.specs.declared.places.Places.{Places}

-- a change of room alone
pub lines_of-same : {M : Type 0} (views : List (LineView M)) (k : ℕ) (e new : LineView M) → new.line ≡ (get_or views k e).line → lines_of (set views k new) ≡ lines_of views
lines_of-same views k e new same = map-set_same (λ v. v.line) views k new e same

-- a put on a link
pub lines_of-put : {M : Type 0} (views : List (LineView M)) (k : ℕ) (e new : LineView M) (m : M) → k < length views → new.line ≡ line_put (get_or views k e).line m → lines_of (set views k new) ≡ put_at (lines_of views) k m
lines_of-put {M} views k e new m low put =
    map-set (λ v. v.line) views k new ∙ ap (set (lines_of views) k) (put ∙ ap (λ l. line_put l m) (sym (get_or-map (λ v. v.line) views k e empty_line low)))

-- the link at a place
pub line_is : {M : Type 0} (views : List (LineView M)) (k : ℕ) (e : LineView M) → k < length views → e ≡ get_or views k e → line_at (lines_of views) k ≡ e.line
line_is views k e low read = get_or-map (λ v. v.line) views k e empty_line low ∙ sym (ap (λ v. v.line) read)

-- a change of one link that leaves it some room where it had some
pub some_room_kept : {M : Type 0} (old new : List (LineView M)) (k : ℕ) → (0 < room_at old k → 0 < room_at new k) → ((j : ℕ) → j ≢ k → room_at new j ≡ room_at old j) → KeepsSomeRoom old new
some_room_kept old new k some others j room =
    elim (cases_eq j k) [
      | inl same ↦ subst (λ (i : ℕ). 0 < room_at old i → 0 < room_at new i) (sym same) some room
      | inr other ↦ omega (arith, others j other)
    ]

-- the same where the link is written
pub some_room_set : {M : Type 0} (views : List (LineView M)) (k : ℕ) (e new : LineView M) → k < length views → e ≡ get_or views k e → (0 < e.room → 0 < new.room) → KeepsSomeRoom views (set views k new)
some_room_set views k e new low read some =
    let here : room_at (set views k new) k ≡ new.room = ap (λ v. v.room) (get_or-set_same views k new no_view low) in
    let was : room_at views k ≡ e.room = ap (λ v. v.room) (sym (get_or_read views k e low read no_view)) in
    some_room_kept views (set views k new) k (λ h. subst (λ (n : ℕ). 0 < n) (sym here) (some (subst (λ (n : ℕ). 0 < n) was h))) (λ j other. ap (λ v. v.room) (get_or-set_other views k j new no_view other))

-- room on one link more
pub room_more : {M : Type 0} (place : ℕ → ℕ) (old new : List (LineView M)) (n k : ℕ) → k ≡ place n → KeepsSomeRoom old new → 0 < room_at new k → ((o : ℕ) → o < n → 0 < room_at old (place o)) → (o : ℕ) → o < n + 1 → 0 < room_at new (place o)
room_more place old new n k at kept some below o h =
    elim (cases_eq o n) [
      | inl same ↦ subst (λ (i : ℕ). 0 < room_at new i) (at ∙ ap place (sym same)) some
      | inr other ↦ kept (place o) (below o (omega arith))
    ]

-- as many links as before
pub length_same : {M : Type 0} (old new : List (LineView M)) → lines_of new ≡ lines_of old → length new ≡ length old
length_same old new e = sym (length-map new (λ v. v.line)) ∙ (ap length e ∙ length-map old (λ v. v.line))

pub length_changed : {M : Type 0} (old new : List (LineView M)) (k : ℕ) (line : Line M) → lines_of new ≡ set (lines_of old) k line → length new ≡ length old
length_changed old new k line e = sym (length-map new (λ v. v.line)) ∙ (ap length e ∙ (length-set (lines_of old) k line ∙ length-map old (λ v. v.line)))

pub length_put : {M : Type 0} (place : ℕ → ℕ) (ps : List (ℕ × M)) (old new : List (LineView M)) → lines_of new ≡ put_each place ps (lines_of old) → length new ≡ length old
length_put place ps old new e = sym (length-map new (λ v. v.line)) ∙ (ap length e ∙ (length-put_each place ps (lines_of old) ∙ length-map old (λ v. v.line)))

-- an actor has room on all its links where it has room at each number
pub room_from : {M : Type 0} (plan : Plan) (outs : Places) (views : List (LineView M)) (actor : ℕ) → IsSound plan → Leads outs plan.outs (link_out plan.links) → actor < length plan.ins → ((o : ℕ) → o < slice_index plan.outs actor → 0 < room_at views (place_of outs actor o)) → HasRoom plan.links views actor
room_from plan outs views actor sound leads low room k below from =
    let out_low : (link_at plan.links k).out < slice_index plan.outs actor = subst (λ (a : ℕ). (link_at plan.links k).out < slice_index plan.outs a) from (sound.out_below k below) in
    let place_is : place_of outs actor (link_at plan.links k).out ≡ k = leads.is actor (link_at plan.links k).out (omega (arith, sound.outs_each)) out_low ∙ (ap (λ (a : ℕ). link_out plan.links a (link_at plan.links k).out) (sym from) ∙ sound.once_out k below) in
    subst (λ (i : ℕ). 0 < room_at views i) place_is (room (link_at plan.links k).out out_low)

-- each put's number is below the actor's outgoing links
pub all_fitting : {M : Type 0} (P : ℕ → Type 0) (outs : ℕ) (ps : List (ℕ × M)) → is_fitting outs ps ≡ true → ((o : ℕ) → o < outs → P o) → All (λ p. P p.0) ps
all_fitting P outs [] fits each k d low = absurd (omega arith)
all_fitting P outs (p ∷ ps) fits each zero d low = each p.0 (grind (arith, nat_tests))
all_fitting P outs (p ∷ ps) fits each (suc k) d low = all_fitting P outs ps (grind (arith, nat_tests)) each k d (omega arith)

-- puts on other numbers go elsewhere
elsewhere : {M : Type 0} (place : ℕ → ℕ) (outs n : ℕ) (ps : List (ℕ × M)) → is_fitting outs ps ≡ true → puts_on n ps ≡ false → ((o : ℕ) → o < outs → place o ≡ place n → o ≡ n) → IsElsewhere place ps (place n)
elsewhere place outs n [] fits apart once = tt
elsewhere place outs n (p ∷ ps) fits apart once =
    let low : p.0 < outs = grind (arith, nat_tests) in
    let others : is_fitting outs ps ≡ true = grind (arith, nat_tests) in
    let rest : puts_on n ps ≡ false = grind (arith, nat_tests) in
    let ne : p.0 ≢ n = grind (arith, nat_tests) in
    (λ e. ne (once p.0 low e), elsewhere place outs n ps others rest once)

-- the puts of a machine that fits have room
pub room_for : {M : Type 0} (place : ℕ → ℕ) (outs : ℕ) (views : List (LineView M)) (ps : List (ℕ × M)) → ((o : ℕ) → o < outs → place o < length views) → ((o : ℕ) → o < outs → 0 < room_at views (place o)) → ((o n : ℕ) → o < outs → n < outs → place o ≡ place n → o ≡ n) → is_fitting outs ps ≡ true → HasRoomFor place views ps
room_for place outs views [] within room once fits = tt
room_for place outs views (p ∷ ps) within room once fits =
    let low : p.0 < outs = grind (arith, nat_tests) in
    let apart : puts_on p.0 ps ≡ false = grind (arith, nat_tests) in
    let others : is_fitting outs ps ≡ true = grind (arith, nat_tests) in
    (within p.0 low, room p.0 low, elsewhere place outs p.0 ps others apart (λ o h e. once o p.0 h low e), room_for place outs views ps within room once others)

-- no put goes to a place that no number stands for
pub all_elsewhere : {M : Type 0} (place : ℕ → ℕ) (outs k : ℕ) (ps : List (ℕ × M)) → is_fitting outs ps ≡ true → ((o : ℕ) → o < outs → place o ≢ k) → IsElsewhere place ps k
all_elsewhere place outs k [] fits other = tt
all_elsewhere place outs k (p ∷ ps) fits other = (other p.0 (grind (arith, nat_tests)), all_elsewhere place outs k ps (grind (arith, nat_tests)) other)

-- where two ways to find a place agree, the puts go to the same links
pub put_each_same : {M : Type 0} (f g : ℕ → ℕ) (outs : ℕ) (ps : List (ℕ × M)) (ls : List (Line M)) → is_fitting outs ps ≡ true → ((o : ℕ) → o < outs → f o ≡ g o) → put_each f ps ls ≡ put_each g ps ls
put_each_same f g outs [] ls fits same = refl
put_each_same f g outs (p ∷ ps) ls fits same =
    ap (λ (k : ℕ). put_each f ps (put_at ls k p.1)) (same p.0 (grind (arith, nat_tests)))
    ∙ put_each_same f g outs ps (put_at ls (g p.0) p.1) (grind (arith, nat_tests)) same

-- a change of another link leaves the room for the rest
HasRoomFor-kept : {M : Type 0} (place : ℕ → ℕ) (k : ℕ) (old new : List (LineView M)) (ps : List (ℕ × M)) → length new ≡ length old → ((j : ℕ) → j ≢ k → room_at new j ≡ room_at old j) → IsElsewhere place ps k → HasRoomFor place old ps → HasRoomFor place new ps
HasRoomFor-kept place k old new [] long others apart room = tt
HasRoomFor-kept place k old new (p ∷ ps) long others apart room =
    (omega (arith, room.0), omega (arith, room.1, others (place p.0) apart.0), room.2, HasRoomFor-kept place k old new ps long others apart.1 room.3)

-- puts on two links, in either order
put_at-apart : {M : Type 0} (lines : List (Line M)) (j k : ℕ) (m n : M) → j ≢ k → put_at (put_at lines j m) k n ≡ put_at (put_at lines k n) j m
put_at-apart [] j k m n apart = refl
put_at-apart (l ∷ ls) zero zero m n apart = absurd (apart refl)
put_at-apart (l ∷ ls) zero (suc k) m n apart = refl
put_at-apart (l ∷ ls) (suc j) zero m n apart = refl
put_at-apart (l ∷ ls) (suc j) (suc k) m n apart = ap (λ rest. l ∷ rest) (put_at-apart ls j k m n (λ e. apart (ap suc e)))

-- so the last put, which has a link of its own, may come first
put_last : {M : Type 0} (place : ℕ → ℕ) (ps : List (ℕ × M)) (p : ℕ × M) (lines : List (Line M)) → IsElsewhere place ps (place p.0) → put_each place (ps ++ p ∷ []) lines ≡ put_each place ps (put_at lines (place p.0) p.1)
put_last place [] p lines apart = refl
put_last place (q ∷ ps) p lines apart =
    put_last place ps p (put_at lines (place q.0) q.1) apart.1 ∙ ap (put_each place ps) (put_at-apart lines (place q.0) (place p.0) q.1 p.1 apart.0)

-- where one put more goes elsewhere
elsewhere_last : {M : Type 0} (place : ℕ → ℕ) (k : ℕ) (ps : List (ℕ × M)) (p : ℕ × M) → IsElsewhere place (ps ++ p ∷ []) k → IsElsewhere place ps k × (place p.0 ≢ k)
elsewhere_last place k [] p apart = (tt, apart.0)
elsewhere_last place k (q ∷ ps) p apart =
    let rest = elsewhere_last place k ps p apart.1 in
    ((apart.0, rest.0), rest.1)

-- the last put and those before it have room
room_for_last : {M : Type 0} (place : ℕ → ℕ) (views : List (LineView M)) (ps : List (ℕ × M)) (p : ℕ × M) → HasRoomFor place views (ps ++ p ∷ []) → record { low : place p.0 < length views; room : 0 < room_at views (place p.0); apart : IsElsewhere place ps (place p.0); before : HasRoomFor place views ps }
room_for_last place views [] p h = record { low = h.0; room = h.1; apart = tt; before = tt }
room_for_last place views (q ∷ ps) p h =
    let rest = room_for_last place views ps p h.3 in
    let apart = elsewhere_last place (place q.0) ps p h.2 in
    record { low = rest.low; room = rest.room; apart = (λ e. apart.1 (sym e), rest.apart); before = (h.0, h.1, apart.0, rest.before) }

-- the same, of a put that was taken from the end
pub last_room : {M : Type 0} (place : ℕ → ℕ) (views : List (LineView M)) (n k : ℕ) (m : M) (items ps : List (ℕ × M)) → items ≡ ps ++ (n, m) ∷ [] → k ≡ place n → HasRoomFor place views items → record { low : k < length views; room : 0 < room_at views k; apart : IsElsewhere place ps k; before : HasRoomFor place views ps }
last_room place views n k m items ps last at room =
    let here = room_for_last place views ps (n, m) (subst (HasRoomFor place views) last room) in
    rw at here

-- the last put is done, and those before it are left
pub deliver_step : {M : Type 0} (place : ℕ → ℕ) (old new : List (LineView M)) (n k : ℕ) (m : M) (items ps : List (ℕ × M)) → items ≡ ps ++ (n, m) ∷ [] → k ≡ place n → lines_of new ≡ put_at (lines_of old) k m → ((j : ℕ) → j ≢ k → room_at new j ≡ room_at old j) → HasRoomFor place old items → record { rest : put_each place ps (lines_of new) ≡ put_each place items (lines_of old); room : HasRoomFor place new ps; others : (j : ℕ) → IsElsewhere place items j → (room_at new j ≡ room_at old j) × IsElsewhere place ps j }
deliver_step place old new n k m items ps last at put same room =
    let here = last_room place old n k m items ps last at room in
    record {
      rest = ap (put_each place ps) (put ∙ ap (λ (i : ℕ). put_at (lines_of old) i m) at) ∙ (sym (put_last place ps (n, m) (lines_of old) (subst (IsElsewhere place ps) at here.apart)) ∙ ap (λ qs. put_each place qs (lines_of old)) (sym last));
      room = HasRoomFor-kept place k old new ps (length_changed old new k _ put) same here.apart here.before;
      others = λ j h.
          let apart = elsewhere_last place j ps (n, m) (subst (λ qs. IsElsewhere place qs j) last h) in
          (same j (λ f. apart.1 (sym at ∙ sym f)), apart.0);
    }

-- an actor more is known to have room
pub roomy_more : {M : Type 0} (links : List Link) (views : List (LineView M)) (roomy : List Bool) (actor : ℕ) → actor < length roomy → HasRoom links views actor → ((a : ℕ) → get_or roomy a false ≡ true → HasRoom links views a) → (a : ℕ) → get_or (set roomy actor true) a false ≡ true → HasRoom links views a
roomy_more links views roomy actor low room known a h =
    elim (cases_eq a actor) [
      | inl same ↦ subst (HasRoom links views) (sym same) room
      | inr other ↦ known a (sym (get_or-set_other roomy actor a true false other) ∙ h)
    ]

-- an actor's puts leave the room of the others, and its own where this is known
pub roomy_after : {M : Type 0} (links : List Link) (old new : List (LineView M)) (roomy : List Bool) (actor : ℕ) (b : Bool) → actor < length roomy → (b ≡ true → HasRoom links new actor) → ((k : ℕ) → k < length links → (link_at links k).from ≢ actor → room_at new k ≡ room_at old k) → ((a : ℕ) → get_or roomy a false ≡ true → HasRoom links old a) → (a : ℕ) → get_or (set roomy actor b) a false ≡ true → HasRoom links new a
roomy_after links old new roomy actor b low own same known a h k below from =
    elim (cases_eq a actor) [
      | inl e ↦
          let is : b ≡ true = sym (get_or-set_same roomy actor b false low) ∙ (ap (λ (i : ℕ). get_or (set roomy actor b) i false) (sym e) ∙ h) in
          own is k below (from ∙ e)
      | inr other ↦
          let there : room_at new k ≡ room_at old k = same k below (λ f. other (sym from ∙ f)) in
          omega (arith, known a (sym (get_or-set_other roomy actor a b false other) ∙ h) k below from)
    ]

-- where no actor is known to have room
pub none_roomy : (roomy : List Bool) (n a : ℕ) → roomy ≡ replicate n false → get_or roomy a false ≡ true → ⊥
none_roomy roomy n a is h = in_none n a (ap (λ xs. get_or xs a false) (sym is) ∙ h)
  where
    in_none : (n a : ℕ) → get_or (replicate n false) a false ≡ true → ⊥
    in_none zero zero h = cc
    in_none zero (suc a) h = cc
    in_none (suc n) zero h = cc
    in_none (suc n) (suc a) h = in_none n a h
