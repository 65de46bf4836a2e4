-- How far a run has come along a schedule, in settling and in finishing.
use Rattle.std.proofs.Common.{◌≡◌, ℕ, zero, suc, ◌<◌, List, [], ◌∷◌, ◌++◌, length, refl, sym, ap, subst, ◌∙◌, Option, Some, inl, inr, append_assoc, append-nil, take, drop, take-append-drop}
use Rattle.std.specs.Prelude.{◌≢◌, ◌⊎◌, Bool, true, false, not, nat_eq, Result, Ok, Err, OnOk}
use Rattle.std.proofs.lemmas.Bool.Decides.{eqb_tells}
use Rattle.sl_layout.specs.Net.{Net}
use Rattle.sl_net.specs.Wired.{IsNet}
use Rattle.sl_wire.specs.declared.message.Msg.{Msg}
use Rattle.sl_model.specs.History.{World, Losses}
use Rattle.sl_model.specs.Setup.{Setup}
use Rattle.sl_model.specs.World.{Entry, IsLossTable, run, world, kept_from}
use Rattle.sl_model.specs.Books.{schedule_of}
use Rattle.sl_model.specs.Schedule.{settling_pass, sweeps, resend_entry}
use Rattle.sl_model.specs.End.{settle, finish, then_from, again_from, sweep_round, after_sweeps, is_collected, rose, Settled, IsFin, IsFinished}
use Rattle.sl_model.proofs.Finishing.Finished.{append-splits, then-splits}
use Rattle.sl_world.specs.Scene.{Scene}
use Rattle.sl_proto.specs.Nodes.{NodeState}
use Rattle.sl_proto.specs.Standing.{Case, world_of, run_at, StandsFor, SettlesTo, FinishesTo}
use Rattle.sl_proto.specs.Runs.{Run, Follows, Goes}
use Rattle.sl_proto.specs.Calls.{Settles, Finishes, LeadsFrom, AllDone, MoreRounds, RoundsLeft, SettlingLeads, IsSettledAfter, FinishingLeads}
use Rattle.sl_proto.specs.Fronts.{FollowsFront, SettlesBy, SettlesTowards, FinishesTowards, Leads, Whatever, Nothing, SweepsBy, ResendsBy}
use Rattle.sl_proto.proofs.Trails.{follows-append, kept-whole, follows-goes, goes-append, goes-nothing, goes-something, idle-again}

-- Schedules.

pub front-whole : (s : Setup) (lost : Losses) (old new : Run) (es : List Entry) → Follows s lost old es new → FollowsFront s lost old es new
front-whole s lost old new es f = record { first = es; rest = []; whole = sym (append-nil es); follows = f }

pub front-taken : (s : Setup) (lost : Losses) (old new : Run) (es : List Entry) (n : ℕ) → Follows s lost old (take n es) new → FollowsFront s lost old es new
front-taken s lost old new es n f = record { first = take n es; rest = drop n es; whole = sym (take-append-drop n es); follows = f }

-- a schedule of the net, where this is known by another name
pub over : (R : List Entry → Type 0) (f : Net → List Entry) (net same : Net) (es : List Entry) → same ≡ net → es ≡ f net → R es → R (f same)
over R f net same es n p h = subst R (p ∙ ap f (sym n)) h

pub front-after : (s : Setup) (lost : Losses) (old mid new : Run) (es fs : List Entry) → Follows s lost old es mid → FollowsFront s lost mid fs new → FollowsFront s lost old (es ++ fs) new
front-after s lost old mid new es fs f g = record {
  first = es ++ g.first;
  rest = g.rest;
  whole = ap (λ r. es ++ r) g.whole ∙ sym (append_assoc es g.first g.rest);
  follows = follows-append s lost old mid new es g.first f g.follows;
}

pub front-longer : (s : Setup) (lost : Losses) (old new : Run) (es fs more : List Entry) → fs ≡ es ++ more → FollowsFront s lost old es new → FollowsFront s lost old fs new
front-longer s lost old new es fs more q g = record {
  first = g.first;
  rest = g.rest ++ more;
  whole = q ∙ ap (λ r. r ++ more) g.whole ∙ append_assoc g.first g.rest more;
  follows = g.follows;
}

-- One after the other.

goes-none : (s : Setup) (lost : Losses) (old : Run) → Goes s lost old [] old
goes-none s lost old = record { reached = refl; book = sym (append-nil old.book) }

pub leads-none : (s : Setup) (lost : Losses) (P : List Entry → Type 0) (old : Run) → Leads s lost P old P old
leads-none s lost P old = record { turns = []; goes = goes-none s lost old; on = λ es p. (es, (refl, p)) }

pub leads-on : (s : Setup) (lost : Losses) (P Q R : List Entry → Type 0) (old mid new : Run) → Leads s lost P old Q mid → Leads s lost Q mid R new → Leads s lost P old R new
leads-on s lost P Q R old mid new a b = record {
  turns = a.turns ++ b.turns;
  goes = goes-append s lost old mid new a.turns b.turns a.goes b.goes;
  on = λ es p. let x = a.on es p in let y = b.on x.0 x.1.1 in (y.0, (x.1.0 ∙ ap (λ r. a.turns ++ r) y.1.0 ∙ sym (append_assoc a.turns b.turns y.0), y.1.1));
}

leads-to : (s : Setup) (lost : Losses) (P Q R : List Entry → Type 0) (old new : Run) → ((es : List Entry) → Q es → R es) → Leads s lost P old Q new → Leads s lost P old R new
leads-to s lost P Q R old new h a = record { turns = a.turns; goes = a.goes; on = λ es p. let x = a.on es p in (x.0, (x.1.0, h x.0 x.1.1)) }

pub leads-somewhere : (s : Setup) (lost : Losses) (P Q : List Entry → Type 0) (old new : Run) → Leads s lost P old Q new → Leads s lost P old Whatever new
leads-somewhere s lost P Q old new a = leads-to s lost P Q Whatever old new (λ es q. tt) a

-- where a call ends for want of memory, nothing is said of what is left
pub done-short : {A E : Type 0} (s : Setup) (lost : Losses) (P Q : List Entry → Type 0) (old new : Run) (answer : Result A E) → OnOk answer ⊥ → Leads s lost P old Q new → Leads s lost P old (AllDone answer) new
done-short s lost P Q old new (Ok _) none a = absurd none
done-short s lost P Q old new (Err _) none a = leads-somewhere s lost P Q old new a

pub rounds-short : {E : Type 0} (x : Case) (P Q : List Entry → Type 0) (old new : Run) (u : Scene NodeState Msg) (answer : Result Bool E) → OnOk answer ⊥
    → Leads x.setup x.lost P old Q new → Leads x.setup x.lost P old (RoundsLeft x u answer) new
rounds-short x P Q old new u (Ok _) none a = absurd none
rounds-short x P Q old new u (Err _) none a = leads-somewhere x.setup x.lost P Q old new a

-- A schedule without its idle entries.

abbrev IsKept : Setup → Losses → World → List Entry → List Entry → Type 0
IsKept s lost w es xs = xs ≡ kept_from s lost w es

kept-front : (s : Setup) (lost : Losses) (old new : Run) (es : List Entry) → FollowsFront s lost old es new → Leads s lost (IsKept s lost old.world es) old Whatever new
kept-front s lost old new es f = let later = kept_from s lost (run s lost old.world f.first) f.rest in record {
  turns = kept_from s lost old.world f.first;
  goes = follows-goes s lost old new f.first f.follows;
  on = λ xs p. (later, (p ∙ kept-whole s lost old new es f, tt));
}

kept-leads : (s : Setup) (lost : Losses) (old new : Run) (es : List Entry) → Follows s lost old es new → Leads s lost (IsKept s lost old.world es) old Nothing new
kept-leads s lost old new es f = let done = kept_from s lost old.world es in record {
  turns = done;
  goes = follows-goes s lost old new es f;
  on = λ xs p. ([], (p ∙ sym (append-nil done), refl));
}

-- each schedule of P begins with one of A, and goes on from where this leads with one of B
abbrev Splits : Setup → Losses → World → (List Entry → Type 0) → (List Entry → Type 0) → (World → List Entry → Type 0) → Type 0
Splits s lost w P A B = (es : List Entry) → P es → (xs : List Entry) × (A xs × ((ys : List Entry) × ((es ≡ xs ++ ys) × B (run s lost w xs) ys)))

first-front : (s : Setup) (lost : Losses) (P A : List Entry → Type 0) (B : World → List Entry → Type 0) (old new : Run) → Splits s lost old.world P A B
    → Leads s lost A old Whatever new → Leads s lost P old Whatever new
first-front s lost P A B old new h a = record {
  turns = a.turns;
  goes = a.goes;
  on = λ es p. let x = h es p in let y = a.on x.0 x.1.0 in (y.0 ++ x.1.1.0, (x.1.1.1.0 ∙ ap (λ r. r ++ x.1.1.0) y.1.0 ∙ append_assoc a.turns y.0 x.1.1.0, tt));
}

first-leads : (s : Setup) (lost : Losses) (P A : List Entry → Type 0) (B : World → List Entry → Type 0) (old new : Run) → Splits s lost old.world P A B
    → Leads s lost A old Nothing new → Leads s lost P old (B new.world) new
first-leads s lost P A B old new h a = record {
  turns = a.turns;
  goes = a.goes;
  on = λ es p. let x = h es p in let y = a.on x.0 x.1.0 in let all : x.0 ≡ a.turns = y.1.0 ∙ ap (λ r. a.turns ++ r) y.1.1 ∙ append-nil a.turns in
      (x.1.1.0, (x.1.1.1.0 ∙ ap (λ r. r ++ x.1.1.0) all, subst (λ w. B w x.1.1.0) (ap (run s lost old.world) all ∙ sym a.goes.reached) x.1.1.1.1));
}

-- what is left of P's schedules after entries that were kept, where these are something, and where they are nothing
record Again (ks : List Entry) (P : List Entry → Type 0) (es : List Entry) : Type 0 where
  more : ks ≢ [] → P es
  none : ks ≡ [] → es ≡ []

again-splits : (s : Setup) (lost : Losses) (w : World) (go : World → Option (List Entry)) (P : World → List Entry → Type 0) (ks es : List Entry)
    → ((v : World) (ys : List Entry) → go v ≡ Some ys → P v ys) → again_from s lost w go ks ≡ Some es
    → (ys : List Entry) × ((es ≡ ks ++ ys) × Again ks (P (run s lost w ks)) ys)
again-splits s lost w go P [] es q h = let e : [] ≡ es = cc in ([], (sym e, record { more = λ n. absurd (n refl); none = λ n. refl }))
again-splits s lost w go P (k ∷ ks) es q h = let v = run s lost w (k ∷ ks) in let x = append-splits (k ∷ ks) (go v) es h in
    (x.0, (x.1.1, record { more = λ n. q v x.0 x.1.0; none = λ n. absurd cc }))

-- schedules that begin with what is kept of these entries, and go on with one of R where this is something
abbrev Repeats : Setup → Losses → World → (List Entry → Type 0) → (World → List Entry → Type 0) → List Entry → Type 0
Repeats s lost w P R es = Splits s lost w P (IsKept s lost w es) (λ v. Again (kept_from s lost w es) (R v))

module _ (s : Setup) (lost : Losses) (P : List Entry → Type 0) (R : World → List Entry → Type 0) (old new : Run) (es : List Entry) (h : Repeats s lost old.world P R es) where
  abbrev left : World → List Entry → Type 0
  left v = Again (kept_from s lost old.world es) (R v)

  repeat-front : FollowsFront s lost old es new → Leads s lost P old Whatever new
  repeat-front f = first-front s lost P (IsKept s lost old.world es) left old new h (kept-front s lost old new es f)

  repeated : (Q : List Entry → Type 0) → ((fs : List Entry) → left new.world fs → Q fs) → Follows s lost old es new → Leads s lost P old Q new
  repeated Q q f = leads-to s lost P (left new.world) Q old new q (first-leads s lost P (IsKept s lost old.world es) left old new h (kept-leads s lost old new es f))

  repeat-more : Follows s lost old es new → length new.book ≢ length old.book → Leads s lost P old (R new.world) new
  repeat-more f n = repeated (R new.world) (λ fs q. q.more (goes-something s lost old new (kept_from s lost old.world es) (follows-goes s lost old new es f) n)) f

  repeat-ends : Follows s lost old es new → length new.book ≡ length old.book → Leads s lost P old Nothing new
  repeat-ends f n = repeated Nothing (λ fs q. q.none (goes-nothing s lost old new (kept_from s lost old.world es) (follows-goes s lost old new es f) n)) f

-- Settling.

settles-repeats : (s : Setup) (lost : Losses) (w : World) → Repeats s lost w (SettlesBy s lost w) (SettlesBy s lost) (settling_pass s.net)
settles-repeats s lost w es p = by_fuel p.fuel p.settled
  where
    by_fuel : (n : ℕ) → settle n s lost w ≡ Some es → (xs : List Entry) × (IsKept s lost w (settling_pass s.net) xs × ((ys : List Entry) × ((es ≡ xs ++ ys) × Again (kept_from s lost w (settling_pass s.net)) (SettlesBy s lost (run s lost w xs)) ys)))
    by_fuel zero q = absurd cc
    by_fuel (suc n) q = let ks = kept_from s lost w (settling_pass s.net) in
        (ks, (refl, again-splits s lost w (λ v. settle n s lost v) (SettlesBy s lost) ks es (λ v ys e. record { fuel = n; settled = e }) q))

pub settles-towards : (s : Setup) (lost : Losses) (old new : Run) (es : List Entry) → SettlesBy s lost old.world es → Leads s lost (SettlesBy s lost old.world) old Whatever new
    → SettlesTowards s lost old new
settles-towards s lost old new es p a = let x = a.on es p in record { turns = a.turns; rest = x.0; settles = subst (SettlesBy s lost old.world) x.1.0 p; goes = a.goes }

-- Finishing.

fin-splits : (s : Setup) (lost : Losses) (w : World) → Splits s lost w (IsFin s lost w) (SettlesBy s lost w) (SweepsBy s lost)
fin-splits s lost w es p = by_fuel p.fuel p.finished
  where
    by_fuel : (n : ℕ) → finish n s lost w ≡ Some es → (xs : List Entry) × (SettlesBy s lost w xs × ((ys : List Entry) × ((es ≡ xs ++ ys) × SweepsBy s lost (run s lost w xs) ys)))
    by_fuel zero q = absurd cc
    by_fuel (suc n) q = let x = then-splits s lost w (λ v. sweep_round (suc n) (λ u. finish n s lost u) s lost v (is_collected s v)) (settle (suc n) s lost w) es q in
        (x.0, (record { fuel = suc n; settled = x.1.0 }, (x.1.1.0, (x.1.1.1.1, record { fuel = n; swept = x.1.1.1.0 }))))

-- so settling takes an end too
pub settles-by : (s : Setup) (lost : Losses) (w : World) (es : List Entry) → IsFin s lost w es → (xs : List Entry) × SettlesBy s lost w xs
settles-by s lost w es p = let x = fin-splits s lost w es p in (x.0, x.1.0)

finishing-front : (s : Setup) (lost : Losses) (now new : Run) → Leads s lost (SettlesBy s lost now.world) now Whatever new → Leads s lost (IsFin s lost now.world) now Whatever new
finishing-front s lost now new a = first-front s lost (IsFin s lost now.world) (SettlesBy s lost now.world) (SweepsBy s lost) now new (fin-splits s lost now.world) a

finishing-settles : (s : Setup) (lost : Losses) (now new : Run) → Leads s lost (SettlesBy s lost now.world) now Nothing new → Leads s lost (IsFin s lost now.world) now (SweepsBy s lost new.world) new
finishing-settles s lost now new a = first-leads s lost (IsFin s lost now.world) (SettlesBy s lost now.world) (SweepsBy s lost) now new (fin-splits s lost now.world) a

pub finishes-towards : (s : Setup) (lost : Losses) (old new : Run) (es : List Entry) → IsFin s lost old.world es → Leads s lost (IsFin s lost old.world) old Whatever new
    → FinishesTowards s lost old new
finishes-towards s lost old new es p a = let x = a.on es p in record { turns = a.turns; rest = x.0; finishes = subst (IsFin s lost old.world) x.1.0 p; goes = a.goes }

-- A round of finishing.

-- what finishing takes from the world w, after the sweeps at v; and from where it has settled then
record SweptBy (s : Setup) (lost : Losses) (v w : World) (es : List Entry) : Type 0 where
  fuel : ℕ
  swept : then_from s lost w (λ u. after_sweeps (λ z. finish fuel s lost z) s lost u (rose s.net v u)) (settle (suc fuel) s lost w) ≡ Some es

record LooksBy (s : Setup) (lost : Losses) (v w : World) (es : List Entry) : Type 0 where
  fuel : ℕ
  looked : after_sweeps (λ z. finish fuel s lost z) s lost w (rose s.net v w) ≡ Some es

sweeps-splits : (s : Setup) (lost : Losses) (w : World) → is_collected s w ≡ false → Splits s lost w (SweepsBy s lost w) (IsKept s lost w (sweeps s.net)) (SweptBy s lost w)
sweeps-splits s lost w q es p = let ks = kept_from s lost w (sweeps s.net) in let n = p.fuel in let v = run s lost w ks in
    let x = append-splits ks (then_from s lost v (λ u. after_sweeps (λ z. finish n s lost z) s lost u (rose s.net w u)) (settle (suc n) s lost v)) es
    (subst (λ b. sweep_round (suc n) (λ z. finish n s lost z) s lost w b ≡ Some es) q p.swept) in
    (ks, (refl, (x.0, (x.1.1, record { fuel = n; swept = x.1.0 }))))

swept-splits : (s : Setup) (lost : Losses) (v w : World) → Splits s lost w (SweptBy s lost v w) (SettlesBy s lost w) (LooksBy s lost v)
swept-splits s lost v w es p = let n = p.fuel in
    let x = then-splits s lost w (λ u. after_sweeps (λ z. finish n s lost z) s lost u (rose s.net v u)) (settle (suc n) s lost w) es p.swept in
    (x.0, (record { fuel = suc n; settled = x.1.0 }, (x.1.1.0, (x.1.1.1.1, record { fuel = n; looked = x.1.1.1.0 }))))

-- where all is collected, finishing takes nothing more
pub collected-ends : (s : Setup) (lost : Losses) (old : Run) → is_collected s old.world ≡ true → Leads s lost (SweepsBy s lost old.world) old Nothing old
collected-ends s lost old q = let P = SweepsBy s lost old.world in leads-to s lost P P Nothing old old nil (leads-none s lost P old)
  where
    nil : (es : List Entry) → SweepsBy s lost old.world es → es ≡ []
    nil es p = let e : Some [] ≡ Some es = subst (λ b. sweep_round (suc p.fuel) (λ z. finish p.fuel s lost z) s lost old.world b ≡ Some es) q p.swept in cc

sweeps-front : (s : Setup) (lost : Losses) (old new : Run) → is_collected s old.world ≡ false → FollowsFront s lost old (sweeps s.net) new
    → Leads s lost (SweepsBy s lost old.world) old Whatever new
sweeps-front s lost old new q f = first-front s lost (SweepsBy s lost old.world) (IsKept s lost old.world (sweeps s.net)) (SweptBy s lost old.world) old new (sweeps-splits s lost old.world q)
    (kept-front s lost old new (sweeps s.net) f)

sweeps-lead : (s : Setup) (lost : Losses) (old new : Run) → is_collected s old.world ≡ false → Follows s lost old (sweeps s.net) new
    → Leads s lost (SweepsBy s lost old.world) old (SweptBy s lost old.world new.world) new
sweeps-lead s lost old new q f = first-leads s lost (SweepsBy s lost old.world) (IsKept s lost old.world (sweeps s.net)) (SweptBy s lost old.world) old new (sweeps-splits s lost old.world q)
    (kept-leads s lost old new (sweeps s.net) f)

swept-front : (s : Setup) (lost : Losses) (old swept new : Run) → is_collected s old.world ≡ false → Follows s lost old (sweeps s.net) swept
    → Leads s lost (SettlesBy s lost swept.world) swept Whatever new → Leads s lost (SweepsBy s lost old.world) old Whatever new
swept-front s lost old swept new q f a = let P = SweptBy s lost old.world swept.world in
    leads-on s lost (SweepsBy s lost old.world) P Whatever old swept new (sweeps-lead s lost old swept q f)
    (first-front s lost P (SettlesBy s lost swept.world) (LooksBy s lost old.world) swept new (swept-splits s lost old.world swept.world) a)

swept-leads : (s : Setup) (lost : Losses) (old swept new : Run) → is_collected s old.world ≡ false → Follows s lost old (sweeps s.net) swept
    → Leads s lost (SettlesBy s lost swept.world) swept Nothing new → Leads s lost (SweepsBy s lost old.world) old (LooksBy s lost old.world new.world) new
swept-leads s lost old swept new q f a = let P = SweptBy s lost old.world swept.world in
    leads-on s lost (SweepsBy s lost old.world) P (LooksBy s lost old.world new.world) old swept new (sweeps-lead s lost old swept q f)
    (first-leads s lost P (SettlesBy s lost swept.world) (LooksBy s lost old.world) swept new (swept-splits s lost old.world swept.world) a)

-- Resending.

resends-repeats : (s : Setup) (lost : Losses) (w : World) → Repeats s lost w (ResendsBy s lost w) (IsFin s lost) (resend_entry s.net ∷ [])
resends-repeats s lost w es p = let ks = kept_from s lost w (resend_entry s.net ∷ []) in
    (ks, (refl, again-splits s lost w (λ v. finish p.fuel s lost v) (IsFin s lost) ks es (λ v ys e. record { fuel = p.fuel; finished = e }) p.resent))

-- From scene to scene.

-- the law that a pass in which nothing happens finds the world settled
abbrev pub IdlePassesSettle : Type 0
IdlePassesSettle = (s : Setup) (lost : Losses) (es : List Entry) → IsNet s.net → kept_from s lost (world s lost es) (settling_pass s.net) ≡ [] → Settled s lost (world s lost es)

-- the law that what finishing takes leads to a finished world
abbrev pub FinishingFinishes : Type 0
FinishingFinishes = (s : Setup) (lost : Losses) (es fs : List Entry) → IsNet s.net → IsLossTable s.net lost → 0 < s.window
    → IsFin s lost (world s lost es) fs → IsFinished s lost (run s lost (world s lost es) fs)

-- the law that finishing ends
abbrev pub FinishingEnds : Type 0
FinishingEnds = (s : Setup) (lost : Losses) (es : List Entry) → IsNet s.net → (fs : List Entry) × IsFin s lost (world s lost es) fs

pub settled-towards : FinishingEnds → (net : Net) (x : Case) (v u : Scene NodeState Msg) → StandsFor net x v
    → Leads x.setup x.lost (SettlesBy x.setup x.lost (world_of x v)) (run_at x v) Whatever (run_at x u) → SettlesTowards x.setup x.lost (run_at x v) (run_at x u)
settled-towards law net x v u h a = let f = law x.setup x.lost (schedule_of v.book) h.runnable.net in let y = settles-by x.setup x.lost (world_of x v) f.0 f.1 in
    settles-towards x.setup x.lost (run_at x v) (run_at x u) y.0 y.1 a

pub settled-nothing : FinishingEnds → (net : Net) (x : Case) (v : Scene NodeState Msg) → StandsFor net x v → SettlesTowards x.setup x.lost (run_at x v) (run_at x v)
settled-nothing law net x v h = let P = SettlesBy x.setup x.lost (world_of x v) in
    settled-towards law net x v v h (leads-somewhere x.setup x.lost P P (run_at x v) (run_at x v) (leads-none x.setup x.lost P (run_at x v)))

pub finished-towards : FinishingEnds → (net : Net) (x : Case) (v u : Scene NodeState Msg) → StandsFor net x v
    → Leads x.setup x.lost (IsFin x.setup x.lost (world_of x v)) (run_at x v) Whatever (run_at x u) → FinishesTowards x.setup x.lost (run_at x v) (run_at x u)
finished-towards law net x v u h a = let f = law x.setup x.lost (schedule_of v.book) h.runnable.net in
    finishes-towards x.setup x.lost (run_at x v) (run_at x u) f.0 f.1 a

pub finished-nothing : FinishingEnds → (net : Net) (x : Case) (v : Scene NodeState Msg) → StandsFor net x v → FinishesTowards x.setup x.lost (run_at x v) (run_at x v)
finished-nothing law net x v h = let P = IsFin x.setup x.lost (world_of x v) in
    finished-towards law net x v v h (leads-somewhere x.setup x.lost P P (run_at x v) (run_at x v) (leads-none x.setup x.lost P (run_at x v)))

-- where nothing is left, all was taken
all-taken : (es turns rest : List Entry) → es ≡ turns ++ rest → rest ≡ [] → es ≡ turns
all-taken es turns rest p q = p ∙ ap (λ r. turns ++ r) q ∙ append-nil turns

pub settles-to : FinishingEnds → (net : Net) (x : Case) (v u : Scene NodeState Msg) → StandsFor net x v → LeadsFrom x SettlesBy v Nothing u → Settled x.setup x.lost (world_of x u) → SettlesTo x v u
settles-to law net x v u h a settled =
    let f = law x.setup x.lost (schedule_of v.book) h.runnable.net in
    let y = settles-by x.setup x.lost (world_of x v) f.0 f.1 in
    let left = a.on y.0 y.1 in
    record { fuel = y.1.fuel; turns = a.turns; settles = y.1.settled ∙ ap Some (all-taken y.0 a.turns left.0 left.1.0 left.1.1); goes = a.goes; settled = settled }

pub finishes-to : FinishingEnds → FinishingFinishes → (net : Net) (x : Case) (v u : Scene NodeState Msg) → 0 < x.setup.window → StandsFor net x v → LeadsFrom x IsFin v Nothing u → FinishesTo x v u
finishes-to law finishes net x v u pos h a =
    let f = law x.setup x.lost (schedule_of v.book) h.runnable.net in
    let left = a.on f.0 f.1 in
    let fin = subst (IsFin x.setup x.lost (world_of x v)) (all-taken f.0 a.turns left.0 left.1.0 left.1.1) f.1 in
    record {
      turns = a.turns;
      finishes = fin;
      goes = a.goes;
      finished = subst (IsFinished x.setup x.lost) (sym a.goes.reached) (finishes x.setup x.lost (schedule_of v.book) a.turns h.runnable.net h.runnable.losses pos fin);
    }

-- so by what a call answers
pub settled-out : {A E : Type 0} → FinishingEnds → (net : Net) (v u : Scene NodeState Msg) (answer : Result A E) → SettlingLeads net v answer u → OnOk answer (IsSettledAfter net v u) → OnOk answer (Settles net v u)
settled-out law net v u (Ok _) a settled = λ x h. settles-to law net x v u h (a x h) (settled x h)
settled-out law net v u (Err _) a settled = tt

pub finished-out : {A E : Type 0} → FinishingEnds → FinishingFinishes → (net : Net) (v u : Scene NodeState Msg) (answer : Result A E) → FinishingLeads net v answer u → OnOk answer (Finishes net v u)
finished-out law finishes net v u (Ok _) a = λ x pos h. finishes-to law finishes net x v u pos h (a x pos h)
finished-out law finishes net v u (Err _) a = tt

-- a settling pass: a front of it, one in which something happened, and one in which nothing did
module _ (net : Net) (x : Case) (old now new : Scene NodeState Msg) (pass : List Entry) (q : pass ≡ settling_pass net) (h : StandsFor net x now)
    (a : LeadsFrom x SettlesBy old (SettlesBy x.setup x.lost (world_of x now)) now) where
  goes-on : (Q : List Entry → Type 0) → LeadsFrom x SettlesBy now Q new → LeadsFrom x SettlesBy old Q new
  goes-on Q b = leads-on x.setup x.lost (SettlesBy x.setup x.lost (world_of x old)) (SettlesBy x.setup x.lost (world_of x now)) Q (run_at x old) (run_at x now) (run_at x new) a b

  pub pass-front : FollowsFront x.setup x.lost (run_at x now) pass (run_at x new) → LeadsFrom x SettlesBy old Whatever new
  pass-front f = goes-on Whatever (repeat-front x.setup x.lost (SettlesBy x.setup x.lost (world_of x now)) (SettlesBy x.setup x.lost) (run_at x now) (run_at x new) (settling_pass x.setup.net) (settles-repeats x.setup x.lost (world_of x now))
      (over (λ es. FollowsFront x.setup x.lost (run_at x now) es (run_at x new)) settling_pass net x.setup.net pass h.net_is q f))

  module _ (f : Follows x.setup x.lost (run_at x now) pass (run_at x new)) where
    follows : Follows x.setup x.lost (run_at x now) (settling_pass x.setup.net) (run_at x new)
    follows = over (λ es. Follows x.setup x.lost (run_at x now) es (run_at x new)) settling_pass net x.setup.net pass h.net_is q f

    pub pass-more : length new.book ≢ length now.book → LeadsFrom x SettlesBy old (SettlesBy x.setup x.lost (world_of x new)) new
    pass-more n = goes-on (SettlesBy x.setup x.lost (world_of x new))
        (repeat-more x.setup x.lost (SettlesBy x.setup x.lost (world_of x now)) (SettlesBy x.setup x.lost) (run_at x now) (run_at x new) (settling_pass x.setup.net) (settles-repeats x.setup x.lost (world_of x now)) follows n)

    pub pass-ends : length new.book ≡ length now.book → LeadsFrom x SettlesBy old Nothing new
    pass-ends n = goes-on Nothing
        (repeat-ends x.setup x.lost (SettlesBy x.setup x.lost (world_of x now)) (SettlesBy x.setup x.lost) (run_at x now) (run_at x new) (settling_pass x.setup.net) (settles-repeats x.setup x.lost (world_of x now)) follows n)

    -- then the world is settled
    pub pass-settles : IdlePassesSettle → length new.book ≡ length now.book → StandsFor net x new → Settled x.setup x.lost (world_of x new)
    pass-settles law n stands = let es = settling_pass x.setup.net in law x.setup x.lost (schedule_of new.book) stands.runnable.net
        (goes-nothing x.setup x.lost (run_at x new) (run_at x new) (kept_from x.setup x.lost (world_of x new) es)
        (follows-goes x.setup x.lost (run_at x new) (run_at x new) es (idle-again x.setup x.lost (run_at x now) (run_at x new) es follows n)) refl)

-- a round of finishing: settling, a front of it, and then the turns of the round
module _ (x : Case) (old now mid : Scene NodeState Msg) (a : LeadsFrom x IsFin old (IsFin x.setup x.lost (world_of x now)) now) where
  round-on : (Q : List Entry → Type 0) → LeadsFrom x IsFin now Q mid → LeadsFrom x IsFin old Q mid
  round-on Q b = leads-on x.setup x.lost (IsFin x.setup x.lost (world_of x old)) (IsFin x.setup x.lost (world_of x now)) Q (run_at x old) (run_at x now) (run_at x mid) a b

  pub finishing-settling : LeadsFrom x SettlesBy now Whatever mid → LeadsFrom x IsFin old Whatever mid
  finishing-settling b = round-on Whatever (finishing-front x.setup x.lost (run_at x now) (run_at x mid) b)

  pub finishing-round : (new : Scene NodeState Msg) (Q : List Entry → Type 0) → LeadsFrom x SettlesBy now Nothing mid → LeadsFrom x SweepsBy mid Q new → LeadsFrom x IsFin old Q new
  finishing-round new Q b c = leads-on x.setup x.lost (IsFin x.setup x.lost (world_of x old)) (SweepsBy x.setup x.lost (world_of x mid)) Q (run_at x old) (run_at x mid) (run_at x new)
      (round-on (SweepsBy x.setup x.lost (world_of x mid)) (finishing-settles x.setup x.lost (run_at x now) (run_at x mid) b)) c

-- the sweeps of a round, where not all is collected: a front of them, and then what settling takes
module _ (net : Net) (x : Case) (v swept : Scene NodeState Msg) (sweep : List Entry) (h : StandsFor net x v) (e : sweep ≡ sweeps net) (q : is_collected x.setup (world_of x v) ≡ false) where
  pub round-swept : FollowsFront x.setup x.lost (run_at x v) sweep (run_at x swept) → LeadsFrom x SweepsBy v Whatever swept
  round-swept f = sweeps-front x.setup x.lost (run_at x v) (run_at x swept) q
      (over (λ es. FollowsFront x.setup x.lost (run_at x v) es (run_at x swept)) sweeps net x.setup.net sweep h.net_is e f)

  module _ (f : Follows x.setup x.lost (run_at x v) sweep (run_at x swept)) (u : Scene NodeState Msg) where
    all-swept : Follows x.setup x.lost (run_at x v) (sweeps x.setup.net) (run_at x swept)
    all-swept = over (λ es. Follows x.setup x.lost (run_at x v) es (run_at x swept)) sweeps net x.setup.net sweep h.net_is e f

    pub round-front : LeadsFrom x SettlesBy swept Whatever u → LeadsFrom x SweepsBy v Whatever u
    round-front a = swept-front x.setup x.lost (run_at x v) (run_at x swept) (run_at x u) q all-swept a

    -- what finishing takes after them, by whether something rose
    looked : (Q : List Entry → Type 0) (b : Bool) → rose x.setup.net (world_of x v) (world_of x u) ≡ b → LeadsFrom x SettlesBy swept Nothing u
        → ((n : ℕ) (es : List Entry) → after_sweeps (λ z. finish n x.setup x.lost z) x.setup x.lost (world_of x u) b ≡ Some es → Q es) → LeadsFrom x SweepsBy v Q u
    looked Q b r a k = leads-to x.setup x.lost (SweepsBy x.setup x.lost (world_of x v)) (LooksBy x.setup x.lost (world_of x v) (world_of x u)) Q (run_at x v) (run_at x u)
        (λ es p. k p.fuel es (subst (λ b. after_sweeps (λ z. finish p.fuel x.setup x.lost z) x.setup x.lost (world_of x u) b ≡ Some es) r p.looked))
        (swept-leads x.setup x.lost (run_at x v) (run_at x swept) (run_at x u) q all-swept a)

    pub round-rose : LeadsFrom x SettlesBy swept Nothing u → rose x.setup.net (world_of x v) (world_of x u) ≡ true → LeadsFrom x SweepsBy v (IsFin x.setup x.lost (world_of x u)) u
    round-rose a r = looked (IsFin x.setup x.lost (world_of x u)) true r a (λ n es k. record { fuel = n; finished = k })

    pub round-level : (z : Scene NodeState Msg) (Q : List Entry → Type 0) → LeadsFrom x SettlesBy swept Nothing u → rose x.setup.net (world_of x v) (world_of x u) ≡ false
        → LeadsFrom x ResendsBy u Q z → LeadsFrom x SweepsBy v Q z
    round-level z Q a r b = leads-on x.setup x.lost (SweepsBy x.setup x.lost (world_of x v)) (ResendsBy x.setup x.lost (world_of x u)) Q (run_at x v) (run_at x u) (run_at x z)
        (looked (ResendsBy x.setup x.lost (world_of x u)) false r a (λ n es k. record { fuel = n; resent = k })) b

-- resending: a front of it, and all of it, which did something where the book has more entries than before
module _ (net : Net) (x : Case) (v u : Scene NodeState Msg) (entry : Entry) (h : StandsFor net x v) (e : entry ≡ resend_entry net) where
  pub resend-front : FollowsFront x.setup x.lost (run_at x v) (entry ∷ []) (run_at x u) → LeadsFrom x ResendsBy v Whatever u
  resend-front f = repeat-front x.setup x.lost (ResendsBy x.setup x.lost (world_of x v)) (IsFin x.setup x.lost) (run_at x v) (run_at x u) (resend_entry x.setup.net ∷ []) (resends-repeats x.setup x.lost (world_of x v))
      (over (λ es. FollowsFront x.setup x.lost (run_at x v) es (run_at x u)) (λ n. resend_entry n ∷ []) net x.setup.net (entry ∷ []) h.net_is (ap (λ y. y ∷ []) e) f)

  pub resend-leads : (after before : ℕ) → after ≡ length u.book → before ≡ length v.book → Follows x.setup x.lost (run_at x v) (entry ∷ []) (run_at x u)
      → LeadsFrom x ResendsBy v (MoreRounds x u (not (nat_eq after before))) u
  resend-leads after before a b f = by_cases (eqb_tells after before)
    where
      resent : Follows x.setup x.lost (run_at x v) (resend_entry x.setup.net ∷ []) (run_at x u)
      resent = over (λ es. Follows x.setup x.lost (run_at x v) es (run_at x u)) (λ n. resend_entry n ∷ []) net x.setup.net (entry ∷ []) h.net_is (ap (λ y. y ∷ []) e) f

      by_cases : ((nat_eq after before ≡ true) × (after ≡ before)) ⊎ ((nat_eq after before ≡ false) × (after ≢ before)) → LeadsFrom x ResendsBy v (MoreRounds x u (not (nat_eq after before))) u
      by_cases (inl p) = subst (λ b. LeadsFrom x ResendsBy v (MoreRounds x u (not b)) u) (sym p.0)
          (repeat-ends x.setup x.lost (ResendsBy x.setup x.lost (world_of x v)) (IsFin x.setup x.lost) (run_at x v) (run_at x u) (resend_entry x.setup.net ∷ []) (resends-repeats x.setup x.lost (world_of x v)) resent (sym a ∙ p.1 ∙ b))
      by_cases (inr p) = subst (λ b. LeadsFrom x ResendsBy v (MoreRounds x u (not b)) u) (sym p.0)
          (repeat-more x.setup x.lost (ResendsBy x.setup x.lost (world_of x v)) (IsFin x.setup x.lost) (run_at x v) (run_at x u) (resend_entry x.setup.net ∷ []) (resends-repeats x.setup x.lost (world_of x v)) resent (λ q. p.1 (a ∙ q ∙ sym b)))
