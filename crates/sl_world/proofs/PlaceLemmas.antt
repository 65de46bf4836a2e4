-- Tables of places.
use Rattle.std.proofs.Common.{◌≡◌, ◌≢◌, ℕ, zero, suc, ◌+◌, ◌^◌, ◌<◌, ◌≤◌, List, [], ◌∷◌, ◌++◌, add-one, length, get_or, set, map, refl, ap, sym, ◌∙◌, subst, arith, inl, inr}
use Rattle.std.specs.Prelude.{slice_index}
use Rattle.std.proofs.lemmas.Bool.{cases_eq, cases_lt}
use Rattle.std.proofs.lemmas.List.{get_or-map, get_or-set_same, get_or-set_other, length-map, length-set, length_push, get_or_push, get_or_append_left}
use Rattle.sl_machine.specs.declared.wiring.Link.{Link}
use Rattle.sl_machine.specs.Plan.{Plan, IsSound, link_in, link_out, link_at, no_link}
use Rattle.sl_world.specs.Places.{start_of, place_of, pair_at, IsLaidOut, IsNumbering, Finds, IsTableOf, Leads, incoming, outgoing}
use Rattle.sl_world.specs.declared.places.Places.{Places}
use Rattle.sl_world.proofs.LinkLemmas.{link_in_is, link_out_is}

pub start_of-zero : (counts : List ℕ) → start_of counts 0 ≡ 0
start_of-zero [] = refl
start_of-zero (x ∷ xs) = refl

-- one more actor
pub start_of-suc : (counts : List ℕ) (a : ℕ) → a < length counts → start_of counts (suc a) ≡ start_of counts a + slice_index counts a
start_of-suc [] a low = absurd (omega arith)
start_of-suc (x ∷ xs) zero low = omega (arith, start_of-zero xs)
start_of-suc (x ∷ xs) (suc a) low = omega (arith, start_of-suc xs a (omega arith))

-- one more start is laid out
pub started_more : (starts new counts : List ℕ) (i end next : ℕ) → new ≡ starts ++ end ∷ [] → length starts ≡ i → i < length counts → end ≡ start_of counts i → next ≡ end + slice_index counts i → ((a : ℕ) → a < i → slice_index starts a ≡ start_of counts a) → record { long : length new ≡ i + 1; end : next ≡ start_of counts (i + 1); starts : (a : ℕ) → a < i + 1 → slice_index new a ≡ start_of counts a }
started_more starts new counts i end next pushed long low is more before =
    record {
      long = ap length pushed ∙ (length_push starts end ∙ ap (λ (n : ℕ). n + 1) long);
      end = rw add-one (omega (arith, start_of-suc counts i low));
      starts = λ a h.
          elim (cases_eq a i) [
            | inl same ↦ ap (λ (xs : List ℕ). get_or xs a 0) pushed ∙ (ap (λ (k : ℕ). get_or (starts ++ end ∷ []) k 0) same ∙ (get_or_push starts end 0 i long ∙ (is ∙ ap (start_of counts) (sym same))))
            | inr other ↦
                let lt : a < length starts = omega arith in
                ap (λ (xs : List ℕ). get_or xs a 0) pushed ∙ (get_or_append_left starts (end ∷ []) 0 a lt ∙ before a (omega arith))
          ];
    }

-- the parts of the actors stand one after another
pub start_of_up : (counts : List ℕ) (a b : ℕ) → a < b → b ≤ length counts → start_of counts a + slice_index counts a ≤ start_of counts b
start_of_up [] a b up low = absurd (omega arith)
start_of_up (x ∷ xs) a zero up low = absurd (omega arith)
start_of_up (x ∷ xs) zero (suc b) up low = omega arith
start_of_up (x ∷ xs) (suc a) (suc b) up low = omega (arith, start_of_up xs a b (omega arith) (omega arith))

-- and within the table
pub start_of_within : (counts : List ℕ) (a n : ℕ) → a < length counts → n < slice_index counts a → start_of counts a + n < start_of counts (length counts)
start_of_within [] a n low here = absurd (omega arith)
start_of_within (x ∷ xs) zero n low here = omega arith
start_of_within (x ∷ xs) (suc a) n low here = omega (arith, start_of_within xs a n (omega arith) here)

-- so two pairs have two places
pub places_apart : (counts : List ℕ) (a b n m : ℕ) → a < length counts → b < length counts → n < slice_index counts a → m < slice_index counts b → (a ≡ b → n ≡ m → ⊥) → start_of counts a + n ≢ start_of counts b + m
places_apart counts a b n m low_a low_b low_n low_m apart e =
    elim (cases_eq a b) [
      | inl same ↦
          let starts : start_of counts a ≡ start_of counts b = ap (start_of counts) same in
          apart same (omega arith)
      | inr other ↦
          elim (cases_lt a b) [
            | inl less ↦ omega (arith, start_of_up counts a b less (omega arith))
            | inr more ↦ omega (arith, start_of_up counts b a (omega arith) (omega arith))
          ]
    ]

-- the place of an actor's number in the table
pub position_is : (t : Places) (counts : List ℕ) (a n : ℕ) → IsLaidOut t counts → a < length counts → slice_index t.starts.items a + n ≡ start_of counts a + n
position_is t counts a n laid low = ap (λ (s : ℕ). s + n) (laid.starts a low)

pub position_within : (t : Places) (counts : List ℕ) (a n : ℕ) → IsLaidOut t counts → a < length counts → n < slice_index counts a → slice_index t.starts.items a + n < length t.places.items
position_within t counts a n laid low here = omega (arith, position_is t counts a n laid low, start_of_within counts a n low here, laid.long)

-- so where a search looks is in it
pub position_read : (t : Places) (counts starts : List ℕ) (a n : ℕ) → starts ≡ t.starts.items → IsLaidOut t counts → a < length counts → n < slice_index counts a → get_or starts a 0 + n < length t.places.items
position_read t counts starts a n is laid low here = omega (arith, ap (λ (xs : List ℕ). get_or xs a 0 + n) is, position_within t counts a n laid low here)

-- one more pair is entered
pub entered : (t new : Places) (counts : List ℕ) (pairs : List (ℕ × ℕ)) (l a n : ℕ) → IsLaidOut t counts → IsNumbering counts pairs → l < length pairs → (a, n) ≡ pair_at pairs l → new.starts.items ≡ t.starts.items → new.places.items ≡ set t.places.items (slice_index t.starts.items a + n) l → Finds t pairs l → record { laid_out : IsLaidOut new counts; finds : Finds new pairs (l + 1) }
entered t new counts pairs l a n laid numbering low pair starts places finds =
    let a_is : a ≡ (pair_at pairs l).0 = ap (λ (p : ℕ × ℕ). p.0) pair in
    let n_is : n ≡ (pair_at pairs l).1 = ap (λ (p : ℕ × ℕ). p.1) pair in
    let low_a : a < length counts = omega (arith, numbering.actor_below l low) in
    let counts_is : slice_index counts a ≡ slice_index counts (pair_at pairs l).0 = ap (slice_index counts) a_is in
    let low_n : n < slice_index counts a = omega (arith, numbering.number_below l low) in
    let at : ℕ = slice_index t.starts.items a + n in
    let within : at < length t.places.items = position_within t counts a n laid low_a low_n in
    let place_is = λ (b m : ℕ). (ap (λ (xs : List ℕ). get_or xs (slice_index new.starts.items b + m) 0) places ∙ ap (λ (xs : List ℕ). get_or (set t.places.items at l) (slice_index xs b + m) 0) starts) in
    record {
      laid_out = record {
        starts_each = ap length starts ∙ laid.starts_each;
        starts = λ b below. ap (λ (xs : List ℕ). slice_index xs b) starts ∙ laid.starts b below;
        long = ap length places ∙ (length-set t.places.items at l ∙ laid.long);
      };
      finds = λ k below.
          let b : ℕ = (pair_at pairs k).0 in
          let m : ℕ = (pair_at pairs k).1 in
          elim (cases_eq k l) [
            | inl same ↦
                let there : slice_index t.starts.items b + m ≡ at = ap (λ (p : ℕ × ℕ). slice_index t.starts.items p.0 + p.1) (ap (pair_at pairs) same ∙ sym pair) in
                place_is b m ∙ (ap (λ (i : ℕ). get_or (set t.places.items at l) i 0) there ∙ (get_or-set_same t.places.items at l 0 within ∙ sym same))
            | inr other ↦
                let before : k < l = omega arith in
                let low_k : k < length pairs = omega arith in
                let there : slice_index t.starts.items b + m ≢ at = λ e.
                places_apart counts b a m n (numbering.actor_below k low_k) low_a (numbering.number_below k low_k) low_n
                (λ f g. other (numbering.apart k l low_k low (f ∙ a_is) (g ∙ n_is)))
                (sym (position_is t counts b m laid (numbering.actor_below k low_k)) ∙ (e ∙ position_is t counts a n laid low_a)) in
                place_is b m ∙ (get_or-set_other t.places.items at (slice_index t.starts.items b + m) l 0 there ∙ finds k before)
          ];
    }

-- links by the pairs that a search finds again
module _ (links : List Link) (counts : List ℕ) (pair : Link → ℕ × ℕ) (find : ℕ → ℕ → ℕ) where
  pair_is : (l : ℕ) → l < length links → pair_at (map pair links) l ≡ pair (link_at links l)
  pair_is l low = get_or-map {Y = ℕ × ℕ} pair links l no_link (0, 0) low

  long : length (map pair links) ≡ length links
  long = length-map links pair

  -- number the places of their actors
  numbering_of : length links < 2 ^ 32 → ((l : ℕ) → l < length links → (pair (link_at links l)).0 < length counts) → ((l : ℕ) → l < length links → (pair (link_at links l)).1 < slice_index counts (pair (link_at links l)).0)
      → ((l : ℕ) → l < length links → find (pair (link_at links l)).0 (pair (link_at links l)).1 ≡ l) → IsNumbering counts (map pair links)
  numbering_of fits actors numbers once =
      record {
        fits = omega (arith, fits, long);
        actor_below = λ l low. let here : l < length links = omega (arith, low, long) in rw (pair_is l here) (actors l here);
        number_below = λ l low. let here : l < length links = omega (arith, low, long) in rw (pair_is l here) (numbers l here);
        apart = λ l k low_l low_k same_actor same_number.
            let here_l : l < length links = omega (arith, low_l, long) in
            let here_k : k < length links = omega (arith, low_k, long) in
            let p = pair (link_at links l) in
            let q = pair (link_at links k) in
            let actor : p.0 ≡ q.0 = sym (ap (λ (r : ℕ × ℕ). r.0) (pair_is l here_l)) ∙ (same_actor ∙ ap (λ (r : ℕ × ℕ). r.0) (pair_is k here_k)) in
            let number : p.1 ≡ q.1 = sym (ap (λ (r : ℕ × ℕ). r.1) (pair_is l here_l)) ∙ (same_number ∙ ap (λ (r : ℕ × ℕ). r.1) (pair_is k here_k)) in
            sym (once l here_l) ∙ (ap (λ (a : ℕ). find a p.1) actor ∙ (ap (find q.0) number ∙ once k here_k));
      }

  -- and the table has what the search finds
  leads_of : (t : Places) → ((a n : ℕ) → a < length counts → n < slice_index counts a → find a n < length links)
      → ((a n : ℕ) → find a n < length links → ((pair (link_at links (find a n))).0 ≡ a) × ((pair (link_at links (find a n))).1 ≡ n)) → IsTableOf t counts (map pair links) → Leads t counts find
  leads_of t each found table =
      record {
        laid_out = table.laid_out;
        is = λ a n low here.
            let l : ℕ = find a n in
            let below : l < length links = each a n low here in
            let is = found a n below in
            let actor_is : (pair_at (map pair links) l).0 ≡ a = ap (λ (p : ℕ × ℕ). p.0) (pair_is l below) ∙ is.0 in
            let number_is : (pair_at (map pair links) l).1 ≡ n = ap (λ (p : ℕ × ℕ). p.1) (pair_is l below) ∙ is.1 in
            subst (λ (m : ℕ). place_of t a m ≡ l) number_is (subst (λ (b : ℕ). place_of t b (pair_at (map pair links) l).1 ≡ l) actor_is (table.finds l (omega (arith, below, long))));
      }

-- so do the links of a sound wiring, as they come to their receivers and as they go from their senders
module _ (plan : Plan) (sound : IsSound plan) where
  pub incoming_numbering : IsNumbering plan.ins (incoming plan.links)
  incoming_numbering = numbering_of plan.links plan.ins (λ l. (l.to, l.choice)) (link_in plan.links) sound.links_fit sound.to_below sound.choice_below sound.once_in

  pub outgoing_numbering : IsNumbering plan.outs (outgoing plan.links)
  outgoing_numbering =
      numbering_of plan.links plan.outs (λ l. (l.from, l.out)) (link_out plan.links) sound.links_fit (λ l low. omega (arith, sound.from_below l low, sound.outs_each)) sound.out_below sound.once_out

  pub incoming_leads : (t : Places) → IsTableOf t plan.ins (incoming plan.links) → Leads t plan.ins (link_in plan.links)
  incoming_leads t = leads_of plan.links plan.ins (λ l. (l.to, l.choice)) (link_in plan.links) t sound.each_in (link_in_is plan.links)

  pub outgoing_leads : (t : Places) → IsTableOf t plan.outs (outgoing plan.links) → Leads t plan.outs (link_out plan.links)
  outgoing_leads t =
      leads_of plan.links plan.outs (λ l. (l.from, l.out)) (link_out plan.links) t (λ a n low here. sound.each_out a n (omega (arith, low, sound.outs_each)) here) (link_out_is plan.links)

-- the table of pairs that were read from a wiring
pub numbered : (counts ns : List ℕ) (pairs ps : List (ℕ × ℕ)) → counts ≡ ns → pairs ≡ ps → IsNumbering ns ps → IsNumbering counts pairs
numbered counts ns pairs ps same_counts same_pairs h = subst (λ (ms : List ℕ). IsNumbering ms pairs) (sym same_counts) (subst (IsNumbering ns) (sym same_pairs) h)

pub tabled : (t : Places) (counts ns : List ℕ) (pairs ps : List (ℕ × ℕ)) → counts ≡ ns → pairs ≡ ps → IsTableOf t counts pairs → IsTableOf t ns ps
tabled t counts ns pairs ps same_counts same_pairs h = subst (λ (ms : List ℕ). IsTableOf t ms ps) same_counts (subst (IsTableOf t counts) same_pairs h)
