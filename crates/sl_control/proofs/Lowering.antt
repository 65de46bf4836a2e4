-- A dump lowers no number that is known.
use Rattle.std.proofs.Common.{◌≡◌, ℕ, zero, suc, ◌<◌, ◌≤◌, List, [], ◌∷◌, length, map, refl, ap, ◌∙◌, arith}
use Rattle.std.specs.Prelude.{true, false, cond, nat_lt, if◌then◌else◌, slice_index_or}
use Rattle.std.proofs.lemmas.Bool.{lt-ltb}
use Rattle.sl_ids.specs.declared.wid.Wid.{Wid}
use Rattle.sl_saves.specs.Calls.{channels}
use Rattle.sl_wire.specs.declared.message.Dump.{Dump}
use Rattle.sl_wire.specs.Sizes.{Lengths}
use Rattle.sl_wire.specs.Wids.{unwrapped_each}
use Rattle.sl_control.specs.declared.known.Known.{Known}
use Rattle.sl_control.specs.Rows.{seen_on}
use Rattle.sl_control.specs.Control.{numbers_told, answered, takes_dump, dump_by}
use Rattle.sl_control.specs.Known.{IsNoLess}

each-above : (bits : ℕ) (ns : List ℕ) (ws : List Wid) (c : ℕ) → c < length ws → slice_index_or ns c 0 ≤ slice_index_or (unwrapped_each bits ns ws) c 0
each-above bits [] ws c h = omega arith
each-above bits (n ∷ ns) [] c h = absurd (omega (arith, h))
each-above bits (n ∷ ns) (w ∷ ws) zero h = omega arith
each-above bits (n ∷ ns) (w ∷ ws) (suc c) h = each-above bits ns ws c (omega (arith, h))

at-channel : (f : ℕ → ℕ) (c : ℕ) → c < 8 → slice_index_or (map f channels) c 0 ≡ f c
at-channel f zero h = refl
at-channel f (suc zero) h = refl
at-channel f (suc (suc zero)) h = refl
at-channel f (suc (suc (suc zero))) h = refl
at-channel f (suc (suc (suc (suc zero)))) h = refl
at-channel f (suc (suc (suc (suc (suc zero))))) h = refl
at-channel f (suc (suc (suc (suc (suc (suc zero)))))) h = refl
at-channel f (suc (suc (suc (suc (suc (suc (suc zero))))))) h = refl
at-channel f (suc (suc (suc (suc (suc (suc (suc (suc c)))))))) h = absurd (omega (arith, h))

seen-at : (count c : ℕ) (last : List ℕ) → c < 8 → c < count → slice_index_or (seen_on count last) c 0 ≡ slice_index_or last c 0
seen-at count c last h l = at-channel (λ c. if nat_lt c count then slice_index_or last c 0 else 0) c h ∙ ap (λ b. if b then slice_index_or last c 0 else 0) (lt-ltb c count l)

same : (r : Known) → IsNoLess r r
same r = record { wires = refl; id = omega arith; cpu = omega arith; lasts = λ c h. omega arith; upto = omega arith }

more : (bits : ℕ) (d : Dump) (r : Known) → length d.last ≡ 8 → IsNoLess r (answered (numbers_told bits d r) r)
more bits d r e = record {
  wires = refl;
  id = omega arith;
  cpu = omega arith;
  lasts = λ c h. let a = each-above bits r.last d.last c (omega (arith, h, e)) in let s = seen-at r.wires.channels c (unwrapped_each bits r.last d.last) (omega (arith, h)) (omega (arith, h)) in omega (arith, a, s);
  upto = omega arith;
}

pub lowers-nothing : (sizes : Lengths) (c : ℕ) (d : Dump) (r : Known) → length d.last ≡ 8 → IsNoLess r (dump_by sizes c d r)
lowers-nothing sizes c d r e = elim (takes_dump sizes c d r) as (λ b. IsNoLess r (cond b (answered (numbers_told sizes.bits d r) r) r)) [ true ↦ more sizes.bits d r e | false ↦ same r ]
