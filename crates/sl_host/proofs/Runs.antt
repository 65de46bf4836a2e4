-- A host's frames over any turns.
use Rattle.std.proofs.Common.{◌≡◌, ℕ, zero, suc, ◌+◌, ◌-◌, ◌^◌, List, [], ◌∷◌, ◌++◌, refl, sym, ap, ◌∙◌, take, append-nil, append_assoc, arith}
use Rattle.std.specs.Prelude.{Option, Some, None, is_some, true, false, slice_get, option_map, unwrap_or, min, if◌then◌else◌}
use Rattle.std.proofs.lemmas.List.{map-append}
use Rattle.sl_machine.specs.Machine.{After}
use Rattle.sl_machine.specs.Turns.{Turn, Took, Acted, after_turn, after}
use Rattle.sl_wire.specs.declared.message.Msg.{Msg}
use Rattle.sl_wire.specs.Carried.{bytes_on, carrying}
use Rattle.sl_host.specs.Host.{HostState, counted, sending, host_rules}
use Rattle.sl_host.specs.Turns.{sendings, frames_taken}

-- an injection, by the frame that is next
abbrev injected : HostState → Option (List ℕ) → After HostState Msg
injected s o = unwrap_or (option_map (sending s) o) (record { state = s; puts = [] })

messages_stay : (s : HostState) (t : Turn Msg) → (after_turn host_rules s t).state.messages ≡ s.messages
messages_stay s (Took link m) = elim (is_some (bytes_on m)) as (λ b. (if b then counted s else s).messages ≡ s.messages) [ true ↦ refl | false ↦ refl ]
messages_stay s (Acted action) = elim (slice_get s.messages s.sent) as (λ o. (injected s o).state.messages ≡ s.messages) [ None ↦ refl | Some b ↦ refl ]

pub messages_are : (s : HostState) (ts : List (Turn Msg)) → (after host_rules s ts).state.messages ≡ s.messages
messages_are s [] = refl
messages_are s (t ∷ ts) = messages_are (after_turn host_rules s t).state ts ∙ messages_stay s t

take_next : (xs : List (List ℕ)) (n : ℕ) (x : List ℕ) → slice_get xs n ≡ Some x → take (suc n) xs ≡ take n xs ++ x ∷ []
take_next [] n x e = cc
take_next (y ∷ ys) zero x e = let same : y ≡ x = cc in ap (λ z. z ∷ []) same
take_next (y ∷ ys) (suc n) x e = ap (λ zs. y ∷ zs) (take_next ys n x e)

-- what was sent before a turn, and what it puts
sent_more : (s : HostState) (t : Turn Msg) → sendings (take s.sent s.messages) ++ (after_turn host_rules s t).puts ≡ sendings (take (after_turn host_rules s t).state.sent s.messages)
sent_more s (Took link m) = append-nil (sendings (take s.sent s.messages)) ∙ elim (is_some (bytes_on m)) as
    (λ b. sendings (take s.sent s.messages) ≡ sendings (take (if b then counted s else s).sent s.messages)) [ true ↦ refl | false ↦ refl ]
sent_more s (Acted action) = by_next (slice_get s.messages s.sent) refl
  where
    by_next : (o : Option (List ℕ)) → slice_get s.messages s.sent ≡ o → sendings (take s.sent s.messages) ++ (injected s o).puts ≡ sendings (take (injected s o).state.sent s.messages)
    by_next None e = append-nil (sendings (take s.sent s.messages))
    by_next (Some b) e = sym (map-append (λ bytes. (0, carrying bytes)) (take s.sent s.messages) (b ∷ [])) ∙ ap sendings (sym (take_next s.messages s.sent b e))

sent_so_far : (s : HostState) (ts : List (Turn Msg)) → sendings (take s.sent s.messages) ++ (after host_rules s ts).puts ≡ sendings (take (after host_rules s ts).state.sent s.messages)
sent_so_far s [] = append-nil (sendings (take s.sent s.messages))
sent_so_far s (t ∷ ts) =
    let next = (after_turn host_rules s t).state in
    sym (append_assoc (sendings (take s.sent s.messages)) (after_turn host_rules s t).puts (after host_rules next ts).puts) ∙ ap (λ ps. ps ++ (after host_rules next ts).puts) (sent_more s t)
    ∙ ap (λ ms. sendings (take next.sent ms) ++ (after host_rules next ts).puts) (sym (messages_stay s t)) ∙ sent_so_far next ts ∙ ap (λ ms. sendings (take (after host_rules next ts).state.sent ms)) (messages_stay s t)

pub sent_is : (s : HostState) (ts : List (Turn Msg)) → s.sent ≡ 0 → (after host_rules s ts).puts ≡ sendings (take (after host_rules s ts).state.sent s.messages)
sent_is s ts e = ap (λ n. sendings (take n s.messages) ++ (after host_rules s ts).puts) (sym e) ∙ sent_so_far s ts

delivered_more : (s : HostState) (ts : List (Turn Msg)) (n : ℕ) → s.delivered ≡ min n (2 ^ 64 - 1) → (after host_rules s ts).state.delivered ≡ min (n + frames_taken ts) (2 ^ 64 - 1)
delivered_more s [] n e = e ∙ ap (λ m. min m (2 ^ 64 - 1)) (omega arith)
delivered_more s (Took link m ∷ ts) n e = elim (is_some (bytes_on m)) as
    (λ b. (after host_rules (if b then counted s else s) ts).state.delivered
    ≡ min (n + (if b then suc (frames_taken ts) else frames_taken ts)) (2 ^ 64 - 1)) [
      | true ↦ (let more : n + suc (frames_taken ts) ≡ suc n + frames_taken ts = omega arith in
          delivered_more (counted s) ts (suc n) (omega (arith, e)) ∙ ap (λ m. min m (2 ^ 64 - 1)) (sym more))
      | false ↦ delivered_more s ts n e
    ]
delivered_more s (Acted action ∷ ts) n e = by_next (slice_get s.messages s.sent) (λ t f. delivered_more t ts n f)
  where
    by_next : (o : Option (List ℕ)) → ((t : HostState) → t.delivered ≡ min n (2 ^ 64 - 1) → (after host_rules t ts).state.delivered ≡ min (n + frames_taken ts) (2 ^ 64 - 1))
        → (after host_rules (injected s o).state ts).state.delivered ≡ min (n + frames_taken ts) (2 ^ 64 - 1)
    by_next None later = later s e
    by_next (Some b) later = later (sending s b).state e

pub delivered_is : (s : HostState) (ts : List (Turn Msg)) → s.delivered ≡ 0 → (after host_rules s ts).state.delivered ≡ min (frames_taken ts) (2 ^ 64 - 1)
delivered_is s ts e = delivered_more s ts 0 e ∙ ap (λ m. min m (2 ^ 64 - 1)) (omega arith)
