use Rattle.std.proofs.Common.{◌≡◌, Bool, true, false, Some, map, codes, ap, sym, ◌∙◌, inl, inr}
use Rattle.clap.specs.Matches.{found_of, one_text}
use Rattle.clap.specs.Walk.{one_of}
use Rattle.clap.specs.Simple.{App, is_simple, matches_of}
use Rattle.clap.specs.Takes.{takes}
use Rattle.clap.specs.Faults.{fault_of, is_simple_and_free}
use Rattle.sl_words.proofs.FlagLemmas.{settles, one_text-rows, flag_text}
use Rattle.sl_words.proofs.flags.flag_words.Goals as goal

pub returns-in-Ok : goal.returns-in-Ok
returns-in-Ok g c =
    let ws = map g.S.AsStr.text c.args.words.now in
    let app_is = c.in_ok-command.ensures in
    elim (settles c.args.flag ws) [
      | inl h ↦ (
          let rows = (c.in-Ok.ensures.matches (ap is_simple app_is)).0 in
          let one : one_text (found_of c.in-Ok.matches) (codes "flag") ≡ Some (flag_text h.0) =
          one_text-rows (found_of c.in-Ok.matches) (codes "flag") ∙ (ap (one_of (codes "flag")) (rows ∙ ap (λ (a : App). matches_of a ws) app_is) ∙ h.3) in
          ap Some (go h.0 one) ∙ sym h.1)
      | inr h ↦ absurd (h.1 (sym (ap (λ (a : App). fault_of a ws) app_is) ∙ c.in-Ok.ensures.kinds (ap is_simple_and_free app_is)))
    ]
  where
    go : (b : Bool) → one_text (found_of c.in-Ok.matches) (codes "flag") ≡ Some (flag_text b) → c.get_flag.result ≡ b
    go true e = c.get_flag.ensures.value e
    go false e = c.get_flag.ensures.other e

pub returns : goal.returns
returns g c =
    let ws = map g.S.AsStr.text c.args.words.now in
    let app_is = c.in_ok-command.ensures in
    elim (settles c.args.flag ws) [
      | inl h ↦ (let memory = c.in-Err.ensures.passes (ap (λ (a : App). takes a ws) app_is ∙ h.2) in
          let oom = c.kind.ensures ∙ memory in
          let bad : true ≡ false = sym (rw oom at c.eq.ensures) ∙ c.if-eq.false in absurd (cc))
      | inr h ↦ sym h.0
    ]
