use Rattle.std.proofs.Common.{◌≤◌, ap, subst, ◌∙◌}
use Rattle.std.specs.Prelude.{map}
use Rattle.std.specs.List.{range_with_len}
use Rattle.sl_layout.specs.Net.{unit_place, data_channels}
use Rattle.sl_net.specs.declared.input.Snapshot.{Snapshot}
use Rattle.sl_model.specs.Setup.{Setup}
use Rattle.sl_model.specs.Knowledge.{observer, known, issued}
use Rattle.sl_model.specs.World.{world}
use Rattle.sl_model.specs.Accounts.{finding_by}
use Rattle.sl_simulation.specs.ObserverImage.{IsTableOf, account_of}
use Rattle.sl_simulation.proofs.ObserverAccounts.{accounts-are}
use Rattle.sl_simulation.proofs.observers.observers_give_findings.Goals as goal

some : (s : Setup) (table : Snapshot) → IsTableOf s table → 1 ≤ s.credits
some s table f = subst (λ n. 1 ≤ n) f.credits f.some_credits

pub returns-clause-accounts : goal.returns-clause-accounts
returns-clause-accounts c s lost table es o n f t l h = ap (λ o. map account_of o.units) h
    ∙ accounts-are s.net s.credits table (world s lost es) f.credits (c.nets_are_wired.ensures s.net n) (λ u k. c.rows_are_held.ensures s lost es (data_channels s.net u) u k (known (unit_place s.net u) (observer (world s lost es))) t l)

pub returns-clause-collected : goal.returns-clause-collected
returns-clause-collected c s lost table es o k n f t l h one p =
    ap (λ o. finding_by o.issued (map account_of o.units) k) h
    ∙ ap (λ xs. finding_by (issued s.net (observer (world s lost es))) xs k)
    (accounts-are s.net s.credits table (world s lost es) f.credits (c.nets_are_wired.ensures s.net n) (λ u k. c.rows_are_held.ensures s lost es (data_channels s.net u) u k (known (unit_place s.net u) (observer (world s lost es))) t l))
    ∙ c.accounts_give_findings.ensures.collected s lost es k n (some s table f) one p

pub returns-clause-list : goal.returns-clause-list
returns-clause-list c s lost table es o n f t l h done =
    ap (λ o. map (finding_by o.issued (map account_of o.units)) (range_with_len 1 s.count)) h
    ∙ ap (λ xs. map (finding_by (issued s.net (observer (world s lost es))) xs) (range_with_len 1 s.count))
    (accounts-are s.net s.credits table (world s lost es) f.credits (c.nets_are_wired.ensures s.net n) (λ u k. c.rows_are_held.ensures s lost es (data_channels s.net u) u k (known (unit_place s.net u) (observer (world s lost es))) t l))
    ∙ c.accounts_give_findings.ensures.list s lost es n (some s table f) done
