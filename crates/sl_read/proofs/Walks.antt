-- The tables in two parts: the lists of which the net is made, and what is read after them.
use Rattle.std.proofs.Common.{◌≡◌, ◌∙◌, Result, Ok, Err, refl, ap}
use Rattle.sl_form.specs.declared.path.TableName.TheVariants.{Top}
use Rattle.sl_form.specs.declared.path.Key.TheVariants.{Device, Cable, Host, Flow, Raw}
use Rattle.sl_form.specs.declared.refusal.Refusal.{Refusal}
use Rattle.sl_form.specs.declared.refusal.ReadError.{ReadError}
use Rattle.sl_form.specs.declared.refusal.ReadError.TheVariants.{Memory, Refused}
use Rattle.sl_form.specs.Refusals.{◌>>=◌, Fails}
use Rattle.sl_read.specs.declared.document.Document.{Document}
use Rattle.sl_read.specs.declared.document.NetRows.{NetRows}
use Rattle.sl_read.specs.declared.document.RunRows.{RunRows}
use Rattle.sl_read.specs.Rows.{rows}
use Rattle.sl_read.specs.Tables.{device_of, cable_of, host_of, snapshot_of, any_loss_of, flow_of, raw_of, any_script_of}
use Rattle.sl_read.specs.Sections.{Sections}
use Rattle.sl_read.specs.Documents.{walk_of}

abbrev pub net_rows : Sections → Result NetRows Refusal
net_rows s = rows Top Device device_of 0 s.devices >>= (λ devices. rows Top Cable cable_of 0 s.cables >>= (λ cables. rows Top Host host_of 0 s.hosts >>= (λ hosts.
    Ok (record { devices = devices; cables = cables; hosts = hosts }))))

abbrev pub run_rows : Sections → Result RunRows Refusal
run_rows s = snapshot_of s.snapshot >>= (λ snapshot. any_loss_of s.loss >>= (λ loss. rows Top Flow flow_of 0 s.flows >>= (λ flows. rows Top Raw raw_of 0 s.raws >>= (λ raws. any_script_of s.script >>= (λ script.
    Ok (record { snapshot = snapshot; loss = loss; flows = flows; raws = raws; script = script }))))))

abbrev pub joined : NetRows → RunRows → Document
joined n r = record { devices = n.devices; cables = n.cables; hosts = n.hosts; snapshot = r.snapshot; loss = r.loss; flows = r.flows; raws = r.raws; script = r.script }

after_three : {A B C N W : Type 0} (a : Result A Refusal) (b : Result B Refusal) (c : Result C Refusal) (n : A → B → C → N) (f : N → Result W Refusal)
    → (a >>= (λ x. b >>= (λ y. c >>= (λ z. f (n x y z))))) ≡ ((a >>= (λ x. b >>= (λ y. c >>= (λ z. Ok (n x y z))))) >>= f)
after_three (Ok x) (Ok y) (Ok z) n f = refl
after_three (Ok x) (Ok y) (Err e) n f = refl
after_three (Ok x) (Err e) c n f = refl
after_three (Err e) b c n f = refl

after_five : {A B C D E N W : Type 0} (a : Result A Refusal) (b : Result B Refusal) (c : Result C Refusal) (d : Result D Refusal) (e : Result E Refusal) (n : A → B → C → D → E → N) (f : N → Result W Refusal)
    → (a >>= (λ x. b >>= (λ y. c >>= (λ z. d >>= (λ v. e >>= (λ w. f (n x y z v w))))))) ≡ ((a >>= (λ x. b >>= (λ y. c >>= (λ z. d >>= (λ v. e >>= (λ w. Ok (n x y z v w))))))) >>= f)
after_five (Ok x) (Ok y) (Ok z) (Ok v) (Ok w) n f = refl
after_five (Ok x) (Ok y) (Ok z) (Ok v) (Err r) n f = refl
after_five (Ok x) (Ok y) (Ok z) (Err r) e n f = refl
after_five (Ok x) (Ok y) (Err r) d e n f = refl
after_five (Ok x) (Err r) c d e n f = refl
after_five (Err r) b c d e n f = refl

abbrev after : Sections → NetRows → Result Document Refusal
after s n = snapshot_of s.snapshot >>= (λ snapshot. any_loss_of s.loss >>= (λ loss. rows Top Flow flow_of 0 s.flows >>= (λ flows. rows Top Raw raw_of 0 s.raws >>= (λ raws. any_script_of s.script >>= (λ script.
    Ok (joined n (record { snapshot = snapshot; loss = loss; flows = flows; raws = raws; script = script })))))))

net_first : (s : Sections) → walk_of s ≡ (net_rows s >>= after s)
unfolding walk_of
net_first s = after_three (rows Top Device device_of 0 s.devices) (rows Top Cable cable_of 0 s.cables) (rows Top Host host_of 0 s.hosts) (λ d c h. record { devices = d; cables = c; hosts = h }) (after s)

run_next : (s : Sections) (n : NetRows) → after s n ≡ (run_rows s >>= (λ r. Ok (joined n r)))
run_next s n = after_five (snapshot_of s.snapshot) (any_loss_of s.loss) (rows Top Flow flow_of 0 s.flows) (rows Top Raw raw_of 0 s.raws) (any_script_of s.script)
    (λ t l f r e. record { snapshot = t; loss = l; flows = f; raws = r; script = e }) (λ r. Ok (joined n r))

pub net_refused : (s : Sections) (x : Refusal) → net_rows s ≡ Err x → walk_of s ≡ Err x
net_refused s x h = net_first s ∙ ap (λ r. r >>= after s) h

pub run_refused : (s : Sections) (n : NetRows) (e : ReadError) → net_rows s ≡ Ok n → Fails e (run_rows s) → Fails e (walk_of s)
run_refused s n Memory first h = tt
run_refused s n (Refused x) first h = net_first s ∙ ap (λ r. r >>= after s) first ∙ run_next s n ∙ ap (λ r. r >>= (λ r. Ok (joined n r))) h

pub walked : (s : Sections) (n : NetRows) (r : RunRows) → net_rows s ≡ Ok n → run_rows s ≡ Ok r → walk_of s ≡ Ok (joined n r)
walked s n r first h = net_first s ∙ ap (λ r. r >>= after s) first ∙ run_next s n ∙ ap (λ r. r >>= (λ r. Ok (joined n r))) h
