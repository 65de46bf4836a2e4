use Rattle.std.proofs.Common.{◌≡◌, Result, Ok, Err, refl, ap, sym, ◌∙◌}
use Rattle.sl_layout.specs.Net.{Net}
use Rattle.sl_net.specs.Input.{Input}
use Rattle.sl_form.specs.declared.refusal.Refusal.{Refusal}
use Rattle.sl_form.specs.declared.refusal.ReadError.{ReadError}
use Rattle.sl_form.specs.declared.refusal.ReadError.TheVariants.{Memory, Refused}
use Rattle.sl_form.specs.Refusals.{◌>>=◌, Fails}
use Rattle.sl_read.specs.declared.document.Document.{Document}
use Rattle.sl_read.specs.declared.read.Contents.{Contents}
use Rattle.sl_read.specs.Limits.{limits_kept}
use Rattle.sl_read.specs.Inputs.{net_in, contents_in, settled}
use Rattle.sl_read.proofs.RowLemmas.{refused_part}
use Rattle.sl_read.proofs.read.settle.Goals as goal

after_two : {A B C : Type 0} (a : Result A Refusal) (b : Result B Refusal) (f : A → Result C Refusal) → (a >>= (λ x. b >>= (λ _. f x))) ≡ ((a >>= (λ x. b >>= (λ _. Ok x))) >>= f)
after_two (Ok x) (Ok y) f = refl
after_two (Ok x) (Err e) f = refl
after_two (Err e) b f = refl

abbrev kept_in : Net → Document → Result Contents Refusal
kept_in net doc = contents_in net doc >>= (λ contents. limits_kept net doc.snapshot >>= (λ _. Ok contents))

abbrev whole : Net → Document → Contents → Result Input Refusal
whole net doc contents = Ok (record { net = net; snapshot = doc.snapshot; loss = contents.loss; flows = contents.flows; raws = contents.raws; script = contents.script })

settled_in : (doc : Document) (net : Net) → net_in doc ≡ Ok net → settled doc ≡ (kept_in net doc >>= whole net doc)
unfolding settled
settled_in doc net h = rw h (after_two (contents_in net doc) (limits_kept net doc.snapshot) (whole net doc))

no_net : (doc : Document) (x : Refusal) → net_in doc ≡ Err x → settled doc ≡ Err x
unfolding settled
no_net doc x h = rw h refl

not_kept : (doc : Document) (net : Net) (e : ReadError) → net_in doc ≡ Ok net → Fails e (kept_in net doc) → Fails e (settled doc)
not_kept doc net Memory h k = tt
not_kept doc net (Refused x) h k = settled_in doc net h ∙ ap (λ r. r >>= whole net doc) k

pub returns-in_err-net : goal.returns-in_err-net
returns-in_err-net c = let doc = c.args.document.now in
    refused_part c.from_residual.result c.in_err-net.field-0.0 (net_in doc) (settled doc) c.from_residual.ensures (no_net doc) c.in_err-net.ensures

pub returns-in-Err : goal.returns-in-Err
returns-in-Err c = not_kept c.args.document.now c.in_ok-net.net c.in-Err.error c.in_ok-net.ensures c.in-Err.ensures

pub returns-in-Ok : goal.returns-in-Ok
returns-in-Ok c = let doc = c.args.document.now in
    settled_in doc c.in_ok-net.net c.in_ok-net.ensures ∙ ap (λ r. r >>= whole c.in_ok-net.net doc) c.in-Ok.ensures ∙ ap Ok (sym c.input_in.ensures)
