-- Two inputs that differ in bad frames alone are the same with bad frames blanked.
use Rattle.std.proofs.Common.{◌≡◌, ℕ, List, [], ◌∷◌, length, take, refl, sym, ap, subst, ◌∙◌, inl, inr}
use Rattle.std.specs.Prelude.{map, if◌then◌else◌, is_none, is_some}
use Rattle.sl_net.specs.declared.input.RawPart.{RawPart}
use Rattle.sl_machine.specs.declared.wiring.Entry.{Entry as BookEntry}
use Rattle.sl_net.specs.Input.{Input}
use Rattle.sl_model.specs.declared.ending.Ending.{Ending}
use Rattle.sl_model.specs.History.{Losses}
use Rattle.sl_model.specs.Setup.{Setup, setup_of}
use Rattle.sl_model.specs.World.{Entry, start, next_step, world, kept_from, kept, IsLegal}
use Rattle.sl_model.specs.Findings.{findings, findings_in}
use Rattle.sl_model.specs.End.{finish}
use Rattle.sl_model.specs.Ending.{HasEnding}
use Rattle.sl_model.specs.Losses.{losses}
use Rattle.sl_model.specs.Schedule.{expand}
use Rattle.sl_model.specs.Books.{schedule_of}
use Rattle.sl_model.specs.Finished.{IsBookOfRun}
use Rattle.sl_poll.specs.Reading.{reads, broken_by}
use Rattle.sl_cut.specs.Hostile.{IsBad, IsSameButBad, AreSameButBad, IsAlike, blank, blank_world}
use Rattle.sl_cut.proofs.Hostile.Frames.{blank_raw, blank_setup}
use Rattle.sl_cut.proofs.Hostile.Worlds.{idle-same, start-blank, world-blank, kept-blank}
use Rattle.sl_cut.proofs.Hostile.Found.{findings-blank}
use Rattle.sl_cut.proofs.Hostile.Ended.{finish-blank, legal-blank, ending-blank, blank-ending}
use Rattle.sl_cut.proofs.Hostile.Polled.{reads-blank, broken-blank}

gone : (bytes : List ℕ) → IsBad bytes → blank bytes ≡ []
gone bytes e = ap (λ o. if is_none o then [] else bytes) e

same-frame : (a b : List ℕ) → IsSameButBad a b → blank a ≡ blank b
same-frame a b (inl e) = ap blank e
same-frame a b (inr e) = gone a e.0 ∙ sym (gone b e.1)

same-raws : (rs qs : List RawPart) → AreSameButBad rs qs → map blank_raw rs ≡ map blank_raw qs
same-raws [] [] e = refl
same-raws [] (q ∷ qs) e = absurd e
same-raws (r ∷ rs) [] e = absurd e
same-raws (r ∷ rs) (q ∷ qs) e = λ k. record { from = e.0 k; bytes = same-frame r.bytes q.bytes e.1 k } ∷ same-raws rs qs e.2 k

same-setup : (i j : Input) → IsAlike i j → blank_setup (setup_of i) ≡ blank_setup (setup_of j)
same-setup i j e = λ k. record {
  net = e.net k;
  window = (e.snapshot k).window;
  count = (e.snapshot k).count;
  retries = (e.snapshot k).retries;
  credits = (e.snapshot k).credits;
  flows = e.flows k;
  raws = same-raws i.raws j.raws e.raws k;
}

-- what is told of a setup alike with bad frames blanked is told alike of both
pub told-alike : {A : Type 0} (f : Setup → A) → ((s : Setup) → f (blank_setup s) ≡ f s) → (i j : Input) → IsAlike i j → f (setup_of i) ≡ f (setup_of j)
told-alike f same i j e = sym (same (setup_of i)) ∙ ap f (same-setup i j e) ∙ same (setup_of j)

pub worlds-alike : (i j : Input) → IsAlike i j → (lost : Losses) (es : List Entry) → blank_world (world (setup_of i) lost es) ≡ blank_world (world (setup_of j) lost es)
worlds-alike i j e lost es = sym (world-blank (setup_of i) lost es) ∙ ap (λ s. world s lost es) (same-setup i j e) ∙ world-blank (setup_of j) lost es

pub findings-alike : (i j : Input) → IsAlike i j → (lost : Losses) (es : List Entry) → findings (setup_of i) lost es ≡ findings (setup_of j) lost es
findings-alike i j e lost es = told-alike (λ s. findings s lost es)
    (λ s. ap (findings_in (blank_setup s) lost) (world-blank s lost es) ∙ findings-blank s lost (world s lost es)) i j e

pub idle-alike : (i j : Input) → IsAlike i j → (lost : Losses) (es : List Entry) (x : Entry)
    → is_some (next_step (setup_of i) lost (world (setup_of i) lost es) x) ≡ is_some (next_step (setup_of j) lost (world (setup_of j) lost es) x)
idle-alike i j e lost es x = told-alike (λ s. is_some (next_step s lost (world s lost es) x))
    (λ s. ap (λ v. is_some (next_step (blank_setup s) lost v x)) (world-blank s lost es) ∙ idle-same s lost (world s lost es) x) i j e

pub kept-alike : (i j : Input) → IsAlike i j → (lost : Losses) (es : List Entry) → kept (setup_of i) lost es ≡ kept (setup_of j) lost es
kept-alike i j e lost es = told-alike (λ s. kept s lost es)
    (λ s. ap (λ v. kept_from (blank_setup s) lost v es) (sym (start-blank s.net)) ∙ kept-blank s lost (start s.net) es) i j e

pub finish-alike : (i j : Input) → IsAlike i j → (fuel : ℕ) (lost : Losses) (es : List Entry)
    → finish fuel (setup_of i) lost (world (setup_of i) lost es) ≡ finish fuel (setup_of j) lost (world (setup_of j) lost es)
finish-alike i j e fuel lost es = told-alike (λ s. finish fuel s lost (world s lost es))
    (λ s. ap (finish fuel (blank_setup s) lost) (world-blank s lost es) ∙ finish-blank fuel s lost (world s lost es)) i j e

pub legal-alike : (i j : Input) → IsAlike i j → (lost : Losses) (es : List Entry) → IsLegal (setup_of i) lost es → IsLegal (setup_of j) lost es
legal-alike i j e lost es h = subst (λ X. X) (sym (legal-blank (setup_of i) lost es) ∙ ap (λ s. IsLegal s lost es) (same-setup i j e) ∙ legal-blank (setup_of j) lost es) h

pub ending-alike : (i j : Input) → IsAlike i j → (lost : Losses) (es : List Entry) (x : Ending) → HasEnding (setup_of i) lost es x → HasEnding (setup_of j) lost es x
ending-alike i j e lost es x h = blank-ending (setup_of j) lost es x (subst (λ s. HasEnding s lost es x) (same-setup i j e) (ending-blank (setup_of i) lost es x h))

pub losses-alike : (i j : Input) → IsAlike i j → losses i ≡ losses j
losses-alike i j e = λ k l n. losses (record { net = e.net k; snapshot = i.snapshot; loss = e.loss k; flows = i.flows; raws = i.raws; script = i.script }) l n

pub reads-alike : (i j : Input) → IsAlike i j → (lost : Losses) (es : List Entry) (begin gap : ℕ) → reads (setup_of i) lost es begin gap ≡ reads (setup_of j) lost es begin gap
reads-alike i j e lost es begin gap = told-alike (λ s. reads s lost es begin gap) (λ s. reads-blank s lost es begin gap) i j e

pub broken-alike : (i j : Input) → IsAlike i j → (lost : Losses) (es : List Entry) (begin gap : ℕ) → broken_by (setup_of i) lost es begin gap ≡ broken_by (setup_of j) lost es begin gap
broken-alike i j e lost es begin gap = told-alike (λ s. broken_by s lost es begin gap) (λ s. broken-blank s lost es begin gap) i j e

-- The book of a run, with the losses of its input.

script-alike : (i j : Input) → IsAlike i j → (lost : Losses) → kept (setup_of i) lost (expand i.net i.script) ≡ kept (setup_of j) lost (expand j.net j.script)
script-alike i j e lost = kept-alike i j e lost (expand i.net i.script) ∙ (λ k. kept (setup_of j) lost (expand (e.net k) (e.script k)))

pub book-alike : (i j : Input) → IsAlike i j → (book : List BookEntry) (front : ℕ) → IsBookOfRun i (losses i) book front → IsBookOfRun j (losses j) book front
book-alike i j e book front f = subst (λ lost. IsBookOfRun j lost book front) (losses-alike i j e) (record {
  count = f.count ∙ ap length (script-alike i j e (losses i));
  script = f.script ∙ script-alike i j e (losses i);
  finishing = record { fuel = f.finishing.fuel; finished = sym (finish-alike i j e f.finishing.fuel (losses i) (take front (schedule_of book))) ∙ f.finishing.finished };
  legal = legal-alike i j e (losses i) (schedule_of book) f.legal;
  numbers = f.numbers;
})
