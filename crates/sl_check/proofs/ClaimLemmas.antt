-- The trace of a schedule as lines, and claims.
use Rattle.std.proofs.Common.{◌≡◌, ℕ, ◌+◌, List, [], ◌∷◌, ◌++◌, map, length, take, length-append, refl, sym, ap, subst, ◌∙◌, append_assoc}
use Rattle.std.specs.Prelude.{codes, decimal, flat_map}
use Rattle.std.proofs.lemmas.List.{length-map}
use Rattle.std.proofs.Math.Seq.{take-append_seam}
use Rattle.sl_layout.specs.Net.{Net}
use Rattle.sl_net.specs.Spelling.{choice_text}
use Rattle.sl_net.specs.Spelled.{HasOneSpelling}
use Rattle.sl_model.specs.World.{Entry}
use Rattle.sl_report.specs.TraceText.{count_line, entry_line}
use Rattle.sl_check.specs.Lines.{IsLine, PartsAt}
use Rattle.sl_check.specs.Spellings.{SpellsLines, script_text, IsScript}
use Rattle.sl_check.specs.Claim.{unnumbered, schedule_text, IsTrace, IsClaim}
use Rattle.sl_check.proofs.LineLemmas.{line_is_first, line_has_none, one_part}
use Rattle.sl_check.proofs.ScriptLemmas.{same_length, one_script}
use Rattle.sl_check.proofs.Printable.{line-append, decimal-line, line_of_test}

abbrev pub count_words : ℕ → List ℕ
count_words n = codes "trace " ++ decimal n

words-line : (n : ℕ) → IsLine (count_words n)
words-line n = line-append (codes "trace ") (decimal n) (line_of_test (codes "trace ") refl) (decimal-line n)

turns-lines : (net : Net) (es : List Entry) → flat_map (entry_line net) (map unnumbered es) ≡ script_text net es
unfolding entry_line
turns-lines net [] = refl
turns-lines net (e ∷ es) = ap (λ (r : List ℕ). (choice_text net e.0 e.1 ++ codes "\n") ++ r) (turns-lines net es)

-- the first line, and the others
pub trace_is : (net : Net) (es : List Entry) → schedule_text net es ≡ count_words (length es) ++ (codes "\n" ++ script_text net es)
unfolding count_line
trace_is net es = ap (λ n. (codes "trace " ++ (decimal n ++ codes "\n")) ++ flat_map (entry_line net) (map unnumbered es)) (length-map es unnumbered)
    ∙ ap (λ (r : List ℕ). (codes "trace " ++ (decimal (length es) ++ codes "\n")) ++ r) (turns-lines net es) ∙ simp append_assoc

pub trace_read : (net : Net) (text count script : List ℕ) (es : List Entry) → text ≡ count ++ (codes "\n" ++ script) → IsScript net script es → count_words (length es) ≡ count → IsTrace net text es
trace_read net text count script es s r e = record {
  choices = r.choices;
  text_is = s ∙ ap (λ (c : List ℕ). c ++ (codes "\n" ++ script)) (sym e) ∙ ap (λ (t : List ℕ). count_words (length es) ++ (codes "\n" ++ t)) r.text_is ∙ sym (trace_is net es);
}

-- a text with no newline is no trace
pub no_trace : (net : Net) (text : List ℕ) (es : List Entry) → IsLine text → IsTrace net text es → ⊥
no_trace net text es k t = line_has_none text (count_words (length es)) (script_text net es) k (t.text_is ∙ trace_is net es)

-- where a text is a trace, its first line counts the turns, and the others spell them
pub parted : (net : Net) (text count script : List ℕ) (es : List Entry) → IsLine count → text ≡ count ++ (codes "\n" ++ script) → IsTrace net text es
    → (count ≡ count_words (length es)) × IsScript net script es
parted net text count script es k s t =
    let e = line_is_first count (count_words (length es)) script (script_text net es) k (words-line (length es)) (sym s ∙ t.text_is ∙ trace_is net es) in
    (e.0, record { choices = t.choices; text_is = e.1 })

-- no trace where the count is not that of the script
pub other_count : (net : Net) (text count script : List ℕ) (es fs : List Entry) → SpellsLines net → IsLine count → text ≡ count ++ (codes "\n" ++ script) → IsScript net script es
    → (count_words (length es) ≡ count → ⊥) → IsTrace net text fs → ⊥
other_count net text count script es fs k l s r n t = let p = parted net text count script fs l s t in
    n (ap count_words (same_length net script es fs k r p.1) ∙ sym p.0)

pub claim_read : (net : Net) (text front back : List ℕ) (es : List Entry) → PartsAt (codes "end") text front back → IsTrace net back es → IsClaim net text (take (length front + 4) text) es
claim_read net text front back es p t = record {
  front = front;
  back = back;
  parts = p;
  report_is =
      let e : text ≡ (front ++ codes "end\n") ++ back = p.whole ∙ sym (append_assoc front (codes "end\n") back) in
      let n : length (front ++ codes "end\n") ≡ length front + 4 = length-append front (codes "end\n") in
      ap (λ n. take n text) (sym n) ∙ ap (take (length (front ++ codes "end\n"))) e ∙ take-append_seam (front ++ codes "end\n") back;
  trace = t;
}

end-line : IsLine (codes "end")
end-line = line_of_test (codes "end") refl

pub no_claim : (net : Net) (text front back report : List ℕ) (es : List Entry) → PartsAt (codes "end") text front back → ((fs : List Entry) → IsTrace net back fs → ⊥) → IsClaim net text report es → ⊥
no_claim net text front back report es p n c = let e = one_part (codes "end") text front c.front back c.back end-line p c.parts in
    n es (subst (λ (b : List ℕ). IsTrace net b es) (sym e.1) c.trace)

-- a text is one claim at most
pub one_claim : (net : Net) (text : List ℕ) (r q : List ℕ) (es fs : List Entry) → HasOneSpelling net → SpellsLines net → IsClaim net text r es → IsClaim net text q fs → (r ≡ q) × (es ≡ fs)
one_claim net text r q es fs one k c d =
    let e = one_part (codes "end") text c.front d.front c.back d.back end-line c.parts d.parts in
    let m = line_is_first (count_words (length es)) (count_words (length fs)) (script_text net es) (script_text net fs) (words-line (length es)) (words-line (length fs))
    (sym (trace_is net es) ∙ sym c.trace.text_is ∙ e.1 ∙ d.trace.text_is ∙ trace_is net fs) in (
      c.report_is ∙ ap (λ (f : List ℕ). f ++ codes "end\n") e.0 ∙ sym d.report_is,
      one_script net (script_text net es) es fs one k (record { choices = c.trace.choices; text_is = refl }) (record { choices = d.trace.choices; text_is = m.1 }),
    )
