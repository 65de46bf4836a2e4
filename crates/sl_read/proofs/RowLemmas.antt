-- Lists that are read from the front: rows, elements that are looked up, entries of a script, texts.
use Rattle.std.proofs.Common.{◌≡◌, ℕ, ◌+◌, ◌<◌, List, [], ◌∷◌, ◌++◌, length, get_or, drop, Result, Ok, Err, refl, ap, sym, append_assoc, append-nil, ◌≤◌, ◌∙◌, add-one, drop-cons, suc}
use Rattle.std.specs.Result.{IsErr, IsErrAnd}
use Rattle.toml.specs.Data.{Members}
use Rattle.toml.specs.View.{view, items_view}
use Rattle.toml.specs.declared.value.Value.{Value}
use Rattle.toml.proofs.Views.{items_view-drop}
use Rattle.sl_form.specs.declared.path.TableName.{TableName}
use Rattle.sl_form.specs.declared.path.Key.{Key}
use Rattle.sl_form.specs.declared.refusal.Refusal.{Refusal}
use Rattle.sl_form.specs.declared.refusal.ReadError.{ReadError}
use Rattle.sl_form.specs.declared.refusal.ReadError.TheVariants.{Memory, Refused}
use Rattle.sl_form.specs.Paths.{element}
use Rattle.sl_form.specs.Refusals.{◌>>=◌, Fails, Answers}
use Rattle.sl_read.specs.Rows.{rows, row, all_tables, table_at}
use Rattle.std.proofs.lemmas.List.{drop_all}
use Rattle.sl_read.specs.Places.{each}
use Rattle.sl_layout.specs.Net.{Net}
use Rattle.sl_net.specs.declared.input.Script1.{Script1}
use Rattle.sl_read.specs.Choices.{fitting, passes, entries_of}
use Rattle.sl_form.specs.declared.path.TableName.TheVariants.{Script}
use Rattle.sl_form.specs.declared.path.Key.TheVariants.{Entries}
use Rattle.sl_form.specs.Fields.{text_at}
use Rattle.sl_read.specs.Tables.{texts_of, count_items}

-- the error of a part is that of the whole
pub refused_part : {A B : Type 0} (r : Result B ReadError) (e : ReadError) (part : Result A Refusal) (whole : Result B Refusal)
    → IsErr r × IsErrAnd r (λ x. x ≡ e) → ((x : Refusal) → part ≡ Err x → whole ≡ Err x) → Fails e part → Answers r whole
refused_part (Ok x) e part whole h f p = let k = h.0 in absurd (cc)
refused_part (Err _) Memory part whole h f p = rw h.1 tt
refused_part (Err _) (Refused x) part whole h f p = rw h.1 (f x p)

pub same_err : {A B : Type 0} (r : Result A B) (e : B) → IsErr r × IsErrAnd r (λ x. x ≡ e) → r ≡ Err e
same_err (Ok x) e h = let k = h.0 in absurd (cc)
same_err (Err _) e h = ap Err h.1

-- what was read, after what was found before
abbrev pub with_front : {A : Type 0} → List A → Result (List A) Refusal → Result (List A) Refusal
with_front front (Ok rest) = Ok (front ++ rest)
with_front front (Err e) = Err e

pub with_front_none : {A : Type 0} (r : Result (List A) Refusal) → with_front [] r ≡ r
with_front_none (Ok rest) = refl
with_front_none (Err e) = refl

pub with_front_all : {A : Type 0} (front : List A) → with_front front (Ok []) ≡ Ok front
with_front_all front = simp append-nil

pub with_front_more : {A : Type 0} (front : List A) (x : A) (r : Result (List A) Refusal) → with_front front (r >>= (λ rest. Ok (x ∷ rest))) ≡ with_front (front ++ x ∷ []) r
with_front_more front x (Ok rest) = ap Ok (sym (append_assoc front (x ∷ []) rest))
with_front_more front x (Err e) = refl

module _ {A : Type 0} (t : TableName) (k : Key) (read : ℕ → Members → Result A Refusal) where
  -- one more row is read
  pub rows_more : (vs : List Value) (i : ℕ) (d : Value) (front : List A) (x : A) → i < length vs → row t k read i (view (get_or vs i d)) ≡ Ok x
      → with_front front (rows t k read i (items_view (drop i vs))) ≡ with_front (front ++ x ∷ []) (rows t k read (i + 1) (items_view (drop (i + 1) vs)))
  rows_more vs i d front x h e = rw (items_view-drop vs i d h, e) (with_front_more front x _)

  -- a row is refused
  pub rows_refused : (vs : List Value) (i : ℕ) (d : Value) (front : List A) (x : Refusal) → i < length vs → row t k read i (view (get_or vs i d)) ≡ Err x
      → with_front front (rows t k read i (items_view (drop i vs))) ≡ Err x
  rows_refused vs i d front x h e = rw (items_view-drop vs i d h, e) refl

pub tables_more : (t : TableName) (k : Key) (vs : List Value) (i : ℕ) (d : Value) (ms : Members) → i < length vs → table_at (element t k i) (view (get_or vs i d)) ≡ Ok ms
    → all_tables t k i (items_view (drop i vs)) ≡ all_tables t k (i + 1) (items_view (drop (i + 1) vs))
tables_more t k vs i d ms h e = rw (items_view-drop vs i d h, e) refl

pub tables_refused : (t : TableName) (k : Key) (vs : List Value) (i : ℕ) (d : Value) (x : Refusal) → i < length vs → table_at (element t k i) (view (get_or vs i d)) ≡ Err x
    → all_tables t k i (items_view (drop i vs)) ≡ Err x
tables_refused t k vs i d x h e = rw (items_view-drop vs i d h, e) refl

-- Elements that are looked up from the front.

module _ {A B : Type 0} (f : ℕ → A → Result B Refusal) where
  unrolled : (xs : List A) (i : ℕ) (d : A) → i < length xs → each f i (drop i xs) ≡ each f i (get_or xs i d ∷ drop (i + 1) xs)
  unrolled xs i d h = ap (each f i) (drop-cons xs i d h ∙ ap (λ k. get_or xs i d ∷ drop k xs) (sym (add-one i)))

  pub each_more : (xs : List A) (i : ℕ) (d : A) (front : List B) (y : B) → i < length xs → f i (get_or xs i d) ≡ Ok y
      → with_front front (each f i (drop i xs)) ≡ with_front (front ++ y ∷ []) (each f (i + 1) (drop (i + 1) xs))
  each_more xs i d front y h e = rw (unrolled xs i d h, e) (with_front_more front y _)

  pub each_refused : (xs : List A) (i : ℕ) (d : A) (front : List B) (x : Refusal) → i < length xs → f i (get_or xs i d) ≡ Err x
      → with_front front (each f i (drop i xs)) ≡ Err x
  each_refused xs i d front x h e = rw (unrolled xs i d h, e) refl

  -- a loop over the elements: one step, where an element is refused, and the end
  pub each_step : (xs : List A) (i : ℕ) (d : A) (front more : List B) (y : B) (whole : Result (List B) Refusal) → i < length xs → d ≡ get_or xs i d → f i d ≡ Ok y
      → more ≡ front ++ y ∷ [] → with_front front (each f i (drop i xs)) ≡ whole → with_front more (each f (i + 1) (drop (i + 1) xs)) ≡ whole
  each_step xs i d front more y whole h is e m w = rw m (sym (each_more xs i d front y h (ap (f i) (sym is) ∙ e)) ∙ w)

  pub each_stops : (xs : List A) (i : ℕ) (d : A) (front : List B) (e : ReadError) (whole : Result (List B) Refusal) (r : Result (List B) ReadError) → IsErr r × IsErrAnd r (λ x. x ≡ e)
      → i < length xs → d ≡ get_or xs i d → Fails e (f i d) → with_front front (each f i (drop i xs)) ≡ whole → Answers r whole
  each_stops xs i d front e whole r he h is p w = refused_part r e (f i d) whole he (λ x q. sym w ∙ each_refused xs i d front x h (ap (f i) (sym is) ∙ q)) p

  pub each_end : (xs : List A) (i : ℕ) (front : List B) (whole : Result (List B) Refusal) → length xs ≤ i → with_front front (each f i (drop i xs)) ≡ whole → whole ≡ Ok front
  each_end xs i front whole h w = sym w ∙ ap (λ ys. with_front front (each f i ys)) (drop_all i xs h) ∙ with_front_all front

-- Entries of a script that are read from the front.

module _ (net : Net) where
  entries_unrolled : (xs : List (List ℕ)) (i used : ℕ) (d : List ℕ) → i < length xs → entries_of net i used (drop i xs) ≡ entries_of net i used (get_or xs i d ∷ drop (i + 1) xs)
  entries_unrolled xs i used d h = ap (entries_of net i used) (drop-cons xs i d h ∙ ap (λ k. get_or xs i d ∷ drop k xs) (sym (add-one i)))

  pub entries_more : (xs : List (List ℕ)) (i used : ℕ) (d : List ℕ) (front : List Script1) (e : Script1) → i < length xs → fitting net i used (get_or xs i d) ≡ Ok e
      → with_front front (entries_of net i used (drop i xs)) ≡ with_front (front ++ e ∷ []) (entries_of net (i + 1) (used + passes e) (drop (i + 1) xs))
  entries_more xs i used d front y h e = rw (entries_unrolled xs i used d h, e) (with_front_more front y _)

  pub entries_refused : (xs : List (List ℕ)) (i used : ℕ) (d : List ℕ) (front : List Script1) (x : Refusal) → i < length xs → fitting net i used (get_or xs i d) ≡ Err x
      → with_front front (entries_of net i used (drop i xs)) ≡ Err x
  entries_refused xs i used d front x h e = rw (entries_unrolled xs i used d h, e) refl

-- Texts of a list that are read from the front, and how many elements a list has.

pub texts_more : (vs : List Value) (i : ℕ) (d : Value) (front : List (List ℕ)) (x : List ℕ) → i < length vs → text_at (element Script Entries i) (view (get_or vs i d)) ≡ Ok x
    → with_front front (texts_of i (items_view (drop i vs))) ≡ with_front (front ++ x ∷ []) (texts_of (i + 1) (items_view (drop (i + 1) vs)))
texts_more vs i d front x h e = rw (items_view-drop vs i d h, e) (with_front_more front x _)

pub texts_refused : (vs : List Value) (i : ℕ) (d : Value) (front : List (List ℕ)) (x : Refusal) → i < length vs → text_at (element Script Entries i) (view (get_or vs i d)) ≡ Err x
    → with_front front (texts_of i (items_view (drop i vs))) ≡ Err x
texts_refused vs i d front x h e = rw (items_view-drop vs i d h, e) refl

pub count_view : (vs : List Value) → count_items (items_view vs) ≡ length vs
count_view [] = refl
count_view (v ∷ vs) = ap suc (count_view vs)
