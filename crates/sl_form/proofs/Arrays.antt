-- Each array of a document holds at most as many texts as the text of the document has bytes.
use Rattle.std.proofs.Common.{◌≡◌, ℕ, zero, suc, ◌+◌, ◌≤◌, Bool, true, false, List, [], ◌∷◌, ◌++◌, length, drop, take, Option, Some, None, Ordering, Less, Equal, Greater, arith}
use Rattle.std.specs.Prelude.{IfSome, if◌then◌else◌, option_map, option_and_then, ◌==◌, ◌&&◌, slice_index}
use Rattle.std.specs.Ordering.{nat_cmp, match_ordering}
use Rattle.std.specs.Cmp.Lexicographic.{slice_cmp}
use Rattle.toml_parser.specs.declared.scalar.Scalar.{Scalar}
use Rattle.toml_parser.specs.declared.scalar.Scalar.TheVariants.{Boolean, Integer, Float, Datetime}
use Rattle.toml_parser.specs.Lexical.{Read, first, skip_ws, skip_blank}
use Rattle.toml_parser.specs.Strings.{Key, quoted, starts_string}
use Rattle.toml_parser.specs.Numbers.{unquoted, word_len, word_value}
use Rattle.toml.specs.Data.{Data, string, integer, float, boolean, datetime, array, table, Items, no_items, item, Members, no_members, member, push_item, get_member, same_key}
use Rattle.toml.specs.Tables.{implicit, dotted, header, Node, value, open_table, open_array, Nodes, no_nodes, node, get_node, insert, replace, close_node, close, Edit, header_node, dot_node, by_header, by_dot, along_header, along_dots, Definition, key_value, std_table, array_table, Expression, new_node, redefine, at_found, at_key, put, Document, define_as, define}
use Rattle.toml.specs.Parse.{read_map, after_byte, after_element, key_equals, keyval, items, members, scalar_data, atom, val, header_key, expression, ends_line, line, lines, skip_bom, parse_document}
use Rattle.sl_form.proofs.Shorter.{IsShort, Leaves, some-then, some-map, some-if, some-any, drop-short, blank-short, quoted-leaves, byte-short, element-short, equals-leaves, header-leaves}

-- the texts among items
abbrev pub text_weight : Data → ℕ
text_weight (string s) = 1
text_weight _ = 0

abbrev pub text_count : Items → ℕ
text_count no_items = 0
text_count (item d ds) = text_weight d + text_count ds

-- each array holds at most n texts
abbrev mutual
  pub FewTexts : ℕ → Data → Type 0
  FewTexts n (array ds) = (text_count ds ≤ n) × FewInItems n ds
  FewTexts n (table ms) = FewInMembers n ms
  FewTexts n _ = Unit {0}

  pub FewInItems : ℕ → Items → Type 0
  FewInItems n no_items = Unit {0}
  FewInItems n (item d ds) = FewTexts n d × FewInItems n ds

  pub FewInMembers : ℕ → Members → Type 0
  FewInMembers n no_members = Unit {0}
  FewInMembers n (member k d ms) = FewTexts n d × FewInMembers n ms

-- An array of tables has no texts.
abbrev mutual
  FewInNode : ℕ → Node → Type 0
  FewInNode n (value d) = FewTexts n d
  FewInNode n (open_table origin ns) = FewInNodes n ns
  FewInNode n (open_array done last) = (text_count done ≤ 0) × FewInItems n done × FewInNodes n last

  FewInNodes : ℕ → Nodes → Type 0
  FewInNodes n no_nodes = Unit {0}
  FewInNodes n (node k x ns) = FewInNode n x × FewInNodes n ns

weight-one : (d : Data) → text_weight d ≤ 1
weight-one (string s) = omega arith
weight-one (integer z) = omega arith
weight-one (float x) = omega arith
weight-one (boolean b) = omega arith
weight-one (datetime t) = omega arith
weight-one (array ds) = omega arith
weight-one (table ms) = omega arith

push-count : (ds : Items) (e : Data) → text_count (push_item ds e) ≡ text_count ds + text_weight e
push-count no_items e = omega arith
push-count (item d ds) e = omega (arith, push-count ds e)

push-few : (n : ℕ) (ds : Items) (e : Data) → FewInItems n ds → FewTexts n e → FewInItems n (push_item ds e)
push-few n no_items e h k = (k, tt)
push-few n (item d ds) e h k = (h.0, push-few n ds e h.1 k)

mutual
  node-closed : (n : ℕ) (x : Node) → FewInNode n x → FewTexts n (close_node x)
  node-closed n (value d) h = h
  node-closed n (open_table origin ns) h = closed n ns h
  node-closed n (open_array done last) h = (omega (arith, push-count done (table (close last)), h.0), push-few n done (table (close last)) h.1 (closed n last h.2))

  closed : (n : ℕ) (ns : Nodes) → FewInNodes n ns → FewInMembers n (close ns)
  closed n no_nodes h = tt
  closed n (node k x ns) h = (node-closed n x h.0, closed n ns h.1)

-- Tables that change.

get-few : (n : ℕ) (k : List ℕ) (ns : Nodes) → FewInNodes n ns → IfSome (get_node k ns) (FewInNode n)
get-few n k no_nodes h = tt
get-few n k (node l x ns) h = some-if (FewInNode n) (same_key k l) (Some x) (get_node k ns) h.0 (get-few n k ns h.1)

insert-few : (n : ℕ) (k : List ℕ) (x : Node) (ns : Nodes) → FewInNode n x → FewInNodes n ns → FewInNodes n (insert k x ns)
insert-few n k x no_nodes h e = (h, tt)
insert-few n k x (node l y ns) h e = by_order (insert-few n k x ns h e.1) (slice_cmp nat_cmp k l)
  where
    by_order : FewInNodes n (insert k x ns) → (o : Ordering) → FewInNodes n (match_ordering o (node k x (node l y ns)) (node l x ns) (node l y (insert k x ns)))
    by_order more Less = (h, e)
    by_order more Equal = (h, e.1)
    by_order more Greater = (e.0, more)

replace-few : (n : ℕ) (k : List ℕ) (x : Node) (ns : Nodes) → FewInNode n x → FewInNodes n ns → FewInNodes n (replace k x ns)
replace-few n k x no_nodes h e = tt
replace-few n k x (node l y ns) h e = by_bool (replace-few n k x ns h e.1) (same_key k l)
  where
    by_bool : FewInNodes n (replace k x ns) → (b : Bool) → FewInNodes n (if b then node l x ns else node l y (replace k x ns))
    by_bool more true = (h, e.1)
    by_bool more false = (e.0, more)

abbrev Keeps : ℕ → Edit → Type 0
Keeps n edit = (ns : Nodes) → FewInNodes n ns → IfSome (edit ns) (FewInNodes n)

header-keeps : (n : ℕ) (edit : Edit) → Keeps n edit → (x : Node) → FewInNode n x → IfSome (header_node edit x) (FewInNode n)
header-keeps n edit k (value d) h = tt
header-keeps n edit k (open_table origin inner) h = some-map (FewInNodes n) (FewInNode n) (open_table origin) (edit inner) (k inner h) (λ ns e. e)
header-keeps n edit k (open_array done last) h = some-map (FewInNodes n) (FewInNode n) (open_array done) (edit last) (k last h.2) (λ ns e. (h.0, h.1, e))

dot-keeps : (n : ℕ) (edit : Edit) → Keeps n edit → (x : Node) → FewInNode n x → IfSome (dot_node edit x) (FewInNode n)
dot-keeps n edit k (value d) h = tt
dot-keeps n edit k (open_table header inner) h = tt
dot-keeps n edit k (open_table implicit inner) h = some-map (FewInNodes n) (FewInNode n) (open_table dotted) (edit inner) (k inner h) (λ ns e. e)
dot-keeps n edit k (open_table dotted inner) h = some-map (FewInNodes n) (FewInNode n) (open_table dotted) (edit inner) (k inner h) (λ ns e. e)
dot-keeps n edit k (open_array done last) h = tt

by-header-keeps : (n : ℕ) (key : List ℕ) (edit : Edit) (ns : Nodes) (o : Option Node) → Keeps n edit → FewInNodes n ns → IfSome o (FewInNode n) → IfSome (by_header key edit ns o) (FewInNodes n)
by-header-keeps n key edit ns None k h f = some-map (FewInNodes n) (FewInNodes n) (λ new. insert key (open_table implicit new) ns) (edit no_nodes) (k no_nodes tt) (λ new e. insert-few n key (open_table implicit new) ns e h)
by-header-keeps n key edit ns (Some x) k h f = some-map (FewInNode n) (FewInNodes n) (λ new. replace key new ns) (header_node edit x) (header-keeps n edit k x f) (λ new e. replace-few n key new ns e h)

by-dot-keeps : (n : ℕ) (key : List ℕ) (edit : Edit) (ns : Nodes) (o : Option Node) → Keeps n edit → FewInNodes n ns → IfSome o (FewInNode n) → IfSome (by_dot key edit ns o) (FewInNodes n)
by-dot-keeps n key edit ns None k h f = some-map (FewInNodes n) (FewInNodes n) (λ new. insert key (open_table dotted new) ns) (edit no_nodes) (k no_nodes tt) (λ new e. insert-few n key (open_table dotted new) ns e h)
by-dot-keeps n key edit ns (Some x) k h f = some-map (FewInNode n) (FewInNodes n) (λ new. replace key new ns) (dot_node edit x) (dot-keeps n edit k x f) (λ new e. replace-few n key new ns e h)

along-header-keeps : (n : ℕ) (path : List (List ℕ)) (edit : Edit) → Keeps n edit → Keeps n (along_header path edit)
unfolding along_header
along-header-keeps n [] edit k ns h = k ns h
along-header-keeps n (key ∷ path) edit k ns h = by-header-keeps n key (along_header path edit) ns (get_node key ns) (along-header-keeps n path edit k) h (get-few n key ns h)

along-dots-keeps : (n : ℕ) (path : List (List ℕ)) (edit : Edit) → Keeps n edit → Keeps n (along_dots path edit)
unfolding along_dots
along-dots-keeps n [] edit k ns h = k ns h
along-dots-keeps n (key ∷ path) edit k ns h = by-dot-keeps n key (along_dots path edit) ns (get_node key ns) (along-dots-keeps n path edit k) h (get-few n key ns h)

-- What is defined.

abbrev FewDefined : ℕ → Definition → Type 0
FewDefined n (key_value d) = FewTexts n d
FewDefined n _ = Unit {0}

new-few : (n : ℕ) (what : Definition) → FewDefined n what → FewInNode n (new_node what)
new-few n (key_value d) h = h
new-few n std_table h = tt
new-few n array_table h = (omega arith, tt, tt)

redefine-few : (n : ℕ) (what : Definition) (x : Node) → FewInNode n x → IfSome (redefine what x) (FewInNode n)
redefine-few n (key_value d) x h = tt
redefine-few n std_table (value d) h = tt
redefine-few n std_table (open_table implicit inner) h = h
redefine-few n std_table (open_table dotted inner) h = tt
redefine-few n std_table (open_table header inner) h = tt
redefine-few n std_table (open_array done last) h = tt
redefine-few n array_table (value d) h = tt
redefine-few n array_table (open_table origin inner) h = tt
redefine-few n array_table (open_array done last) h = (omega (arith, push-count done (table (close last)), h.0), push-few n done (table (close last)) h.1 (closed n last h.2), tt)

at-found-keeps : (n : ℕ) (key : List ℕ) (what : Definition) (ns : Nodes) (o : Option Node) → FewDefined n what → FewInNodes n ns → IfSome o (FewInNode n) → IfSome (at_found key what ns o) (FewInNodes n)
at-found-keeps n key what ns None k h f = insert-few n key (new_node what) ns (new-few n what k) h
at-found-keeps n key what ns (Some x) k h f = some-map (FewInNode n) (FewInNodes n) (λ y. replace key y ns) (redefine what x) (redefine-few n what x f) (λ y e. replace-few n key y ns e h)

at-key-keeps : (n : ℕ) (key : List ℕ) (what : Definition) → FewDefined n what → Keeps n (at_key key what)
unfolding at_key
at-key-keeps n key what k ns h = at-found-keeps n key what ns (get_node key ns) k h (get-few n key ns h)

put-keeps : (n : ℕ) (key : Key) (d : Data) → FewTexts n d → Keeps n (put key d)
put-keeps n key d k = along-dots-keeps n key.0 (at_key key.1 (key_value d)) (at-key-keeps n key.1 (key_value d) k)

abbrev FewInDocument : ℕ → Document → Type 0
FewInDocument n doc = FewInNodes n doc.0

define-keeps : (n : ℕ) (doc : Document) (e : Expression) → FewInDocument n doc → FewDefined n e.1 → IfSome (define doc e) (FewInDocument n)
unfolding define
define-keeps n doc e h k = by_definition e.1 k
  where
    by_header_at : (what : Definition) → FewDefined n what → IfSome (along_header e.0.0 (at_key e.0.1 what) doc.0) (FewInNodes n)
    by_header_at what k = along-header-keeps n e.0.0 (at_key e.0.1 what) (at-key-keeps n e.0.1 what k) doc.0 h

    by_definition : (what : Definition) → FewDefined n what → IfSome (define_as doc e.0 what) (FewInDocument n)
    by_definition (key_value d) k = some-map (FewInNodes n) (FewInDocument n) (λ root. (root, doc.1)) (along_header doc.1 (put e.0 d) doc.0) (along-header-keeps n doc.1 (put e.0 d) (put-keeps n e.0 d k) doc.0 h) (λ root f. f)
    by_definition std_table k = some-map (FewInNodes n) (FewInDocument n) (λ root. (root, e.0.0 ++ e.0.1 ∷ [])) (along_header e.0.0 (at_key e.0.1 std_table) doc.0) (by_header_at std_table tt) (λ root f. f)
    by_definition array_table k = some-map (FewInNodes n) (FewInDocument n) (λ root. (root, e.0.0 ++ e.0.1 ∷ [])) (along_header e.0.0 (at_key e.0.1 array_table) doc.0) (by_header_at array_table tt) (λ root f. f)

-- Values that are read.

abbrev ReadsFew : ℕ → Data × List ℕ → Type 0
ReadsFew n p = FewTexts n p.0 × IsShort n p.1

abbrev ReadsItems : ℕ → Items × List ℕ → Type 0
ReadsItems n p = FewTexts n (array p.0) × IsShort n p.1

abbrev ReadsMembers : ℕ → Members × List ℕ → Type 0
ReadsMembers n p = FewInMembers n p.0 × IsShort n p.1

abbrev ReadsPair : ℕ → (Key × Data) × List ℕ → Type 0
ReadsPair n p = FewTexts n p.0.1 × IsShort n p.1

abbrev IsReader : ℕ → (List ℕ → Read Data) → Type 0
IsReader n read = (text : List ℕ) → IsShort n text → IfSome (read text) (ReadsFew n)

keyval-few : (n : ℕ) (read : List ℕ → Read Data) → IsReader n read → (text : List ℕ) → IsShort n text → IfSome (keyval read text) (ReadsPair n)
keyval-few n read r text h = some-then (Leaves n) (ReadsPair n) (λ k. read_map (λ d. (k.0, d)) (read k.1)) (key_equals text) (equals-leaves n text h)
    (λ k short. some-map (ReadsFew n) (ReadsPair n) (λ p. ((k.0, p.0), p.1)) (read k.1) (r k.1 short) (λ p f. f))

items-few : (n : ℕ) (read : List ℕ → Read Data) → IsReader n read → (m : ℕ) (found : Items) (text : List ℕ) → IsShort n text → text_count found + m ≤ n → FewInItems n found → IfSome (items read m found text) (ReadsItems n)
unfolding items
items-few n read r zero found text h c f = tt
items-few n read r (suc m) found text h c f =
    let start = skip_blank text in
    let short = blank-short n text h in
    some-if (ReadsItems n) (first start == 93) (Some (found, drop 1 start)) (option_and_then (λ v. option_and_then (items read m (push_item found v.0)) (after_element 93 v.1)) (read start))
    ((omega (arith, c), f), drop-short 1 n start short)
    (some-then (ReadsFew n) (ReadsItems n) (λ v. option_and_then (items read m (push_item found v.0)) (after_element 93 v.1)) (read start) (r start short)
    (λ v e. some-then (IsShort n) (ReadsItems n) (items read m (push_item found v.0)) (after_element 93 v.1) (element-short 93 n v.1 e.1)
    (λ rest s. items-few n read r m (push_item found v.0) rest s (omega (arith, c, push-count found v.0, weight-one v.0)) (push-few n found v.0 f e.0))))

members-few : (n : ℕ) (read : List ℕ → Read Data) → IsReader n read → (m : ℕ) (found : Nodes) (text : List ℕ) → IsShort n text → FewInNodes n found → IfSome (members read m found text) (ReadsMembers n)
unfolding members
members-few n read r zero found text h f = tt
members-few n read r (suc m) found text h f =
    let start = skip_blank text in
    let short = blank-short n text h in
    let rest_of = λ (e : (Key × Data) × List ℕ) (more : Nodes). option_and_then (members read m more) (after_element 125 e.1) in
    some-if (ReadsMembers n) (first start == 125) (Some (close found, drop 1 start)) (option_and_then (λ e. option_and_then (rest_of e) (put e.0.0 e.0.1 found)) (keyval read start))
    (closed n found f, drop-short 1 n start short)
    (some-then (ReadsPair n) (ReadsMembers n) (λ e. option_and_then (rest_of e) (put e.0.0 e.0.1 found)) (keyval read start) (keyval-few n read r start short)
    (λ e k. some-then (FewInNodes n) (ReadsMembers n) (rest_of e) (put e.0.0 e.0.1 found) (put-keeps n e.0.0 e.0.1 k.0 found f)
    (λ more g. some-then (IsShort n) (ReadsMembers n) (members read m more) (after_element 125 e.1) (element-short 125 n e.1 k.1)
    (λ rest s. members-few n read r m more rest s g))))

scalar-few : (n : ℕ) (s : Scalar) → FewTexts n (scalar_data s)
scalar-few n (Boolean b) = tt
scalar-few n (Integer z) = tt
scalar-few n (Float x) = tt
scalar-few n (Datetime t) = tt

unquoted-leaves : (n : ℕ) (text : List ℕ) → IsShort n text → IfSome (unquoted text) (Leaves n)
unfolding unquoted
unquoted-leaves n text h = some-if (Leaves n) (word_len text == 0) None (option_map (λ d. (d, drop (word_len text) text)) (word_value (take (word_len text) text))) tt
    (some-map (λ _. Unit {0}) (Leaves n) (λ d. (d, drop (word_len text) text)) (word_value (take (word_len text) text)) (some-any (word_value (take (word_len text) text))) (λ d k. drop-short (word_len text) n text h))

atom-few : (n : ℕ) → IsReader n atom
unfolding atom
atom-few n text h = some-if (ReadsFew n) (starts_string text) (read_map string (quoted text)) (read_map scalar_data (unquoted text))
    (some-map (Leaves n) (ReadsFew n) (λ p. (string p.0, p.1)) (quoted text) (quoted-leaves n text h) (λ p k. (tt, k)))
    (some-map (Leaves n) (ReadsFew n) (λ p. (scalar_data p.0, p.1)) (unquoted text) (unquoted-leaves n text h) (λ p k. (scalar-few n p.0, k)))

val-few : (n depth : ℕ) → IsReader n (val depth)
unfolding val
val-few n zero text h = atom-few n text h
val-few n (suc depth) text h =
    let short = drop-short 1 n text h in
    let listed = read_map array (items (val depth) (length text) no_items (drop 1 text)) in
    let tabled = read_map table (members (val depth) (length text) no_nodes (drop 1 text)) in
    some-if (ReadsFew n) (first text == 91) listed (if first text == 123 then tabled else atom text)
    (some-map (ReadsItems n) (ReadsFew n) (λ p. (array p.0, p.1)) (items (val depth) (length text) no_items (drop 1 text)) (items-few n (val depth) (val-few n depth) (length text) no_items (drop 1 text) short (omega (arith, h)) tt) (λ p k. k))
    (some-if (ReadsFew n) (first text == 123) tabled (atom text)
    (some-map (ReadsMembers n) (ReadsFew n) (λ p. (table p.0, p.1)) (members (val depth) (length text) no_nodes (drop 1 text)) (members-few n (val depth) (val-few n depth) (length text) no_nodes (drop 1 text) short tt) (λ p k. k))
    (atom-few n text h))

-- Documents.

abbrev ReadsExpression : ℕ → Expression × List ℕ → Type 0
ReadsExpression n p = FewDefined n p.0.1 × IsShort n p.1

expression-few : (n : ℕ) (text : List ℕ) → IsShort n text → IfSome (expression text) (ReadsExpression n)
unfolding expression
expression-few n text h =
    let double : Key × List ℕ → Read Expression = λ k. option_map (λ rest. ((k.0, array_table), rest)) (after_byte 93 k.1) in
    let single : Read Expression = read_map (λ k. (k, std_table)) (header_key (drop 1 text)) in
    let pair : Read Expression = read_map (λ p. (p.0, key_value p.1)) (keyval (val 80) text) in
    some-if (ReadsExpression n) (first text == 91 && slice_index text 1 == 91) (option_and_then double (header_key (drop 2 text))) (if first text == 91 then single else pair)
    (some-then (Leaves n) (ReadsExpression n) double (header_key (drop 2 text)) (header-leaves n (drop 2 text) (drop-short 2 n text h))
    (λ k s. some-map (IsShort n) (ReadsExpression n) (λ rest. ((k.0, array_table), rest)) (after_byte 93 k.1) (byte-short 93 n k.1 s) (λ rest t. (tt, t))))
    (some-if (ReadsExpression n) (first text == 91) single pair
    (some-map (Leaves n) (ReadsExpression n) (λ p. ((p.0, std_table), p.1)) (header_key (drop 1 text)) (header-leaves n (drop 1 text) (drop-short 1 n text h)) (λ p k. (tt, k)))
    (some-map (ReadsPair n) (ReadsExpression n) (λ p. ((p.0.0, key_value p.0.1), p.1)) (keyval (val 80) text) (keyval-few n (val 80) (val-few n 80) text h) (λ p k. k)))

line-few : (n : ℕ) (text : List ℕ) → IsShort n text → IfSome (line text) (ReadsExpression n)
unfolding line
line-few n text h = some-then (ReadsExpression n) (ReadsExpression n) (λ e. if ends_line (skip_ws e.1) then Some e else None) (expression text) (expression-few n text h)
    (λ e k. some-if (ReadsExpression n) (ends_line (skip_ws e.1)) (Some e) None k tt)

lines-few : (n m : ℕ) (doc : Document) (text : List ℕ) → IsShort n text → FewInDocument n doc → IfSome (lines m doc text) (FewInDocument n)
unfolding lines
lines-few n zero doc text h f = tt
lines-few n (suc m) doc text h f =
    let start = skip_blank text in
    let rest_of = λ (e : Expression × List ℕ) (next : Document). lines m next e.1 in
    some-if (FewInDocument n) (length start == 0) (Some doc) (option_and_then (λ e. option_and_then (rest_of e) (define doc e.0)) (line start)) f
    (some-then (ReadsExpression n) (FewInDocument n) (λ e. option_and_then (rest_of e) (define doc e.0)) (line start) (line-few n start (blank-short n text h))
    (λ e k. some-then (FewInDocument n) (FewInDocument n) (rest_of e) (define doc e.0) (define-keeps n doc e.0 f k.0)
    (λ next g. lines-few n m next e.1 k.1 g)))

bom-short : (n : ℕ) (text : List ℕ) → IsShort n text → IsShort n (skip_bom text)
unfolding skip_bom
bom-short n text h = by_bool ((first text == 0xEF && slice_index text 1 == 0xBB) && slice_index text 2 == 0xBF)
  where
    by_bool : (b : Bool) → IsShort n (if b then drop 3 text else text)
    by_bool true = drop-short 3 n text h
    by_bool false = h

pub document-few : (n : ℕ) (text : List ℕ) → IsShort n text → IfSome (parse_document text) (FewInMembers n)
unfolding parse_document
document-few n text h = some-map (FewInDocument n) (FewInMembers n) (λ doc. close doc.0) (lines (suc (length text)) (no_nodes, []) (skip_bom text))
    (lines-few n (suc (length text)) (no_nodes, []) (skip_bom text) (bom-short n text h) tt) (λ doc f. closed n doc.0 f)

-- what a table has at a key
pub member-few : (n : ℕ) (k : List ℕ) (ms : Members) → FewInMembers n ms → IfSome (get_member k ms) (FewTexts n)
member-few n k no_members h = tt
member-few n k (member l d ms) h = by_order (member-few n k ms h.1) (slice_cmp nat_cmp k l)
  where
    by_order : IfSome (get_member k ms) (FewTexts n) → (o : Ordering) → IfSome (match_ordering o (get_member k ms) (Some d) (get_member k ms)) (FewTexts n)
    by_order more Less = more
    by_order more Equal = h.0
    by_order more Greater = more
