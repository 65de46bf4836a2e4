-- What the tables say is within its ranges, and a script has at most as many entries as the text of its document has bytes.
use Rattle.std.proofs.Common.{◌≡◌, ℕ, ◌+◌, ◌≤◌, List, [], ◌∷◌, length, Option, Some, None, Ok, refl, subst, arith, suc, ◌-◌, ◌<◌, ◌^◌, min, Bool, true, false}
use Rattle.std.specs.Prelude.{IfSome, nat_lt, nat_le, ◌&&◌, ◌*◌, if◌then◌else◌, option_map, option_and_then}
use Rattle.toml.specs.Data.{Data, string, array, table, Items, no_items, item, Members}
use Rattle.sl_form.specs.declared.path.TableName.TheVariants.{Top}
use Rattle.sl_form.specs.declared.path.Key.TheVariants.{Device, Cable, Host, Snapshot as SnapshotKey, Loss, Flow, Raw, Script, Entries, A, B, Bits, Window, Ring, Count, Retries, Credits, Version, Seed, Crossbar, Init, Notice, Drop, Link, N, From, To, Bytes, Hops, Hex}
use Rattle.sl_form.specs.declared.path.Path.{Path}
use Rattle.sl_form.specs.Paths.{at, element, key_text}
use Rattle.sl_form.specs.Refusals.{◌>>=◌}
use Rattle.sl_form.specs.Fields.{only, get_key, required, optional, text_at, given_number, required_text, required_form}
use Rattle.sl_read.specs.Rows.{table_at, items_at, required_tables, optional_tables, required_table, optional_table, rows}
use Rattle.sl_read.specs.Tables.{entries_at, texts_of, script_of, any_script_of, device_of, cable_of, host_of, snapshot_of, drop_of, count_items, few_drops, drops_at, loss_of, any_loss_of, flow_of, raw_of}
use Rattle.sl_read.specs.Sections.{Sections, sections_of}
use Rattle.sl_form.proofs.Arrays.{text_weight, text_count, FewTexts, FewInMembers, member-few, document-few}
use Rattle.sl_read.proofs.Steps.{bind_ok, same_ok, not_held, and_then_some, map_some, same_some, formed_ok, given_ok, number_then, option_then, rows_ok}
use Rattle.std.proofs.lemmas.Bool.{ltb-false, leb-true, and_parts}
use Rattle.sl_parts.specs.Lists.{Each}
use Rattle.sl_net.specs.declared.input.Snapshot.{Snapshot}
use Rattle.sl_read.specs.declared.cable.CableRow.{CableRow}
use Rattle.sl_read.specs.declared.flow.FlowRow.{FlowRow}
use Rattle.sl_read.specs.declared.raw.RawRow.{RawRow}
use Rattle.sl_read.specs.declared.loss.DropRow.{DropRow}
use Rattle.sl_read.specs.declared.loss.LossRow.{LossRow}
use Rattle.sl_read.specs.declared.document.Document.{Document}
use Rattle.sl_read.specs.Accepted.{IsSnapshot, HasVersion, IsDrop, IsLoss}
use Rattle.sl_read.specs.Inputs.{losses, text_of}
use Rattle.std.specs.List.{All}
use Rattle.sl_layout.specs.Net.{Net}
use Rattle.sl_net.specs.declared.input.Drop1.{Drop1}
use Rattle.sl_form.specs.Forms.{name_of, port_of, digit_of, byte_of, pairs_of, hex_of}
use Rattle.sl_read.specs.Documents.{walk_of, document_of}
use Rattle.sl_form.specs.declared.path.TableName.TheVariants as table_name
use Rattle.sl_form.proofs.Shorter.{IsShort, some-if, some-then}
use Rattle.toml.specs.Parse.{parse_document}
use Rattle.std.specs.Str.{is_utf8}

-- The entries are the texts of an array.

text_ok : (p : Path) (d : Data) (text : List ℕ) → text_at p d ≡ Ok text → text_weight d ≡ 1
text_ok p (string s) text h = refl
text_ok p _ text h = absurd (cc)

texts_ok : (i : ℕ) (ds : Items) (texts : List (List ℕ)) → texts_of i ds ≡ Ok texts → length texts ≡ text_count ds
texts_ok i no_items texts h = subst (λ texts. length texts ≡ 0) (same_ok [] texts h) refl
texts_ok i (item d ds) texts h =
    let a = bind_ok (text_at (element table_name.Script Entries i) d) _ texts h in
    let b = bind_ok (texts_of (i + 1) ds) _ texts a.2 in
    let one = text_ok (element table_name.Script Entries i) d a.0 a.1 in
    let rest = texts_ok (i + 1) ds b.0 b.1 in
    subst (λ texts. length texts ≡ text_weight d + text_count ds) (same_ok (a.0 ∷ b.0) texts b.2) (omega (arith, one, rest))

items_ok : (p : Path) (n : ℕ) (d : Data) (ds : Items) → FewTexts n d → items_at p d ≡ Ok ds → text_count ds ≤ n
items_ok p n (array xs) ds f h = subst (λ ds. text_count ds ≤ n) (same_ok xs ds h) f.0
items_ok p n _ ds f h = absurd (cc)

entries_few : (n : ℕ) (ms : Members) (ds : Items) → FewInMembers n ms → entries_at ms ≡ Ok ds → text_count ds ≤ n
entries_few n ms ds f h = by_value (get_key Entries ms) (member-few n (key_text Entries) ms f) h
  where
    by_value : (o : Option Data) → IfSome o (FewTexts n) → required (at table_name.Script Entries) items_at o ≡ Ok ds → text_count ds ≤ n
    by_value None g h = absurd (cc)
    by_value (Some d) g h = items_ok (at table_name.Script Entries) n d ds g h

script_texts_few : (n : ℕ) (ms : Members) (texts : List (List ℕ)) → FewInMembers n ms → script_of ms ≡ Ok texts → length texts ≤ n
script_texts_few n ms texts f h =
    let a = bind_ok (only table_name.Script (Entries ∷ []) ms) _ texts h in
    let entries = bind_ok (entries_at ms) (texts_of 0) texts a.2 in
    omega (arith, entries_few n ms entries.0 f entries.1, texts_ok 0 entries.0 texts entries.2)

pub any_script_few : (n : ℕ) (o : Option Members) (texts : List (List ℕ)) → IfSome o (FewInMembers n) → any_script_of o ≡ Ok texts → length texts ≤ n
any_script_few n None texts f h = subst (λ texts. length texts ≤ n) (same_ok [] texts h) (omega arith)
any_script_few n (Some ms) texts f h = script_texts_few n ms texts f h

-- The table of the script.

table_few : (p : Path) (n : ℕ) (d : Data) (ms : Members) → FewTexts n d → table_at p d ≡ Ok ms → FewInMembers n ms
table_few p n (table xs) ms f h = subst (FewInMembers n) (same_ok xs ms h) f
table_few p n _ ms f h = absurd (cc)

optional_few : (n : ℕ) (ms : Members) (o : Option Members) → FewInMembers n ms → optional_table Top Script ms ≡ Ok o → IfSome o (FewInMembers n)
optional_few n ms o f h = by_value (get_key Script ms) (member-few n (key_text Script) ms f) h
  where
    by_value : (v : Option Data) → IfSome v (FewTexts n) → optional (at Top Script) None (λ p d. table_at p d >>= (λ inner. Ok (Some inner))) v ≡ Ok o → IfSome o (FewInMembers n)
    by_value None g h = subst (λ o. IfSome o (FewInMembers n)) (same_ok None o h) tt
    by_value (Some d) g h =
        let inner = bind_ok (table_at (at Top Script) d) _ o h in
        subst (λ o. IfSome o (FewInMembers n)) (same_ok (Some inner.0) o inner.2) (table_few (at Top Script) n d inner.0 g inner.1)

pub sections_few : (n : ℕ) (ms : Members) (s : Sections) → FewInMembers n ms → sections_of ms ≡ Ok s → IfSome s.script (FewInMembers n)
unfolding sections_of
sections_few n ms s f h =
    let a = bind_ok (only Top (Device ∷ Cable ∷ Host ∷ SnapshotKey ∷ Loss ∷ Flow ∷ Raw ∷ Script ∷ []) ms) _ s h in
    let devices = bind_ok (required_tables Top Device ms) _ s a.2 in
    let cables = bind_ok (optional_tables Top Cable ms) _ s devices.2 in
    let hosts = bind_ok (optional_tables Top Host ms) _ s cables.2 in
    let snapshot = bind_ok (required_table Top SnapshotKey ms) _ s hosts.2 in
    let loss = bind_ok (optional_table Top Loss ms) _ s snapshot.2 in
    let flows = bind_ok (optional_tables Top Flow ms) _ s loss.2 in
    let raws = bind_ok (optional_tables Top Raw ms) _ s flows.2 in
    let script = bind_ok (optional_table Top Script ms) _ s raws.2 in
    subst (λ (s : Sections). IfSome s.script (FewInMembers n)) (same_ok _ s script.2) (optional_few n ms script.0 f script.1)

-- What the tables say is within its ranges.

snapshot_ok : (ms : Members) (s : Snapshot) → snapshot_of ms ≡ Ok s → IsSnapshot s
snapshot_ok ms s h =
    let a = bind_ok (only table_name.Snapshot (Bits ∷ Window ∷ Ring ∷ Count ∷ Retries ∷ Credits ∷ Version ∷ []) ms) _ s h in
    let bits = number_then table_name.Snapshot Bits 1 16 ms _ s a.2 in
    let window = number_then table_name.Snapshot Window 1 (min (2 ^ bits.0 - 1) 1024) ms _ s bits.3 in
    let ring = number_then table_name.Snapshot Ring window.0 (min (2 ^ bits.0) 1024) ms _ s window.3 in
    let count = number_then table_name.Snapshot Count 0 100000 ms _ s ring.3 in
    let retries = option_then table_name.Snapshot Retries 0 100 ms _ s (omega arith) count.3 in
    let credits = option_then table_name.Snapshot Credits 1 4 ms _ s (omega arith) retries.3 in
    let version = option_then table_name.Snapshot Version 1 2 ms _ s (omega arith) credits.3 in
    let few_window : window.0 < 2 ^ bits.0 = omega (arith, window.1, window.2) in
    let most_window : window.0 ≤ 1024 = omega (arith, window.2) in
    let few_ring : ring.0 ≤ 2 ^ bits.0 = omega (arith, ring.2) in
    let most_ring : ring.0 ≤ 1024 = omega (arith, ring.2) in
    subst IsSnapshot (same_ok _ s version.3)
    (record {
      some_bits = bits.1;
      few_bits = bits.2;
      some_window = window.1;
      few_window = few_window;
      most_window = most_window;
      some_ring = ring.1;
      few_ring = few_ring;
      most_ring = most_ring;
      count = count.2;
      retries = retries.2;
      some_credits = credits.1;
      few_credits = credits.2;
      version = (version.1, version.2);
    })

cable_ok : (i : ℕ) (ms : Members) (c : CableRow) → cable_of i ms ≡ Ok c → HasVersion c
cable_ok i ms c h =
    let keys = bind_ok (only (table_name.Cable i) (A ∷ B ∷ Version ∷ []) ms) _ c h in
    let a = bind_ok (required_form port_of (table_name.Cable i) A ms) _ c keys.2 in
    let b = bind_ok (required_form port_of (table_name.Cable i) B ms) _ c a.2 in
    let version = bind_ok (given_number (table_name.Cable i) Version 1 2 ms) _ c b.2 in
    subst HasVersion (same_ok _ c version.2) (given_ok (table_name.Cable i) Version 1 2 ms version.0 version.1)

pub record IsDropRow (d : DropRow) : Type 0 where
  pub some : 1 ≤ d.n
  pub most : d.n ≤ 1000000000

drop_ok : (i : ℕ) (ms : Members) (d : DropRow) → drop_of i ms ≡ Ok d → IsDropRow d
drop_ok i ms d h =
    let a = bind_ok (only (table_name.Drop i) (Link ∷ N ∷ []) ms) _ d h in
    let link = bind_ok (required_text (table_name.Drop i) Link ms) _ d a.2 in
    let n = number_then (table_name.Drop i) N 1 1000000000 ms _ d link.2 in
    subst IsDropRow (same_ok _ d n.3) (record { some = n.1; most = n.2 })

-- with as many drops, all of them of a net, it is a loss of this net
pub record IsLossRow (l : LossRow) : Type 0 where
  pub placed : (net : Net) (drops : List Drop1) → length drops ≡ length l.drops → All (IsDrop net) drops → IsLoss net (losses l drops)
  pub drops : Each IsDropRow l.drops

few_ok : (ds es : Items) → few_drops ds ≡ Ok es → count_items es ≤ 1000
few_ok ds es h =
    let t = not_held (nat_lt 1000 (count_items ds)) _ ds es h in
    subst (λ es. count_items es ≤ 1000) t.1 (ltb-false 1000 (count_items ds) t.0)

loss_ok : (ms : Members) (l : LossRow) → loss_of ms ≡ Ok l → IsLossRow l
loss_ok ms l h =
    let a = bind_ok (only table_name.Loss (Seed ∷ Cable ∷ Crossbar ∷ Init ∷ Notice ∷ Drop ∷ []) ms) _ l h in
    let seed = option_then table_name.Loss Seed 0 9223372036854775807 ms _ l (omega arith) a.2 in
    let cable = option_then table_name.Loss Cable 0 1000 ms _ l (omega arith) seed.3 in
    let crossbar = option_then table_name.Loss Crossbar 0 1000 ms _ l (omega arith) cable.3 in
    let init = option_then table_name.Loss Init 0 1000 ms _ l (omega arith) crossbar.3 in
    let notice = option_then table_name.Loss Notice 0 1000 ms _ l (omega arith) init.3 in
    let tables = bind_ok (drops_at ms) _ l notice.3 in
    let drops = bind_ok (rows table_name.Loss Drop drop_of 0 tables.0) _ l tables.2 in
    let listed = bind_ok (optional_tables table_name.Loss Drop ms) few_drops tables.0 tables.1 in
    let few = few_ok listed.0 tables.0 listed.2 in
    let r = rows_ok table_name.Loss Drop drop_of IsDropRow drop_ok 0 tables.0 drops.0 drops.1 in
    let low : seed.0 < 2 ^ 63 = omega (arith, seed.2) in
    let short : length drops.0 ≤ 1000 = omega (arith, few, r.1) in
    subst IsLossRow (same_ok _ l drops.2) (record {
      placed = λ net placed as_many all. record { seed = low; cable = cable.2; crossbar = crossbar.2; init = init.2; notice = notice.2; few = omega (arith, as_many, short); drops = all };
      drops = r.0;
    })

any_loss_ok : (o : Option Members) (l : LossRow) → any_loss_of o ≡ Ok l → IsLossRow l
any_loss_ok None l h = subst IsLossRow (same_ok (record { seed = 0; cable = 0; crossbar = 0; init = 0; notice = 0; drops = [] }) l h) (record {
  placed = λ net placed as_many all. record { seed = omega arith; cable = omega arith; crossbar = omega arith; init = omega arith; notice = omega arith; few = omega (arith, as_many); drops = all };
  drops = tt;
})
any_loss_ok (Some ms) l h = loss_ok ms l h

pub record IsFlowRow (f : FlowRow) : Type 0 where
  pub count : f.count ≤ 20000
  pub bytes : f.bytes < 2 ^ 16
  pub hops : f.hops < 2 ^ 8

flow_ok : (i : ℕ) (ms : Members) (f : FlowRow) → flow_of i ms ≡ Ok f → IsFlowRow f
flow_ok i ms f h =
    let a = bind_ok (only (table_name.Flow i) (From ∷ To ∷ Count ∷ Bytes ∷ Hops ∷ []) ms) _ f h in
    let from = bind_ok (required_form name_of (table_name.Flow i) From ms) _ f a.2 in
    let to = bind_ok (required_form name_of (table_name.Flow i) To ms) _ f from.2 in
    let count = number_then (table_name.Flow i) Count 0 20000 ms _ f to.2 in
    let bytes = number_then (table_name.Flow i) Bytes 0 65535 ms _ f count.3 in
    let hops = number_then (table_name.Flow i) Hops 0 255 ms _ f bytes.3 in
    let low : bytes.0 < 2 ^ 16 = omega (arith, bytes.2) in
    let few : hops.0 < 2 ^ 8 = omega (arith, hops.2) in
    subst IsFlowRow (same_ok _ f hops.3) (record { count = count.2; bytes = low; hops = few })

pairs_short : (text bytes : List ℕ) → pairs_of text ≡ Some bytes → length bytes + length bytes ≡ length text
pairs_short [] bytes h = let e : [] ≡ bytes = same_some [] bytes h in subst (λ b. length b + length b ≡ 0) e refl
pairs_short (x ∷ []) bytes h = absurd (cc)
pairs_short (x ∷ y ∷ text) bytes h =
    let a = and_then_some (λ byte. option_map (λ bytes. byte ∷ bytes) (pairs_of text)) (byte_of x y) bytes h in
    let b = map_some (λ bytes. a.0 ∷ bytes) (pairs_of text) bytes a.2 in
    let ih = pairs_short text b.0 b.1 in
    subst (λ l. length l + length l ≡ suc (suc (length text))) b.2 (omega (arith, ih))

hex_short : (text bytes : List ℕ) → hex_of text ≡ Some bytes → length bytes ≤ 64
hex_short text bytes h = by_test (nat_lt 128 (length text)) refl h
  where
    by_test : (b : Bool) → nat_lt 128 (length text) ≡ b → (if b then None else pairs_of text) ≡ Some bytes → length bytes ≤ 64
    by_test true q h = absurd (cc)
    by_test false q h = omega (arith, ltb-false 128 (length text) q, pairs_short text bytes h)

digit_low : (c d : ℕ) → digit_of c ≡ Some d → d ≤ 15
digit_low c d h = by_tests (nat_le 48 c && nat_le c 57) (nat_le 97 c && nat_le c 102) refl refl h
  where
    by_tests : (a b : Bool) → (nat_le 48 c && nat_le c 57) ≡ a → (nat_le 97 c && nat_le c 102) ≡ b → (if a then Some (c - 48) else if b then Some (c - 97 + 10) else None) ≡ Some d → d ≤ 15
    by_tests true b p q h = let most : c ≤ 57 = leb-true c 57 (and_parts (nat_le 48 c) (nat_le c 57) p).1 in let is : c - 48 ≡ d = same_some (c - 48) d h in omega (arith, most, is)
    by_tests false true p q h = let most : c ≤ 102 = leb-true c 102 (and_parts (nat_le 97 c) (nat_le c 102) q).1 in let is : c - 97 + 10 ≡ d = same_some (c - 97 + 10) d h in omega (arith, most, is)
    by_tests false false p q h = absurd (cc)

byte_low : (high low b : ℕ) → byte_of high low ≡ Some b → b < 256
byte_low high low b h =
    let x = and_then_some (λ h. option_map (λ l. h * 16 + l) (digit_of low)) (digit_of high) b h in
    let y = map_some (λ l. x.0 * 16 + l) (digit_of low) b x.2 in
    let p = digit_low high x.0 x.1 in
    let q = digit_low low y.0 y.1 in
    omega (arith, p, q, y.2)

pairs_low : (text bytes : List ℕ) → pairs_of text ≡ Some bytes → Each (λ b. b < 256) bytes
pairs_low [] bytes h = subst (Each (λ b. b < 256)) (same_some [] bytes h) tt
pairs_low (high ∷ []) bytes h = absurd (cc)
pairs_low (high ∷ low ∷ rest) bytes h =
    let x = and_then_some (λ byte. option_map (λ bytes. byte ∷ bytes) (pairs_of rest)) (byte_of high low) bytes h in
    let y = map_some (λ bytes. x.0 ∷ bytes) (pairs_of rest) bytes x.2 in
    subst (Each (λ b. b < 256)) y.2 (byte_low high low x.0 x.1, pairs_low rest y.0 y.1)

-- at most 64 bytes, each below 256
pub record IsRawRow (r : RawRow) : Type 0 where
  pub few : length r.bytes ≤ 64
  pub bytes : Each (λ b. b < 256) r.bytes

hex_low : (text bytes : List ℕ) → hex_of text ≡ Some bytes → Each (λ b. b < 256) bytes
hex_low text bytes h = by_test (nat_lt 128 (length text)) h
  where
    by_test : (b : Bool) → (if b then None else pairs_of text) ≡ Some bytes → Each (λ b. b < 256) bytes
    by_test true h = absurd (cc)
    by_test false h = pairs_low text bytes h

raw_ok : (i : ℕ) (ms : Members) (r : RawRow) → raw_of i ms ≡ Ok r → IsRawRow r
raw_ok i ms r h =
    let a = bind_ok (only (table_name.Raw i) (From ∷ Hex ∷ []) ms) _ r h in
    let from = bind_ok (required_form name_of (table_name.Raw i) From ms) _ r a.2 in
    let bytes = bind_ok (required_form hex_of (table_name.Raw i) Hex ms) _ r from.2 in
    let text = bind_ok (required_text (table_name.Raw i) Hex ms) _ bytes.0 bytes.1 in
    let formed = formed_ok (at (table_name.Raw i) Hex) (hex_of text.0) bytes.0 text.2 in
    subst IsRawRow (same_ok _ r bytes.2) (record { few = hex_short text.0 bytes.0 formed; bytes = hex_low text.0 bytes.0 formed })

pub record IsDocument (d : Document) : Type 0 where
  pub cables : Each HasVersion d.cables
  pub snapshot : IsSnapshot d.snapshot
  pub loss : IsLossRow d.loss
  pub flows : Each IsFlowRow d.flows
  pub raws : Each IsRawRow d.raws

walk_ok : (s : Sections) (d : Document) → walk_of s ≡ Ok d → IsDocument d × (any_script_of s.script ≡ Ok d.script)
unfolding walk_of
walk_ok s d h =
    let devices = bind_ok (rows Top Device device_of 0 s.devices) _ d h in
    let cables = bind_ok (rows Top Cable cable_of 0 s.cables) _ d devices.2 in
    let hosts = bind_ok (rows Top Host host_of 0 s.hosts) _ d cables.2 in
    let snapshot = bind_ok (snapshot_of s.snapshot) _ d hosts.2 in
    let loss = bind_ok (any_loss_of s.loss) _ d snapshot.2 in
    let flows = bind_ok (rows Top Flow flow_of 0 s.flows) _ d loss.2 in
    let raws = bind_ok (rows Top Raw raw_of 0 s.raws) _ d flows.2 in
    let script = bind_ok (any_script_of s.script) _ d raws.2 in
    let c = rows_ok Top Cable cable_of HasVersion cable_ok 0 s.cables cables.0 cables.1 in
    let f = rows_ok Top Flow flow_of IsFlowRow flow_ok 0 s.flows flows.0 flows.1 in
    let r = rows_ok Top Raw raw_of IsRawRow raw_ok 0 s.raws raws.0 raws.1 in
    subst (λ (d : Document). IsDocument d × (any_script_of s.script ≡ Ok d.script)) (same_ok _ d script.2)
    (record { cables = c.0; snapshot = snapshot_ok s.snapshot snapshot.0 snapshot.1; loss = any_loss_ok s.loss loss.0 loss.1; flows = f.0; raws = r.0 }, script.1)

pub document_ok : (ms : Members) (d : Document) → document_of ms ≡ Ok d → IsDocument d
unfolding document_of
document_ok ms d h = let a = bind_ok (sections_of ms) walk_of d h in (walk_ok a.0 d a.2).0

script_few : (n : ℕ) (ms : Members) (d : Document) → FewInMembers n ms → document_of ms ≡ Ok d → length d.script ≤ n
unfolding document_of
script_few n ms d few h =
    let a = bind_ok (sections_of ms) walk_of d h in
    any_script_few n a.0.script d.script (sections_few n ms a.0 few a.1) (walk_ok a.0 d a.2).1

-- a document of at most 1048576 bytes has at most so many entries
pub script_short : (bytes : List ℕ) → length bytes ≤ 1048576 → IfSome (option_and_then parse_document (text_of bytes)) (λ (ms : Members). (d : Document) → document_of ms ≡ Ok d → length d.script ≤ 1048576)
script_short bytes h = of_members (option_and_then parse_document (text_of bytes))
    (some-then (IsShort 1048576) (FewInMembers 1048576) parse_document (text_of bytes) (some-if (IsShort 1048576) (is_utf8 bytes) (Some bytes) None h tt) (λ text short. document-few 1048576 text short))
  where
    of_members : (o : Option Members) → IfSome o (FewInMembers 1048576) → IfSome o (λ (ms : Members). (d : Document) → document_of ms ≡ Ok d → length d.script ≤ 1048576)
    of_members None few = tt
    of_members (Some ms) few = λ d e. script_few 1048576 ms d few e
