-- Nodes, documents and streams that fit have no zero; nor have their bytes.
use Rattle.std.{proofs.Common.{◌≡◌, refl, sym, ◌∙◌, ap, inl, inr, ◌⊎◌, arith, ◌≤◌}, specs.Prelude.{ℕ, suc, ◌+◌, ◌/◌, ◌%◌, Bool, true}}
use Rattle.std.specs.Prelude.{false, not, cond, ◌&&◌, ◌==◌, nat_lt, List, [], ◌∷◌, ◌++◌, Option, Some, None, flat_map, codes, if◌then◌else◌}
use Rattle.std.specs.Prelude.{is_some, encode_utf8_all}
use Rattle.yaml_recognizers.proofs.Prelude.{chars, encode, and_parts, and_from, ne_eqb, not_from_false, encodes-chars, white, spaces}
use Rattle.yaml_recognizers.proofs.Prelude.{optional, starts_line, LineEnd, comments_text, Sep, sep_text, gap_text, gap_fits, FlowContext}
use Rattle.yaml_recognizers.proofs.Prelude.{outer, block_key, flow_key, in_flow, one_line, Flow, scalar, seq, map, Entries, none, last}
use Rattle.yaml_recognizers.proofs.Prelude.{next, Entry, entry, Value, absent, empty, given, asked_text, flow_text, entries_text}
use Rattle.yaml_recognizers.proofs.Prelude.{entry_text, value_text, flow_fits, entries_fit, entry_fits, value_fits, single_pair}
use Rattle.yaml_recognizers.proofs.Prelude.{before_colon, short_key, block_text, Node, block, flow, items, pairs, Items, item, item_and}
use Rattle.yaml_recognizers.proofs.Prelude.{Pairs, pair, pair_and, Pair, asked, asked_alone, keyed, keyed_alone, Indented, compact_items}
use Rattle.yaml_recognizers.proofs.Prelude.{compact_pairs, node, omitted, node_text, items_text, pairs_text, pair_text, indented_text}
use Rattle.yaml_recognizers.proofs.Prelude.{node_fits, items_fit, pairs_fit, pair_fits, indented_fits, Explicit, content, nothing, Version}
use Rattle.yaml_recognizers.proofs.Prelude.{yaml_1_1, yaml_1_2, Document, bare, explicit, directed, Part, suffixes, line, further, Stream}
use Rattle.yaml_recognizers.proofs.Prelude.{explicit_text, version_text, document_text, directive_text, suffix_text, part_text, parts_text}
use Rattle.yaml_recognizers.proofs.Prelude.{mark_text, stream_text, explicit_fits, document_fits, optional_document_fits, suffix_fits}
use Rattle.yaml_recognizers.proofs.{Prelude.{suffixes_fit, part_fits, parts_fit, fits}, Zeroed.Clean.{joined, tested, spaces_clean}}
use Rattle.yaml_recognizers.proofs.Zeroed.Clean.{comment_line_clean, comments_clean, sep_clean, gap_clean, scalar_clean, block_clean}
use Rattle.yaml_recognizers.specs.{Closings.framed_text, StyleLaws.{FramedPresents, CanReadAs}, Zeroed.{no_zero, NoZeroPresented}}
use Rattle.yaml_recognizers.specs.Zeroed.{NoZeroByte, NoZeroWritten}

-- ---- flow nodes

asked_clean : (n : ℕ) (key : Bool) (ask : Option Sep) (after : List ℕ) → gap_fits n key ask after ≡ true → no_zero (asked_text ask) ≡ true
asked_clean n key None after h = refl
asked_clean n key (Some sep) after h = joined (codes "?") (sep_text sep) refl (sep_clean n key false sep after h)

-- the key fits in one way or the other
either : (b x y z : Bool) → (if b then x && y else z) ≡ true → (b ≡ true) × (x ≡ true) ⊎ (b ≡ false) × (z ≡ true)
either true x y z h = inl (refl, (and_parts x y h).0)
either false x y z h = inr (refl, h)

mutual
  flow_clean : (f : Flow) (n : ℕ) (c : FlowContext) (bol : Bool) (after : List ℕ) → flow_fits f n c bol after ≡ true
      → no_zero (flow_text f) ≡ true
  flow_clean (scalar s) n c bol after h = scalar_clean n c bol s after h
  flow_clean (seq gap es) n c bol after h =
      let p = and_parts _ _ h in
      joined (codes "[" ++ gap_text gap ++ entries_text es) (codes "]")
      (joined (codes "[" ++ gap_text gap) (entries_text es)
      (joined (codes "[") (gap_text gap) refl (gap_clean n (one_line c) gap _ p.0))
      (entries_clean es n (in_flow c) true _ _ p.1)) refl
  flow_clean (map gap es) n c bol after h =
      let p = and_parts _ _ h in
      joined (codes "{" ++ gap_text gap ++ entries_text es) (codes "}")
      (joined (codes "{" ++ gap_text gap) (entries_text es)
      (joined (codes "{") (gap_text gap) refl (gap_clean n (one_line c) gap _ p.0))
      (entries_clean es n (in_flow c) false _ _ p.1)) refl

  entries_clean : (es : Entries) (n : ℕ) (d : FlowContext) (in_seq bol : Bool) (after : List ℕ) → entries_fit es n d in_seq bol after ≡ true
      → no_zero (entries_text es) ≡ true
  entries_clean none n d in_seq bol after h = refl
  entries_clean (last e gap) n d in_seq bol after h =
      let p = and_parts _ _ h in
      joined (entry_text e) (gap_text gap) (entry_clean e n d in_seq bol _ p.0) (gap_clean n (one_line d) gap after p.1)
  entries_clean (next e before gap_after es) n d in_seq bol after h =
      let p = and_parts _ _ h in
      let q = and_parts _ _ p.0 in
      let r = and_parts _ _ q.0 in
      joined (entry_text e ++ gap_text before ++ codes "," ++ gap_text gap_after) (entries_text es)
      (joined (entry_text e ++ gap_text before ++ codes ",") (gap_text gap_after)
      (joined (entry_text e ++ gap_text before) (codes ",")
      (joined (entry_text e) (gap_text before) (entry_clean e n d in_seq bol _ r.0) (gap_clean n (one_line d) before _ r.1)) refl)
      (gap_clean n (one_line d) gap_after _ q.1))
      (entries_clean es n d in_seq _ after p.1)

  entry_clean : (e : Entry) (n : ℕ) (d : FlowContext) (in_seq bol : Bool) (after : List ℕ) → entry_fits e n d in_seq bol after ≡ true
      → no_zero (entry_text e) ≡ true
  entry_clean (entry ask key value) n d in_seq bol after h =
      let p = and_parts _ _ h in
      let q = and_parts _ _ p.0 in
      joined (asked_text ask ++ flow_text key) (value_text value)
      (joined (asked_text ask) (flow_text key) (asked_clean n (one_line d) ask _ q.0)
      (elim (either (single_pair in_seq ask value) (flow_fits key 0 flow_key bol (value_text value ++ after))
      (short_key key (before_colon value))
      (flow_fits key n d (if is_some ask then starts_line false (gap_text ask) else bol) (value_text value ++ after)) q.1) [
        | inl a ↦ flow_clean key 0 flow_key bol _ a.1
        | inr a ↦ flow_clean key n d _ _ a.1
      ]))
      (value_clean value n d _ _ after p.1)

  value_clean : (v : Value) (n : ℕ) (d : FlowContext) (key after_plain : Bool) (after : List ℕ)
      → value_fits v n d key after_plain after ≡ true
      → no_zero (value_text v) ≡ true
  value_clean absent n d key after_plain after h = refl
  value_clean (empty gap) n d key after_plain after h =
      joined (gap_text gap) (codes ":") (gap_clean n key gap _ (and_parts _ _ h).0) refl
  value_clean (given before gap_after f) n d key after_plain after h =
      let p = and_parts _ _ h in
      let q = and_parts _ _ p.0 in
      let r = and_parts _ _ q.0 in
      joined (gap_text before ++ codes ":" ++ gap_text gap_after) (flow_text f)
      (joined (gap_text before ++ codes ":") (gap_text gap_after)
      (joined (gap_text before) (codes ":") (gap_clean n key before _ r.0) refl) (gap_clean n (one_line d) gap_after _ q.1))
      (flow_clean f n d _ after p.1)

-- ---- block nodes

mutual
  node_clean : (n : Node) (m : ℕ) (shallow bol : Bool) (after : List ℕ) → node_fits n m shallow bol after ≡ true
      → no_zero (node_text n) ≡ true
  node_clean (block sep b) m shallow bol after h =
      let p = and_parts _ _ h in
      joined (sep_text sep) (block_text b) (sep_clean m false bol sep _ p.0) (block_clean m b after p.1)
  node_clean (flow sep f comments) m shallow bol after h =
      let p = and_parts _ _ h in
      let q = and_parts _ _ p.0 in
      joined (sep_text sep ++ flow_text f) (comments_text comments)
      (joined (sep_text sep) (flow_text f) (sep_clean m false bol sep _ q.0) (flow_clean f m outer _ _ q.1))
      (comments_clean false comments after p.1)
  node_clean (items comments k is) m shallow bol after h =
      let p = and_parts _ _ h in
      let q = and_parts _ _ p.0 in
      joined (comments_text comments ++ spaces k) (items_text is k)
      (joined (comments_text comments) (spaces k) (comments_clean bol comments _ q.0) (spaces_clean k))
      (items_clean is k after p.1)
  node_clean (pairs comments k ps) m shallow bol after h =
      let p = and_parts _ _ h in
      let q = and_parts _ _ p.0 in
      joined (comments_text comments ++ spaces k) (pairs_text ps k)
      (joined (comments_text comments) (spaces k) (comments_clean bol comments _ q.0) (spaces_clean k))
      (pairs_clean ps k (k == 0) after p.1)

  items_clean : (is : Items) (k : ℕ) (after : List ℕ) → items_fit is k after ≡ true → no_zero (items_text is k) ≡ true
  items_clean (item i) k after h = joined (codes "-") (indented_text i k) refl (indented_clean i k false after (and_parts _ _ h).1)
  items_clean (item_and i is) k after h =
      let p = and_parts _ _ h in
      let q = and_parts _ _ p.0 in
      joined (codes "-" ++ indented_text i k ++ spaces k) (items_text is k)
      (joined (codes "-" ++ indented_text i k) (spaces k)
      (joined (codes "-") (indented_text i k) refl (indented_clean i k false _ q.1)) (spaces_clean k))
      (items_clean is k after p.1)

  pairs_clean : (ps : Pairs) (k : ℕ) (bol : Bool) (after : List ℕ) → pairs_fit ps k bol after ≡ true → no_zero (pairs_text ps k) ≡ true
  pairs_clean (pair p) k bol after h = pair_clean p k bol after h
  pairs_clean (pair_and p ps) k bol after h =
      let q = and_parts _ _ h in
      joined (pair_text p k ++ spaces k) (pairs_text ps k)
      (joined (pair_text p k) (spaces k) (pair_clean p k bol _ q.0) (spaces_clean k))
      (pairs_clean ps k (k == 0) after q.1)

  pair_clean : (p : Pair) (k : ℕ) (bol : Bool) (after : List ℕ) → pair_fits p k bol after ≡ true → no_zero (pair_text p k) ≡ true
  pair_clean (asked key value) k bol after h =
      let p = and_parts _ _ h in
      let q = and_parts _ _ p.0 in
      joined (codes "?" ++ indented_text key k ++ spaces k ++ codes ":") (indented_text value k)
      (joined (codes "?" ++ indented_text key k ++ spaces k) (codes ":")
      (joined (codes "?" ++ indented_text key k) (spaces k)
      (joined (codes "?") (indented_text key k) refl (indented_clean key k true _ q.1)) (spaces_clean k)) refl)
      (indented_clean value k true after p.1)
  pair_clean (asked_alone key) k bol after h =
      joined (codes "?") (indented_text key k) refl (indented_clean key k true after (and_parts _ _ h).1)
  pair_clean (keyed key gap value) k bol after h =
      let p = and_parts _ _ h in
      let q = and_parts _ _ p.0 in
      let r = and_parts _ _ q.0 in
      joined (flow_text key ++ gap ++ codes ":") (node_text value)
      (joined (flow_text key ++ gap) (codes ":")
      (joined (flow_text key) gap (flow_clean key 0 block_key bol _ r.0) (tested white refl gap r.1)) refl)
      (node_clean value (suc k) true false after p.1)
  pair_clean (keyed_alone key gap comments) k bol after h =
      let p = and_parts _ _ h in
      let q = and_parts _ _ p.0 in
      let r = and_parts _ _ q.0 in
      joined (flow_text key ++ gap ++ codes ":") (comments_text comments)
      (joined (flow_text key ++ gap) (codes ":")
      (joined (flow_text key) gap (flow_clean key 0 block_key bol _ r.0) (tested white refl gap r.1)) refl)
      (comments_clean false comments after p.1)

  indented_clean : (i : Indented) (k : ℕ) (shallow : Bool) (after : List ℕ) → indented_fits i k shallow after ≡ true
      → no_zero (indented_text i k) ≡ true
  indented_clean (compact_items s is) k shallow after h =
      joined (spaces s) (items_text is (k + 1 + s)) (spaces_clean s) (items_clean is (k + 1 + s) after (and_parts _ _ h).1)
  indented_clean (compact_pairs s ps) k shallow after h =
      joined (spaces s) (pairs_text ps (k + 1 + s)) (spaces_clean s) (pairs_clean ps (k + 1 + s) false after (and_parts _ _ h).1)
  indented_clean (node n) k shallow after h = node_clean n (suc k) shallow false after h
  indented_clean (omitted comments) k shallow after h = comments_clean false comments after h

-- ---- streams

explicit_clean : (x : Explicit) (bol : Bool) (after : List ℕ) → explicit_fits x bol after ≡ true → no_zero (explicit_text x) ≡ true
explicit_clean (content n) bol after h = joined (codes "---") (node_text n) refl (node_clean n 0 false false after (and_parts _ _ h).1)
explicit_clean (nothing comments) bol after h =
    joined (codes "---") (comments_text comments) refl (comments_clean false comments after (and_parts _ _ h).1)

version_clean : (v : Version) → no_zero (version_text v) ≡ true
version_clean yaml_1_1 = refl
version_clean yaml_1_2 = refl

document_clean : (d : Document) (bol : Bool) (after : List ℕ) → document_fits d bol after ≡ true → no_zero (document_text d) ≡ true
document_clean (bare n) bol after h = node_clean n 0 false bol after h
document_clean (explicit x) bol after h = explicit_clean x bol after h
document_clean (directed blank version comments x) bol after h =
    let p = and_parts _ _ h in
    let q = and_parts _ _ p.0 in
    let r = and_parts _ _ q.0 in
    let s = and_parts _ _ r.0 in
    joined (directive_text blank version comments) (explicit_text x)
    (joined (codes "%YAML" ++ blank ++ version_text version) (comments_text comments)
    (joined (codes "%YAML" ++ blank) (version_text version)
    (joined (codes "%YAML") blank refl (tested white refl blank s.1)) (version_clean version))
    (comments_clean false comments _ q.1))
    (explicit_clean x true after p.1)

optional_clean : (d : Option Document) (bol : Bool) (after : List ℕ) → optional_document_fits d bol after ≡ true
    → no_zero (optional document_text d) ≡ true
optional_clean None bol after h = refl
optional_clean (Some d) bol after h = document_clean d bol after h

suffix_clean : (comments : List LineEnd) (bol : Bool) (after : List ℕ) → suffix_fits comments bol after ≡ true
    → no_zero (suffix_text comments) ≡ true
suffix_clean comments bol after h =
    joined (codes "...") (comments_text comments) refl (comments_clean false comments after (and_parts _ _ h).1)

suffixes_clean : (ss : List (List LineEnd)) (after : List ℕ) → suffixes_fit ss after ≡ true → no_zero (flat_map suffix_text ss) ≡ true
suffixes_clean [] after h = refl
suffixes_clean (s ∷ ss) after h =
    let p = and_parts _ _ h in
    joined (suffix_text s) (flat_map suffix_text ss) (suffix_clean s true _ p.0) (suffixes_clean ss after p.1)

part_clean : (p : Part) (bol : Bool) (after : List ℕ) → part_fits p bol after ≡ true → no_zero (part_text p) ≡ true
part_clean (suffixes one more prefix document) bol after h =
    let p = and_parts _ _ h in
    let q = and_parts _ _ p.0 in
    let r = and_parts _ _ q.0 in
    joined (suffix_text one ++ flat_map suffix_text more ++ comments_text prefix) (optional document_text document)
    (joined (suffix_text one ++ flat_map suffix_text more) (comments_text prefix)
    (joined (suffix_text one) (flat_map suffix_text more) (suffix_clean one bol _ r.0) (suffixes_clean more _ r.1))
    (comments_clean true prefix _ q.1))
    (optional_clean document true after p.1)
part_clean (line e) bol after h = comment_line_clean bol e after h
part_clean (further x) bol after h = explicit_clean x bol after h

parts_clean : (ps : List Part) (bol : Bool) (after : List ℕ) → parts_fit ps bol after ≡ true → no_zero (parts_text ps) ≡ true
parts_clean [] bol after h = refl
parts_clean (p ∷ ps) bol after h =
    let q = and_parts _ _ h in
    joined (part_text p) (parts_text ps) (part_clean p bol _ q.0) (parts_clean ps _ after q.1)

mark_clean : (mark : Bool) → no_zero (mark_text mark) ≡ true
mark_clean true = refl
mark_clean false = refl

stream_clean : (s : Stream) → fits s ≡ true → no_zero (stream_text s) ≡ true
stream_clean s h =
    let p = and_parts _ _ h in
    let q = and_parts _ _ p.0 in
    joined (mark_text s.mark ++ comments_text s.prefix ++ optional document_text s.document) (parts_text s.parts)
    (joined (mark_text s.mark ++ comments_text s.prefix) (optional document_text s.document)
    (joined (mark_text s.mark) (comments_text s.prefix) (mark_clean s.mark) (comments_clean true s.prefix _ q.0))
    (optional_clean s.document true _ q.1))
    (parts_clean s.parts _ [] p.1)

-- a text that is presented has no zero
pub no_zero_presented : NoZeroPresented
no_zero_presented presentation text p = ap no_zero (sym p.spells) ∙ stream_clean presentation p.fits

-- ---- bytes

-- one byte or more that are not 0
more_clean : (low b : ℕ) (bs : List ℕ) → 1 ≤ low → no_zero bs ≡ true → no_zero ((low + b) ∷ bs) ≡ true
more_clean low b bs l h = and_from _ _ (not_from_false _ (ne_eqb (low + b) 0 (λ e. omega (arith, e, l)))) h

-- the bytes of a character
cases_clean : (x y z : Bool) (bytes : List ℕ) (a b d e f g k l m : ℕ) → no_zero bytes ≡ true
    → no_zero (cond x bytes (cond y ((192 + a) ∷ (128 + b) ∷ [])
    (cond z ((224 + d) ∷ (128 + e) ∷ (128 + f) ∷ []) ((240 + g) ∷ (128 + k) ∷ (128 + l) ∷ (128 + m) ∷ [])))) ≡ true
cases_clean true y z bytes a b d e f g k l m n = n
cases_clean false true z bytes a b d e f g k l m n =
    more_clean 192 a ((128 + b) ∷ []) (omega arith) (more_clean 128 b [] (omega arith) refl)
cases_clean false false true bytes a b d e f g k l m n =
    more_clean 224 d ((128 + e) ∷ (128 + f) ∷ []) (omega arith)
    (more_clean 128 e ((128 + f) ∷ []) (omega arith) (more_clean 128 f [] (omega arith) refl))
cases_clean false false false bytes a b d e f g k l m n =
    more_clean 240 g ((128 + k) ∷ (128 + l) ∷ (128 + m) ∷ []) (omega arith) (more_clean 128 k ((128 + l) ∷ (128 + m) ∷ []) (omega arith)
    (more_clean 128 l ((128 + m) ∷ []) (omega arith) (more_clean 128 m [] (omega arith) refl)))

encode_clean : (c : ℕ) → not (c == 0) ≡ true → no_zero (encode c) ≡ true
unfolding encode
encode_clean c h =
    cases_clean (nat_lt c 128) (nat_lt c 2048) (nat_lt c 65536) (c ∷ []) (c / 64) (c % 64) (c / 4096) (c / 64 % 64)
    (c % 64) (c / 262144) (c / 4096 % 64) (c / 64 % 64) (c % 64) (and_from _ _ h refl)

encoded_clean : (cs : List ℕ) → no_zero cs ≡ true → no_zero (encode_utf8_all cs) ≡ true
encoded_clean [] h = refl
encoded_clean (c ∷ cs) h =
    let p = and_parts _ _ h in
    joined (encode c) (encode_utf8_all cs) (encode_clean c p.0) (encoded_clean cs p.1)

-- bytes of which the characters are presented have none
pub no_zero_byte : NoZeroByte
no_zero_byte presentation bytes u p =
    ap no_zero (sym (encodes-chars bytes u)) ∙ encoded_clean (chars bytes) (no_zero_presented presentation (chars bytes) p)

-- what is written of a tree of texts has none
pub no_zero_written : FramedPresents → NoZeroWritten
no_zero_written presents t texts =
    let r : CanReadAs (framed_text t) t = presents t texts in
    encoded_clean (framed_text t) (no_zero_presented (r.reads).presentation (framed_text t) (r.reads).presents)
