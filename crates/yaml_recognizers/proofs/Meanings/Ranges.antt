-- The ranges of scalars are in order, in each part of a presentation.
use Rattle.std.{proofs.Common.{arith, refl, ◌≡◌, ◌≤◌}, specs.Prelude.{Bool, List, None, Option, Some, [], codes, false, flat_map}}
use Rattle.std.specs.Prelude.{if◌then◌else◌, not, suc, true, zero, ℕ, ◌++◌, ◌+◌, ◌∷◌}
use Rattle.yaml_recognizers.proofs.Prelude.{Indented, Items, Node, Pair, Pairs, asked, asked_alone, block, compact_items, compact_pairs}
use Rattle.yaml_recognizers.proofs.Prelude.{flow, indented_end, indented_events, indented_text, item, item_and, items, items_end}
use Rattle.yaml_recognizers.proofs.Prelude.{items_events, items_text, keyed, keyed_alone, node, node_end, node_events, node_text, omitted}
use Rattle.yaml_recognizers.proofs.Prelude.{pair, pair_and, pair_end, pair_events, pair_text, pairs, pairs_end, pairs_events, pairs_text}
use Rattle.yaml_recognizers.proofs.Prelude.{bare_block_text, block_text, Event, as_document, as_map, as_seq, document_end, document_start}
use Rattle.yaml_recognizers.proofs.Prelude.{map_end, map_start, omitted_at, scalar_event, seq_end, seq_start, Entries, Entry, Flow, Value}
use Rattle.yaml_recognizers.proofs.Prelude.{absent, asked_text, empty, entries_events, entries_text, entry, entry_events, entry_text}
use Rattle.yaml_recognizers.proofs.Prelude.{flow_events, flow_text, given, is_pair, last, map, next, none, scalar, seq, value_events}
use Rattle.yaml_recognizers.proofs.Prelude.{value_text, comments_text, gap_text, sep_text, Document, Explicit, Part, Stream, bare, content}
use Rattle.yaml_recognizers.proofs.Prelude.{directed, directive_text, document_events, document_text, explicit, explicit_events}
use Rattle.yaml_recognizers.proofs.Prelude.{explicit_text, further, line, mark_text, stream_events, nothing, optional_document_events}
use Rattle.yaml_recognizers.proofs.Prelude.{part_events, part_text, parts_events, parts_text, stream_text, suffix_text, suffixes, byte_len}
use Rattle.yaml_recognizers.{proofs.{Prelude.{optional, spaces}, Basics.LineStarts.byte_len_joined}, specs.Ranges.RangesInOrder}

-- ---- ranges in a row

-- ranges in order may be said to start earlier
pub ranges_from : (low from : ℕ) (es : List Event) (to : ℕ) → low ≤ from → RangesInOrder from es to → RangesInOrder low es to
ranges_from low from [] to l h = omega arith
ranges_from low from (document_start ∷ es) to l h = ranges_from low from es to l h
ranges_from low from (document_end ∷ es) to l h = ranges_from low from es to l h
ranges_from low from (seq_start ∷ es) to l h = ranges_from low from es to l h
ranges_from low from (seq_end ∷ es) to l h = ranges_from low from es to l h
ranges_from low from (map_start ∷ es) to l h = ranges_from low from es to l h
ranges_from low from (map_end ∷ es) to l h = ranges_from low from es to l h
ranges_from low from (scalar_event style start end value ∷ es) to l h = (omega (arith, h.0), h.1, h.2)

-- ranges in order, and then more of them
pub ranges_joined : (from : ℕ) (es : List Event) (middle : ℕ) (more : List Event) (to : ℕ)
    → RangesInOrder from es middle → RangesInOrder middle more to → RangesInOrder from (es ++ more) to
ranges_joined from [] middle more to h m = ranges_from from middle more to h m
ranges_joined from (document_start ∷ es) middle more to h m = ranges_joined from es middle more to h m
ranges_joined from (document_end ∷ es) middle more to h m = ranges_joined from es middle more to h m
ranges_joined from (seq_start ∷ es) middle more to h m = ranges_joined from es middle more to h m
ranges_joined from (seq_end ∷ es) middle more to h m = ranges_joined from es middle more to h m
ranges_joined from (map_start ∷ es) middle more to h m = ranges_joined from es middle more to h m
ranges_joined from (map_end ∷ es) middle more to h m = ranges_joined from es middle more to h m
ranges_joined from (scalar_event style start end value ∷ es) middle more to h m = (h.0, h.1, ranges_joined end es middle more to h.2 m)

-- ranges in order may be said to end later
pub ranges_to : (from : ℕ) (es : List Event) (to high : ℕ) → to ≤ high → RangesInOrder from es to → RangesInOrder from es high
ranges_to from [] to high l h = omega arith
ranges_to from (document_start ∷ es) to high l h = ranges_to from es to high l h
ranges_to from (document_end ∷ es) to high l h = ranges_to from es to high l h
ranges_to from (seq_start ∷ es) to high l h = ranges_to from es to high l h
ranges_to from (seq_end ∷ es) to high l h = ranges_to from es to high l h
ranges_to from (map_start ∷ es) to high l h = ranges_to from es to high l h
ranges_to from (map_end ∷ es) to high l h = ranges_to from es to high l h
ranges_to from (scalar_event style start end value ∷ es) to high l h = (h.0, h.1, ranges_to end es to high l h.2)

-- ranges in order between two places are so between wider ones
wider : (low from : ℕ) (es : List Event) (to high : ℕ) → low ≤ from → to ≤ high → RangesInOrder from es to → RangesInOrder low es high
wider low from es to high l u h = ranges_from low from es high l (ranges_to from es to high u h)

-- the ranges of a sequence are those of its elements
seq_ranges : (from : ℕ) (es : List Event) (to : ℕ) → RangesInOrder from es to → RangesInOrder from (as_seq es) to
seq_ranges from es to h = ranges_joined from es to (seq_end ∷ []) to h (omega arith)

-- the ranges of a mapping are those of its members
map_ranges : (from : ℕ) (es : List Event) (to : ℕ) → RangesInOrder from es to → RangesInOrder from (as_map es) to
map_ranges from es to h = ranges_joined from es to (map_end ∷ []) to h (omega arith)

-- the ranges of a document are those of its node
document_ranges : (from : ℕ) (es : List Event) (to : ℕ) → RangesInOrder from es to → RangesInOrder from (as_document es) to
document_ranges from es to h = ranges_joined from es to (document_end ∷ []) to h (omega arith)

-- events from a place up to the end of a text at that place
abbrev Within : ℕ → List Event → List ℕ → Type 0
Within at es text = RangesInOrder at es (at + byte_len text)

-- ranges within a text are in order between wider places
within : (low at : ℕ) (es : List Event) (text : List ℕ) (high : ℕ) → low ≤ at → at + byte_len text ≤ high
    → Within at es text → RangesInOrder low es high
within low at es text high l u h = wider low at es (at + byte_len text) high l u h

-- n spaces have n bytes
pub byte_len-spaces : (n : ℕ) → byte_len (spaces n) ≡ n
byte_len-spaces zero = refl
byte_len-spaces (suc n) = let h : byte_len (spaces n) ≡ n = byte_len-spaces n in omega arith

-- ---- flow nodes

-- the length of three texts
pub len3 : (a b c : List ℕ) → byte_len (a ++ b ++ c) ≡ byte_len a + byte_len b + byte_len c
len3 a b c = let h = byte_len_joined (a ++ b) c in let k = byte_len_joined a b in omega (arith, h, k)

-- the length of four texts
pub len4 : (a b c d : List ℕ) → byte_len (a ++ b ++ c ++ d) ≡ byte_len a + byte_len b + byte_len c + byte_len d
len4 a b c d = let h = byte_len_joined (a ++ b ++ c) d in let k = len3 a b c in omega (arith, h, k)

-- the length of five texts
pub len5 : (a b c d e : List ℕ) → byte_len (a ++ b ++ c ++ d ++ e) ≡ byte_len a + byte_len b + byte_len c + byte_len d + byte_len e
len5 a b c d e = let h = byte_len_joined (a ++ b ++ c ++ d) e in let k = len4 a b c d in omega (arith, h, k)

-- an entry between brackets: a key and a value, the same as a mapping, or a node alone
chosen : (in_seq is_pair : Bool) (low : ℕ) (both alone : List Event) (high : ℕ) → RangesInOrder low both high → RangesInOrder low alone high
    → RangesInOrder low (if not in_seq then both else if is_pair then as_map both else alone) high
chosen false is_pair low both alone high h k = h
chosen true true low both alone high h k = map_ranges low both high h
chosen true false low both alone high h k = k

mutual
  -- the ranges of a flow node are in order and within it
  pub flow_ranges : (f : Flow) (at : ℕ) → Within at (flow_events f at) (flow_text f)
  flow_ranges (scalar s) at = (omega arith, omega arith, omega arith)
  flow_ranges (seq gap es) at =
      let l = len4 (codes "[") (gap_text gap) (entries_text es) (codes "]") in
      let place : ℕ = at + 1 + byte_len (gap_text gap) in
      let high : ℕ = at + byte_len (flow_text (seq gap es)) in
      let inner : RangesInOrder at (entries_events es true place) high =
      within at place (entries_events es true place) (entries_text es) high (omega arith) (omega (arith, l))
      (entries_ranges es true place) in
      seq_ranges at (entries_events es true place) high inner
  flow_ranges (map gap es) at =
      let l = len4 (codes "{") (gap_text gap) (entries_text es) (codes "}") in
      let place : ℕ = at + 1 + byte_len (gap_text gap) in
      let high : ℕ = at + byte_len (flow_text (map gap es)) in
      let inner : RangesInOrder at (entries_events es false place) high =
      within at place (entries_events es false place) (entries_text es) high (omega arith) (omega (arith, l))
      (entries_ranges es false place) in
      map_ranges at (entries_events es false place) high inner

  -- the ranges of entries are within their text
  entries_ranges : (es : Entries) (in_seq : Bool) (at : ℕ) → Within at (entries_events es in_seq at) (entries_text es)
  entries_ranges none in_seq at = omega arith
  entries_ranges (last e gap) in_seq at =
      let l = byte_len_joined (entry_text e) (gap_text gap) in
      let high : ℕ = at + byte_len (entries_text (last e gap)) in
      within at at (entry_events e in_seq at) (entry_text e) high (omega arith) (omega (arith, l)) (entry_ranges e in_seq at)
  entries_ranges (next e before after es) in_seq at =
      let l = len5 (entry_text e) (gap_text before) (codes ",") (gap_text after) (entries_text es) in
      let middle : ℕ = at + byte_len (entry_text e) in
      let place : ℕ = middle + byte_len (gap_text before) + 1 + byte_len (gap_text after) in
      let high : ℕ = at + byte_len (entries_text (next e before after es)) in
      let more : RangesInOrder middle (entries_events es in_seq place) high =
      within middle place (entries_events es in_seq place) (entries_text es) high (omega arith) (omega (arith, l))
      (entries_ranges es in_seq place) in
      ranges_joined at (entry_events e in_seq at) middle (entries_events es in_seq place) high (entry_ranges e in_seq at) more

  -- so are those of an entry
  entry_ranges : (e : Entry) (in_seq : Bool) (at : ℕ) → Within at (entry_events e in_seq at) (entry_text e)
  entry_ranges (entry ask key value) in_seq at =
      let l = len3 (asked_text ask) (flow_text key) (value_text value) in
      let place : ℕ = at + byte_len (asked_text ask) in
      let after : ℕ = place + byte_len (flow_text key) in
      let high : ℕ = at + byte_len (entry_text (entry ask key value)) in
      let k : RangesInOrder at (flow_events key place) after =
      ranges_from at place (flow_events key place) after (omega arith) (flow_ranges key place) in
      let v : RangesInOrder after (value_events value after) high =
      ranges_to after (value_events value after) (after + byte_len (value_text value)) high (omega (arith, l)) (value_ranges value after) in
      let both : RangesInOrder at (flow_events key place ++ value_events value after) high =
      ranges_joined at (flow_events key place) after (value_events value after) high k v in
      let alone : RangesInOrder at (flow_events key place) high = ranges_to at (flow_events key place) after high (omega (arith, l)) k in
      chosen in_seq (is_pair ask value) at (flow_events key place ++ value_events value after) (flow_events key place) high both alone

  -- and those of a value
  value_ranges : (v : Value) (at : ℕ) → Within at (value_events v at) (value_text v)
  value_ranges absent at = (omega arith, omega arith, omega arith)
  value_ranges (empty gap) at = let l = byte_len_joined (gap_text gap) (codes ":") in (omega arith, omega arith, omega (arith, l))
  value_ranges (given before after f) at =
      let l = len4 (gap_text before) (codes ":") (gap_text after) (flow_text f) in
      let place : ℕ = at + byte_len (gap_text before) + 1 + byte_len (gap_text after) in
      let high : ℕ = at + byte_len (value_text (given before after f)) in
      within at place (flow_events f place) (flow_text f) high (omega arith) (omega (arith, l)) (flow_ranges f place)

-- ---- block nodes: the ranges end where the node does, and this is not after its text

-- the ranges are in order up to the end, which is not after the text
record Ranged (at : ℕ) (events : List Event) (end : ℕ) (text : List ℕ) : Type 0 where
  ranges : RangesInOrder at events end
  inside : end ≤ at + byte_len text
  onward : at ≤ end

mutual
  -- those of a node are
  node_ranged : (n : Node) (at : ℕ) → Ranged at (node_events n at) (node_end n at) (node_text n)
  node_ranged (block sep b) at =
      let l = byte_len_joined (sep_text sep) (block_text b) in
      let k = byte_len_joined (bare_block_text b) (comments_text b.trail) in
      record { ranges = (omega arith, omega arith, omega arith); inside = omega (arith, l, k); onward = omega arith }
  node_ranged (flow sep f comments) at =
      let l = len3 (sep_text sep) (flow_text f) (comments_text comments) in
      let place : ℕ = at + byte_len (sep_text sep) in
      let end : ℕ = place + byte_len (flow_text f) in
      record {
        ranges = ranges_from at place (flow_events f place) end (omega arith) (flow_ranges f place);
        inside = omega (arith, l);
        onward = omega arith;
      }
  node_ranged (items comments k is) at =
      let l = len3 (comments_text comments) (spaces k) (items_text is k) in
      let s = byte_len-spaces k in
      let place : ℕ = at + byte_len (comments_text comments) + k in
      let r = items_ranged is k place in
      record {
        ranges = seq_ranges at (items_events is k place) (items_end is k place)
            (ranges_from at place (items_events is k place) (items_end is k place) (omega arith) r.ranges);
        inside = omega (arith, l, s, r.inside);
        onward = omega (arith, r.onward);
      }
  node_ranged (pairs comments k ps) at =
      let l = len3 (comments_text comments) (spaces k) (pairs_text ps k) in
      let s = byte_len-spaces k in
      let place : ℕ = at + byte_len (comments_text comments) + k in
      let r = pairs_ranged ps k place in
      record {
        ranges = map_ranges at (pairs_events ps k place) (pairs_end ps k place)
            (ranges_from at place (pairs_events ps k place) (pairs_end ps k place) (omega arith) r.ranges);
        inside = omega (arith, l, s, r.inside);
        onward = omega (arith, r.onward);
      }

  -- those of items are
  items_ranged : (is : Items) (k at : ℕ) → Ranged at (items_events is k at) (items_end is k at) (items_text is k)
  items_ranged (item i) k at =
      let l = byte_len_joined (codes "-") (indented_text i k) in
      let r = indented_ranged i k (at + 1) in
      record {
        ranges = ranges_from at (at + 1) (indented_events i k (at + 1)) (indented_end i k (at + 1)) (omega arith) r.ranges;
        inside = omega (arith, l, r.inside);
        onward = omega (arith, r.onward);
      }
  items_ranged (item_and i is) k at =
      let l = len4 (codes "-") (indented_text i k) (spaces k) (items_text is k) in
      let s = byte_len-spaces k in
      let place : ℕ = at + 1 + byte_len (indented_text i k) + k in
      let one = indented_ranged i k (at + 1) in
      let more = items_ranged is k place in
      record {
        ranges = ranges_joined at (indented_events i k (at + 1)) (indented_end i k (at + 1)) (items_events is k place)
            (items_end is k place)
            (ranges_from at (at + 1) (indented_events i k (at + 1)) (indented_end i k (at + 1)) (omega arith) one.ranges)
            (ranges_from (indented_end i k (at + 1)) place (items_events is k place) (items_end is k place)
            (omega (arith, one.inside)) more.ranges);
        inside = omega (arith, l, s, more.inside);
        onward = omega (arith, more.onward);
      }

  -- those of pairs are
  pairs_ranged : (ps : Pairs) (k at : ℕ) → Ranged at (pairs_events ps k at) (pairs_end ps k at) (pairs_text ps k)
  pairs_ranged (pair p) k at = pair_ranged p k at
  pairs_ranged (pair_and p ps) k at =
      let l = len3 (pair_text p k) (spaces k) (pairs_text ps k) in
      let s = byte_len-spaces k in
      let place : ℕ = at + byte_len (pair_text p k) + k in
      let one = pair_ranged p k at in
      let more = pairs_ranged ps k place in
      record {
        ranges = ranges_joined at (pair_events p k at) (pair_end p k at) (pairs_events ps k place) (pairs_end ps k place) one.ranges
            (ranges_from (pair_end p k at) place (pairs_events ps k place) (pairs_end ps k place) (omega (arith, one.inside)) more.ranges);
        inside = omega (arith, l, s, more.inside);
        onward = omega (arith, more.onward);
      }

  -- those of a pair are
  pair_ranged : (p : Pair) (k at : ℕ) → Ranged at (pair_events p k at) (pair_end p k at) (pair_text p k)
  pair_ranged (asked key value) k at =
      let l = len5 (codes "?") (indented_text key k) (spaces k) (codes ":") (indented_text value k) in
      let s = byte_len-spaces k in
      let place : ℕ = at + 1 + byte_len (indented_text key k) + k + 1 in
      let one = indented_ranged key k (at + 1) in
      let more = indented_ranged value k place in
      record {
        ranges = ranges_joined at (indented_events key k (at + 1)) (indented_end key k (at + 1))
            (indented_events value k place) (indented_end value k place)
            (ranges_from at (at + 1) (indented_events key k (at + 1)) (indented_end key k (at + 1)) (omega arith) one.ranges)
            (ranges_from (indented_end key k (at + 1)) place (indented_events value k place)
            (indented_end value k place) (omega (arith, one.inside)) more.ranges);
        inside = omega (arith, l, s, more.inside);
        onward = omega (arith, more.onward);
      }
  pair_ranged (asked_alone key) k at =
      let l = byte_len_joined (codes "?") (indented_text key k) in
      let end : ℕ = indented_end key k (at + 1) in
      let one = indented_ranged key k (at + 1) in
      record {
        ranges = ranges_joined at (indented_events key k (at + 1)) end (omitted_at end) end
            (ranges_from at (at + 1) (indented_events key k (at + 1)) end (omega arith) one.ranges) (omega arith, omega arith, omega arith);
        inside = omega (arith, l, one.inside);
        onward = omega (arith, one.onward);
      }
  pair_ranged (keyed key gap value) k at =
      let l = len4 (flow_text key) gap (codes ":") (node_text value) in
      let after : ℕ = at + byte_len (flow_text key) in
      let place : ℕ = after + byte_len gap + 1 in
      let more = node_ranged value place in
      record {
        ranges = ranges_joined at (flow_events key at) after (node_events value place) (node_end value place) (flow_ranges key at)
            (ranges_from after place (node_events value place) (node_end value place) (omega arith) more.ranges);
        inside = omega (arith, l, more.inside);
        onward = omega (arith, more.onward);
      }
  pair_ranged (keyed_alone key gap comments) k at =
      let l = len4 (flow_text key) gap (codes ":") (comments_text comments) in
      let after : ℕ = at + byte_len (flow_text key) in
      let place : ℕ = after + byte_len gap + 1 in
      record {
        ranges = ranges_joined at (flow_events key at) after (omitted_at place) place (flow_ranges key at)
            (omega arith, omega arith, omega arith);
        inside = omega (arith, l);
        onward = omega arith;
      }

  -- those of what comes after a sign are
  indented_ranged : (i : Indented) (k at : ℕ) → Ranged at (indented_events i k at) (indented_end i k at) (indented_text i k)
  indented_ranged (compact_items s is) k at =
      let l = byte_len_joined (spaces s) (items_text is (k + 1 + s)) in
      let t = byte_len-spaces s in
      let r = items_ranged is (k + 1 + s) (at + s) in
      let end : ℕ = items_end is (k + 1 + s) (at + s) in
      let es : List Event = items_events is (k + 1 + s) (at + s) in
      record {
        ranges = seq_ranges at es end (ranges_from at (at + s) es end (omega arith) r.ranges);
        inside = omega (arith, l, t, r.inside);
        onward = omega (arith, r.onward);
      }
  indented_ranged (compact_pairs s ps) k at =
      let l = byte_len_joined (spaces s) (pairs_text ps (k + 1 + s)) in
      let t = byte_len-spaces s in
      let r = pairs_ranged ps (k + 1 + s) (at + s) in
      let end : ℕ = pairs_end ps (k + 1 + s) (at + s) in
      let es : List Event = pairs_events ps (k + 1 + s) (at + s) in
      record {
        ranges = map_ranges at es end (ranges_from at (at + s) es end (omega arith) r.ranges);
        inside = omega (arith, l, t, r.inside);
        onward = omega (arith, r.onward);
      }
  indented_ranged (node n) k at = node_ranged n at
  indented_ranged (omitted comments) k at = record {
    ranges = (omega arith, omega arith, omega arith);
    inside = omega arith;
    onward = omega arith;
  }

-- ---- streams

-- the ranges of a document's node are in order
node_ranges : (n : Node) (low at high : ℕ) → low ≤ at → at + byte_len (node_text n) ≤ high
    → RangesInOrder low (as_document (node_events n at)) high
node_ranges n low at high l u =
    let r = node_ranged n at in
    document_ranges low (node_events n at) high (wider low at (node_events n at) (node_end n at) high l (omega (arith, r.inside)) r.ranges)

-- the ranges after `---` are within the text
explicit_ranges : (x : Explicit) (at : ℕ) → Within at (explicit_events x at) (explicit_text x)
explicit_ranges (content n) at =
    let l = byte_len_joined (codes "---") (node_text n) in
    node_ranges n at (at + 3) (at + byte_len (explicit_text (content n))) (omega arith) (omega (arith, l))
explicit_ranges (nothing comments) at =
    let l = byte_len_joined (codes "---") (comments_text comments) in
    let high : ℕ = at + byte_len (explicit_text (nothing comments)) in
    document_ranges at (omitted_at (at + 3)) high (omega arith, omega arith, omega (arith, l))

-- so are those of a document
one_document_ranges : (d : Document) (at : ℕ) → Within at (document_events d at) (document_text d)
one_document_ranges (bare n) at = node_ranges n at at (at + byte_len (node_text n)) (omega arith) (omega arith)
one_document_ranges (explicit x) at = explicit_ranges x at
one_document_ranges (directed blank version comments x) at =
    let prefix : List ℕ = directive_text blank version comments in
    let l = byte_len_joined prefix (explicit_text x) in
    within at (at + byte_len prefix) (explicit_events x (at + byte_len prefix)) (explicit_text x)
    (at + byte_len (document_text (directed blank version comments x)))
    (omega arith) (omega (arith, l)) (explicit_ranges x (at + byte_len prefix))

-- and of a document that may be left out
optional_ranges : (d : Option Document) (at : ℕ) → Within at (optional_document_events d at) (optional document_text d)
optional_ranges None at = omega arith
optional_ranges (Some d) at = one_document_ranges d at

-- and of a part
part_ranges : (p : Part) (at : ℕ) → Within at (part_events p at) (part_text p)
part_ranges (suffixes one more prefix d) at =
    let l = len4 (suffix_text one) (flat_map suffix_text more) (comments_text prefix) (optional document_text d) in
    let place : ℕ = at + byte_len (suffix_text one) + byte_len (flat_map suffix_text more) + byte_len (comments_text prefix) in
    within at place (optional_document_events d place) (optional document_text d)
    (at + byte_len (part_text (suffixes one more prefix d))) (omega arith) (omega (arith, l)) (optional_ranges d place)
part_ranges (line e) at = omega arith
part_ranges (further x) at = explicit_ranges x at

-- and of parts
parts_ranges : (ps : List Part) (at : ℕ) → Within at (parts_events ps at) (parts_text ps)
parts_ranges [] at = omega arith
parts_ranges (p ∷ ps) at =
    let l = byte_len_joined (part_text p) (parts_text ps) in
    let after : ℕ = at + byte_len (part_text p) in
    let high : ℕ = at + byte_len (parts_text (p ∷ ps)) in
    ranges_joined at (part_events p at) after (parts_events ps after) high (part_ranges p at)
    (within after after (parts_events ps after) (parts_text ps) high (omega arith) (omega (arith, l)) (parts_ranges ps after))

-- a byte order mark has 3 bytes
pub mark_len : (mark : Bool) → byte_len (mark_text mark) ≡ (if mark then 3 else 0)
mark_len true = refl
mark_len false = refl

-- the ranges of a stream are in order and within it
pub stream_ranges : (p : Stream) → RangesInOrder 0 (stream_events p) (byte_len (stream_text p))
stream_ranges p =
    let l = len4 (mark_text p.mark) (comments_text p.prefix) (optional document_text p.document) (parts_text p.parts) in
    let m = mark_len p.mark in
    let at : ℕ = (if p.mark then 3 else 0) + byte_len (comments_text p.prefix) in
    let after : ℕ = at + byte_len (optional document_text p.document) in
    let high : ℕ = byte_len (stream_text p) in
    ranges_joined 0 (optional_document_events p.document at) after (parts_events p.parts after) high
    (ranges_from 0 at (optional_document_events p.document at) after (omega arith) (optional_ranges p.document at))
    (within after after (parts_events p.parts after) (parts_text p.parts) high (omega arith) (omega (arith, l, m))
    (parts_ranges p.parts after))
