-- Each node of a presentation is spelled at its place.
use Rattle.std.{proofs.Common.{ap, append-nil, append_assoc, arith, refl, subst, sym, ◌∙◌, ◌≡◌}, specs.Prelude.{All, Bool, List, None}}
use Rattle.std.specs.Prelude.{Option, Some, [], codes, cond, false, flat_map, if◌then◌else◌, is_some, suc, true, ℕ, ◌++◌, ◌+◌, ◌==◌, ◌∷◌}
use Rattle.yaml_recognizers.proofs.Prelude.{All-append, All-cons, All-nil, Indented, Items, Node, Pair, Pairs, asked, asked_alone, block}
use Rattle.yaml_recognizers.proofs.Prelude.{compact_items, compact_pairs, flow, indented_text, item, item_and, items, items_text, keyed}
use Rattle.yaml_recognizers.proofs.Prelude.{keyed_alone, node, node_text, omitted, pair, pair_and, pair_text, pairs, pairs_text, Entries}
use Rattle.yaml_recognizers.proofs.Prelude.{Entry, Flow, Value, absent, asked_text, empty, entries_text, entry, entry_text, flow_text}
use Rattle.yaml_recognizers.proofs.Prelude.{given, last, map, next, none, scalar, seq, single_pair, value_text, FlowContext, block_key}
use Rattle.yaml_recognizers.proofs.Prelude.{flow_key, in_flow, outer, comments_text, gap_text, sep_text, Document, Explicit, Part, Stream}
use Rattle.yaml_recognizers.proofs.Prelude.{bare, content, directed, directive_text, document_text, explicit, explicit_text, further, line}
use Rattle.yaml_recognizers.proofs.Prelude.{mark_text, nothing, part_text, parts_text, stream_text, suffix_text, suffixes, byte_len}
use Rattle.yaml_recognizers.proofs.{Prelude.{optional, spaces, starts_line}, Basics.LineStarts.byte_len_joined}
use Rattle.yaml_recognizers.{proofs.Meanings.Ranges.{byte_len-spaces, len3, len4, mark_len}, specs.NodePlaces.{NodePlace, NodeSpelled}}
use Rattle.yaml_recognizers.specs.NodePlaces.{SpelledAt, block_at, document_places, entries_places, entry_places, explicit_places, flow_at}
use Rattle.yaml_recognizers.specs.NodePlaces.{flow_places, indented_places, items_places, node_places, optional_document_places}
use Rattle.yaml_recognizers.specs.NodePlaces.{pair_places, pairs_places, part_places, parts_places, stream_places, value_places}

-- ---- parts of a part

module _ (text : List ℕ) where
  abbrev Each : List NodePlace → Type 0
  Each places = All (NodeSpelled text) places

  both : (xs ys : List NodePlace) → Each xs → Each ys → Each (xs ++ ys)
  both xs ys h k = All-append (NodeSpelled text) xs ys h k

  first_and : (x : NodePlace) (xs : List NodePlace) → NodeSpelled text x → Each xs → Each (x ∷ xs)
  first_and x xs h k = All-cons (NodeSpelled text) x xs h k

  no_places : Each []
  no_places = All-nil (NodeSpelled text)

  either : (b : Bool) (xs ys : List NodePlace) → Each xs → Each ys → Each (cond b xs ys)
  either true xs ys h k = h
  either false xs ys h k = k

  prefix : (at : ℕ) (xs ys after : List ℕ) → SpelledAt text at (xs ++ ys) after → SpelledAt text at xs (ys ++ after)
  prefix at xs ys after s = record { before = s.before; is = s.is ∙ ap (λ t. s.before ++ t) (append_assoc xs ys after); place = s.place }

  back : (at : ℕ) (xs ys after : List ℕ) → SpelledAt text at (xs ++ ys) after → SpelledAt text (at + byte_len xs) ys after
  back at xs ys after s =
      record {
        before = s.before ++ xs;
        is = s.is ∙ (ap (λ t. s.before ++ t) (append_assoc xs ys after) ∙ sym (append_assoc s.before xs (ys ++ after)));
        place = byte_len_joined s.before xs ∙ ap (λ n. n + byte_len xs) s.place;
      }

  back_to : (at place : ℕ) (xs ys after : List ℕ) → at + byte_len xs ≡ place → SpelledAt text at (xs ++ ys) after
      → SpelledAt text place ys after
  back_to at place xs ys after e s = subst (λ (n : ℕ). SpelledAt text n ys after) e (back at xs ys after s)

  -- ---- flow nodes

  mutual
    flow_spelled : (f : Flow) (n : ℕ) (c : FlowContext) (bol : Bool) (at : ℕ) (after : List ℕ)
        → SpelledAt text at (flow_text f) after → Each (flow_places f n c bol at after)
    flow_spelled (scalar x) n c bol at after s = first_and (flow_at n c bol at (scalar x) after) [] s no_places
    flow_spelled (seq gap es) n c bol at after s =
        let open_text : List ℕ = codes "[" ++ gap_text gap in
        let line : Bool = starts_line false (gap_text gap) in
        let place : ℕ = at + 1 + byte_len (gap_text gap) in
        let l = byte_len_joined (codes "[") (gap_text gap) in
        let inner : SpelledAt text place (entries_text es) (codes "]" ++ after) =
        back_to at place open_text (entries_text es) (codes "]" ++ after) (omega (arith, l))
        (prefix at (open_text ++ entries_text es) (codes "]") after s) in
        first_and (flow_at n c bol at (seq gap es) after)
        (entries_places es n (in_flow c) true line place (codes "]" ++ after)) s
        (entries_spelled es n (in_flow c) true line place (codes "]" ++ after) inner)
    flow_spelled (map gap es) n c bol at after s =
        let open_text : List ℕ = codes "{" ++ gap_text gap in
        let line : Bool = starts_line false (gap_text gap) in
        let place : ℕ = at + 1 + byte_len (gap_text gap) in
        let l = byte_len_joined (codes "{") (gap_text gap) in
        let inner : SpelledAt text place (entries_text es) (codes "}" ++ after) =
        back_to at place open_text (entries_text es) (codes "}" ++ after) (omega (arith, l))
        (prefix at (open_text ++ entries_text es) (codes "}") after s) in
        first_and (flow_at n c bol at (map gap es) after)
        (entries_places es n (in_flow c) false line place (codes "}" ++ after)) s
        (entries_spelled es n (in_flow c) false line place (codes "}" ++ after) inner)

    entries_spelled : (es : Entries) (n : ℕ) (d : FlowContext) (in_seq bol : Bool) (at : ℕ) (after : List ℕ)
        → SpelledAt text at (entries_text es) after
        → Each (entries_places es n d in_seq bol at after)
    entries_spelled none n d in_seq bol at after s = no_places
    entries_spelled (last e gap) n d in_seq bol at after s =
        entry_spelled e n d in_seq bol at (gap_text gap ++ after) (prefix at (entry_text e) (gap_text gap) after s)
    entries_spelled (next e before gap_after es) n d in_seq bol at after s =
        let one : List ℕ = entry_text e ++ gap_text before in
        let two : List ℕ = one ++ codes "," in
        let three : List ℕ = two ++ gap_text gap_after in
        let rest : List ℕ = entries_text es ++ after in
        let line : Bool = starts_line false (gap_text gap_after) in
        let later : ℕ = at + byte_len (entry_text e) + byte_len (gap_text before) + 1 + byte_len (gap_text gap_after) in
        let l = len4 (entry_text e) (gap_text before) (codes ",") (gap_text gap_after) in
        let s3 : SpelledAt text at three rest = prefix at three (entries_text es) after s in
        let s2 : SpelledAt text at two (gap_text gap_after ++ rest) = prefix at two (gap_text gap_after) rest s3 in
        let s1 : SpelledAt text at one (codes "," ++ (gap_text gap_after ++ rest)) =
        prefix at one (codes ",") (gap_text gap_after ++ rest) s2 in
        both (entry_places e n d in_seq bol at (gap_text before ++ (codes "," ++ (gap_text gap_after ++ rest))))
        (entries_places es n d in_seq line later after)
        (entry_spelled e n d in_seq bol at (gap_text before ++ (codes "," ++ (gap_text gap_after ++ rest)))
        (prefix at (entry_text e) (gap_text before) (codes "," ++ (gap_text gap_after ++ rest)) s1))
        (entries_spelled es n d in_seq line later after (back_to at later three (entries_text es) after (omega (arith, l)) s))

    entry_spelled : (e : Entry) (n : ℕ) (d : FlowContext) (in_seq bol : Bool) (at : ℕ) (after : List ℕ)
        → SpelledAt text at (entry_text e) after
        → Each (entry_places e n d in_seq bol at after)
    entry_spelled (entry ask key value) n d in_seq bol at after s =
        let rest : List ℕ = value_text value ++ after in
        let b : Bool = if is_some ask then starts_line false (gap_text ask) else bol in
        let place : ℕ = at + byte_len (asked_text ask) in
        let later : ℕ = place + byte_len (flow_text key) in
        let l = byte_len_joined (asked_text ask) (flow_text key) in
        let k : SpelledAt text place (flow_text key) rest =
        back at (asked_text ask) (flow_text key) rest
        (prefix at (asked_text ask ++ flow_text key) (value_text value) after s) in
        both (cond (single_pair in_seq ask value) (flow_places key 0 flow_key bol place rest)
        (flow_places key n d b place rest)) (value_places value n d later after)
        (either (single_pair in_seq ask value) (flow_places key 0 flow_key bol place rest)
        (flow_places key n d b place rest) (flow_spelled key 0 flow_key bol place rest k)
        (flow_spelled key n d b place rest k))
        (value_spelled value n d later after (back_to at later (asked_text ask ++ flow_text key)
        (value_text value) after (omega (arith, l)) s))

    value_spelled : (v : Value) (n : ℕ) (d : FlowContext) (at : ℕ) (after : List ℕ)
        → SpelledAt text at (value_text v) after → Each (value_places v n d at after)
    value_spelled absent n d at after s = no_places
    value_spelled (empty gap) n d at after s = no_places
    value_spelled (given before gap_after f) n d at after s =
        let place : ℕ = at + byte_len (gap_text before) + 1 + byte_len (gap_text gap_after) in
        let l = len3 (gap_text before) (codes ":") (gap_text gap_after) in
        flow_spelled f n d (starts_line false (gap_text gap_after)) place after
        (back_to at place (gap_text before ++ codes ":" ++ gap_text gap_after) (flow_text f) after (omega (arith, l)) s)

  -- ---- block nodes

  mutual
    node_spelled : (n : Node) (m : ℕ) (shallow bol : Bool) (at : ℕ) (after : List ℕ)
        → SpelledAt text at (node_text n) after → Each (node_places n m shallow bol at after)
    node_spelled (block sep b) m shallow bol at after s = first_and (block_at m shallow bol at (block sep b) after) [] s no_places
    node_spelled (flow sep f comments) m shallow bol at after s =
        let rest : List ℕ = comments_text comments ++ after in
        let line : Bool = starts_line bol (sep_text sep) in
        let place : ℕ = at + byte_len (sep_text sep) in
        first_and (block_at m shallow bol at (flow sep f comments) after) (flow_places f m outer line place rest) s
        (flow_spelled f m outer line place rest (back at (sep_text sep) (flow_text f) rest
        (prefix at (sep_text sep ++ flow_text f) (comments_text comments) after s)))
    node_spelled (items comments k is) m shallow bol at after s =
        let place : ℕ = at + byte_len (comments_text comments) + k in
        let l = byte_len_joined (comments_text comments) (spaces k) in
        let w = byte_len-spaces k in
        first_and (block_at m shallow bol at (items comments k is) after) (items_places is k place after) s
        (items_spelled is k place after (back_to at place (comments_text comments ++ spaces k) (items_text is k) after
        (omega (arith, l, w)) s))
    node_spelled (pairs comments k ps) m shallow bol at after s =
        let place : ℕ = at + byte_len (comments_text comments) + k in
        let l = byte_len_joined (comments_text comments) (spaces k) in
        let w = byte_len-spaces k in
        first_and (block_at m shallow bol at (pairs comments k ps) after) (pairs_places ps k (k == 0) place after) s
        (pairs_spelled ps k (k == 0) place after (back_to at place (comments_text comments ++ spaces k)
        (pairs_text ps k) after (omega (arith, l, w)) s))

    items_spelled : (is : Items) (k at : ℕ) (after : List ℕ) → SpelledAt text at (items_text is k) after → Each (items_places is k at after)
    items_spelled (item i) k at after s = indented_spelled i k false (at + 1) after
        (back_to at (at + 1) (codes "-") (indented_text i k) after refl s)
    items_spelled (item_and i is) k at after s =
        let one : List ℕ = codes "-" ++ indented_text i k in
        let two : List ℕ = one ++ spaces k in
        let rest : List ℕ = spaces k ++ (items_text is k ++ after) in
        let later : ℕ = at + 1 + byte_len (indented_text i k) + k in
        let l = len3 (codes "-") (indented_text i k) (spaces k) in
        let w = byte_len-spaces k in
        let s1 : SpelledAt text at one rest = prefix at one (spaces k) (items_text is k ++ after)
        (prefix at two (items_text is k) after s) in
        both (indented_places i k false (at + 1) rest) (items_places is k later after)
        (indented_spelled i k false (at + 1) rest (back_to at (at + 1) (codes "-") (indented_text i k) rest refl s1))
        (items_spelled is k later after (back_to at later two (items_text is k) after (omega (arith, l, w)) s))

    pairs_spelled : (ps : Pairs) (k : ℕ) (bol : Bool) (at : ℕ) (after : List ℕ)
        → SpelledAt text at (pairs_text ps k) after → Each (pairs_places ps k bol at after)
    pairs_spelled (pair p) k bol at after s = pair_spelled p k bol at after s
    pairs_spelled (pair_and p ps) k bol at after s =
        let one : List ℕ = pair_text p k ++ spaces k in
        let rest : List ℕ = spaces k ++ (pairs_text ps k ++ after) in
        let later : ℕ = at + byte_len (pair_text p k) + k in
        let l = byte_len_joined (pair_text p k) (spaces k) in
        let w = byte_len-spaces k in
        both (pair_places p k bol at rest) (pairs_places ps k (k == 0) later after)
        (pair_spelled p k bol at rest (prefix at (pair_text p k) (spaces k) (pairs_text ps k ++ after)
        (prefix at one (pairs_text ps k) after s)))
        (pairs_spelled ps k (k == 0) later after (back_to at later one (pairs_text ps k) after (omega (arith, l, w)) s))

    pair_spelled : (p : Pair) (k : ℕ) (bol : Bool) (at : ℕ) (after : List ℕ) → SpelledAt text at (pair_text p k) after
        → Each (pair_places p k bol at after)
    pair_spelled (asked key value) k bol at after s =
        let one : List ℕ = codes "?" ++ indented_text key k in
        let two : List ℕ = one ++ spaces k in
        let three : List ℕ = two ++ codes ":" in
        let after_colon : List ℕ = indented_text value k ++ after in
        let rest : List ℕ = spaces k ++ (codes ":" ++ after_colon) in
        let later : ℕ = at + 1 + byte_len (indented_text key k) + k + 1 in
        let l = len4 (codes "?") (indented_text key k) (spaces k) (codes ":") in
        let w = byte_len-spaces k in
        let s3 : SpelledAt text at three after_colon = prefix at three (indented_text value k) after s in
        let s2 : SpelledAt text at two (codes ":" ++ after_colon) = prefix at two (codes ":") after_colon s3 in
        let s1 : SpelledAt text at one rest = prefix at one (spaces k) (codes ":" ++ after_colon) s2 in
        both (indented_places key k true (at + 1) rest) (indented_places value k true later after)
        (indented_spelled key k true (at + 1) rest (back_to at (at + 1) (codes "?") (indented_text key k) rest refl s1))
        (indented_spelled value k true later after (back_to at later three (indented_text value k) after (omega (arith, l, w)) s))
    pair_spelled (asked_alone key) k bol at after s =
        indented_spelled key k true (at + 1) after (back_to at (at + 1) (codes "?") (indented_text key k) after refl s)
    pair_spelled (keyed key gap value) k bol at after s =
        let one : List ℕ = flow_text key ++ gap in
        let two : List ℕ = one ++ codes ":" in
        let after_colon : List ℕ = node_text value ++ after in
        let rest : List ℕ = gap ++ (codes ":" ++ after_colon) in
        let later : ℕ = at + byte_len (flow_text key) + byte_len gap + 1 in
        let l = len3 (flow_text key) gap (codes ":") in
        let s2 : SpelledAt text at two after_colon = prefix at two (node_text value) after s in
        let s1 : SpelledAt text at one (codes ":" ++ after_colon) = prefix at one (codes ":") after_colon s2 in
        both (flow_places key 0 block_key bol at rest) (node_places value (suc k) true false later after)
        (flow_spelled key 0 block_key bol at rest (prefix at (flow_text key) gap (codes ":" ++ after_colon) s1))
        (node_spelled value (suc k) true false later after (back_to at later two (node_text value) after (omega (arith, l)) s))
    pair_spelled (keyed_alone key gap comments) k bol at after s =
        let one : List ℕ = flow_text key ++ gap in
        let two : List ℕ = one ++ codes ":" in
        let after_colon : List ℕ = comments_text comments ++ after in
        let s2 : SpelledAt text at two after_colon = prefix at two (comments_text comments) after s in
        let s1 : SpelledAt text at one (codes ":" ++ after_colon) = prefix at one (codes ":") after_colon s2 in
        flow_spelled key 0 block_key bol at (gap ++ (codes ":" ++ after_colon))
        (prefix at (flow_text key) gap (codes ":" ++ after_colon) s1)

    indented_spelled : (i : Indented) (k : ℕ) (shallow : Bool) (at : ℕ) (after : List ℕ)
        → SpelledAt text at (indented_text i k) after → Each (indented_places i k shallow at after)
    indented_spelled (compact_items w is) k shallow at after s =
        let width = byte_len-spaces w in
        items_spelled is (k + 1 + w) (at + w) after
        (back_to at (at + w) (spaces w) (items_text is (k + 1 + w)) after (omega (arith, width)) s)
    indented_spelled (compact_pairs w ps) k shallow at after s =
        let width = byte_len-spaces w in
        pairs_spelled ps (k + 1 + w) false (at + w) after
        (back_to at (at + w) (spaces w) (pairs_text ps (k + 1 + w)) after (omega (arith, width)) s)
    indented_spelled (node n) k shallow at after s = node_spelled n (suc k) shallow false at after s
    indented_spelled (omitted comments) k shallow at after s = no_places

  -- ---- streams

  explicit_spelled : (x : Explicit) (at : ℕ) (after : List ℕ) → SpelledAt text at (explicit_text x) after
      → Each (explicit_places x at after)
  explicit_spelled (content n) at after s = node_spelled n 0 false false (at + 3) after
      (back_to at (at + 3) (codes "---") (node_text n) after refl s)
  explicit_spelled (nothing comments) at after s = no_places

  document_spelled : (d : Document) (bol : Bool) (at : ℕ) (after : List ℕ) → SpelledAt text at (document_text d) after
      → Each (document_places d bol at after)
  document_spelled (bare n) bol at after s = node_spelled n 0 false bol at after s
  document_spelled (explicit x) bol at after s = explicit_spelled x at after s
  document_spelled (directed blank version comments x) bol at after s =
      let words : List ℕ = directive_text blank version comments in
      explicit_spelled x (at + byte_len words) after (back at words (explicit_text x) after s)

  optional_spelled : (d : Option Document) (at : ℕ) (after : List ℕ)
      → SpelledAt text at (optional document_text d) after → Each (optional_document_places d at after)
  optional_spelled None at after s = no_places
  optional_spelled (Some d) at after s = document_spelled d true at after s

  part_spelled : (p : Part) (at : ℕ) (after : List ℕ) → SpelledAt text at (part_text p) after → Each (part_places p at after)
  part_spelled (suffixes one more before d) at after s =
      let words : List ℕ = suffix_text one ++ flat_map suffix_text more ++ comments_text before in
      let place : ℕ = at + byte_len (suffix_text one) + byte_len (flat_map suffix_text more) + byte_len (comments_text before) in
      let l = len3 (suffix_text one) (flat_map suffix_text more) (comments_text before) in
      optional_spelled d place after (back_to at place words (optional document_text d) after (omega (arith, l)) s)
  part_spelled (line e) at after s = no_places
  part_spelled (further x) at after s = explicit_spelled x at after s

  parts_spelled : (ps : List Part) (at : ℕ) → SpelledAt text at (parts_text ps) [] → Each (parts_places ps at)
  parts_spelled [] at s = no_places
  parts_spelled (p ∷ ps) at s =
      let later : ℕ = at + byte_len (part_text p) in
      both (part_places p at (parts_text ps)) (parts_places ps later)
      (part_spelled p at (parts_text ps) (subst (λ (t : List ℕ). SpelledAt text at (part_text p) t)
      (append-nil (parts_text ps)) (prefix at (part_text p) (parts_text ps) [] s)))
      (parts_spelled ps later (back at (part_text p) (parts_text ps) [] s))

-- a text is spelled at its start
whole : (text : List ℕ) → SpelledAt text 0 text []
whole text = record { before = []; is = sym (append-nil text); place = refl }

-- all nodes of a stream are spelled at their places
pub stream_spelled : (s : Stream) → All (NodeSpelled (stream_text s)) (stream_places s)
stream_spelled s =
    let text : List ℕ = stream_text s in
    let one : List ℕ = mark_text s.mark ++ comments_text s.prefix in
    let two : List ℕ = one ++ optional document_text s.document in
    let at : ℕ = (if s.mark then 3 else 0) + byte_len (comments_text s.prefix) in
    let later : ℕ = at + byte_len (optional document_text s.document) in
    let l = byte_len_joined (mark_text s.mark) (comments_text s.prefix) in
    let k = byte_len_joined one (optional document_text s.document) in
    let m = mark_len s.mark in
    let s2 : SpelledAt text 0 two (parts_text s.parts) =
    subst (λ (t : List ℕ). SpelledAt text 0 two t) (append-nil (parts_text s.parts))
    (prefix text 0 two (parts_text s.parts) [] (whole text)) in
    both text (optional_document_places s.document at (parts_text s.parts)) (parts_places s.parts later)
    (optional_spelled text s.document at (parts_text s.parts)
    (back_to text 0 at one (optional document_text s.document) (parts_text s.parts) (omega (arith, l, m)) s2))
    (parts_spelled text s.parts later (back_to text 0 later two (parts_text s.parts) [] (omega (arith, l, k, m)) (whole text)))
