-- Whether a line starts at each node of a presentation that fits.
use Rattle.std.proofs.Common.{ap, append-nil, append_assoc, arith, length, length-append, refl, subst, sym, ◌∙◌, ◌≡◌, ◌≤◌}
use Rattle.std.specs.Prelude.{All, Bool, List, None, Option, Some, [], codes, cond, false, flat_map, if◌then◌else◌, nat_le, not, suc, true}
use Rattle.std.specs.Prelude.{zero, ℕ, ◌&&◌, ◌++◌, ◌+◌, ◌==◌, ◌∷◌}
use Rattle.yaml_recognizers.proofs.Prelude.{and_from, and_parts, false≢true, or_left, nat_tests, All-append, All-cons, All-nil, line_break}
use Rattle.yaml_recognizers.proofs.Prelude.{ns, Indented, Items, Node, Pair, Pairs, asked, asked_alone, block, compact_items, compact_pairs}
use Rattle.yaml_recognizers.proofs.Prelude.{flow, indented_fits, indented_text, is_omitted, item, item_and, items, items_fit, items_text}
use Rattle.yaml_recognizers.proofs.Prelude.{keyed, keyed_alone, node, node_fits, node_text, omitted, pair, pair_and, pair_fits, pair_text}
use Rattle.yaml_recognizers.proofs.Prelude.{pairs, pairs_fit, pairs_text, BlockScalar, Body, BlockEmptyLine, Header, TextLine}
use Rattle.yaml_recognizers.proofs.Prelude.{bare_block_text, block_fits, block_text, body_fits, body_text, chomping_text, digit_text}
use Rattle.yaml_recognizers.proofs.Prelude.{block_empty_text, block_empties_text, header_text, text_line_fits, text_line_text}
use Rattle.yaml_recognizers.proofs.Prelude.{text_lines_fit, text_lines_text, trail_fits, Entries, Entry, Flow, Value, absent, empty}
use Rattle.yaml_recognizers.proofs.Prelude.{entries_text, entry, entry_text, flow_text, given, last, map, next, none, scalar, seq}
use Rattle.yaml_recognizers.proofs.Prelude.{single_pair, value_text, FlowContext, block_key, flow_key, in_flow, outer, LineEnd, break_text}
use Rattle.yaml_recognizers.proofs.Prelude.{comments_fit, comments_text, gap_text, line_end_text, sep_text, stop_fits, comment_text}
use Rattle.yaml_recognizers.proofs.Prelude.{Document, Explicit, Part, Stream, bare, content, directed, directive_text, document_fits}
use Rattle.yaml_recognizers.proofs.Prelude.{document_text, explicit, explicit_fits, explicit_text, fits, further, line, mark_text, nothing}
use Rattle.yaml_recognizers.proofs.Prelude.{optional_document_fits, part_fits, part_text, parts_fit, parts_text, stream_text, suffix_fits}
use Rattle.yaml_recognizers.proofs.Prelude.{suffix_text, suffixes, suffixes_fit, byte_len, first, is_empty, optional, spaces, starts_line}
use Rattle.yaml_recognizers.proofs.{Flow.FlowNodesForm.{flow_form, flow_form_fits, flow_form_text}, Basics.LineStarts.break_starts}
use Rattle.yaml_recognizers.proofs.Basics.LineStarts.{comments_at, comments_start, line_not_end, line_or_end, starts_joined, stop_starts}
use Rattle.yaml_recognizers.proofs.Documents.{StreamsBegin.{block_long, flow_long, items_long, pairs_long}, StreamsForm.line_wider}
use Rattle.yaml_recognizers.specs.NodePlaces.{NodePlace, NodeStarts, StartsAt, block_at, document_places, entries_places, entry_places}
use Rattle.yaml_recognizers.specs.NodePlaces.{explicit_places, flow_at, flow_places, indented_places, items_places, node_places}
use Rattle.yaml_recognizers.specs.NodePlaces.{optional_document_places, pair_places, pairs_places, part_places, parts_places, stream_places}
use Rattle.yaml_recognizers.specs.NodePlaces.{value_places}

-- ---- the last character says whether a line starts after a text

-- whether a line starts after a text is decided by its last character
after_last : (bol : Bool) (xs : List ℕ) (x : ℕ) → starts_line bol (xs ++ x ∷ []) ≡ line_break x
after_last bol [] x = refl
after_last bol (y ∷ ys) x = after_last (line_break y) ys x

-- after a sign that is no break, with more after it
after_sign : (bol : Bool) (xs : List ℕ) (x : ℕ) (ys : List ℕ) → line_break x ≡ false
    → starts_line bol (xs ++ x ∷ [] ++ ys) ≡ starts_line false ys
after_sign bol xs x ys h = starts_joined bol (xs ++ x ∷ []) ys ∙ ap (λ b. starts_line b ys) (after_last bol xs x ∙ h)

-- no line starts after spaces within a line
no_start : (j : ℕ) → starts_line false (spaces j) ≡ false
no_start zero = refl
no_start (suc j) = no_start j

-- after spaces at the start of a line one starts if there are none
spaces_start : (k : ℕ) → starts_line true (spaces k) ≡ (k == 0)
spaces_start zero = refl
spaces_start (suc k) = no_start k ∙ sym (no_zero k)
  where
    no_zero : (j : ℕ) → (suc j == 0) ≡ false
    no_zero j = grind (arith, nat_tests)

-- what has a character isn't empty
long_filled : (xs : List ℕ) → 1 ≤ length xs → is_empty xs ≡ false
long_filled [] h = absurd (omega arith)
long_filled (x ∷ xs) h = refl

-- two texts, joined, aren't empty if the first isn't
filled_left : (xs ys : List ℕ) → is_empty xs ≡ false → is_empty (xs ++ ys) ≡ false
filled_left [] ys h = absurd (false≢true (sym h))
filled_left (x ∷ xs) ys h = refl

-- nor if the second isn't
filled_right : (xs ys : List ℕ) → is_empty ys ≡ false → is_empty (xs ++ ys) ≡ false
filled_right [] ys h = h
filled_right (x ∷ xs) ys h = refl

-- ---- a part that fits ends its last line, unless the text ends

-- a line starts after the text, or nothing comes after it
abbrev Ends : Bool → List ℕ → List ℕ → Type 0
Ends bol text after = line_or_end (starts_line bol text) after ≡ true

-- two texts, joined, end as the second does
joined : (bol : Bool) (xs ys after : List ℕ) → Ends (starts_line bol xs) ys after → Ends bol (xs ++ ys) after
joined bol xs ys after h = subst (λ (b : Bool). line_or_end b after ≡ true) (sym (starts_joined bol xs ys)) h

-- comments after which a line starts, where one starts before them or there are any
comments_end : (es : List LineEnd) (bol : Bool) (after : List ℕ) → comments_fit true es after ≡ true
    → line_or_end bol (comments_text es ++ after) ≡ true → Ends bol (comments_text es) after
comments_end es bol after h l = comments_start bol es after (comments_at bol es after h l)

-- comments that fit within a line fit at the start of one
fit_wider : (es : List LineEnd) (bol : Bool) (after : List ℕ) → comments_fit false es after ≡ true → comments_fit bol es after ≡ true
fit_wider es false after h = h
fit_wider [] true after h = refl
fit_wider (e ∷ es) true after h = let p = and_parts _ _ h in and_from _ _ (line_wider false e (comments_text es ++ after) p.0) p.1

-- comments end at the end of a line, or of the text
line_comments_end : (es : List LineEnd) (bol : Bool) (after : List ℕ) → comments_fit false es after ≡ true
    → Ends bol (comments_text es) after
line_comments_end es bol after h = comments_start bol es after (fit_wider es bol after h)

-- so does a line's end
line_end_ends : (e : LineEnd) (bol : Bool) (after : List ℕ) → stop_fits e.stop after ≡ true → Ends bol (line_end_text e) after
line_end_ends e bol after h = joined bol (e.blank ++ optional comment_text e.comment)
    (optional break_text e.stop) after (stop_starts _ e.stop after h)

-- so do empty lines
empties_end : (gs : List BlockEmptyLine) (bol : Bool) (after : List ℕ)
    → line_or_end bol (block_empties_text gs ++ after) ≡ true → Ends bol (block_empties_text gs) after
empties_end [] bol after h = h
empties_end (g ∷ gs) bol after h =
    let start : starts_line bol (block_empty_text g) ≡ true = starts_joined bol (spaces g.width) (break_text g.stop)
    ∙ break_starts (starts_line bol (spaces g.width)) g.stop in
    joined bol (block_empty_text g) (block_empties_text gs) after
    (empties_end gs (starts_line bol (block_empty_text g)) after (or_left _ _ start))

-- so do text lines
text_lines_end : (q : ℕ) (ls : List TextLine) (bol : Bool) (after : List ℕ) → text_lines_fit q ls after ≡ true
    → line_or_end bol (text_lines_text q ls ++ after) ≡ true
    → Ends bol (text_lines_text q ls) after
text_lines_end q [] bol after f h = h
text_lines_end q (l ∷ ls) bol after f h =
    let later : List ℕ = text_lines_text q ls ++ after in
    let p : (text_line_fits q l later ≡ true) × (text_lines_fit q ls after ≡ true) = and_parts _ _ f in
    let stop : stop_fits l.stop (block_empties_text l.empties ++ later) ≡ true = (and_parts _ _ (and_parts _ _ p.0).0).1 in
    let words : List ℕ = spaces q ++ l.text in
    let one : Ends bol (words ++ optional break_text l.stop) (block_empties_text l.empties ++ later) =
    joined bol words (optional break_text l.stop) (block_empties_text l.empties ++ later)
    (stop_starts _ l.stop (block_empties_text l.empties ++ later) stop) in
    let two : Ends bol (text_line_text q l) later =
    joined bol (words ++ optional break_text l.stop) (block_empties_text l.empties) later
    (empties_end l.empties _ later one) in
    joined bol (text_line_text q l) (text_lines_text q ls) after (text_lines_end q ls (starts_line bol (text_line_text q l)) after p.1 two)

-- so do the comments after a block scalar
trail_end : (q : ℕ) (es : List LineEnd) (bol : Bool) (after : List ℕ) → trail_fits q es after ≡ true
    → line_or_end bol (comments_text es ++ after) ≡ true → Ends bol (comments_text es) after
trail_end q [] bol after f h = h
trail_end q (e ∷ es) bol after f h = comments_end (e ∷ es) bol after (and_parts _ _ f).1 h

-- so does a header
header_end : (h : Header) (bol : Bool) (after : List ℕ) → stop_fits (h.line_end).stop after ≡ true → Ends bol (header_text h) after
header_end h bol after f =
    let words : List ℕ = (if h.folded then codes ">" else codes "|")
    ++ (if h.digit_last then chomping_text h.chomping ++ optional digit_text h.digit
    else optional digit_text h.digit ++ chomping_text h.chomping) in
    joined bol words (line_end_text h.line_end) after (line_end_ends h.line_end (starts_line bol words) after f)

-- so does a body
body_end : (digit : Option ℕ) (m : ℕ) (b : Body) (bol : Bool) (after : List ℕ) → body_fits digit m b after ≡ true
    → line_or_end bol (body_text b ++ after) ≡ true → Ends bol (body_text b) after
body_end digit m b bol after f h =
    let texts : List ℕ = text_lines_text b.indent b.texts in
    let lines : text_lines_fit b.indent b.texts after ≡ true = (and_parts _ _ (and_parts _ _ f).0).1 in
    let empties : Ends bol (block_empties_text b.empties) (texts ++ after) =
    empties_end b.empties bol (texts ++ after) (subst (λ (t : List ℕ). line_or_end bol t ≡ true)
    (append_assoc (block_empties_text b.empties) texts after) h) in
    joined bol (block_empties_text b.empties) texts after (text_lines_end b.indent b.texts _ after lines empties)

-- so does a block scalar
block_end : (m : ℕ) (b : BlockScalar) (bol : Bool) (after : List ℕ) → block_fits m b after ≡ true → Ends bol (block_text b) after
block_end m b bol after h =
    let rest : List ℕ = comments_text b.trail ++ after in
    let p = and_parts _ _ h in
    let q = and_parts _ _ p.0 in
    let stop : stop_fits ((b.header).line_end).stop (body_text b.body ++ rest) ≡ true = (and_parts _ _ (and_parts _ _ q.0).1).1 in
    let one : Ends bol (header_text b.header) (body_text b.body ++ rest) = header_end b.header bol _ stop in
    let two : Ends bol (bare_block_text b) rest =
    joined bol (header_text b.header) (body_text b.body) rest (body_end (b.header).digit m b.body _ rest q.1 one) in
    joined bol (bare_block_text b) (comments_text b.trail) after (trail_end (b.body).indent b.trail _ after p.1 two)

mutual
  -- so does a node
  node_ends : (n : Node) (m : ℕ) (shallow bol start : Bool) (after : List ℕ) → node_fits n m shallow bol after ≡ true
      → Ends start (node_text n) after
  node_ends (block sep b) m shallow bol start after h =
      joined start (sep_text sep) (block_text b) after (block_end m b _ after (and_parts _ _ h).1)
  node_ends (flow sep f comments) m shallow bol start after h =
      joined start (sep_text sep ++ flow_text f) (comments_text comments) after (line_comments_end comments _ after (and_parts _ _ h).1)
  node_ends (items comments k is) m shallow bol start after h =
      joined start (comments_text comments ++ spaces k) (items_text is k) after (items_ends is k _ after (and_parts _ _ h).1)
  node_ends (pairs comments k ps) m shallow bol start after h =
      joined start (comments_text comments ++ spaces k) (pairs_text ps k) after (pairs_ends ps k (k == 0) _ after (and_parts _ _ h).1)

  -- so do items
  items_ends : (is : Items) (k : ℕ) (start : Bool) (after : List ℕ) → items_fit is k after ≡ true → Ends start (items_text is k) after
  items_ends (item i) k start after h = indented_ends i k false false after (and_parts _ _ h).1
  items_ends (item_and i is) k start after h =
      joined start (codes "-" ++ indented_text i k ++ spaces k) (items_text is k) after (items_ends is k _ after (and_parts _ _ h).1)

  -- so do pairs
  pairs_ends : (ps : Pairs) (k : ℕ) (bol start : Bool) (after : List ℕ) → pairs_fit ps k bol after ≡ true
      → Ends start (pairs_text ps k) after
  pairs_ends (pair p) k bol start after h = pair_ends p k bol start after h
  pairs_ends (pair_and p ps) k bol start after h =
      joined start (pair_text p k ++ spaces k) (pairs_text ps k) after (pairs_ends ps k (k == 0) _ after (and_parts _ _ h).1)

  -- so does a pair
  pair_ends : (p : Pair) (k : ℕ) (bol start : Bool) (after : List ℕ) → pair_fits p k bol after ≡ true → Ends start (pair_text p k) after
  pair_ends (asked key value) k bol start after h =
      joined start (codes "?" ++ indented_text key k ++ spaces k ++ codes ":") (indented_text value k) after
      (indented_ends value k true _ after (and_parts _ _ h).1)
  pair_ends (asked_alone key) k bol start after h = indented_ends key k true false after (and_parts _ _ h).1
  pair_ends (keyed key gap value) k bol start after h =
      joined start (flow_text key ++ gap ++ codes ":") (node_text value) after
      (node_ends value (suc k) true false _ after (and_parts _ _ h).1)
  pair_ends (keyed_alone key gap comments) k bol start after h =
      joined start (flow_text key ++ gap ++ codes ":") (comments_text comments) after
      (line_comments_end comments _ after (and_parts _ _ h).1)

  -- so does what comes after a sign
  indented_ends : (i : Indented) (k : ℕ) (shallow start : Bool) (after : List ℕ)
      → indented_fits i k shallow after ≡ true → Ends start (indented_text i k) after
  indented_ends (compact_items s is) k shallow start after h =
      joined start (spaces s) (items_text is (k + 1 + s)) after (items_ends is (k + 1 + s) _ after (and_parts _ _ h).1)
  indented_ends (compact_pairs s ps) k shallow start after h =
      joined start (spaces s) (pairs_text ps (k + 1 + s)) after (pairs_ends ps (k + 1 + s) false _ after (and_parts _ _ h).1)
  indented_ends (node n) k shallow start after h = node_ends n (suc k) shallow false start after h
  indented_ends (omitted comments) k shallow start after h = line_comments_end comments start after h

-- a node has a character
node_filled : (n : Node) (m : ℕ) (shallow bol : Bool) (after : List ℕ) → node_fits n m shallow bol after ≡ true → 1 ≤ length (node_text n)
node_filled (block sep b) m shallow bol after h = omega (arith, block_long b, length-append (sep_text sep) (block_text b))
node_filled (flow sep f comments) m shallow bol after h =
    let rest : List ℕ = comments_text comments ++ after in
    let l : 1 ≤ length (flow_text (flow_form f)) =
    flow_long (flow_form f) m outer (starts_line bol (sep_text sep)) rest
    (flow_form_fits f m outer (starts_line bol (sep_text sep)) rest (and_parts _ _ (and_parts _ _ h).0).1) in
    let same : length (flow_text (flow_form f)) ≡ length (flow_text f) = ap length (flow_form_text f) in
    omega (arith, l, same, length-append (sep_text sep ++ flow_text f) (comments_text comments), length-append (sep_text sep) (flow_text f))
node_filled (items comments k is) m shallow bol after h =
    omega (arith, items_long is k, length-append (comments_text comments ++ spaces k) (items_text is k))
node_filled (pairs comments k ps) m shallow bol after h =
    omega (arith, pairs_long ps k, length-append (comments_text comments ++ spaces k) (pairs_text ps k))

-- ---- the nodes of a part

module _ (mark : Bool) (text : List ℕ) where
  abbrev Each : List NodePlace → Type 0
  Each places = All (NodeStarts mark text) places

  abbrev At : Bool → List ℕ → List ℕ → Type 0
  At bol part after = StartsAt mark text bol part after

  both : (xs ys : List NodePlace) → Each xs → Each ys → Each (xs ++ ys)
  both xs ys h k = All-append (NodeStarts mark text) xs ys h k

  first_and : (x : NodePlace) (xs : List NodePlace) → NodeStarts mark text x → Each xs → Each (x ∷ xs)
  first_and x xs h k = All-cons (NodeStarts mark text) x xs h k

  no_places : Each []
  no_places = All-nil (NodeStarts mark text)

  either : (b : Bool) (xs ys : List NodePlace) → Each xs → Each ys → Each (cond b xs ys)
  either true xs ys h k = h
  either false xs ys h k = k

  prefix : (bol : Bool) (xs ys after : List ℕ) → At bol (xs ++ ys) after → At bol xs (ys ++ after)
  prefix bol xs ys after s = record {
    before = s.before;
    is = s.is ∙ ap (λ t. mark_text mark ++ (s.before ++ t)) (append_assoc xs ys after);
    starts = s.starts;
  }

  back : (bol later : Bool) (xs ys after : List ℕ) → starts_line bol xs ≡ later → At bol (xs ++ ys) after → At later ys after
  back bol later xs ys after e s =
      record {
        before = s.before ++ xs;
        is = s.is ∙ ap (λ t. mark_text mark ++ t)
            (ap (λ t. s.before ++ t) (append_assoc xs ys after) ∙ sym (append_assoc s.before xs (ys ++ after)));
        starts = starts_joined true s.before xs ∙ (ap (λ b. starts_line b xs) s.starts ∙ e);
      }

  -- ---- flow nodes

  mutual
    flow_started : (f : Flow) (n : ℕ) (c : FlowContext) (bol : Bool) (at : ℕ) (after : List ℕ)
        → At bol (flow_text f) after → Each (flow_places f n c bol at after)
    flow_started (scalar x) n c bol at after s = first_and (flow_at n c bol at (scalar x) after) [] s no_places
    flow_started (seq gap es) n c bol at after s =
        let open_text : List ℕ = codes "[" ++ gap_text gap in
        let line : Bool = starts_line false (gap_text gap) in
        let inner : At line (entries_text es) (codes "]" ++ after) =
        back bol line open_text (entries_text es) (codes "]" ++ after) refl
        (prefix bol (open_text ++ entries_text es) (codes "]") after s) in
        first_and (flow_at n c bol at (seq gap es) after)
        (entries_places es n (in_flow c) true line _ (codes "]" ++ after)) s
        (entries_started es n (in_flow c) true line _ (codes "]" ++ after) inner)
    flow_started (map gap es) n c bol at after s =
        let open_text : List ℕ = codes "{" ++ gap_text gap in
        let line : Bool = starts_line false (gap_text gap) in
        let inner : At line (entries_text es) (codes "}" ++ after) =
        back bol line open_text (entries_text es) (codes "}" ++ after) refl
        (prefix bol (open_text ++ entries_text es) (codes "}") after s) in
        first_and (flow_at n c bol at (map gap es) after)
        (entries_places es n (in_flow c) false line _ (codes "}" ++ after)) s
        (entries_started es n (in_flow c) false line _ (codes "}" ++ after) inner)

    entries_started : (es : Entries) (n : ℕ) (d : FlowContext) (in_seq bol : Bool) (at : ℕ) (after : List ℕ)
        → At bol (entries_text es) after → Each (entries_places es n d in_seq bol at after)
    entries_started none n d in_seq bol at after s = no_places
    entries_started (last e gap) n d in_seq bol at after s =
        entry_started e n d in_seq bol at (gap_text gap ++ after) (prefix bol (entry_text e) (gap_text gap) after s)
    entries_started (next e before gap_after es) n d in_seq bol at after s =
        let one : List ℕ = entry_text e ++ gap_text before in
        let two : List ℕ = one ++ codes "," in
        let three : List ℕ = two ++ gap_text gap_after in
        let rest : List ℕ = entries_text es ++ after in
        let line : Bool = starts_line false (gap_text gap_after) in
        let s2 : At bol two (gap_text gap_after ++ rest) =
        prefix bol two (gap_text gap_after) rest (prefix bol three (entries_text es) after s) in
        let s1 : At bol one (codes "," ++ (gap_text gap_after ++ rest)) = prefix bol one (codes ",") (gap_text gap_after ++ rest) s2 in
        both (entry_places e n d in_seq bol at (gap_text before ++ (codes "," ++ (gap_text gap_after ++ rest))))
        (entries_places es n d in_seq line _ after)
        (entry_started e n d in_seq bol at (gap_text before ++ (codes "," ++ (gap_text gap_after ++ rest)))
        (prefix bol (entry_text e) (gap_text before) (codes "," ++ (gap_text gap_after ++ rest)) s1))
        (entries_started es n d in_seq line _ after
        (back bol line three (entries_text es) after (after_sign bol one 44 (gap_text gap_after) refl) s))

    entry_started : (e : Entry) (n : ℕ) (d : FlowContext) (in_seq bol : Bool) (at : ℕ) (after : List ℕ)
        → At bol (entry_text e) after → Each (entry_places e n d in_seq bol at after)
    entry_started (entry None key value) n d in_seq bol at after s =
        let rest : List ℕ = value_text value ++ after in
        let place : ℕ = at + byte_len [] in
        let k : At bol (flow_text key) rest = prefix bol (flow_text key) (value_text value) after s in
        both (cond (single_pair in_seq None value) (flow_places key 0 flow_key bol place rest)
        (flow_places key n d bol place rest)) (value_places value n d (place + byte_len (flow_text key)) after)
        (either (single_pair in_seq None value) (flow_places key 0 flow_key bol place rest)
        (flow_places key n d bol place rest) (flow_started key 0 flow_key bol place rest k)
        (flow_started key n d bol place rest k))
        (value_started value n d (starts_line bol (flow_text key)) (place + byte_len (flow_text key)) after
        (back bol (starts_line bol (flow_text key)) (flow_text key) (value_text value) after refl s))
    entry_started (entry (Some sep) key value) n d in_seq bol at after s =
        let ask : List ℕ = codes "?" ++ sep_text sep in
        let rest : List ℕ = value_text value ++ after in
        let place : ℕ = at + byte_len ask in
        let line : Bool = starts_line false (sep_text sep) in
        let k : At line (flow_text key) rest = back bol line ask (flow_text key) rest refl
        (prefix bol (ask ++ flow_text key) (value_text value) after s) in
        both (flow_places key n d line place rest) (value_places value n d (place + byte_len (flow_text key)) after)
        (flow_started key n d line place rest k)
        (value_started value n d (starts_line bol (ask ++ flow_text key)) (place + byte_len (flow_text key)) after
        (back bol (starts_line bol (ask ++ flow_text key)) (ask ++ flow_text key) (value_text value) after refl s))

    value_started : (v : Value) (n : ℕ) (d : FlowContext) (start : Bool) (at : ℕ) (after : List ℕ)
        → At start (value_text v) after → Each (value_places v n d at after)
    value_started absent n d start at after s = no_places
    value_started (empty gap) n d start at after s = no_places
    value_started (given before gap_after f) n d start at after s =
        let line : Bool = starts_line false (gap_text gap_after) in
        flow_started f n d line _ after (back start line (gap_text before ++ codes ":" ++ gap_text gap_after)
        (flow_text f) after (after_sign start (gap_text before) 58 (gap_text gap_after) refl) s)

  -- ---- block nodes

  after_comments : (bol : Bool) (comments : List LineEnd) (k : ℕ) (rest : List ℕ)
      → comments_fit bol comments (spaces k ++ rest) ≡ true → is_empty rest ≡ false
      → starts_line bol (comments_text comments ++ spaces k) ≡ (k == 0)
  after_comments bol comments k rest h e =
      starts_joined bol (comments_text comments) (spaces k)
      ∙ (ap (λ b. starts_line b (spaces k)) (line_not_end (starts_line bol (comments_text comments))
      (spaces k ++ rest) (comments_start bol comments (spaces k ++ rest) h) (filled_right (spaces k) rest e)) ∙ spaces_start k)

  mutual
    node_started : (n : Node) (m : ℕ) (shallow bol : Bool) (at : ℕ) (after : List ℕ)
        → node_fits n m shallow bol after ≡ true → At bol (node_text n) after
        → Each (node_places n m shallow bol at after)
    node_started (block sep b) m shallow bol at after h s = first_and (block_at m shallow bol at (block sep b) after) [] s no_places
    node_started (flow sep f comments) m shallow bol at after h s =
        let rest : List ℕ = comments_text comments ++ after in
        let line : Bool = starts_line bol (sep_text sep) in
        first_and (block_at m shallow bol at (flow sep f comments) after) (flow_places f m outer line _ rest) s
        (flow_started f m outer line _ rest (back bol line (sep_text sep) (flow_text f) rest refl
        (prefix bol (sep_text sep ++ flow_text f) (comments_text comments) after s)))
    node_started (items comments k is) m shallow bol at after h s =
        let before : List ℕ = comments_text comments ++ spaces k in
        first_and (block_at m shallow bol at (items comments k is) after) (items_places is k _ after) s
        (items_started is k (starts_line bol before) _ after (and_parts _ _ h).1
        (back bol (starts_line bol before) before (items_text is k) after refl s))
    node_started (pairs comments k ps) m shallow bol at after h s =
        let rest : List ℕ = pairs_text ps k ++ after in
        let p : (comments_fit bol comments (spaces k ++ rest) && nat_le m k ≡ true)
        × (pairs_fit ps k (k == 0) after ≡ true) = and_parts _ _ h in
        let line : starts_line bol (comments_text comments ++ spaces k) ≡ (k == 0) =
        after_comments bol comments k rest (and_parts _ _ p.0).0
        (filled_left (pairs_text ps k) after (long_filled (pairs_text ps k) (pairs_long ps k))) in
        first_and (block_at m shallow bol at (pairs comments k ps) after) (pairs_places ps k (k == 0) _ after) s
        (pairs_started ps k (k == 0) _ after p.1 (back bol (k == 0) (comments_text comments ++ spaces k) (pairs_text ps k) after line s))

    items_started : (is : Items) (k : ℕ) (start : Bool) (at : ℕ) (after : List ℕ) → items_fit is k after ≡ true
        → At start (items_text is k) after → Each (items_places is k at after)
    items_started (item i) k start at after h s =
        indented_started i k false (at + 1) after (and_parts _ _ h).1
        (back start false (codes "-") (indented_text i k) after refl s)
    items_started (item_and i is) k start at after h s =
        let one : List ℕ = codes "-" ++ indented_text i k in
        let two : List ℕ = one ++ spaces k in
        let rest : List ℕ = spaces k ++ (items_text is k ++ after) in
        let p : (not (first ns (indented_text i k ++ rest)) && indented_fits i k false rest ≡ true)
        × (items_fit is k after ≡ true) = and_parts _ _ h in
        let s1 : At start one rest = prefix start one (spaces k) (items_text is k ++ after) (prefix start two (items_text is k) after s) in
        both (indented_places i k false (at + 1) rest) (items_places is k _ after)
        (indented_started i k false (at + 1) rest (and_parts _ _ p.0).1 (back start false (codes "-") (indented_text i k) rest refl s1))
        (items_started is k (starts_line start two) _ after p.1 (back start (starts_line start two) two (items_text is k) after refl s))

    pairs_started : (ps : Pairs) (k : ℕ) (bol : Bool) (at : ℕ) (after : List ℕ) → pairs_fit ps k bol after ≡ true
        → At bol (pairs_text ps k) after → Each (pairs_places ps k bol at after)
    pairs_started (pair p) k bol at after h s = pair_started p k bol at after h s
    pairs_started (pair_and p ps) k bol at after h s =
        let one : List ℕ = pair_text p k ++ spaces k in
        let more : List ℕ = pairs_text ps k ++ after in
        let rest : List ℕ = spaces k ++ more in
        let q : (pair_fits p k bol rest ≡ true) × (pairs_fit ps k (k == 0) after ≡ true) = and_parts _ _ h in
        let filled : is_empty rest ≡ false = filled_right (spaces k) more
        (filled_left (pairs_text ps k) after (long_filled (pairs_text ps k) (pairs_long ps k))) in
        let starts : starts_line bol (pair_text p k) ≡ true =
        line_not_end (starts_line bol (pair_text p k)) rest (pair_ends p k bol bol rest q.0) filled in
        let line : starts_line bol one ≡ (k == 0) = starts_joined bol (pair_text p k) (spaces k)
        ∙ (ap (λ b. starts_line b (spaces k)) starts ∙ spaces_start k) in
        both (pair_places p k bol at rest) (pairs_places ps k (k == 0) _ after)
        (pair_started p k bol at rest q.0 (prefix bol (pair_text p k) (spaces k) more (prefix bol one (pairs_text ps k) after s)))
        (pairs_started ps k (k == 0) _ after q.1 (back bol (k == 0) one (pairs_text ps k) after line s))

    pair_started : (p : Pair) (k : ℕ) (bol : Bool) (at : ℕ) (after : List ℕ) → pair_fits p k bol after ≡ true
        → At bol (pair_text p k) after → Each (pair_places p k bol at after)
    pair_started (asked key value) k bol at after h s =
        let one : List ℕ = codes "?" ++ indented_text key k in
        let two : List ℕ = one ++ spaces k in
        let three : List ℕ = two ++ codes ":" in
        let after_colon : List ℕ = indented_text value k ++ after in
        let rest : List ℕ = spaces k ++ (codes ":" ++ after_colon) in
        let p : (not (first ns (indented_text key k ++ rest)) && not (is_omitted key) && indented_fits key k true rest
        ≡ true) × (indented_fits value k true after ≡ true) = and_parts _ _ h in
        let s2 : At bol two (codes ":" ++ after_colon) =
        prefix bol two (codes ":") after_colon (prefix bol three (indented_text value k) after s) in
        let s1 : At bol one rest = prefix bol one (spaces k) (codes ":" ++ after_colon) s2 in
        both (indented_places key k true (at + 1) rest) (indented_places value k true _ after)
        (indented_started key k true (at + 1) rest (and_parts _ _ p.0).1 (back bol false (codes "?") (indented_text key k) rest refl s1))
        (indented_started value k true _ after p.1 (back bol false three (indented_text value k) after (after_last bol two 58) s))
    pair_started (asked_alone key) k bol at after h s =
        indented_started key k true (at + 1) after (and_parts _ _ h).1
        (back bol false (codes "?") (indented_text key k) after refl s)
    pair_started (keyed key gap value) k bol at after h s =
        let one : List ℕ = flow_text key ++ gap in
        let two : List ℕ = one ++ codes ":" in
        let after_colon : List ℕ = node_text value ++ after in
        let s1 : At bol one (codes ":" ++ after_colon) =
        prefix bol one (codes ":") after_colon (prefix bol two (node_text value) after s) in
        both (flow_places key 0 block_key bol at (gap ++ (codes ":" ++ after_colon))) (node_places value (suc k) true false _ after)
        (flow_started key 0 block_key bol at (gap ++ (codes ":" ++ after_colon))
        (prefix bol (flow_text key) gap (codes ":" ++ after_colon) s1))
        (node_started value (suc k) true false _ after (and_parts _ _ h).1
        (back bol false two (node_text value) after (after_last bol one 58) s))
    pair_started (keyed_alone key gap comments) k bol at after h s =
        let one : List ℕ = flow_text key ++ gap in
        let two : List ℕ = one ++ codes ":" in
        let after_colon : List ℕ = comments_text comments ++ after in
        let s1 : At bol one (codes ":" ++ after_colon) =
        prefix bol one (codes ":") after_colon (prefix bol two (comments_text comments) after s) in
        flow_started key 0 block_key bol at (gap ++ (codes ":" ++ after_colon))
        (prefix bol (flow_text key) gap (codes ":" ++ after_colon) s1)

    indented_started : (i : Indented) (k : ℕ) (shallow : Bool) (at : ℕ) (after : List ℕ)
        → indented_fits i k shallow after ≡ true → At false (indented_text i k) after
        → Each (indented_places i k shallow at after)
    indented_started (compact_items w is) k shallow at after h s =
        items_started is (k + 1 + w) false (at + w) after (and_parts _ _ h).1
        (back false false (spaces w) (items_text is (k + 1 + w)) after (no_start w) s)
    indented_started (compact_pairs w ps) k shallow at after h s =
        pairs_started ps (k + 1 + w) false (at + w) after (and_parts _ _ h).1
        (back false false (spaces w) (pairs_text ps (k + 1 + w)) after (no_start w) s)
    indented_started (node n) k shallow at after h s = node_started n (suc k) shallow false at after h s
    indented_started (omitted comments) k shallow at after h s = no_places

  -- ---- streams

  explicit_started : (x : Explicit) (bol start : Bool) (at : ℕ) (after : List ℕ) → explicit_fits x bol after ≡ true
      → At start (explicit_text x) after → Each (explicit_places x at after)
  explicit_started (content n) bol start at after h s =
      node_started n 0 false false (at + 3) after (and_parts _ _ h).1 (back start false (codes "---") (node_text n) after refl s)
  explicit_started (nothing comments) bol start at after h s = no_places

  document_started : (d : Document) (bol : Bool) (at : ℕ) (after : List ℕ) → document_fits d bol after ≡ true
      → At bol (document_text d) after → Each (document_places d bol at after)
  document_started (bare n) bol at after h s = node_started n 0 false bol at after h s
  document_started (explicit x) bol at after h s = explicit_started x bol bol at after h s
  document_started (directed blank version comments x) bol at after h s =
      let words : List ℕ = directive_text blank version comments in
      explicit_started x true (starts_line bol words) _ after (and_parts _ _ h).1
      (back bol (starts_line bol words) words (explicit_text x) after refl s)

  document_filled : (d : Document) (bol : Bool) (after : List ℕ) → document_fits d bol after ≡ true → 1 ≤ length (document_text d)
  document_filled (bare n) bol after h = node_filled n 0 false bol after h
  document_filled (explicit (content n)) bol after h = omega arith
  document_filled (explicit (nothing comments)) bol after h = omega arith
  document_filled (directed blank version comments x) bol after h = omega arith

  -- a document after a text that ends its last line, unless nothing comes after it
  optional_started : (d : Option Document) (bol : Bool) (before : List ℕ) (at : ℕ) (after : List ℕ)
      → optional_document_fits d true after ≡ true → Ends bol before (optional document_text d ++ after)
      → At bol (before ++ optional document_text d) after → Each (optional_document_places d at after)
  optional_started None bol before at after h l s = no_places
  optional_started (Some d) bol before at after h l s =
      let filled : is_empty (document_text d ++ after) ≡ false =
      filled_left (document_text d) after (long_filled (document_text d) (document_filled d true after h)) in
      document_started d true at after h (back bol true before (document_text d) after
      (line_not_end (starts_line bol before) (document_text d ++ after) l filled) s)

  suffixes_end : (ss : List (List LineEnd)) (bol : Bool) (after : List ℕ) → suffixes_fit ss after ≡ true
      → line_or_end bol (flat_map suffix_text ss ++ after) ≡ true → Ends bol (flat_map suffix_text ss) after
  suffixes_end [] bol after f h = h
  suffixes_end (x ∷ xs) bol after f h =
      let later : List ℕ = flat_map suffix_text xs ++ after in
      let p : (suffix_fits x true later ≡ true) × (suffixes_fit xs after ≡ true) = and_parts _ _ f in
      joined bol (suffix_text x) (flat_map suffix_text xs) after
      (suffixes_end xs (starts_line bol (suffix_text x)) after p.1
      (joined bol (codes "...") (comments_text x) later (line_comments_end x _ later (and_parts _ _ p.0).1)))

  part_started : (p : Part) (bol : Bool) (at : ℕ) (after : List ℕ) → part_fits p bol after ≡ true
      → At bol (part_text p) after → Each (part_places p at after)
  part_started (suffixes one more before d) bol at after h s =
      let rest : List ℕ = optional document_text d ++ after in
      let words : List ℕ = suffix_text one ++ flat_map suffix_text more in
      let p : (suffix_fits one bol (flat_map suffix_text more ++ (comments_text before ++ rest))
      && suffixes_fit more (comments_text before ++ rest) && comments_fit true before rest ≡ true)
      × (optional_document_fits d true after ≡ true) = and_parts _ _ h in
      let q : (suffix_fits one bol (flat_map suffix_text more ++ (comments_text before ++ rest))
      && suffixes_fit more (comments_text before ++ rest) ≡ true) × (comments_fit true before rest ≡ true) =
      and_parts _ _ p.0 in
      let r : (suffix_fits one bol (flat_map suffix_text more ++ (comments_text before ++ rest)) ≡ true)
      × (suffixes_fit more (comments_text before ++ rest) ≡ true) = and_parts _ _ q.0 in
      let e1 : Ends bol (suffix_text one) (flat_map suffix_text more ++ (comments_text before ++ rest)) =
      joined bol (codes "...") (comments_text one) _ (line_comments_end one _ _ (and_parts _ _ r.0).1) in
      let e2 : Ends bol words (comments_text before ++ rest) =
      joined bol (suffix_text one) (flat_map suffix_text more) (comments_text before ++ rest)
      (suffixes_end more _ (comments_text before ++ rest) r.1 e1) in
      let e3 : Ends bol (words ++ comments_text before) rest =
      joined bol words (comments_text before) rest (comments_end before _ rest q.1 e2) in
      optional_started d bol (words ++ comments_text before) _ after p.1 e3 s
  part_started (line e) bol at after h s = no_places
  part_started (further x) bol at after h s = explicit_started x bol bol at after h s

  parts_started : (ps : List Part) (bol : Bool) (at : ℕ) → parts_fit ps bol [] ≡ true → At bol (parts_text ps) []
      → Each (parts_places ps at)
  parts_started [] bol at h s = no_places
  parts_started (p ∷ ps) bol at h s =
      let q : (part_fits p bol (parts_text ps ++ []) ≡ true) × (parts_fit ps (starts_line bol (part_text p)) [] ≡ true) = and_parts _ _ h in
      both (part_places p at (parts_text ps)) (parts_places ps _)
      (part_started p bol at (parts_text ps) (subst (λ (t : List ℕ). part_fits p bol t ≡ true) (append-nil (parts_text ps)) q.0)
      (subst (λ (t : List ℕ). At bol (part_text p) t) (append-nil (parts_text ps)) (prefix bol (part_text p) (parts_text ps) [] s)))
      (parts_started ps (starts_line bol (part_text p)) _ q.1
      (back bol (starts_line bol (part_text p)) (part_text p) (parts_text ps) [] refl s))

-- a line starts at each node of a stream of which this is said
pub stream_starts : (s : Stream) → fits s ≡ true → All (NodeStarts s.mark (stream_text s)) (stream_places s)
stream_starts s h =
    let text : List ℕ = stream_text s in
    let prefix_text : List ℕ = comments_text s.prefix in
    let document_part : List ℕ = optional document_text s.document in
    let words : List ℕ = prefix_text ++ document_part in
    let bol : Bool = starts_line true words in
    let p : (comments_fit true s.prefix (document_part ++ parts_text s.parts)
    && optional_document_fits s.document true (parts_text s.parts) ≡ true) × (parts_fit s.parts bol [] ≡ true) =
    and_parts _ _ h in
    let q : (comments_fit true s.prefix (document_part ++ parts_text s.parts) ≡ true)
    × (optional_document_fits s.document true (parts_text s.parts) ≡ true) = and_parts _ _ p.0 in
    let regrouped : text ≡ mark_text s.mark ++ ((words ++ parts_text s.parts) ++ []) = simp (append_assoc, append-nil) in
    let whole : StartsAt s.mark text true (words ++ parts_text s.parts) [] = record { before = []; is = regrouped; starts = refl } in
    let first_part : StartsAt s.mark text true words (parts_text s.parts) =
    subst (λ (t : List ℕ). StartsAt s.mark text true words t) (append-nil (parts_text s.parts))
    (prefix s.mark text true words (parts_text s.parts) [] whole) in
    both s.mark text (optional_document_places s.document _ (parts_text s.parts)) (parts_places s.parts _)
    (optional_started s.mark text s.document true prefix_text _ (parts_text s.parts) q.1
    (comments_start true s.prefix (document_part ++ parts_text s.parts) q.0) first_part)
    (parts_started s.mark text s.parts bol _ p.1 (back s.mark text true bol words (parts_text s.parts) [] refl whole))
