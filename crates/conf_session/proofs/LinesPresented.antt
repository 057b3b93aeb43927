-- Lines of keys and texts, and batches of such lines, are a document that reads as their mapping: a presentation of it,
-- which fits and means it.
use Rattle.std.{proofs.Common.{◌≡◌, refl, sym, ◌∙◌, ap, arith, ◌<◌, ◌≤◌, append_assoc, append-nil, subst}, specs.Prelude.{ℕ, suc, ◌+◌}}
use Rattle.std.specs.Prelude.{◌==◌, if◌then◌else◌, Bool, true, false, not, ◌&&◌, ◌||◌, List, [], ◌∷◌, ◌++◌, codes, map, flat_map, length}
use Rattle.std.specs.Prelude.{Some, None}
use Rattle.conf_session.proofs.Prelude.{list_all, and_parts, and_from, or_left, or_right, not-true, not_from_false, le-leb, ltb-false}
use Rattle.conf_session.proofs.Prelude.{leb-true, agree_below, agree_below_at, nat_tests, first, false≢true, is_in, ns, white, indicator}
use Rattle.conf_session.proofs.Prelude.{line_break, IsText, spaces, starts_line, byte_len, sequence, mapping, Members, scalar_of, seq_from}
use Rattle.conf_session.proofs.Prelude.{seq_to, map_from, map_to, document_from, document_to, shape, shapes, tree_shapes, elements_shapes}
use Rattle.conf_session.proofs.Prelude.{members_shapes, IsTreeOf, plain_in_style, key_text, long_key, Presents, CanRead, Limits, Good}
use Rattle.conf_session.{proofs.Prelude.{Gives, stands_alone}, specs.CommandLines.{Spelling, bare, phrase, quoted, single_quoted, Line}}
use Rattle.conf_session.specs.CommandLines.{spelled, bare_char, begins_bare, stands, line_text, lines_text, may_stand, goes_on, is_phrase}
use Rattle.conf_session.specs.CommandLines.{members_of_lines, IsLine, AreLines, Entry, entry_text, entry_members, elements_text}
use Rattle.conf_session.specs.CommandLines.{elements_of_entries, AreEntries, inner_text, Row, one_line, list_under, pairs_under, row_text}
use Rattle.conf_session.specs.CommandLines.{rows_text, row_key, row_tree, members_of_rows, IsKey, IsRow, AreRows, Layout, layout_text}
use Rattle.{conf_session.specs.CommandLines.{layout_members, IsLayout}, yaml_grammar.specs.{Separation.comments_text, FlowScalars.raw}}
use Rattle.yaml_grammar.specs.FlowScalars.{quoted_char_text, quoted_char_fits, quoted_char_value, char_value, plain_text, values, Scalar}
use Rattle.yaml_grammar.specs.FlowScalars.{plain, single, double, scalar_text, scalar_value, scalar_fits, FlowContext, outer, block_key}
use Rattle.yaml_grammar.specs.{FlowScalars.{plain_next, plain_run, safe}, FlowNodes.{scalar, flow_text, flow_fits, short_key}}
use Rattle.yaml_grammar.specs.BlockNodes.{Node, flow, items, pairs, Items, item, item_and, Pairs, pair, pair_and, Pair, keyed}
use Rattle.yaml_grammar.specs.BlockNodes.{compact_pairs, node_text, indented_text, items_text, items_fit, items_events, pair_text}
use Rattle.yaml_grammar.specs.{BlockNodes.{pair_fits, pairs_text, pairs_fit, pairs_events, node_fits, pair_events}, Streams.Stream}
use Rattle.yaml_grammar.specs.Streams.{Document, bare as bare_document, explicit, content, suffixes, stream_text, stream_events, fits}
use Rattle.yaml_grammar.specs.Events.{Event, as_document, as_seq, as_map, seq_end, map_start, map_end, document_end}
use Rattle.yaml_chars.specs.{Classes.{nb_json, in_range}, Signs.{colon, number_sign, space_char}}
use Rattle.yaml_recognizers.proofs.OneStyle.{Presented.{feed, one_space, word_flow}, ScalarsFit.word_flow_fits, Spelled.word_flow_spelled}

-- ---- presentations

-- a text as it is spelled
abbrev pub scalar_as : Spelling → List ℕ → Scalar
scalar_as bare value = plain value []
scalar_as phrase value = plain value []
scalar_as quoted value = double (map raw value) []
scalar_as single_quoted value = single value []

abbrev pair_on : Line → Pair
pair_on l = keyed (scalar (plain l.key [])) [] (flow one_space (scalar (scalar_as l.spelling l.value)) (feed ∷ []))

abbrev pairs_on : Line → List Line → Pairs
pairs_on l [] = pair (pair_on l)
pairs_on l (m ∷ ms) = pair_and (pair_on l) (pairs_on m ms)

abbrev entry_on : Entry → Pairs
entry_on e = pairs_on e.first e.more

abbrev items_on : Entry → List Entry → Items
items_on e [] = item (compact_pairs 1 (entry_on e))
items_on e (d ∷ ds) = item_and (compact_pairs 1 (entry_on e)) (items_on d ds)

-- a pair at the margin
abbrev row_on : Row → Pair
row_on (one_line l) = pair_on l
row_on (list_under key e es) = keyed (scalar (plain key [])) [] (items (feed ∷ []) 2 (items_on e es))
row_on (pairs_under key e) = keyed (scalar (plain key [])) [] (pairs (feed ∷ []) 2 (entry_on e))

abbrev rows_on : Row → List Row → Pairs
rows_on r [] = pair (row_on r)
rows_on r (s ∷ rs) = pair_and (row_on r) (rows_on s rs)

abbrev layout_on : Layout → Pairs
layout_on layout = rows_on layout.first layout.more

-- a line of `---`, or none
abbrev pub marker_text : Bool → List ℕ
marker_text true = codes "---\n"
marker_text false = []

-- the lines, after a line of `---` or without one, and the closing line
abbrev pub document_of : Bool → Layout → List ℕ
document_of marked layout = marker_text marked ++ (layout_text layout ++ codes "...\n")

abbrev document_on : Bool → Pairs → Document
document_on true ps = explicit (content (pairs (feed ∷ []) 0 ps))
document_on false ps = bare_document (pairs [] 0 ps)

abbrev stream_on : Bool → Layout → Stream
stream_on marked layout =
    record {
      mark = false;
      prefix = [];
      document = Some (document_on marked (layout_on layout));
      parts = suffixes (feed ∷ []) [] [] None ∷ [];
    }

-- ---- what they spell

plain_spelled : (value : List ℕ) → flat_map plain_text value ≡ value
plain_spelled [] = refl
plain_spelled (c ∷ cs) = ap (λ t. c ∷ t) (plain_spelled cs)

raw_spelled : (value : List ℕ) → flat_map quoted_char_text (map raw value) ≡ value
raw_spelled [] = refl
raw_spelled (c ∷ cs) = ap (λ t. c ∷ t) (raw_spelled cs)

pub scalar_spelled : (spelling : Spelling) (value : List ℕ) → scalar_text (scalar_as spelling value) ≡ spelled spelling value
scalar_spelled bare value = append-nil _ ∙ plain_spelled value
scalar_spelled phrase value = append-nil _ ∙ plain_spelled value
scalar_spelled quoted value = ap (λ t. 34 ∷ (t ++ (34 ∷ []))) (append-nil _ ∙ raw_spelled value)
scalar_spelled single_quoted value = ap (λ t. 39 ∷ (t ++ (39 ∷ []))) (append-nil _)

pair_spelled : (l : Line) (indent : ℕ) → pair_text (pair_on l) indent ≡ line_text l
pair_spelled l indent =
    ap (λ t. ((t ++ []) ++ codes ":") ++ ((codes " " ++ scalar_text (scalar_as l.spelling l.value)) ++ codes "\n"))
    (append-nil _ ∙ plain_spelled l.key)
    ∙ ap (λ t. (t ++ codes ":") ++ ((codes " " ++ scalar_text (scalar_as l.spelling l.value)) ++ codes "\n")) (append-nil l.key)
    ∙ ap (λ t. (l.key ++ codes ":") ++ ((codes " " ++ t) ++ codes "\n")) (scalar_spelled l.spelling l.value)
    ∙ append_assoc l.key (codes ":") ((codes " " ++ spelled l.spelling l.value) ++ codes "\n")

pairs_spelled : (l : Line) (ls : List Line) (indent : ℕ) → pairs_text (pairs_on l ls) indent ≡ lines_text indent l ls
pairs_spelled l [] indent = pair_spelled l indent
pairs_spelled l (m ∷ ms) indent =
    append_assoc (pair_text (pair_on l) indent) (spaces indent) (pairs_text (pairs_on m ms) indent)
    ∙ ap (λ t. t ++ (spaces indent ++ pairs_text (pairs_on m ms) indent)) (pair_spelled l indent)
    ∙ ap (λ t. line_text l ++ (spaces indent ++ t)) (pairs_spelled m ms indent)

items_spelled : (e : Entry) (es : List Entry) → spaces 2 ++ items_text (items_on e es) 2 ≡ elements_text (e ∷ es)
items_spelled e [] = ap (λ t. codes "  - " ++ t) (pairs_spelled e.first e.more 4 ∙ sym (append-nil (entry_text 4 e)))
items_spelled e (d ∷ ds) =
    ap (λ t. codes "  - " ++ t)
    (append_assoc (pairs_text (entry_on e) 4) (spaces 2) (items_text (items_on d ds) 2)
    ∙ ap (λ t. t ++ (spaces 2 ++ items_text (items_on d ds) 2)) (pairs_spelled e.first e.more 4)
    ∙ ap (λ t. entry_text 4 e ++ t) (items_spelled d ds))

inner_spelled : (l : Line) (ls : List Line) → spaces 2 ++ pairs_text (pairs_on l ls) 2 ≡ inner_text (l ∷ ls)
inner_spelled l [] = ap (λ t. codes "  " ++ t) (pair_spelled l 2 ∙ sym (append-nil (line_text l)))
inner_spelled l (m ∷ ms) =
    ap (λ t. codes "  " ++ t)
    (append_assoc (pair_text (pair_on l) 2) (spaces 2) (pairs_text (pairs_on m ms) 2)
    ∙ λ i. pair_spelled l 2 i ++ inner_spelled m ms i)

-- a key, its `:`, and what is after it
key_spelled : (key rest : List ℕ) → ((flow_text (scalar (plain key [])) ++ []) ++ codes ":") ++ rest ≡ key ++ (codes ":" ++ rest)
key_spelled key rest =
    ap (λ t. ((t ++ []) ++ codes ":") ++ rest) (append-nil _ ∙ plain_spelled key)
    ∙ ap (λ t. (t ++ codes ":") ++ rest) (append-nil key)
    ∙ append_assoc key (codes ":") rest

row_spelled : (r : Row) → pair_text (row_on r) 0 ≡ row_text r
row_spelled (one_line l) = pair_spelled l 0
row_spelled (list_under key e es) =
    key_spelled key (node_text (items (feed ∷ []) 2 (items_on e es))) ∙ ap (λ t. key ++ (codes ":\n" ++ t)) (items_spelled e es)
row_spelled (pairs_under key e) =
    key_spelled key (node_text (pairs (feed ∷ []) 2 (entry_on e)))
    ∙ ap (λ t. key ++ (codes ":\n" ++ t)) (inner_spelled e.first e.more)

rows_spelled : (r : Row) (rs : List Row) → pairs_text (rows_on r rs) 0 ≡ rows_text (r ∷ rs)
rows_spelled r [] = row_spelled r ∙ sym (append-nil (row_text r))
rows_spelled r (s ∷ rs) =
    append_assoc (pair_text (row_on r) 0) [] (pairs_text (rows_on s rs) 0)
    ∙ λ i. row_spelled r i ++ rows_spelled s rs i

layout_spelled : (layout : Layout) → pairs_text (layout_on layout) 0 ≡ layout_text layout
layout_spelled layout = rows_spelled layout.first layout.more

stream_spelled : (marked : Bool) (layout : Layout) → stream_text (stream_on marked layout) ≡ document_of marked layout
stream_spelled true layout = ap (λ t. codes "---\n" ++ (t ++ codes "...\n")) (layout_spelled layout)
stream_spelled false layout = ap (λ t. t ++ codes "...\n") (layout_spelled layout)

-- ---- what fits

-- what holds of a character of a plain text
abbrev in_plain : ℕ → Bool
in_plain c = ns c && not (is_in c (codes ":#")) && not (white c)

bare_low : (c : ℕ) → bare_char c ≡ true → c < 128
bare_low c h =
    let within = and_parts _ _ (and_parts _ _ h).0 in
    let high = leb-true c 126 within.1 in
    omega (arith, high)

after_not : (a b : Bool) → not a || b ≡ true → a ≡ true → b ≡ true
after_not true b e h = e
after_not false b e h = absurd (false≢true h)

pub bare_tells : (c : ℕ) → bare_char c ≡ true → in_plain c ≡ true
bare_tells c h = after_not (bare_char c) (in_plain c)
    (agree_below_at (λ x. not (bare_char x) || in_plain x) (λ x. true) 128 c refl (bare_low c h)) h

alone_low : (c : ℕ) → stands_alone c ≡ true → c < 128
alone_low c h =
    let within = and_parts _ _ (and_parts _ _ h).0 in
    let high = leb-true c 126 within.1 in
    omega (arith, high)

alone_tells : (c : ℕ) → stands_alone c ≡ true → quoted_char_fits (raw c) ≡ true
alone_tells c h =
    after_not (stands_alone c) (quoted_char_fits (raw c))
    (agree_below_at (λ x. not (stands_alone x) || quoted_char_fits (raw x)) (λ x. true) 128 c refl (alone_low c h)) h

-- characters that may follow one another in a plain text
abbrev pub AreSafe : FlowContext → List ℕ → Type 0
AreSafe c xs = list_all (λ x. bare_char x && safe c x) xs ≡ true

run_fits : (c : FlowContext) (prev : ℕ) (xs after : List ℕ) → white prev ≡ false → AreSafe c xs → plain_run c prev xs after ≡ true
run_fits c prev [] after p h = not_from_false _ p
run_fits c prev (x ∷ xs) after p h =
    let q : (bare_char x && safe c x ≡ true) × AreSafe c xs = and_parts _ _ h in
    let own : (bare_char x ≡ true) × (safe c x ≡ true) = and_parts _ _ q.0 in
    let r : (ns x && not (is_in x (codes ":#")) ≡ true) × (not (white x) ≡ true) = and_parts _ _ (bare_tells x own.0) in
    let apart : not (is_in x (codes ":#")) ≡ true = (and_parts _ _ r.0).1 in
    and_from _ _ (or_right (white x) _ (or_left _ _ (or_left _ _ (and_from _ _ own.1 apart))))
    (run_fits c x xs after (not-true _ r.1) q.1)

pub plain_fits : (n : ℕ) (c : FlowContext) (value after : List ℕ) → begins_bare value ≡ true → AreSafe c value
    → scalar_fits n c false (plain value []) after ≡ true
plain_fits n c [] after begins h = absurd (false≢true begins)
plain_fits n c (x ∷ xs) after begins h =
    let q : (bare_char x && safe c x ≡ true) × AreSafe c xs = and_parts _ _ h in
    let own : (bare_char x ≡ true) × (safe c x ≡ true) = and_parts _ _ q.0 in
    let r : (ns x && not (is_in x (codes ":#")) ≡ true) × (not (white x) ≡ true) = and_parts _ _ (bare_tells x own.0) in
    let s : (ns x ≡ true) × (not (is_in x (codes ":#")) ≡ true) = and_parts _ _ r.0 in
    and_from _ _ (and_from _ _ (and_from _ _ refl
    (and_from _ _ (and_from _ _ s.0 (or_left (not (indicator x)) _ begins))
    (run_fits c x xs after (not-true _ r.1) q.1))) refl) refl

-- outside brackets all of them are safe
outer_safe : (xs : List ℕ) → list_all bare_char xs ≡ true → AreSafe outer xs
outer_safe [] h = refl
outer_safe (x ∷ xs) h =
    let q : (bare_char x ≡ true) × (list_all bare_char xs ≡ true) = and_parts _ _ h in
    let r : (ns x && not (is_in x (codes ":#")) ≡ true) × (not (white x) ≡ true) = and_parts _ _ (bare_tells x q.0) in
    and_from _ _ (and_from _ _ q.0 (and_parts _ _ r.0).0) (outer_safe xs q.1)

pub raws_fit : (value : List ℕ) → list_all stands_alone value ≡ true → list_all quoted_char_fits (map raw value) ≡ true
raws_fit [] h = refl
raws_fit (c ∷ cs) h =
    let p : (stands_alone c ≡ true) × (list_all stands_alone cs ≡ true) = and_parts _ _ h in
    and_from _ _ (alone_tells c p.0) (raws_fit cs p.1)

-- what is asked of a printable character
abbrev if_printed : (ℕ → Bool) → ℕ → Bool
if_printed p c = not (in_range 32 126 c) || p c

printed : (p : ℕ → Bool) → agree_below (if_printed p) (λ c. true) 128 ≡ true → (c : ℕ) → in_range 32 126 c ≡ true → p c ≡ true
printed p table c h =
    let high = leb-true c 126 (and_parts _ _ h).1 in
    after_not (in_range 32 126 c) (p c) (agree_below_at (if_printed p) (λ x. true) 128 c table (omega (arith, high))) h

-- it is a space or no whitespace at all
printed_ns : (c : ℕ) → in_range 32 126 c ≡ true → not (c == space_char) ≡ true → ns c && not (white c) ≡ true
printed_ns c h apart =
    or_false (c == space_char) (ns c && not (white c))
    (printed (λ x. (x == space_char) || (ns x && not (white x))) refl c h) apart
  where
    or_false : (a b : Bool) → a || b ≡ true → not a ≡ true → b ≡ true
    or_false true b e n = absurd (false≢true n)
    or_false false b e n = e

-- it is whitespace, a sign that may not stand everywhere, or one that may
printed_plain : (c : ℕ) → in_range 32 126 c ≡ true → (c == colon) ≡ false → (c == number_sign) ≡ false
    → white c || (ns c && not (is_in c (codes ":#"))) ≡ true
printed_plain c h no_colon no_sign =
    by (c == colon) (c == number_sign) no_colon no_sign
    (printed (λ x. ((x == colon) || (x == number_sign)) || (white x || (ns x && not (is_in x (codes ":#"))))) refl c h)
  where
    by : (a b : Bool) → a ≡ false → b ≡ false → (a || b) || (white c || (ns c && not (is_in c (codes ":#")))) ≡ true
        → white c || (ns c && not (is_in c (codes ":#"))) ≡ true
    by false false e f told = told
    by false true e f told = absurd (false≢true (sym f))
    by true b e f told = absurd (false≢true (sym e))

-- one that is no space
pub wider : (c : ℕ) → in_range 33 126 c ≡ true → in_range 32 126 c ≡ true
wider c h = grind (arith, nat_tests)

no_space : (c : ℕ) → in_range 33 126 c ≡ true → not (c == space_char) ≡ true
no_space c h = grind (arith, nat_tests)

first_safe : (xs after : List ℕ) → first (in_range 33 126) xs ≡ true → first ns (xs ++ after) ≡ true
first_safe [] after h = absurd (false≢true h)
first_safe (x ∷ xs) after h =
    (and_parts _ _ (printed_ns x (wider x h) (no_space x h))).0

or_more : (a b c d : Bool) → a || b ≡ true → a || ((b || c) || d) ≡ true
or_more true b c d h = refl
or_more false b c d h = or_left _ _ (or_left _ _ h)

phrase_runs : (prev : ℕ) (xs after : List ℕ) → in_range 32 126 prev ≡ true → goes_on prev xs ≡ true → plain_run outer prev xs after ≡ true
phrase_runs prev [] after h goes = (and_parts _ _ (printed_ns prev h goes)).1
phrase_runs prev (x ∷ xs) after h goes =
    let p : (may_stand prev x xs ≡ true) × (goes_on x xs ≡ true) = and_parts _ _ goes in
    let q = and_parts _ _ p.0 in
    and_from _ _ (by (x == colon) (x == number_sign) refl refl q.1) (phrase_runs x xs after q.0 p.1)
  where
    by : (is_colon is_sign : Bool) → (x == colon) ≡ is_colon → (x == number_sign) ≡ is_sign
        → (if is_colon then first (in_range 33 126) xs else (if is_sign then not (prev == space_char) else true)) ≡ true
        → white x || plain_next outer prev x (xs ++ after) ≡ true
    by true is_sign e f may = or_right (white x) _ (or_left _ _ (or_right _ _ (and_from _ _ e (first_safe xs after may))))
    by false true e f may = or_right (white x) _ (or_right _ _ (and_from _ _ f (and_parts _ _ (printed_ns prev h may)).0))
    by false false e f may = or_more (white x) _ _ _ (printed_plain x (and_parts _ _ (and_parts _ _ goes).0).0 e f)

phrase_fits : (n : ℕ) (value after : List ℕ) → is_phrase value ≡ true → scalar_fits n outer false (plain value []) after ≡ true
phrase_fits n [] after h = absurd (false≢true h)
phrase_fits n (x ∷ xs) after h =
    let p = and_parts _ _ h in
    let q : (not (indicator x) ≡ true) × (in_range 33 126 x ≡ true) = and_parts _ _ p.0 in
    let own = wider x q.1 in
    let is_ns : ns x ≡ true = (and_parts _ _ (printed_ns x own (no_space x q.1))).0 in
    and_from _ _ (and_from _ _ (and_from _ _ refl
    (and_from _ _ (and_from _ _ is_ns (or_left (not (indicator x)) _ q.0))
    (phrase_runs x xs after own p.1))) refl) refl

raws_json : (value : List ℕ) → list_all stands_alone value ≡ true → list_all nb_json value ≡ true
raws_json [] h = refl
raws_json (c ∷ cs) h =
    let p : (stands_alone c ≡ true) × (list_all stands_alone cs ≡ true) = and_parts _ _ h in
    and_from _ _ (and_parts _ _ (alone_tells c p.0)).0 (raws_json cs p.1)

-- between quotes a text fits everywhere
pub quoted_fits : (n : ℕ) (c : FlowContext) (bol : Bool) (value after : List ℕ) → stands quoted value ≡ true
    → scalar_fits n c bol (scalar_as quoted value) after ≡ true
quoted_fits n c bol value after h = and_from _ _ (and_from _ _ (raws_fit value h) refl) refl

pub single_fits : (n : ℕ) (c : FlowContext) (bol : Bool) (value after : List ℕ) → stands single_quoted value ≡ true
    → scalar_fits n c bol (scalar_as single_quoted value) after ≡ true
single_fits n c bol value after h = and_from _ _ (and_from _ _ (raws_json value h) refl) refl

scalar_as_fits : (n : ℕ) (spelling : Spelling) (value after : List ℕ) → stands spelling value ≡ true
    → scalar_fits n outer false (scalar_as spelling value) after ≡ true
scalar_as_fits n bare value after h =
    let p : (begins_bare value ≡ true) × (list_all bare_char value ≡ true) = and_parts _ _ h in
    plain_fits n outer value after p.0 (outer_safe value p.1)
scalar_as_fits n phrase value after h = phrase_fits n value after h
scalar_as_fits n quoted value after h = quoted_fits n outer false value after h
scalar_as_fits n single_quoted value after h = single_fits n outer false value after h

-- a word is its own key
key_flow : (key : List ℕ) → plain_in_style key ≡ true → word_flow key ≡ scalar (plain key [])
key_flow key e = rw e refl

-- a key before its `:`
key_on_fits : (key : List ℕ) (bol : Bool) (after : List ℕ) → plain_in_style key ≡ true → IsText key
    → flow_fits (scalar (plain key [])) 0 block_key bol (58 ∷ after) ≡ true
key_on_fits key bol after word t = subst (λ f. flow_fits f 0 block_key bol (58 ∷ after) ≡ true) (key_flow key word)
    (word_flow_fits key 0 block_key bol (58 ∷ after) (λ x. refl) t)

-- and is short
key_is_short : (key : List ℕ) → plain_in_style key ≡ true → long_key key ≡ false → short_key (scalar (plain key [])) [] ≡ true
key_is_short key word is_short =
    let long : length (key_text key) ≤ 1000 = ltb-false 1000 (length (key_text key)) is_short in
    let same : flow_text (scalar (plain key [])) ++ [] ≡ key_text key =
    append-nil _ ∙ ap flow_text (sym (key_flow key word)) ∙ word_flow_spelled key in
    rw same (le-leb (length (key_text key)) 1024 (omega (arith, long)))

pair_on_fits : (l : Line) (indent : ℕ) (bol : Bool) (after : List ℕ) → IsLine l → IsText l.key
    → pair_fits (pair_on l) indent bol after ≡ true
pair_on_fits l indent bol after is t =
    let value : Node = flow one_space (scalar (scalar_as l.spelling l.value)) (feed ∷ []) in
    let key_fits = key_on_fits l.key bol (node_text value ++ after) is.word t in
    let short = key_is_short l.key is.word is.short in
    and_from _ _ (and_from _ _ (and_from _ _ key_fits refl) short)
    (and_from _ _ (and_from _ _ refl (scalar_as_fits (suc indent) l.spelling l.value (10 ∷ after) is.stands)) refl)

-- the keys are made of Unicode scalar values
abbrev pub KeysAreText : List Line → Type 0
KeysAreText [] = Unit {0}
KeysAreText (l ∷ ls) = IsText l.key × KeysAreText ls

-- those of each entry
abbrev pub AllKeysAreText : List Entry → Type 0
AllKeysAreText [] = Unit {0}
AllKeysAreText (e ∷ es) = KeysAreText (e.first ∷ e.more) × AllKeysAreText es

-- those of pairs at the margin
abbrev pub RowIsText : Row → Type 0
RowIsText (one_line l) = IsText l.key
RowIsText (list_under key e es) = IsText key × AllKeysAreText (e ∷ es)
RowIsText (pairs_under key e) = IsText key × KeysAreText (e.first ∷ e.more)

abbrev pub RowsAreText : List Row → Type 0
RowsAreText [] = Unit {0}
RowsAreText (r ∷ rs) = RowIsText r × RowsAreText rs

-- those of a layout
abbrev pub LayoutIsText : Layout → Type 0
LayoutIsText layout = RowsAreText (layout.first ∷ layout.more)

pairs_on_fit : (l : Line) (ls : List Line) (indent : ℕ) (bol : Bool) (after : List ℕ) → AreLines (l ∷ ls)
    → KeysAreText (l ∷ ls) → pairs_fit (pairs_on l ls) indent bol after ≡ true
pairs_on_fit l [] indent bol after are t = pair_on_fits l indent bol after are.0 t.0
pairs_on_fit l (m ∷ ms) indent bol after are t =
    and_from _ _ (pair_on_fits l indent bol (spaces indent ++ (pairs_text (pairs_on m ms) indent ++ after)) are.0 t.0)
    (pairs_on_fit m ms indent (indent == 0) after are.1 t.1)

items_on_fit : (e : Entry) (es : List Entry) (after : List ℕ) → AreEntries (e ∷ es) → AllKeysAreText (e ∷ es)
    → items_fit (items_on e es) 2 after ≡ true
items_on_fit e [] after are t = pairs_on_fit e.first e.more 4 false after are.0.are t.0
items_on_fit e (d ∷ ds) after are t =
    and_from _ _ (pairs_on_fit e.first e.more 4 false
    (spaces 2 ++ (items_text (items_on d ds) 2 ++ after)) are.0.are t.0) (items_on_fit d ds after are.1 t.1)

-- a key with a node under it
under_fits : (key : List ℕ) (value : Node) (after : List ℕ) → IsKey key → IsText key → node_fits value 1 true false after ≡ true
    → pair_fits (keyed (scalar (plain key [])) [] value) 0 true after ≡ true
under_fits key value after is t fits =
    and_from _ _ (and_from _ _ (and_from _ _ (key_on_fits key true (node_text value ++ after) is.word t) refl)
    (key_is_short key is.word is.short)) fits

row_fits : (r : Row) (after : List ℕ) → IsRow r → RowIsText r → pair_fits (row_on r) 0 true after ≡ true
row_fits (one_line l) after is t = pair_on_fits l 0 true after is t
row_fits (list_under key e es) after is t =
    under_fits key (items (feed ∷ []) 2 (items_on e es)) after is.0 t.0 (items_on_fit e es after is.1 t.1)
row_fits (pairs_under key e) after is t =
    under_fits key (pairs (feed ∷ []) 2 (entry_on e)) after is.0 t.0 (pairs_on_fit e.first e.more 2 false after is.1 t.1)

rows_fit : (r : Row) (rs : List Row) (after : List ℕ) → AreRows (r ∷ rs) → RowsAreText (r ∷ rs)
    → pairs_fit (rows_on r rs) 0 true after ≡ true
rows_fit r [] after are t = row_fits r after are.0 t.0
rows_fit r (s ∷ rs) after are t =
    and_from _ _ (row_fits r (pairs_text (rows_on s rs) 0 ++ after) are.0 t.0) (rows_fit s rs after are.1 t.1)

layout_fits : (layout : Layout) (after : List ℕ) → IsLayout layout → LayoutIsText layout → pairs_fit (layout_on layout) 0 true after ≡ true
layout_fits layout after is t = rows_fit layout.first layout.more after is.are t

-- a line starts after a line feed
pub starts_joined : (bol : Bool) (xs ys : List ℕ) → starts_line bol (xs ++ ys) ≡ starts_line (starts_line bol xs) ys
starts_joined bol [] ys = refl
starts_joined bol (x ∷ xs) ys = starts_joined (line_break x) xs ys

line_starts : (bol : Bool) (l : Line) → starts_line bol (line_text l) ≡ true
line_starts bol l =
    starts_joined bol l.key (codes ": " ++ (spelled l.spelling l.value ++ codes "\n"))
    ∙ starts_joined false (spelled l.spelling l.value) (codes "\n")

lines_start : (bol : Bool) (indent : ℕ) (l : Line) (ls : List Line) → starts_line bol (lines_text indent l ls) ≡ true
lines_start bol indent l [] = line_starts bol l
lines_start bol indent l (m ∷ ms) =
    starts_joined bol (line_text l) (spaces indent ++ lines_text indent m ms)
    ∙ starts_joined (starts_line bol (line_text l)) (spaces indent) (lines_text indent m ms)
    ∙ lines_start (starts_line (starts_line bol (line_text l)) (spaces indent)) indent m ms

elements_start : (bol : Bool) (es : List Entry) → bol ≡ true → starts_line bol (elements_text es) ≡ true
elements_start bol [] is = is
elements_start bol (e ∷ es) is =
    starts_joined false (entry_text 4 e) (elements_text es)
    ∙ elements_start (starts_line false (entry_text 4 e)) es (lines_start false 4 e.first e.more)

inner_start : (bol : Bool) (ls : List Line) → bol ≡ true → starts_line bol (inner_text ls) ≡ true
inner_start bol [] is = is
inner_start bol (l ∷ ls) is =
    starts_joined false (line_text l) (inner_text ls) ∙ inner_start (starts_line false (line_text l)) ls (line_starts false l)

row_starts : (bol : Bool) (r : Row) → starts_line bol (row_text r) ≡ true
row_starts bol (one_line l) = line_starts bol l
row_starts bol (list_under key e es) =
    starts_joined bol key (codes ":\n" ++ elements_text (e ∷ es)) ∙ elements_start true (e ∷ es) refl
row_starts bol (pairs_under key e) =
    starts_joined bol key (codes ":\n" ++ inner_text (e.first ∷ e.more)) ∙ inner_start true (e.first ∷ e.more) refl

rows_start : (bol : Bool) (rs : List Row) → bol ≡ true → starts_line bol (rows_text rs) ≡ true
rows_start bol [] is = is
rows_start bol (r ∷ rs) is =
    starts_joined bol (row_text r) (rows_text rs) ∙ rows_start (starts_line bol (row_text r)) rs (row_starts bol r)

layout_starts : (layout : Layout) → starts_line true (layout_text layout) ≡ true
layout_starts layout = rows_start true (layout.first ∷ layout.more) refl

pairs_start : (layout : Layout) → starts_line true (pairs_text (layout_on layout) 0) ≡ true
pairs_start layout = ap (starts_line true) (layout_spelled layout) ∙ layout_starts layout

stream_fits : (marked : Bool) (layout : Layout) → IsLayout layout → LayoutIsText layout → fits (stream_on marked layout) ≡ true
stream_fits true layout is t =
    and_from _ _ (and_from _ _ refl (and_from _ _ refl (and_from _ _ refl (layout_fits layout (codes "...\n") is t))))
    (rw (pairs_start layout) refl)
stream_fits false layout is t =
    and_from _ _ (and_from _ _ refl (and_from _ _ refl (layout_fits layout (codes "...\n") is t))) (rw (pairs_start layout) refl)

-- ---- what they mean

plain_meant : (value : List ℕ) → values char_value value ≡ value
plain_meant [] = refl
plain_meant (c ∷ cs) = ap (λ t. c ∷ t) (plain_meant cs)

raw_meant : (value : List ℕ) → values quoted_char_value (map raw value) ≡ value
raw_meant [] = refl
raw_meant (c ∷ cs) = ap (λ t. c ∷ t) (raw_meant cs)

pub scalar_meant : (spelling : Spelling) (value : List ℕ) → scalar_value (scalar_as spelling value) ≡ value
scalar_meant bare value = append-nil _ ∙ plain_meant value
scalar_meant phrase value = append-nil _ ∙ plain_meant value
scalar_meant quoted value = append-nil _ ∙ raw_meant value
scalar_meant single_quoted value = append-nil _ ∙ plain_meant value

pairs_meant : (l : Line) (ls : List Line) (indent at : ℕ)
    → shapes (pairs_events (pairs_on l ls) indent at) ≡ members_shapes (members_of_lines (l ∷ ls))
pairs_meant l [] indent at = λ i. scalar_of (scalar_meant bare l.key i) ∷ scalar_of (scalar_meant l.spelling l.value i) ∷ []
pairs_meant l (m ∷ ms) indent at =
    λ i. scalar_of (scalar_meant bare l.key i) ∷ scalar_of (scalar_meant l.spelling l.value i)
    ∷ pairs_meant m ms indent (at + byte_len (pair_text (pair_on l) indent) + indent) i

shapes_joined : (one other : List Event) → shapes (one ++ other) ≡ shapes one ++ shapes other
shapes_joined [] other = refl
shapes_joined (e ∷ es) other = ap (λ t. shape e ∷ t) (shapes_joined es other)

-- the events of a mapping, from those of its pairs
mapping_meant : (es : List Event) (ms : Members) → shapes es ≡ members_shapes ms → shapes (as_map es) ≡ tree_shapes (mapping ms)
mapping_meant es ms is = ap (λ t. map_from ∷ t) (shapes_joined es (map_end ∷ []) ∙ ap (λ t. t ++ map_to ∷ []) is)

entry_meant : (e : Entry) (indent at : ℕ) → shapes (as_map (pairs_events (entry_on e) indent at)) ≡ tree_shapes (mapping (entry_members e))
entry_meant e indent at = mapping_meant (pairs_events (entry_on e) indent at) (entry_members e) (pairs_meant e.first e.more indent at)

items_meant : (e : Entry) (es : List Entry) (at : ℕ)
    → shapes (items_events (items_on e es) 2 at) ≡ elements_shapes (elements_of_entries (e ∷ es))
items_meant e [] at = entry_meant e 4 (at + 1 + 1) ∙ sym (append-nil (tree_shapes (mapping (entry_members e))))
items_meant e (d ∷ ds) at =
    let next = at + 1 + byte_len (indented_text (compact_pairs 1 (entry_on e)) 2) + 2 in
    shapes_joined (as_map (pairs_events (entry_on e) 4 (at + 1 + 1))) (items_events (items_on d ds) 2 next)
    ∙ ap (λ t. t ++ shapes (items_events (items_on d ds) 2 next)) (entry_meant e 4 (at + 1 + 1))
    ∙ ap (λ t. tree_shapes (mapping (entry_members e)) ++ t) (items_meant d ds next)

list_meant : (e : Entry) (es : List Entry) (at : ℕ)
    → shapes (as_seq (items_events (items_on e es) 2 at)) ≡ tree_shapes (sequence (elements_of_entries (e ∷ es)))
list_meant e es at =
    ap (λ t. seq_from ∷ t) (shapes_joined (items_events (items_on e es) 2 at) (seq_end ∷ [])
    ∙ ap (λ t. t ++ seq_to ∷ []) (items_meant e es at))

-- where the first part of a node under a key begins
abbrev under_key : List ℕ → ℕ → ℕ
under_key key at = at + byte_len (flow_text (scalar (plain key []))) + byte_len [] + 1 + byte_len (comments_text (feed ∷ [])) + 2

row_meant : (r : Row) (at : ℕ) → shapes (pair_events (row_on r) 0 at) ≡ scalar_of (row_key r) ∷ tree_shapes (row_tree r)
row_meant (one_line l) at = λ i. scalar_of (scalar_meant bare l.key i) ∷ scalar_of (scalar_meant l.spelling l.value i) ∷ []
row_meant (list_under key e es) at = λ i. scalar_of (scalar_meant bare key i) ∷ list_meant e es (under_key key at) i
row_meant (pairs_under key e) at = λ i. scalar_of (scalar_meant bare key i) ∷ entry_meant e 2 (under_key key at) i

rows_meant : (r : Row) (rs : List Row) (at : ℕ)
    → shapes (pairs_events (rows_on r rs) 0 at) ≡ members_shapes (members_of_rows (r ∷ rs))
rows_meant r [] at = row_meant r at ∙ sym (append-nil (scalar_of (row_key r) ∷ tree_shapes (row_tree r)))
rows_meant r (s ∷ rs) at =
    let next = at + byte_len (pair_text (row_on r) 0) + 0 in
    shapes_joined (pair_events (row_on r) 0 at) (pairs_events (rows_on s rs) 0 next)
    ∙ λ i. row_meant r at i ++ rows_meant s rs next i

layout_meant : (layout : Layout) (at : ℕ) → shapes (pairs_events (layout_on layout) 0 at) ≡ members_shapes (layout_members layout)
layout_meant layout at = rows_meant layout.first layout.more at

-- a document of these events means the mapping of these members
pub document_meant : (ms : Members) (es : List Event) → shapes es ≡ members_shapes ms
    → IsTreeOf (as_document (map_start ∷ (es ++ map_end ∷ [])) ++ []) (mapping ms)
document_meant ms es is =
    ap shapes (append-nil (as_document (map_start ∷ (es ++ map_end ∷ []))))
    ∙ ap (λ x. document_from ∷ map_from ∷ x) (shapes_joined (es ++ map_end ∷ []) (document_end ∷ [])
    ∙ ap (λ x. x ++ document_to ∷ []) (shapes_joined es (map_end ∷ [])
    ∙ ap (λ x. x ++ map_to ∷ []) is))

stream_meant : (marked : Bool) (layout : Layout) → IsTreeOf (stream_events (stream_on marked layout)) (mapping (layout_members layout))
stream_meant true layout = document_meant (layout_members layout) _ (layout_meant layout _)
stream_meant false layout = document_meant (layout_members layout) _ (layout_meant layout _)

-- ---- what the document gives

-- two presentations of one text mean the same
abbrev pub Unambiguous : Type 0
Unambiguous = (source : List ℕ) (p q : Stream) → Presents p source → Presents q source → stream_events p ≡ stream_events q

-- lines of keys and texts give their mapping
pub lines_give : Unambiguous → (marked : Bool) (layout : Layout) (limits : Limits) → IsLayout layout → LayoutIsText layout
    → IsText (document_of marked layout) → byte_len (document_of marked layout) ≤ limits.bytes
    → Good (mapping (layout_members layout)) limits → Gives (document_of marked layout) limits (mapping (layout_members layout))
lines_give one marked layout limits are keys source short good =
    let presents : Presents (stream_on marked layout) (document_of marked layout) =
    record { fits = stream_fits marked layout are keys; spells = stream_spelled marked layout } in
    let can : CanRead (document_of marked layout) (stream_events (stream_on marked layout)) =
    record { presentation = stream_on marked layout; presents = presents; means = refl } in
    record {
      short = short;
      events = stream_events (stream_on marked layout);
      reads = record { source = source; some = can; every = λ p q. one (document_of marked layout) p (stream_on marked layout) q presents };
      tree = stream_meant marked layout;
      good = good;
    }
