-- The presentation of a tree with comments has the comments before the tree and behind its lines, in order.
use Rattle.std.proofs.Common.{◌≡◌, refl, sym, ◌∙◌, ap, ap₂, subst, inl, inr, arith, ◌≤◌, append_assoc, append-nil, encode_utf8_all}
use Rattle.std.specs.{Prelude.{ℕ, ◌+◌, map, Bool, true, false, cond, List, [], ◌∷◌, ◌++◌, Option, Some, None, flat_map}, List.list_all}
use lib.Utf8
use Rattle.std.proofs.lemmas.{Bool.{and_parts, and_from, or_cases, Decides.nat_tests}, Str.chars-encodes}
use Rattle.{yaml_chars.specs.Classes.code_point, yaml_recognizers.proofs.OneStyle.{Characters.from_range, StyleRead.Unambiguous}}
use Rattle.{yaml_recognizers.proofs.OneStyle.Presented.{one_space, items_of_text, word_flow}, yaml_grammar.specs.Texts.IsText}
use Rattle.yaml_grammar.specs.{Separation.inline, FlowScalars.{plain, double}, FlowNodes.scalar, BlockNodes.{Node, flow, block, Indented}}
use Rattle.yaml_grammar.specs.{BlockNodes.{Pair, asked, keyed, node}, Streams.{Stream, stream_text, stream_events}, Reads.{Reads, Presents}}
use Rattle.yaml_grammar.specs.Trees.{Tree, text, sequence, mapping, Elements, no_element, element, Members, no_member, member}
use Rattle.{yaml_grammar.specs.Style.{plain_in_style, literal_in_style, long_key}, yaml_commented.specs.Trails.{Extra, empty_line}}
use Rattle.yaml_commented.specs.Trails.{comment_line, Trail, behind_comments, extra_comments, extras_comments, trail_comments}
use Rattle.yaml_commented.specs.Commented.{next_trail, later_trails, after_key, after_tree, after_value, after_elements, after_members}
use Rattle.yaml_commented.{specs.Commented.commented_text, proofs.Presented.{line_end, extra_line, extra_lines, ends, past_empties}}
use Rattle.yaml_commented.proofs.Presented.{literal_block, scalar_node, pair_of, element_of, value_of, items_from, pairs_from, top_node}
use Rattle.yaml_commented.proofs.{Presented.presentation_of, Spelled.presentation_spelled, Fits.presentation_fits, Texts.commented_is_text}
use Rattle.yaml_comments.specs.{Comments.{AreComments, comment_at}, CommentLaws.{HasItsComments, comments_of, CommentedComments}}
use Rattle.yaml_comments.specs.Presented.{line_comments, lines_comments, node_comments, items_comments, pairs_comments, pair_comments}
use Rattle.yaml_comments.{specs.Presented.{indented_comments, stream_comments}, proofs.StreamParted.presented}

-- ---- lines and trails

-- the comment of a line's end
behind_told : (behind : Option (List ℕ)) → line_comments (line_end behind) ≡ behind_comments behind
behind_told None = refl
behind_told (Some c) = refl

-- that of a line of its own
extra_told : (x : Extra) → line_comments (extra_line x) ≡ extra_comments x
extra_told empty_line = refl
extra_told (comment_line n c) = refl

-- those of such lines
extras_told : (xs : List Extra) → lines_comments (extra_lines xs) ≡ extras_comments xs
extras_told [] = refl
extras_told (x ∷ xs) = ap₂ (λ a b. a ++ b) (extra_told x) (extras_told xs)

-- those behind a line
ends_told : (w : Trail) → lines_comments (ends w) ≡ trail_comments w
ends_told w = ap₂ (λ a b. a ++ b) (behind_told w.behind) (extras_told w.lines)

-- empty lines have none
past_told : (xs : List Extra) → extras_comments (past_empties xs) ≡ extras_comments xs
past_told [] = refl
past_told (empty_line ∷ xs) = past_told xs
past_told (comment_line n c ∷ xs) = refl

-- those behind lines
abbrev trails_comments : List Trail → List (List ℕ)
trails_comments ws = flat_map trail_comments ws

-- the next trail's, and those after it
next_told : (ws : List Trail) → trail_comments (next_trail ws) ++ trails_comments (later_trails ws) ≡ trails_comments ws
next_told [] = refl
next_told (w ∷ ws) = refl

-- ---- scalars and pairs

-- those of a scalar are behind it
scalar_told : (blank : List ℕ) (j : ℕ) (value : List ℕ) (w : Trail)
    → node_comments (scalar_node (inline blank) j value w) ≡ trail_comments w
scalar_told blank j value w = by (plain_in_style value) (literal_in_style value)
  where
    by : (p l : Bool) → node_comments (cond p (flow (inline blank) (scalar (plain value [])) (ends w))
        (cond l (block (inline blank) (literal_block j value w)) (flow (inline blank) (scalar (double (items_of_text value) [])) (ends w))))
        ≡ trail_comments w
    by true l = ends_told w
    by false true = ap₂ (λ a b. a ++ b) (behind_told w.behind) (extras_told (past_empties w.lines) ∙ past_told w.lines)
    by false false = ends_told w

-- those of a trail, and then those that are left
with_next : (cs : List (List ℕ)) (ws : List Trail) → cs ≡ trail_comments (next_trail ws)
    → cs ++ trails_comments (later_trails ws) ≡ trails_comments ws
with_next cs ws e = ap (λ c. c ++ trails_comments (later_trails ws)) e ∙ next_told ws

-- those of a pair, and those that are left, from those of its value
pair_told : (key : List ℕ) (ws : List Trail) (value : Node) (left : List (List ℕ))
    → node_comments value ++ left ≡ trails_comments (after_key key ws)
    → pair_comments (pair_of key (next_trail ws) value) ++ left ≡ trails_comments ws
pair_told key ws value left h = by (long_key key) h
  where
    by : (b : Bool) → node_comments value ++ left ≡ trails_comments (cond b (later_trails ws) ws)
        → pair_comments (cond b (asked (node (flow one_space (word_flow key) (ends (next_trail ws)))) (node value))
        (keyed (word_flow key) [] value)) ++ left ≡ trails_comments ws
    by true h = append_assoc (lines_comments (ends (next_trail ws))) (node_comments value) left
        ∙ (ap (λ r. lines_comments (ends (next_trail ws)) ++ r) h ∙ with_next _ ws (ends_told (next_trail ws)))
    by false h = h

-- ---- trees

mutual
  -- those of an element, and those that are left
  element_told : (t : Tree) (i : ℕ) (ws : List Trail)
      → indented_comments (element_of t i ws) ++ trails_comments (after_tree t ws) ≡ trails_comments ws
  element_told (text value) i ws = with_next _ ws (scalar_told (32 ∷ []) (i + 2) value (next_trail ws))
  element_told (sequence no_element) i ws = with_next _ ws (ends_told (next_trail ws))
  element_told (sequence (element t ts)) i ws =
      elements_told (element_of t (i + 2) ws) ts (i + 2) (after_tree t ws) ∙ element_told t (i + 2) ws
  element_told (mapping no_member) i ws = with_next _ ws (ends_told (next_trail ws))
  element_told (mapping (member key t ms)) i ws =
      let rest : List Trail = after_key key ws in
      members_told (pair_of key (next_trail ws) (value_of t (i + 2) rest)) ms (i + 2) (after_value t rest)
      ∙ pair_told key ws (value_of t (i + 2) rest) (trails_comments (after_value t rest)) (value_told t (i + 2) rest)

  -- those of a value, and those that are left
  value_told : (t : Tree) (i : ℕ) (ws : List Trail)
      → node_comments (value_of t i ws) ++ trails_comments (after_value t ws) ≡ trails_comments ws
  value_told (text value) i ws = with_next _ ws (scalar_told (32 ∷ []) (i + 2) value (next_trail ws))
  value_told (sequence no_element) i ws = with_next _ ws (ends_told (next_trail ws))
  value_told (sequence (element t ts)) i ws =
      let rest : List Trail = later_trails ws in
      let is : List (List ℕ) = items_comments (items_from (element_of t (i + 2) rest) ts (i + 2) (after_tree t rest)) in
      append_assoc (lines_comments (ends (next_trail ws))) is (trails_comments (after_elements ts (after_tree t rest)))
      ∙ (ap (λ r. lines_comments (ends (next_trail ws)) ++ r)
      (elements_told (element_of t (i + 2) rest) ts (i + 2) (after_tree t rest) ∙ element_told t (i + 2) rest)
      ∙ with_next _ ws (ends_told (next_trail ws)))
  value_told (mapping no_member) i ws = with_next _ ws (ends_told (next_trail ws))
  value_told (mapping (member key t ms)) i ws =
      let own : List Trail = later_trails ws in
      let rest : List Trail = after_key key own in
      let first : Pair = pair_of key (next_trail own) (value_of t (i + 2) rest) in
      append_assoc (lines_comments (ends (next_trail ws))) (pairs_comments (pairs_from first ms (i + 2) (after_value t rest)))
      (trails_comments (after_members ms (after_value t rest)))
      ∙ (ap (λ r. lines_comments (ends (next_trail ws)) ++ r)
      (members_told first ms (i + 2) (after_value t rest)
      ∙ pair_told key own (value_of t (i + 2) rest) (trails_comments (after_value t rest)) (value_told t (i + 2) rest))
      ∙ with_next _ ws (ends_told (next_trail ws)))

  -- those of a first element and further ones, and those that are left
  elements_told : (one : Indented) (ts : Elements) (i : ℕ) (ws : List Trail)
      → items_comments (items_from one ts i ws) ++ trails_comments (after_elements ts ws) ≡ indented_comments one ++ trails_comments ws
  elements_told one no_element i ws = refl
  elements_told one (element t ts) i ws =
      append_assoc (indented_comments one) (items_comments (items_from (element_of t i ws) ts i (after_tree t ws)))
      (trails_comments (after_elements ts (after_tree t ws)))
      ∙ ap (λ r. indented_comments one ++ r) (elements_told (element_of t i ws) ts i (after_tree t ws) ∙ element_told t i ws)

  -- those of a first member and further ones, and those that are left
  members_told : (one : Pair) (ms : Members) (i : ℕ) (ws : List Trail)
      → pairs_comments (pairs_from one ms i ws) ++ trails_comments (after_members ms ws) ≡ pair_comments one ++ trails_comments ws
  members_told one no_member i ws = refl
  members_told one (member key t ms) i ws =
      let rest : List Trail = after_key key ws in
      let first : Pair = pair_of key (next_trail ws) (value_of t i rest) in
      append_assoc (pair_comments one) (pairs_comments (pairs_from first ms i (after_value t rest)))
      (trails_comments (after_members ms (after_value t rest)))
      ∙ ap (λ r. pair_comments one ++ r) (members_told first ms i (after_value t rest)
      ∙ pair_told key ws (value_of t i rest) (trails_comments (after_value t rest)) (value_told t i rest))

-- those of a tree at the top, and those that are left
top_told : (t : Tree) (ws : List Trail) → node_comments (top_node t ws) ++ trails_comments (after_tree t ws) ≡ trails_comments ws
top_told (text value) ws = with_next _ ws (scalar_told [] 2 value (next_trail ws))
top_told (sequence no_element) ws = with_next _ ws (ends_told (next_trail ws))
top_told (sequence (element t ts)) ws = elements_told (element_of t 0 ws) ts 0 (after_tree t ws) ∙ element_told t 0 ws
top_told (mapping no_member) ws = with_next _ ws (ends_told (next_trail ws))
top_told (mapping (member key t ms)) ws =
    let rest : List Trail = after_key key ws in
    members_told (pair_of key (next_trail ws) (value_of t 0 rest)) ms 0 (after_value t rest)
    ∙ pair_told key ws (value_of t 0 rest) (trails_comments (after_value t rest)) (value_told t 0 rest)

-- where no trail is left over, these are all
all_told : (lead : List Extra) (t : Tree) (ws : List Trail) → after_tree t ws ≡ []
    → stream_comments (presentation_of lead t ws) ≡ comments_of lead ws
all_told lead t ws used =
    let top : node_comments (top_node t ws) ≡ trails_comments ws =
    sym (append-nil (node_comments (top_node t ws))) ∙ (ap (λ r. node_comments (top_node t ws) ++ trails_comments r) (sym used)
    ∙ top_told t ws) in
    ap₂ (λ a b. a ++ b) (extras_told lead) (append-nil (node_comments (top_node t ws)) ∙ top)

-- a code point is a scalar value
code_point_is : (c : ℕ) → code_point c ≡ true → Utf8.scalar c ≡ true
code_point_is c h = elim (or_cases _ _ h) [
  | inl low ↦ (let p : (0 ≤ c) × (c ≤ 0xd7ff) = from_range 0 0xd7ff c low in grind (arith, nat_tests))
  | inr high ↦ (let p : (0xe000 ≤ c) × (c ≤ 0x10ffff) = from_range 0xe000 0x10ffff c high in grind (arith, nat_tests))
]

-- a text is scalar values
text_is : (cs : List ℕ) → IsText cs → Utf8.scalars cs ≡ true
text_is [] h = refl
text_is (c ∷ cs) h =
    let p : (code_point c ≡ true) × (list_all code_point cs ≡ true) = and_parts _ _ h in
    and_from _ _ (code_point_is c p.0) (text_is cs p.1)

-- so the text of a tree with comments has these, in order
pub commented_told : Unambiguous → CommentedComments
commented_told one lead t ws h f =
    let source : List ℕ = commented_text lead t ws in
    let presentation : Stream = presentation_of lead t ws in
    let is_text : IsText source = commented_is_text lead t ws h f in
    let spelled : stream_text presentation ≡ source = presentation_spelled lead t ws in
    let presents : Presents presentation source = record { fits = presentation_fits lead t ws h f; spells = spelled } in
    let reads : Reads source (stream_events presentation) = record {
      source = is_text;
      some = record { presentation = presentation; presents = presents; means = refl };
      every = λ p q. one source p presentation q presents;
    } in
    let its : HasItsComments presentation = presented presentation (presentation_fits lead t ws h f) in
    record {
      events = stream_events presentation;
      reads = subst (λ s. Reads s (stream_events presentation)) (sym (chars-encodes source (text_is source is_text))) reads;
      places = its.places;
      are = subst (λ s. AreComments (encode_utf8_all s) (stream_events presentation) 0 its.places) spelled its.are;
      written = ap (map encode_utf8_all) (sym (all_told lead t ws f.used))
          ∙ (sym its.written ∙ ap (λ s. map (comment_at (encode_utf8_all s)) its.places) spelled);
    }
