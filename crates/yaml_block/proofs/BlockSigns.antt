-- What comes after a sign: on its line, or on a later one, or nothing.
use Rattle.std.{proofs.Common.{ap, arith, inl, inr, refl, sym, ◌∙◌, ◌≡◌}, specs.Prelude.{Bool, List, None, Some, [], false, if◌then◌else◌}}
use Rattle.std.specs.Prelude.{is_some, length, nat_le, nat_lt, not, suc, true, ℕ, ◌&&◌, ◌+◌, ◌==◌, ◌||◌, ◌∷◌}
use Rattle.yaml_block.proofs.Prelude.{and_from, and_left, and_parts, and_right, cases_Bool, cases_eq, eqb-true, false≢true, lt-ltb}
use Rattle.yaml_block.proofs.Prelude.{not-false, not_from_false, or_from, or_parts, nat_tests, line_break, white, Indented, Node}
use Rattle.yaml_block.proofs.Prelude.{compact_items, compact_pairs, node, omitted, past_spaces, spaces_before, LineEnd, inline, list_all}
use Rattle.yaml_block.proofs.Prelude.{first, is_empty, marker, spaces, starts_line, close_pairs, on_sign_line, indented_node, leaf_at}
use Rattle.yaml_block.proofs.Prelude.{node_below, omits, opens_pair, sep_at, read_block, is_line_end, all_comments, closes_line}
use Rattle.yaml_block.proofs.Prelude.{more_comments, read_line_end, block_node_stops, solid, drop_while, past, sign, take_while, Read, on}
use Rattle.yaml_block.proofs.Prelude.{block_items_at, block_key_in, block_node_at, block_pairs_at, flow_leaf_at, node_after_sign}
use Rattle.yaml_block.proofs.Prelude.{comments_closed, tail_fit, comments_step, CommentsOf, all_sound, comments_end, take_while_every}
use Rattle.yaml_block.proofs.Prelude.{no_leaf_no_key, dash_unmarked, unsolid_sign, white_unsolid, marker_unspaced, none_spaced}
use Rattle.yaml_block.{proofs.{Prelude.{indented_steps, node_steps}, BlockLeaves.no_leaf_unsolid}, specs.BlockParts.{LineGoesOn, as_part}}
use Rattle.yaml_block.specs.BlockParts.{leaf_part, part_at, part_after_sign}

-- ---- white and spaces

-- spaces alone come before what is no TAB
pub untabbed : (text : List ℕ) → first white (past_spaces text) ≡ false → drop_while white text ≡ past_spaces text
untabbed [] h = refl
untabbed (c ∷ cs) h = elim (cases_Bool (c == 32)) [
  | inl e ↦ (let more : first white (past_spaces cs) ≡ false = rw e at h in rw e (untabbed cs more))
  | inr e ↦ (let w : (c == 32) || (c == 9) ≡ false = rw e at h in rw (e, (or_parts (c == 32) (c == 9) w).1) refl)
]

-- if no TAB follows the spaces, the whitespace is spaces
pub untabbed_taken : (text : List ℕ) → first white (past_spaces text) ≡ false
    → take_while white text ≡ spaces (spaces_before text)
untabbed_taken [] h = refl
untabbed_taken (c ∷ cs) h = elim (cases_Bool (c == 32)) [
  | inl e ↦ (let more : first white (past_spaces cs) ≡ false = rw e at h in
      let i : c ≡ 32 = eqb-true c 32 e in
      rw e (ap (λ x. x ∷ take_while white cs) i ∙ ap (λ xs. 32 ∷ xs) (untabbed_taken cs more)))
  | inr e ↦ (let w : (c == 32) || (c == 9) ≡ false = rw e at h in rw (e, (or_parts (c == 32) (c == 9) w).1) refl)
]

-- whitespace is passed in the same way from the start and from the end of the spaces
pub white_after_spaces : (text : List ℕ) → drop_while white (past_spaces text) ≡ drop_while white text
white_after_spaces [] = refl
white_after_spaces (c ∷ cs) = elim (cases_Bool (c == 32)) [
  | inl e ↦ rw e (white_after_spaces cs)
  | inr e ↦ ap
      (drop_while white) (kept e)
]
  where
    kept : c == 32 ≡ false → past_spaces (c ∷ cs) ≡ c ∷ cs
    kept e = rw e refl

-- no white, no spaces
none_taken : (text : List ℕ) → is_empty (take_while white text) ≡ true → spaces_before text ≡ 0
none_taken [] h = refl
none_taken (c ∷ cs) h = elim (cases_Bool (c == 32)) [
  | inl e ↦ (let bad : false ≡ true = rw e at h in absurd (false≢true bad))
  | inr e ↦ rw e refl
]

-- white with no TAB has a space
some_spaces : (text : List ℕ) → is_empty (take_while white text) ≡ false → first white (past_spaces text) ≡ false
    → nat_le 1 (spaces_before text) ≡ true
some_spaces text h t = elim (cases_eq (spaces_before text) 0) [
  | inl e ↦ absurd (false≢true (sym h ∙ ap is_empty (untabbed_taken text t ∙ ap spaces e)))
  | inr n ↦ grind (arith, nat_tests)
]

-- no line starts after white
pub white_starts : (xs : List ℕ) → list_all white xs ≡ true → starts_line false xs ≡ false
white_starts [] h = refl
white_starts (x ∷ xs) h =
    let p : (white x ≡ true) × (list_all white xs ≡ true) = and_parts _ _ h in
    ap (λ b. starts_line b xs) (unbroken x p.0) ∙ white_starts xs p.1
  where
    unbroken : (x : ℕ) → white x ≡ true → line_break x ≡ false
    unbroken x h = grind (arith, nat_tests)

-- whitespace is not solid
pub white_unsolid_first : (text : List ℕ) → first white text ≡ true → first solid text ≡ false
white_unsolid_first [] h = refl
white_unsolid_first (c ∷ cs) h = white_unsolid c h

-- ---- whether comments are there

all_end : (text : List ℕ) → is_line_end (all_comments true text).1 ≡ false
all_end text = comments_end (suc (length text)) text (omega arith)

unclosed_by : (text : List ℕ) (r : Read LineEnd) → closes_line (more_comments text (λ rest. all_comments true rest) r)
    ≡ false
    → (more_comments text (λ rest. all_comments true rest) r ≡ ([], text)) × (is_empty text ≡ false)
unclosed_by [] None h = absurd (false≢true (sym h))
unclosed_by (c ∷ cs) None h = (refl, refl)
unclosed_by text (Some r) h = absurd (false≢true (sym h ∙ not_from_false _ (all_end r.1)))

-- where no comments close the line, it goes on
pub unclosed_goes_on : (text : List ℕ) → closes_line (all_comments false text) ≡ false → LineGoesOn text
unclosed_goes_on text h =
    let p : (more_comments text (λ rest. all_comments true rest) (read_line_end false text) ≡ ([], text))
    × (is_empty text ≡ false) =
    unclosed_by text (read_line_end false text) (ap closes_line (sym (comments_step false text)) ∙ h) in
    record { none = comments_step false text ∙ p.0; some = p.1 }

-- where comments close the line, nothing solid comes after its spaces
closed_unsolid : (text : List ℕ) → closes_line (all_comments false text) ≡ true
    → first solid (past_spaces text) ≡ false
closed_unsolid text h =
    let s : CommentsOf false text (all_comments false text) = all_sound false text in
    ap (λ t. first solid (past_spaces t)) s.0
    ∙ comments_closed (all_comments false text).0 (all_comments false text).1
    (tail_fit (all_comments false text).0 (all_comments false text).1 s.1 h)

-- ---- on the line of the sign

-- no pair opens at what is not solid
pub no_pair_there : (bol : Bool) (text : List ℕ) → first solid text ≡ false
    → opens_pair block_key_in flow_leaf_at read_block bol text ≡ false
no_pair_there bol text h = or_from _ _ (unsolid_sign 63 text refl h)
    (ap is_some (no_leaf_no_key 0 bol text (no_leaf_unsolid 0 bol text h)))

inline_node : (m : ℕ) (shallow : Bool) (text : List ℕ) → all_comments false text ≡ ([], text)
    → block_node_at m shallow false text ≡ leaf_at block_key_in flow_leaf_at read_block m false
    (sep_at m false [] (take_while white text)) (drop_while white text)
inline_node m shallow text e = node_steps m shallow false text
    ∙ ap (node_below block_key_in flow_leaf_at read_block block_items_at block_pairs_at m shallow false) e

-- a node on a line that goes on is a leaf after white
pub leaf_on_line : (m : ℕ) (shallow : Bool) (text : List ℕ) → all_comments false text ≡ ([], text)
    → is_empty (take_while white text) ≡ false
    → as_part (block_node_at m shallow false text) ≡ part_at None m false (inline (take_while white text))
    (drop_while white text)
leaf_on_line m shallow text e w =
    ap as_part (inline_node m shallow text e ∙ ap (λ sep. leaf_at block_key_in flow_leaf_at read_block m false sep
    (drop_while white text)) (some (take_while white text) w))
    ∙ ap (λ b. leaf_part m b (inline (take_while white text)) (drop_while white text))
    (white_starts (take_while white text) (take_while_every white text))
  where
    some : (lead : List ℕ) → is_empty lead ≡ false → sep_at m false [] lead ≡ Some (inline lead)
    some lead h = rw h refl

-- a line that goes on has no comments to pass
pub nothing_on_line : (m : ℕ) (shallow : Bool) (text : List ℕ) → all_comments false text ≡ ([], text)
    → is_empty (take_while white text) ≡ true
    → block_node_at m shallow false text ≡ None
nothing_on_line m shallow text e w =
    inline_node m shallow text e ∙ ap (λ sep. leaf_at block_key_in flow_leaf_at read_block m false sep
    (drop_while white text)) (none (take_while white text) w)
  where
    none : (lead : List ℕ) → is_empty lead ≡ true → sep_at m false [] lead ≡ None
    none lead h = rw h refl

indented_on_line : (k : ℕ) (shallow : Bool) (text : List ℕ) → LineGoesOn text
    → indented_node k shallow (λ t. block_node_at (suc k) shallow false t) text (all_comments false text) ≡ as_part
    (block_node_at (suc k) shallow false text)
indented_on_line k shallow text g =
    ap (indented_node k shallow (λ t. block_node_at (suc k) shallow false t) text) g.none
    ∙ on_line (block_node_at (suc k) shallow false text)
  where
    on_line : (r : Read Node) → (if omits (suc k) shallow ([], text) then Some (omitted [], text)
        else on r (λ n rest. Some (node n, rest))) ≡ as_part r
    on_line r = rw g.some refl

-- no compact collection, if there are no spaces, or if neither a sign nor a key comes after them
not_compact : (compact shallow : Bool) (k : ℕ) (text : List ℕ)
    → nat_le 1 (spaces_before text) && sign 45 (past_spaces text) ≡ false
    → nat_le 1 (spaces_before text) && opens_pair block_key_in flow_leaf_at read_block false (past_spaces text)
    ≡ false
    → part_after_sign compact shallow k text ≡ indented_node k shallow (λ t. block_node_at (suc k) shallow false t) text
    (all_comments false text)
not_compact false shallow k text d o = refl
not_compact true shallow k text d o = node_after_sign k shallow text d o

-- a compact mapping or a leaf: spaces alone come before it
pub compact_or_leaf : (k : ℕ) (shallow : Bool) (text : List ℕ) → LineGoesOn text → is_empty (take_while white text) ≡ false
    → first white (past_spaces text) ≡ false → sign 45 (past_spaces text) ≡ false
    → part_after_sign true shallow k text
    ≡ part_at (Some (on_sign_line (spaces_before text), k + 1 + spaces_before text)) (suc k) false
    (inline (take_while white text)) (drop_while white text)
compact_or_leaf k shallow text g w t s =
    indented_steps k shallow text
    ∙ (choose (on (block_items_at (k + 1 + spaces_before text) (past_spaces text))
    (λ is rest. Some (compact_items (spaces_before text) is, rest)))
    (on (block_pairs_at (k + 1 + spaces_before text) false (past_spaces text))
    (λ ps rest. Some (compact_pairs (spaces_before text) ps, rest)))
    (indented_node k shallow (block_node_at (suc k) shallow false) text (all_comments false text))
    ∙ (ap (λ r. if opens_pair block_key_in flow_leaf_at read_block false (past_spaces text)
    then close_pairs (on_sign_line (spaces_before text)) []
    (block_pairs_at (k + 1 + spaces_before text) false (past_spaces text)) else r)
    (indented_on_line k shallow text g ∙ leaf_on_line (suc k) shallow text g.none w)
    ∙ ap (λ u. if opens_pair block_key_in flow_leaf_at read_block false u
    then close_pairs (on_sign_line (spaces_before text)) [] (block_pairs_at (k + 1 + spaces_before text) false u)
    else leaf_part (suc k) false (inline (take_while white text)) (drop_while white text))
    (sym (untabbed text t))))
  where
    choose : (x y z : Read Indented)
        → (if nat_le 1 (spaces_before text) && sign 45 (past_spaces text) then x
        else if nat_le 1 (spaces_before text) && opens_pair block_key_in flow_leaf_at read_block false
        (past_spaces text) then y else z)
        ≡ (if opens_pair block_key_in flow_leaf_at read_block false (past_spaces text) then y else z)
    choose x y z = rw (s, some_spaces text w t) refl

-- a leaf where no compact collection may be, or after a TAB
pub leaf_on_sign_line : (compact shallow : Bool) (k : ℕ) (text : List ℕ) → LineGoesOn text
    → is_empty (take_while white text) ≡ false → compact && not (first white (past_spaces text)) ≡ false
    → part_after_sign compact shallow k text ≡ part_at None (suc k) false (inline (take_while white text)) (drop_while white text)
leaf_on_sign_line false shallow k text g w t = indented_on_line k shallow text g
    ∙ leaf_on_line (suc k) shallow text g.none w
leaf_on_sign_line true shallow k text g w t =
    let u : first solid (past_spaces text) ≡ false = white_unsolid_first (past_spaces text) (not-false _ t) in
    not_compact true shallow k text (and_right _ _ (unsolid_sign 45 (past_spaces text) refl u))
    (and_right _ _ (no_pair_there false (past_spaces text) u))
    ∙ (indented_on_line k shallow text g ∙ leaf_on_line (suc k) shallow text g.none w)

-- no whitespace, so nothing is there
pub nothing_on_sign_line : (compact shallow : Bool) (k : ℕ) (text : List ℕ) → LineGoesOn text
    → is_empty (take_while white text) ≡ true → part_after_sign compact shallow k text ≡ None
nothing_on_sign_line compact shallow k text g w =
    let z : nat_le 1 (spaces_before text) ≡ false = ap (nat_le 1) (none_taken text w) in
    not_compact compact shallow k text (and_left _ _ z) (and_left _ _ z)
    ∙ (indented_on_line k shallow text g ∙ ap as_part (nothing_on_line (suc k) shallow text g.none w))

-- ---- after comments

after_comments : (compact shallow : Bool) (k : ℕ) (text : List ℕ) → closes_line (all_comments false text) ≡ true
    → part_after_sign compact shallow k text ≡ indented_node k shallow (λ t. block_node_at (suc k) shallow false t) text
    (all_comments false text)
after_comments compact shallow k text h =
    let u : first solid (past_spaces text) ≡ false = closed_unsolid text h in
    not_compact compact shallow k text (and_right _ _ (unsolid_sign 45 (past_spaces text) refl u))
    (and_right _ _ (no_pair_there false (past_spaces text) u))

-- nothing of the part is there: it is left out
pub omitted_after : (compact shallow : Bool) (k : ℕ) (text : List ℕ) → closes_line (all_comments false text) ≡ true
    → block_node_stops (suc k) shallow (all_comments false text).1 ≡ true
    → part_after_sign compact shallow k text ≡ Some (omitted (all_comments false text).0, (all_comments false text).1)
omitted_after compact shallow k text h e = after_comments compact shallow k text h
    ∙ left_out (all_comments false text) (block_node_at (suc k) shallow false text) h e
  where
    left_out : (c : List LineEnd × List ℕ) (r : Read Node) → closes_line c ≡ true → block_node_stops (suc k) shallow c.1 ≡ true
        → (if omits (suc k) shallow c then Some (omitted c.0, c.1) else on r (λ n rest. Some (node n, rest)))
        ≡ Some (omitted c.0, c.1)
    left_out c r h e = rw (h, e) refl

-- a node is on a later line
pub node_on_lines : (compact shallow : Bool) (k : ℕ) (text : List ℕ) → closes_line (all_comments false text) ≡ true
    → block_node_stops (suc k) shallow (all_comments false text).1 ≡ false
    → part_after_sign compact shallow k text ≡ as_part (block_node_at (suc k) shallow false text)
node_on_lines compact shallow k text h e = after_comments compact shallow k text h
    ∙ there (all_comments false text) (block_node_at (suc k) shallow false text) h e
  where
    there : (c : List LineEnd × List ℕ) (r : Read Node) → closes_line c ≡ true → block_node_stops (suc k) shallow c.1 ≡ false
        → (if omits (suc k) shallow c then Some (omitted c.0, c.1) else on r (λ n rest. Some (node n, rest)))
        ≡ as_part r
    there c r h e = rw (h, e) refl

-- ---- B2: whether a node ends before a line, by its spaces

unspaced : (k : ℕ) (shallow d : Bool) (s : ℕ) → s ≡ 0 → d ≡ false
    → nat_lt s (suc k) && not (shallow && (s == k) && d) ≡ true
unspaced k shallow d s z e = and_from _ _ (lt-ltb s (suc k) (omega arith)) (not_from_false _ (and_right _ _ e))

marker_dash : (text : List ℕ) → marker text ≡ true → sign 45 (past_spaces text) ≡ false
marker_dash text h = elim (cases_Bool (sign 45 (past_spaces text))) [
  | inl e ↦ absurd (false≢true (sym (dash_unmarked (past_spaces text) e)
      ∙ (ap marker (none_spaced text (marker_unspaced text h)) ∙ h)))
  | inr e ↦ e
]
