-- What starts a line of a block, after comments or at the start of a line.
use Rattle.std.{proofs.Common.{ap, arith, inl, inr, length-append, refl, sym, ◌<◌, ◌∙◌, ◌≡◌, ◌≤◌, ◌⊎◌}, specs.Prelude.{Bool, List, None}}
use Rattle.std.specs.Prelude.{Option, Some, [], false, if◌then◌else◌, length, nat_le, not, suc, true, zero, ℕ, ◌&&◌, ◌++◌, ◌==◌, ◌||◌, ◌∷◌}
use Rattle.yaml_block.proofs.Prelude.{and_cases, and_from, and_left, and_right, cases_Bool, false≢true, le-leb, leb-true, not-false}
use Rattle.yaml_block.proofs.Prelude.{or_cases, nat_tests, white, Items, Node, Pairs, items, pairs, past_spaces, spaces_before, LineEnd}
use Rattle.yaml_block.proofs.Prelude.{Sep, comments_text, indents, sep_text, list_all, begins, first, is_empty, spaces, starts_line}
use Rattle.yaml_block.proofs.Prelude.{close_items, close_pairs, on_lines, plug, waits_item, flow_with, leaf_at, node_below, opens_pair}
use Rattle.yaml_block.proofs.Prelude.{sep_at, read_block, all_comments, more_comments, read_line_end, solid, drop_while, past, sign}
use Rattle.yaml_block.proofs.Prelude.{take_while, Read, on, block_indented_at, block_items_at, block_key_in, block_pairs_at, flow_leaf_at}
use Rattle.yaml_block.proofs.Prelude.{items_open, lead_deep, comments_step, LineOf, all_sound, line_sound, shorter, take_while_every}
use Rattle.yaml_block.proofs.{Prelude.{take_while_split, starts_joined, Sound}, BlockLeaves.no_leaf_unsolid, BlockSigns.white_after_spaces}
use Rattle.yaml_block.proofs.BlockSigns.{no_pair_there, untabbed, untabbed_taken, white_starts, white_unsolid_first}
use Rattle.yaml_block.specs.BlockParts.{as_part, leaf_part, part_at, sep_after}

-- a node after these comments
abbrev pub node_after : ℕ → Bool → Bool → List LineEnd → List ℕ → Read Node
node_after m shallow bol comments text = node_below block_key_in flow_leaf_at read_block (λ k t. block_items_at k t)
    (λ k b t. block_pairs_at k b t) m shallow bol (comments, text)

-- whether a sequence here is deep enough
abbrev pub is_deep : ℕ → Bool → ℕ → Bool
is_deep m shallow s = nat_le m (if shallow then suc s else s)

-- ---- a sequence

items_as_part : (comments : List LineEnd) (k : ℕ) (r : Read Items)
    → as_part (on r (λ is rest. Some (items comments k is, rest))) ≡ close_items (on_lines comments k) [] r
items_as_part comments k None = refl
items_as_part comments k (Some r) = refl

pairs_as_part : (comments : List LineEnd) (k : ℕ) (r : Read Pairs)
    → as_part (on r (λ ps rest. Some (pairs comments k ps, rest))) ≡ close_pairs (on_lines comments k) [] r
pairs_as_part comments k None = refl
pairs_as_part comments k (Some r) = refl

-- after comments, a `-` opens a sequence
pub sequence_after : (m : ℕ) (shallow bol : Bool) (comments : List LineEnd) (text : List ℕ)
    → bol || not (is_empty comments) ≡ true → sign 45 (past_spaces text) ≡ true
    → is_deep m shallow (spaces_before text) ≡ true
    → as_part (node_after m shallow bol comments text)
    ≡ on (block_indented_at (spaces_before text) false (past (past_spaces text)))
    (λ i rest. plug (waits_item (on_lines comments (spaces_before text)) (spaces_before text) []) i rest)
sequence_after m shallow bol comments text a s d =
    ap as_part (choose (on (block_items_at (spaces_before text) (past_spaces text))
    (λ is rest. Some (items comments (spaces_before text) is, rest))))
    ∙ (items_as_part comments (spaces_before text) (block_items_at (spaces_before text) (past_spaces text))
    ∙ items_open (on_lines comments (spaces_before text)) (spaces_before text) [] (past_spaces text) s)
  where
    choose : (r : Read Node)
        → (if (bol || not (is_empty comments)) && sign 45 (past_spaces text) && is_deep m shallow (spaces_before text)
        then r
        else if (bol || not (is_empty comments)) && nat_le m (spaces_before text) && opens_pair block_key_in
        flow_leaf_at read_block (spaces_before text == 0) (past_spaces text)
        then on (block_pairs_at (spaces_before text) (spaces_before text == 0) (past_spaces text))
        (λ ps rest. Some (pairs comments (spaces_before text) ps, rest))
        else leaf_at block_key_in flow_leaf_at read_block m bol (sep_at m bol comments (take_while white text))
        (drop_while white text))
        ≡ r
    choose r = rw (a, s, d) refl

-- ---- no sequence

-- a mapping, where one may begin; else a leaf
mapping_after : (m : ℕ) (shallow bol : Bool) (comments : List LineEnd) (text : List ℕ)
    → bol || not (is_empty comments) ≡ true
    → sign 45 (past_spaces text) && is_deep m shallow (spaces_before text) ≡ false
    → nat_le m (spaces_before text) ≡ true
    → as_part (node_after m shallow bol comments text)
    ≡ (if opens_pair block_key_in flow_leaf_at read_block (spaces_before text == 0) (past_spaces text)
    then close_pairs (on_lines comments (spaces_before text)) []
    (block_pairs_at (spaces_before text) (spaces_before text == 0) (past_spaces text))
    else as_part (leaf_at block_key_in flow_leaf_at read_block m bol (sep_at m bol comments (take_while white text))
    (drop_while white text)))
mapping_after m shallow bol comments text a s d =
    ap as_part (choose (on (block_items_at (spaces_before text) (past_spaces text))
    (λ is rest. Some (items comments (spaces_before text) is, rest)))
    (on (block_pairs_at (spaces_before text) (spaces_before text == 0) (past_spaces text))
    (λ ps rest. Some (pairs comments (spaces_before text) ps, rest)))
    (leaf_at block_key_in flow_leaf_at read_block m bol (sep_at m bol comments (take_while white text))
    (drop_while white text)))
    ∙ through (opens_pair block_key_in flow_leaf_at read_block (spaces_before text == 0) (past_spaces text))
    (block_pairs_at (spaces_before text) (spaces_before text == 0) (past_spaces text))
    (leaf_at block_key_in flow_leaf_at read_block m bol (sep_at m bol comments (take_while white text))
    (drop_while white text))
  where
    choose : (x y z : Read Node)
        → (if (bol || not (is_empty comments)) && sign 45 (past_spaces text) && is_deep m shallow (spaces_before text)
        then x
        else if (bol || not (is_empty comments)) && nat_le m (spaces_before text) && opens_pair block_key_in
        flow_leaf_at read_block (spaces_before text == 0) (past_spaces text) then y else z)
        ≡ (if opens_pair block_key_in flow_leaf_at read_block (spaces_before text == 0) (past_spaces text) then y
        else z)
    choose x y z = rw (a, s, d) refl

    through : (b : Bool) (r : Read Pairs) (z : Read Node)
        → as_part (if b then on r (λ ps rest. Some (pairs comments (spaces_before text) ps, rest)) else z)
        ≡ (if b then close_pairs (on_lines comments (spaces_before text)) [] r else as_part z)
    through true r z = pairs_as_part comments (spaces_before text) r
    through false r z = refl

-- a leaf, where no mapping may begin
leaf_after : (m : ℕ) (shallow bol : Bool) (comments : List LineEnd) (text : List ℕ)
    → bol || not (is_empty comments) ≡ true
    → sign 45 (past_spaces text) && is_deep m shallow (spaces_before text) ≡ false
    → nat_le m (spaces_before text) && opens_pair block_key_in flow_leaf_at read_block (spaces_before text == 0)
    (past_spaces text) ≡ false
    → node_after m shallow bol comments text ≡ leaf_at block_key_in flow_leaf_at read_block m bol
    (sep_at m bol comments (take_while white text)) (drop_while white text)
leaf_after m shallow bol comments text a s d =
    choose (on (block_items_at (spaces_before text) (past_spaces text))
    (λ is rest. Some (items comments (spaces_before text) is, rest)))
    (on (block_pairs_at (spaces_before text) (spaces_before text == 0) (past_spaces text))
    (λ ps rest. Some (pairs comments (spaces_before text) ps, rest)))
    (leaf_at block_key_in flow_leaf_at read_block m bol (sep_at m bol comments (take_while white text))
    (drop_while white text))
  where
    choose : (x y z : Read Node)
        → (if (bol || not (is_empty comments)) && sign 45 (past_spaces text) && is_deep m shallow (spaces_before text)
        then x
        else if (bol || not (is_empty comments)) && nat_le m (spaces_before text) && opens_pair block_key_in
        flow_leaf_at read_block (spaces_before text == 0) (past_spaces text) then y else z)
        ≡ z
    choose x y z = rw (a, s, d) refl

-- ---- the separation of a leaf

begins_white : (m : ℕ) (text : List ℕ) → m ≤ spaces_before text → begins (spaces m) (take_while white text) ≡ true
begins_white zero text l = refl
begins_white (suc m) [] l = absurd (omega arith)
begins_white (suc m) (c ∷ cs) l = elim (cases_Bool (c == 32)) [
  | inl e ↦ (let n : suc m ≤ suc (spaces_before cs) = rw e at l in rw (e, e) (begins_white m cs (omega arith)))
  | inr e ↦ (let n : suc m ≤ 0 = rw e at l in absurd (omega arith))
]

deep_sep : (m : ℕ) (bol : Bool) (comments : List LineEnd) (text : List ℕ) → bol || not (is_empty comments) ≡ true
    → nat_le m (spaces_before text) ≡ true
    → sep_at m bol comments (take_while white text) ≡ Some (sep_after comments (take_while white text))
deep_sep m true [] text a d = refl
deep_sep m false [] text a d = absurd (false≢true a)
deep_sep m bol (e ∷ es) text a d =
    let i : indents m (take_while white text) ≡ true = and_from _ _ (take_while_every white text)
    (begins_white m text (leb-true m (spaces_before text) d)) in
    rw i refl

alone_sep : (m : ℕ) (bol : Bool) (comments : List LineEnd) (lead : List ℕ) → bol || not (is_empty comments) ≡ true
    → is_empty comments ≡ true → sep_at m bol comments lead ≡ Some (sep_after comments lead)
alone_sep m true [] lead a e = refl
alone_sep m false [] lead a e = absurd (false≢true a)
alone_sep m bol (c ∷ cs) lead a e = absurd (false≢true e)

too_shallow_sep : (m : ℕ) (bol : Bool) (comments : List LineEnd) (text : List ℕ) → is_empty comments ≡ false
    → nat_le m (spaces_before text) ≡ false → sep_at m bol comments (take_while white text) ≡ None
too_shallow_sep m bol [] text e d = absurd (false≢true (sym e))
too_shallow_sep m bol (c ∷ cs) text e d = elim (cases_Bool (begins (spaces m) (take_while white text))) [
  | inl b ↦ (let l : m ≤ spaces_before (take_while white text ++ drop_while white text) =
      lead_deep m (take_while white text) (drop_while white text) b in
      absurd (false≢true (sym d ∙ (ap (λ t. nat_le m (spaces_before t)) (take_while_split white text) ∙ le-leb m _ l))))
  | inr b ↦ (let i : indents m (take_while white text) ≡ false = and_right _ _ b in rw i refl)
]

-- the text of comments and the whitespace after them
pub sep_after_text : (comments : List LineEnd) (lead : List ℕ)
    → sep_text (sep_after comments lead) ≡ comments_text comments ++ lead
sep_after_text [] lead = refl
sep_after_text (c ∷ cs) lead = refl

-- where there is a leaf, by whether a line starts after the comments
sep_starts : (bol here there : Bool) (comments : List LineEnd) (lead : List ℕ)
    → starts_line bol (comments_text comments) ≡ here → starts_line here lead ≡ there
    → starts_line bol (sep_text (sep_after comments lead)) ≡ there
sep_starts bol here there comments lead h t =
    ap (starts_line bol) (sep_after_text comments lead)
    ∙ (starts_joined bol (comments_text comments) lead ∙ (ap (λ b. starts_line b lead) h ∙ t))

leaf_with : (m : ℕ) (bol there : Bool) (sep : Sep) (found : Option Sep) (text : List ℕ) → found ≡ Some sep
    → starts_line bol (sep_text sep) ≡ there
    → as_part (leaf_at block_key_in flow_leaf_at read_block m bol found text) ≡ leaf_part m there sep text
leaf_with m bol there sep found text e b =
    ap (λ s. as_part (leaf_at block_key_in flow_leaf_at read_block m bol s text)) e
    ∙ ap (λ x. leaf_part m x sep text) b

-- ---- what begins at the start of a line

-- a line starts after no space, and after none else
pub spaces_start : (s : ℕ) → starts_line true (spaces s) ≡ (s == 0)
spaces_start zero = refl
spaces_start (suc s) = white_starts (spaces s) (all_white s)
    ∙ sym (let z : (suc s == 0) ≡ false = grind (arith, nat_tests) in z)
  where
    all_white : (s : ℕ) → list_all white (spaces s) ≡ true
    all_white zero = refl
    all_white (suc s) = all_white s

-- here: whether a line starts after the comments; there: whether one starts where the leaf may be
pub mapping_or_leaf_after : (m : ℕ) (shallow bol here there : Bool) (comments : List LineEnd) (text : List ℕ)
    → bol || not (is_empty comments) ≡ true
    → sign 45 (past_spaces text) && is_deep m shallow (spaces_before text) ≡ false
    → nat_le m (spaces_before text) ≡ true → first white (past_spaces text) ≡ false
    → starts_line bol (comments_text comments) ≡ here → starts_line here (take_while white text) ≡ there
    → (here ≡ true) ⊎ (text ≡ [])
    → as_part (node_after m shallow bol comments text)
    ≡ part_at (Some (on_lines comments (spaces_before text), spaces_before text)) m there
    (sep_after comments (take_while white text)) (past_spaces text)
mapping_or_leaf_after m shallow bol here there comments text a s d w h t f =
    mapping_after m shallow bol comments text a s d
    ∙ (ap (λ r. if opens_pair block_key_in flow_leaf_at read_block (spaces_before text == 0) (past_spaces text)
    then close_pairs (on_lines comments (spaces_before text)) []
    (block_pairs_at (spaces_before text) (spaces_before text == 0) (past_spaces text)) else r)
    (leaf_with m bol there sep (sep_at m bol comments (take_while white text)) (drop_while white text)
    (deep_sep m bol comments text a d) (sep_starts bol here there comments (take_while white text) h t)
    ∙ ap (leaf_part m there sep) (untabbed text w))
    ∙ same f)
  where
    sep : Sep
    sep = sep_after comments (take_while white text)

    same : (here ≡ true) ⊎ (text ≡ [])
        → (if opens_pair block_key_in flow_leaf_at read_block (spaces_before text == 0) (past_spaces text)
        then close_pairs (on_lines comments (spaces_before text)) []
        (block_pairs_at (spaces_before text) (spaces_before text == 0) (past_spaces text))
        else leaf_part m there (sep_after comments (take_while white text)) (past_spaces text))
        ≡ part_at (Some (on_lines comments (spaces_before text), spaces_before text)) m there
        (sep_after comments (take_while white text)) (past_spaces text)
    same (inl e) =
        let b : (spaces_before text == 0) ≡ there = sym (spaces_start (spaces_before text))
        ∙ (ap (starts_line true) (sym (untabbed_taken text w))
        ∙ (ap (λ x. starts_line x (take_while white text)) (sym e) ∙ t)) in
        ap (λ x. if opens_pair block_key_in flow_leaf_at read_block x (past_spaces text)
        then close_pairs (on_lines comments (spaces_before text)) []
        (block_pairs_at (spaces_before text) x (past_spaces text))
        else leaf_part m there (sep_after comments (take_while white text)) (past_spaces text)) b
    same (inr e) =
        let u : first solid (past_spaces text) ≡ false = ap (λ x. first solid (past_spaces x)) e in
        rw (no_pair_there (spaces_before text == 0) (past_spaces text) u, no_pair_there there (past_spaces text) u)
        refl

-- a leaf after a TAB, or where its line is less deep and no comments come before it
pub leaf_alone_after : (m : ℕ) (shallow bol here there : Bool) (comments : List LineEnd) (text : List ℕ)
    → bol || not (is_empty comments) ≡ true
    → sign 45 (past_spaces text) && is_deep m shallow (spaces_before text) ≡ false
    → nat_le m (spaces_before text) && not (first white (past_spaces text)) ≡ false
    → is_empty comments || nat_le m (spaces_before text) ≡ true
    → starts_line bol (comments_text comments) ≡ here → starts_line here (take_while white text) ≡ there
    → as_part (node_after m shallow bol comments text) ≡ part_at None m there (sep_after comments (take_while white text))
    (drop_while white text)
leaf_alone_after m shallow bol here there comments text a s d o h t =
    ap as_part (leaf_after m shallow bol comments text a s (unpaired (nat_le m (spaces_before text)) d))
    ∙ leaf_with m bol there (sep_after comments (take_while white text)) (sep_at m bol comments (take_while white text))
    (drop_while white text) (sep_there o)
    (sep_starts bol here there comments (take_while white text) h t)
  where
    unpaired : (b : Bool) → b && not (first white (past_spaces text)) ≡ false
        → b && opens_pair block_key_in flow_leaf_at read_block (spaces_before text == 0) (past_spaces text) ≡ false
    unpaired b d = elim (and_cases b (not (first white (past_spaces text))) d) [
      | inl e ↦ and_left _ _ e
      | inr e ↦ and_right _ _ (no_pair_there (spaces_before text == 0) (past_spaces text)
          (white_unsolid_first (past_spaces text) (not-false _ e)))
    ]

    sep_there : is_empty comments || nat_le m (spaces_before text) ≡ true
        → sep_at m bol comments (take_while white text) ≡ Some (sep_after comments (take_while white text))
    sep_there o = elim (or_cases (is_empty comments) (nat_le m (spaces_before text)) o) [
      | inl e ↦ alone_sep m bol comments (take_while white text) a e
      | inr e ↦ deep_sep m bol comments text a e
    ]

-- a line less deep after comments
pub too_shallow_after : (m : ℕ) (shallow bol : Bool) (comments : List LineEnd) (text : List ℕ)
    → bol || not (is_empty comments) ≡ true
    → sign 45 (past_spaces text) && is_deep m shallow (spaces_before text) ≡ false
    → nat_le m (spaces_before text) ≡ false → is_empty comments ≡ false
    → as_part (node_after m shallow bol comments text) ≡ None
too_shallow_after m shallow bol comments text a s d e =
    ap as_part (leaf_after m shallow bol comments text a s (and_left _ _ d)
    ∙ ap (λ sep. leaf_at block_key_in flow_leaf_at read_block m bol sep (drop_while white text))
    (too_shallow_sep m bol comments text e d))

-- ---- whether there are comments

none_read : (bol : Bool) (text : List ℕ) (r : Read LineEnd) → Sound (LineOf bol text) r
    → (more_comments text (λ rest. all_comments true rest) r).1 ≡ text
    → (more_comments text (λ rest. all_comments true rest) r).0 ≡ []
none_read bol text None s e = refl
none_read bol text (Some r) s e =
    let l : length r.1 < length text = shorter bol text r.1 r.0 s in
    let k : length r.1 ≡ length (comments_text (all_comments true r.1).0 ++ (all_comments true r.1).1) =
    ap length (all_sound true r.1).0 in
    let j : length (all_comments true r.1).1 ≡ length text = ap length e in
    absurd (omega (arith, l, k, j, length-append (comments_text (all_comments true r.1).0) (all_comments true r.1).1))

-- where nothing is passed there are none
pub no_comments : (bol : Bool) (text : List ℕ) → (all_comments bol text).1 ≡ text → (all_comments bol text).0 ≡ []
no_comments bol text e =
    ap (λ (c : List LineEnd × List ℕ). c.0) (comments_step bol text)
    ∙ none_read bol text (read_line_end bol text) (line_sound bol text)
    (ap (λ (c : List LineEnd × List ℕ). c.1) (sym (comments_step bol text)) ∙ e)

-- ---- at the end of the text

-- no node is there
pub nothing_after : (m : ℕ) (shallow bol : Bool) (comments : List LineEnd) (text : List ℕ)
    → bol || not (is_empty comments) ≡ true → past_spaces text ≡ []
    → node_after m shallow bol comments text ≡ None
nothing_after m shallow bol comments text a e =
    let u : first solid (past_spaces text) ≡ false = ap (first solid) e in
    let drops : drop_while white text ≡ [] = sym (white_after_spaces text) ∙ ap (drop_while white) e in
    leaf_after m shallow bol comments text a (and_left _ _ (ap (sign 45) e))
    (and_right _ _ (no_pair_there (spaces_before text == 0) (past_spaces text) u))
    ∙ (ap (leaf_at block_key_in flow_leaf_at read_block m bol (sep_at m bol comments (take_while white text))) drops
    ∙ none (sep_at m bol comments (take_while white text)))
  where
    none : (sep : Option Sep) → leaf_at block_key_in flow_leaf_at read_block m bol sep [] ≡ None
    none None = refl
    none (Some sep) = ap (λ r. on r (λ f rest. flow_with sep f (all_comments false rest)))
        (no_leaf_unsolid m (starts_line bol (sep_text sep)) [] refl)
