-- The text of a tree with comments is its rows, with a trail behind each.
use Rattle.std.{proofs.Common.{◌≡◌, refl, sym, ◌∙◌, ap, append_assoc, append-nil}, specs.Prelude.{ℕ, ◌+◌, Bool, true, false, cond, List}}
use Rattle.std.specs.Prelude.{[], ◌∷◌, ◌++◌, codes}
use Rattle.yaml_grammar.specs.{Texts.spaces, Trees.{Tree, text, sequence, mapping, Elements, no_element, element, Members, no_member}}
use Rattle.yaml_grammar.specs.{Trees.member, Style.{plain_in_style, literal_in_style, in_double_quotes, literal_mark, literal_lines}}
use Rattle.{yaml_grammar.specs.Style.{feeds_at_end, key_text, long_key}, yaml_commented.specs.Trails.{Trail, end_text, extras_text}}
use Rattle.yaml_commented.specs.{Trails.trail_text, Commented.{next_trail, later_trails, after_key, after_tree, after_value}}
use Rattle.yaml_commented.specs.Commented.{after_elements, after_members, scalar_with, key_with, element_with, value_with, elements_with}
use Rattle.yaml_commented.specs.{Commented.members_with, CommentedLaws.RowsWoven, StyleRows.{Row, line_row, woven, scalar_row, key_rows}}
use Rattle.yaml_commented.specs.StyleRows.{key_lead, element_rows, value_rows, elements_rows, members_rows}

-- a line and what is behind it, regrouped
line_grouped : (lead source end extras rest : List ℕ)
    → (lead ++ source) ++ (end ++ (extras ++ rest)) ≡ lead ++ ((source ++ (end ++ extras)) ++ rest)
line_grouped lead source end extras rest = simp append_assoc

-- a literal and what is behind it, regrouped
literal_grouped : (lead mark end lines extras rest : List ℕ)
    → (lead ++ mark) ++ (end ++ (lines ++ (extras ++ rest))) ≡ lead ++ ((((mark ++ end) ++ lines) ++ extras) ++ rest)
literal_grouped lead mark end lines extras rest = simp append_assoc

-- a long key and what is behind it, regrouped
key_grouped : (lead ask key end extras blank colon value : List ℕ)
    → (lead ++ (ask ++ key)) ++ (end ++ (extras ++ ((blank ++ colon) ++ value)))
    ≡ lead ++ (((((ask ++ key) ++ (end ++ extras)) ++ blank) ++ colon) ++ value)
key_grouped lead ask key end extras blank colon value = simp append_assoc

-- a line and what is behind it
line_woven : (lead source : List ℕ) (rest : List Row) (ws : List Trail)
    → woven (line_row (lead ++ source) ∷ rest) ws
    ≡ lead ++ ((source ++ trail_text (next_trail ws)) ++ woven rest (later_trails ws))
line_woven lead source rest ws =
    line_grouped lead source (end_text (next_trail ws).behind) (extras_text (next_trail ws).lines) (woven rest (later_trails ws))

-- a scalar and what is behind it
scalar_woven : (j : ℕ) (value lead : List ℕ) (rest : List Row) (ws : List Trail)
    → woven (scalar_row j value lead ∷ rest) ws ≡ lead ++ (scalar_with j value (next_trail ws) ++ woven rest (later_trails ws))
scalar_woven j value lead rest ws = by (plain_in_style value) (literal_in_style value)
  where
    by : (p l : Bool) → woven (cond p (line_row (lead ++ value))
        (cond l (record { head = lead ++ literal_mark (feeds_at_end value); body = literal_lines j true value })
        (line_row (lead ++ in_double_quotes value))) ∷ rest) ws
        ≡ lead ++ (cond p (value ++ trail_text (next_trail ws))
        (cond l (literal_mark (feeds_at_end value) ++ end_text (next_trail ws).behind ++ literal_lines j true value
        ++ extras_text (next_trail ws).lines) (in_double_quotes value ++ trail_text (next_trail ws))) ++ woven rest (later_trails ws))
    by true l = line_woven lead value rest ws
    by false true = literal_grouped lead (literal_mark (feeds_at_end value)) (end_text (next_trail ws).behind)
        (literal_lines j true value) (extras_text (next_trail ws).lines) (woven rest (later_trails ws))
    by false false = line_woven lead (in_double_quotes value) rest ws

-- a key, and then its value
key_woven : (i : ℕ) (key lead : List ℕ) (rows : List Row) (ws : List Trail) (value : List ℕ)
    → woven rows (after_key key ws) ≡ key_lead i key lead ++ value
    → woven (key_rows key lead ++ rows) ws ≡ lead ++ (key_with i key ws ++ value)
key_woven i key lead rows ws value h = by (long_key key) h
  where
    by : (b : Bool) → woven rows (cond b (later_trails ws) ws) ≡ cond b (spaces i ++ codes ":")
        (lead ++ (key_text key ++ codes ":")) ++ value
        → woven (cond b (line_row (lead ++ (codes "? " ++ key_text key)) ∷ []) [] ++ rows) ws
        ≡ lead ++ (cond b (codes "? " ++ key_text key ++ trail_text (next_trail ws) ++ spaces i ++ codes ":")
        (key_text key ++ codes ":") ++ value)
    by true h = rw h (key_grouped lead (codes "? ") (key_text key) (end_text (next_trail ws).behind)
        (extras_text (next_trail ws).lines) (spaces i) (codes ":") value)
    by false h = h ∙ append_assoc lead (key_text key ++ codes ":") value

-- a pair and the members after it, from its value and those
pair_woven : (key : List ℕ) (t : Tree) (ms : Members) (i : ℕ) (lead : List ℕ) (rest : List Row) (ws : List Trail)
    → woven (value_rows t i (key_lead i key lead) ++ (members_rows ms i ++ rest)) (after_key key ws)
    ≡ key_lead i key lead ++ (value_with t i (after_key key ws) ++ (members_with ms i (after_value t (after_key key ws))
    ++ woven rest (after_members ms (after_value t (after_key key ws)))))
    → woven ((key_rows key lead ++ (value_rows t i (key_lead i key lead) ++ members_rows ms i)) ++ rest) ws
    ≡ lead ++ ((key_with i key ws ++ value_with t i (after_key key ws) ++ members_with ms i (after_value t (after_key key ws)))
    ++ woven rest (after_members ms (after_value t (after_key key ws))))
pair_woven key t ms i lead rest ws h =
    ap (λ rows. woven rows ws) (append_assoc (key_rows key lead) (value_rows t i (key_lead i key lead) ++ members_rows ms i) rest
    ∙ ap (λ rows. key_rows key lead ++ rows) (append_assoc (value_rows t i (key_lead i key lead)) (members_rows ms i) rest))
    ∙ (key_woven i key lead (value_rows t i (key_lead i key lead) ++ (members_rows ms i ++ rest)) ws _ h ∙ simp append_assoc)

mutual
  -- an element and what is behind it
  element_woven : (t : Tree) (i : ℕ) (lead : List ℕ) (rest : List Row) (ws : List Trail)
      → woven (element_rows t i lead ++ rest) ws ≡ lead ++ (element_with t i ws ++ woven rest (after_tree t ws))
  element_woven (text value) i lead rest ws = scalar_woven (i + 2) value lead rest ws
  element_woven (sequence no_element) i lead rest ws = line_woven lead (codes "[]") rest ws
  element_woven (sequence (element t ts)) i lead rest ws =
      rw (
        append_assoc (element_rows t (i + 2) (lead ++ codes "- ")) (elements_rows ts (i + 2)) rest,
        element_woven t (i + 2) (lead ++ codes "- ") (elements_rows ts (i + 2) ++ rest) ws,
        elements_woven ts (i + 2) rest (after_tree t ws),
      ) (simp append_assoc)
  element_woven (mapping no_member) i lead rest ws = line_woven lead (codes "{}") rest ws
  element_woven (mapping (member key t ms)) i lead rest ws = pair_woven key t ms (i + 2) lead rest ws
      (value_woven t (i + 2) (key_lead (i + 2) key lead) (members_rows ms (i + 2) ++ rest) (after_key key ws)
      ∙ ap (λ r. key_lead (i + 2) key lead ++ (value_with t (i + 2) (after_key key ws) ++ r))
      (members_woven ms (i + 2) rest (after_value t (after_key key ws))))

  -- a value and what is behind it
  value_woven : (t : Tree) (i : ℕ) (lead : List ℕ) (rest : List Row) (ws : List Trail)
      → woven (value_rows t i lead ++ rest) ws ≡ lead ++ (value_with t i ws ++ woven rest (after_value t ws))
  value_woven (text value) i lead rest ws = scalar_woven (i + 2) value (lead ++ codes " ") rest ws ∙ simp append_assoc
  value_woven (sequence no_element) i lead rest ws = line_woven lead (codes " []") rest ws
  value_woven (sequence (element t ts)) i lead rest ws =
      let own : List Trail = later_trails ws in
      let start : List ℕ = spaces (i + 2) ++ codes "- " in
      rw (
        append_assoc (element_rows t (i + 2) start) (elements_rows ts (i + 2)) rest,
        element_woven t (i + 2) start (elements_rows ts (i + 2) ++ rest) own,
        elements_woven ts (i + 2) rest (after_tree t own),
      ) (simp append_assoc)
  value_woven (mapping no_member) i lead rest ws = line_woven lead (codes " {}") rest ws
  value_woven (mapping (member key t ms)) i lead rest ws =
      let own : List Trail = later_trails ws in
      let start : List ℕ = spaces (i + 2) in
      ap (λ r. lead ++ (end_text (next_trail ws).behind ++ (extras_text (next_trail ws).lines ++ r)))
      (pair_woven key t ms (i + 2) start rest own
      (value_woven t (i + 2) (key_lead (i + 2) key start) (members_rows ms (i + 2) ++ rest) (after_key key own)
      ∙ ap (λ r. key_lead (i + 2) key start ++ (value_with t (i + 2) (after_key key own) ++ r))
      (members_woven ms (i + 2) rest (after_value t (after_key key own))))) ∙ simp append_assoc

  -- further elements and what is behind them
  elements_woven : (ts : Elements) (i : ℕ) (rest : List Row) (ws : List Trail)
      → woven (elements_rows ts i ++ rest) ws ≡ elements_with ts i ws ++ woven rest (after_elements ts ws)
  elements_woven no_element i rest ws = refl
  elements_woven (element t ts) i rest ws =
      let start : List ℕ = spaces i ++ codes "- " in
      rw (
        append_assoc (element_rows t i start) (elements_rows ts i) rest,
        element_woven t i start (elements_rows ts i ++ rest) ws,
        elements_woven ts i rest (after_tree t ws),
      ) (simp append_assoc)

  -- further members and what is behind them
  members_woven : (ms : Members) (i : ℕ) (rest : List Row) (ws : List Trail)
      → woven (members_rows ms i ++ rest) ws ≡ members_with ms i ws ++ woven rest (after_members ms ws)
  members_woven no_member i rest ws = refl
  members_woven (member key t ms) i rest ws = pair_woven key t ms i (spaces i) rest ws
      (value_woven t i (key_lead i key (spaces i)) (members_rows ms i ++ rest) (after_key key ws)
      ∙ ap (λ r. key_lead i key (spaces i) ++ (value_with t i (after_key key ws) ++ r))
      (members_woven ms i rest (after_value t (after_key key ws)))) ∙ simp append_assoc

-- the text of a tree is its rows, with a trail behind each
pub rows_woven : RowsWoven
rows_woven (text value) ws = sym (scalar_woven 2 value [] [] ws ∙ append-nil _)
rows_woven (sequence no_element) ws = sym (line_woven [] (codes "[]") [] ws ∙ append-nil _)
rows_woven (sequence (element t ts)) ws =
    sym (element_woven t 0 (codes "- ") (elements_rows ts 0) ws
    ∙ (ap (λ rows. codes "- " ++ (element_with t 0 ws ++ woven rows (after_tree t ws))) (sym (append-nil (elements_rows ts 0)))
    ∙ (ap (λ r. codes "- " ++ (element_with t 0 ws ++ r)) (elements_woven ts 0 [] (after_tree t ws) ∙ append-nil _)
    ∙ simp append_assoc)))
rows_woven (mapping no_member) ws = sym (line_woven [] (codes "{}") [] ws ∙ append-nil _)
rows_woven (mapping (member key t ms)) ws =
    let rest : List Trail = after_key key ws in
    sym (ap (λ rows. woven rows ws) (sym (append-nil (key_rows key [] ++ (value_rows t 0 (key_lead 0 key []) ++ members_rows ms 0))))
    ∙ (pair_woven key t ms 0 [] [] ws
    (value_woven t 0 (key_lead 0 key []) (members_rows ms 0 ++ []) rest
    ∙ ap (λ r. key_lead 0 key [] ++ (value_with t 0 rest ++ r)) (members_woven ms 0 [] (after_value t rest)))
    ∙ append-nil _))
