-- The comments of block nodes are those of their text (YAML 1.2.2, 8.1 and 8.2).
use Rattle.std.proofs.{Common.{◌≡◌, refl, sym, ◌∙◌, ap, arith, ◌≤◌, append_assoc, append-nil}, lemmas.Bool.{and_parts, and_from, cond_both}}
use Rattle.std.{proofs.lemmas.Bool.{false≢true, not_from_false, ne_eqb, or_from}, specs.Prelude.{ℕ, suc, zero, ◌+◌, Bool, true, false, not}}
use Rattle.std.specs.{Prelude.{◌&&◌, ◌||◌, ◌==◌, List, [], ◌∷◌, ◌++◌, Option, Some, None, codes, cond, nat_le}, List.list_all}
use Rattle.{yaml_chars.specs.Classes.{white, line_break, ns}, yaml_grammar.specs.Texts.{is_empty, first, spaces, optional, byte_len}}
use Rattle.yaml_grammar.specs.{Texts.starts_line, Separation.{Break, lf, cr, cr_lf, break_text, stop_fits, LineEnd, comment_text}}
use Rattle.yaml_grammar.specs.{Separation.{comment_fits, line_end_fits, comments_text, comments_fit, sep_text, sep_fits}, FlowScalars.outer}
use Rattle.yaml_grammar.specs.{FlowScalars.block_key, FlowNodes.{flow_text, flow_fits, short_key, flow_events}, BlockScalars.Chomping}
use Rattle.yaml_grammar.specs.BlockScalars.{strip, clip, keep, Header, BlockScalar, digit_text, chomping_text, body_text, bare_block_text}
use Rattle.yaml_grammar.specs.BlockScalars.{block_text, trail_fits, digit_fits, header_fits, body_fits, block_fits, block_events}
use Rattle.yaml_grammar.specs.BlockNodes.{Node, block, flow, items, pairs, Items, item, item_and, Pairs, pair, pair_and, Pair, asked}
use Rattle.yaml_grammar.specs.BlockNodes.{asked_alone, keyed, keyed_alone, Indented, compact_items, compact_pairs, node, omitted, node_text}
use Rattle.yaml_grammar.specs.BlockNodes.{items_text, pairs_text, pair_text, indented_text, is_omitted, node_fits, items_fit, pairs_fit}
use Rattle.yaml_grammar.specs.BlockNodes.{pair_fits, indented_fits, indented_end, node_events, items_events, pairs_events, pair_events}
use Rattle.yaml_grammar.specs.{BlockNodes.indented_events, Events.{Event, literal_style, folded_style}}
use Rattle.{yaml_recognizers.proofs.OneStyle.Characters.{every_joined, from_range}, yaml_comments.specs.Presented.line_comments}
use Rattle.yaml_comments.specs.Presented.{lines_comments, block_comments, node_comments, items_comments, pairs_comments, pair_comments}
use Rattle.yaml_comments.{specs.Presented.indented_comments, proofs.{Segments.{no_mark, no_break, marked}, Parted.{Parted, scalar_ranges}}}
use Rattle.yaml_comments.proofs.Parted.{HasNoBytes, nothing, join, texted, moved, meant, sequence_of, mapping_of, with_omitted, unmarked}
use Rattle.yaml_comments.proofs.{Parted.{option_is_nb, block_part}, LinesParted.{whites_unmarked, whites_unbroken, spaces_part, lines_part}}
use Rattle.yaml_comments.proofs.{LinesParted.sep_part, FlowParted.{omitted_part, flow_part}}

-- ---- block scalars

-- neither a `#` nor a break
abbrev clean : List ℕ → Type 0
clean cs = (list_all no_mark cs ≡ true) × (list_all no_break cs ≡ true)

-- texts without either, joined, have neither
clean_joined : (one other : List ℕ) → clean one → clean other → clean (one ++ other)
clean_joined one other c d = (every_joined no_mark one other c.0 d.0, every_joined no_break one other c.1 d.1)

-- a chomping mark is clean
clean_chomping : (c : Chomping) → clean (chomping_text c)
clean_chomping strip = (refl, refl)
clean_chomping clip = (refl, refl)
clean_chomping keep = (refl, refl)

-- a digit is clean
clean_digit : (d : Option ℕ) → digit_fits d ≡ true → clean (optional digit_text d)
clean_digit None h = (refl, refl)
clean_digit (Some d) h =
    let p : (1 ≤ d) × (d ≤ 9) = from_range 1 9 d h in (
      and_from _ _ (not_from_false _ (ne_eqb (48 + d) 35 (λ e. omega (arith, e)))) refl,
      and_from _ _ (not_from_false _ (or_from _ _ (ne_eqb (48 + d) 10 (λ e. omega (arith, e)))
          (ne_eqb (48 + d) 13 (λ e. omega (arith, e))))) refl,
    )

-- the sign of a block scalar
abbrev sign_text : Bool → List ℕ
sign_text folded = cond folded (codes ">") (codes "|")

-- its digit and its chomping mark
abbrev marks_text : Header → List ℕ
marks_text h = cond h.digit_last (chomping_text h.chomping ++ optional digit_text h.digit)
    (optional digit_text h.digit ++ chomping_text h.chomping)

-- a header up to its comment is clean
clean_head : (h : Header) → digit_fits h.digit ≡ true → list_all white (h.line_end).blank ≡ true
    → clean (sign_text h.folded ++ marks_text h ++ (h.line_end).blank)
clean_head h d w = clean_joined (sign_text h.folded ++ marks_text h) (h.line_end).blank
    (clean_joined (sign_text h.folded) (marks_text h) (sign h.folded)
    (cond_both h.digit_last _ _ clean (λ e. clean_joined (chomping_text h.chomping) (optional digit_text h.digit)
    (clean_chomping h.chomping) (clean_digit h.digit d))
    (λ e. clean_joined (optional digit_text h.digit) (chomping_text h.chomping) (clean_digit h.digit d) (clean_chomping h.chomping))))
    (whites_unmarked (h.line_end).blank w, whites_unbroken (h.line_end).blank w)
  where
    sign : (b : Bool) → clean (sign_text b)
    sign true = (refl, refl)
    sign false = (refl, refl)

-- the comment of a header is on its line
nb_there : (apart : Bool) (c : Option (List ℕ)) → comment_fits apart c ≡ true → option_is_nb c ≡ true
nb_there apart None h = refl
nb_there apart (Some c) h = (and_parts _ _ h).1

-- a comment that may be left out is spelled
marked_same : (c : Option (List ℕ)) → marked c ≡ optional comment_text c
marked_same None = refl
marked_same (Some c) = refl

-- what follows the header begins with a break, or is the end of the text
behind_header : (stop : Option Break) (body after : List ℕ) → stop_fits stop (body ++ after) ≡ true
    → first line_break (optional break_text stop ++ body) || (is_empty (optional break_text stop ++ body) && is_empty after) ≡ true
behind_header None [] after h = h
behind_header None (c ∷ cs) after h = absurd (false≢true h)
behind_header (Some lf) body after h = refl
behind_header (Some cr) body after h = refl
behind_header (Some cr_lf) body after h = refl

-- a header and a body, regrouped
header_grouped : (sign marks blank comment stop body : List ℕ)
    → sign ++ marks ++ blank ++ (comment ++ (stop ++ body)) ≡ sign ++ marks ++ (blank ++ comment ++ stop) ++ body
header_grouped sign marks blank comment stop body = simp append_assoc

-- a block scalar without what is behind it is a part
bare_block_part : (m : ℕ) (b : BlockScalar) (at : ℕ) (after : List ℕ) → header_fits b.header (body_text b.body ++ after) ≡ true
    → Parted (bare_block_text b) at (block_events at b) after (line_comments (b.header).line_end)
bare_block_part m b at after h =
    let e : LineEnd = (b.header).line_end in
    let p : (digit_fits (b.header).digit ≡ true) × (line_end_fits false e (body_text b.body ++ after) ≡ true) = and_parts _ _ h in
    let q : (list_all white e.blank && comment_fits (not (is_empty e.blank)) e.comment ≡ true)
    × (stop_fits e.stop (body_text b.body ++ after) ≡ true) = and_parts _ _ p.1 in
    let r : (list_all white e.blank ≡ true) × (comment_fits (not (is_empty e.blank)) e.comment ≡ true) = and_parts _ _ q.0 in
    let head : List ℕ = sign_text (b.header).folded ++ marks_text b.header ++ e.blank in
    let stop : List ℕ = optional break_text e.stop in
    let rest : List ℕ = stop ++ body_text b.body in
    let same : head ++ (marked e.comment ++ rest) ≡ bare_block_text b =
    ap (λ c. head ++ (c ++ rest)) (marked_same e.comment)
    ∙ header_grouped (sign_text (b.header).folded) (marks_text b.header) e.blank (optional comment_text e.comment) stop
    (body_text b.body) in
    let c : clean head = clean_head b.header p.0 r.0 in
    texted same (block_part head e.comment rest at (at + byte_len (bare_block_text b)) _ _ after
    (styled (b.header).folded at (at + byte_len (bare_block_text b))) (unstyled (b.header).folded at (at + byte_len (bare_block_text b)))
    (ap (λ t. at + byte_len t) (sym same)) (and_from _ _ c.0 c.1) (nb_there (not (is_empty e.blank)) e.comment r.1)
    (behind_header e.stop (body_text b.body) after q.1))
  where
    styled : (f : Bool) (start end : ℕ) → scalar_ranges (cond f folded_style literal_style) start end
        ≡ record { header = true; start = start; end = end } ∷ []
    styled true start end = refl
    styled false start end = refl

    unstyled : (f : Bool) (start end : ℕ) → HasNoBytes (cond f folded_style literal_style) start end
    unstyled true start end = tt
    unstyled false start end = tt

-- the comments behind a block scalar are a part
trail_part : (q : ℕ) (es : List LineEnd) (at : ℕ) (after : List ℕ) → trail_fits q es after ≡ true
    → Parted (comments_text es) at [] after (lines_comments es)
trail_part q [] at after h = nothing at after
trail_part q (e ∷ es) at after h = lines_part true (e ∷ es) at after (and_parts _ _ h).1

-- a block scalar is a part
block_scalar_part : (m : ℕ) (b : BlockScalar) (at : ℕ) (after : List ℕ) → block_fits m b after ≡ true
    → Parted (block_text b) at (block_events at b) after (block_comments b)
block_scalar_part m b at after h =
    let rest : List ℕ = comments_text b.trail ++ after in
    let p : (header_fits b.header (body_text b.body ++ rest) && body_fits (b.header).digit m b.body rest ≡ true)
    × (trail_fits (b.body).indent b.trail after ≡ true) = and_parts _ _ h in
    join refl (bare_block_part m b at rest (and_parts _ _ p.0).0) (trail_part (b.body).indent b.trail _ after p.1)

-- ---- nodes

-- so many spaces are so many bytes
byte_spaces : (n : ℕ) → byte_len (spaces n) ≡ n
byte_spaces zero = refl
byte_spaces (suc n) = omega (arith, byte_spaces n)

-- spaces, and then a part
after_spaces : {t after : List ℕ} {at : ℕ} {es : List Event} {cs : List (List ℕ)} (k : ℕ) → Parted t (at + k) es after cs
    → Parted (spaces k ++ t) at es after cs
after_spaces {t} {after} {at} {es} {cs} k p = join refl (spaces_part k at (t ++ after)) (moved (ap (λ n. at + n) (sym (byte_spaces k))) p)

mutual
  -- a block node is a part
  pub node_part : (n : Node) (m : ℕ) (shallow bol : Bool) (at : ℕ) (after : List ℕ) → node_fits n m shallow bol after ≡ true
      → Parted (node_text n) at (node_events n at) after (node_comments n)
  node_part (block sep b) m shallow bol at after h =
      let p : (sep_fits m false bol sep (block_text b ++ after) ≡ true) × (block_fits m b after ≡ true) = and_parts _ _ h in
      join refl (sep_part m false bol sep at (block_text b ++ after) p.0) (block_scalar_part m b _ after p.1)
  node_part (flow sep f comments) m shallow bol at after h =
      let rest : List ℕ = comments_text comments ++ after in
      let p : (sep_fits m false bol sep (flow_text f ++ rest) && flow_fits f m outer (starts_line bol (sep_text sep)) rest ≡ true)
      × (comments_fit false comments after ≡ true) = and_parts _ _ h in
      let q : (sep_fits m false bol sep (flow_text f ++ rest) ≡ true)
      × (flow_fits f m outer (starts_line bol (sep_text sep)) rest ≡ true) = and_parts _ _ p.0 in
      texted (sym (append_assoc (sep_text sep) (flow_text f) (comments_text comments)))
      (meant (append-nil (flow_events f (at + byte_len (sep_text sep))))
      (join (sym (append_assoc (flow_text f) (comments_text comments) after)) (sep_part m false bol sep at (flow_text f ++ rest) q.0)
      (join refl (flow_part f m outer (starts_line bol (sep_text sep)) _ rest q.1) (lines_part false comments _ after p.1))))
  node_part (items comments k is) m shallow bol at after h =
      let p : (comments_fit bol comments (spaces k ++ (items_text is k ++ after)) && nat_le m (cond shallow (suc k) k) ≡ true)
      × (items_fit is k after ≡ true) = and_parts _ _ h in
      texted (sym (append_assoc (comments_text comments) (spaces k) (items_text is k)))
      (sequence_of
      (join (sym (append_assoc (spaces k) (items_text is k) after)) (lines_part bol comments at _ (and_parts _ _ p.0).0)
      (after_spaces k (items_part is k _ after p.1))))
  node_part (pairs comments k ps) m shallow bol at after h =
      let p : (comments_fit bol comments (spaces k ++ (pairs_text ps k ++ after)) && nat_le m k ≡ true)
      × (pairs_fit ps k (k == 0) after ≡ true) = and_parts _ _ h in
      texted (sym (append_assoc (comments_text comments) (spaces k) (pairs_text ps k)))
      (mapping_of
      (join (sym (append_assoc (spaces k) (pairs_text ps k) after)) (lines_part bol comments at _ (and_parts _ _ p.0).0)
      (after_spaces k (pairs_part ps k (k == 0) _ after p.1))))

  -- items are a part
  items_part : (is : Items) (k at : ℕ) (after : List ℕ) → items_fit is k after ≡ true
      → Parted (items_text is k) at (items_events is k at) after (items_comments is)
  items_part (item i) k at after h =
      let p : (not (first ns (indented_text i k ++ after)) ≡ true) × (indented_fits i k false after ≡ true) = and_parts _ _ h in
      join refl (unmarked (codes "-") at _ refl) (indented_part i k false _ after p.1)
  items_part (item_and i is) k at after h =
      let rest : List ℕ = spaces k ++ (items_text is k ++ after) in
      let p : (not (first ns (indented_text i k ++ rest)) && indented_fits i k false rest ≡ true)
      × (items_fit is k after ≡ true) = and_parts _ _ h in
      texted (sym (append_assoc (codes "-" ++ indented_text i k) (spaces k) (items_text is k)))
      (join refl (unmarked (codes "-") at _ refl)
      (join (sym (append_assoc (spaces k) (items_text is k) after)) (indented_part i k false _ rest (and_parts _ _ p.0).1)
      (after_spaces k (items_part is k _ after p.1))))

  -- pairs are a part
  pairs_part : (ps : Pairs) (k : ℕ) (bol : Bool) (at : ℕ) (after : List ℕ) → pairs_fit ps k bol after ≡ true
      → Parted (pairs_text ps k) at (pairs_events ps k at) after (pairs_comments ps)
  pairs_part (pair p) k bol at after h = pair_part p k bol at after h
  pairs_part (pair_and p ps) k bol at after h =
      let rest : List ℕ = spaces k ++ (pairs_text ps k ++ after) in
      let f : (pair_fits p k bol rest ≡ true) × (pairs_fit ps k (k == 0) after ≡ true) = and_parts _ _ h in
      texted (sym (append_assoc (pair_text p k) (spaces k) (pairs_text ps k)))
      (join (sym (append_assoc (spaces k) (pairs_text ps k) after)) (pair_part p k bol at rest f.0)
      (after_spaces k (pairs_part ps k (k == 0) _ after f.1)))

  -- a pair is a part
  pair_part : (p : Pair) (k : ℕ) (bol : Bool) (at : ℕ) (after : List ℕ) → pair_fits p k bol after ≡ true
      → Parted (pair_text p k) at (pair_events p k at) after (pair_comments p)
  pair_part (asked key value) k bol at after h =
      let rest : List ℕ = spaces k ++ (codes ":" ++ (indented_text value k ++ after)) in
      let p : (not (first ns (indented_text key k ++ rest)) && not (is_omitted key) && indented_fits key k true rest ≡ true)
      × (indented_fits value k true after ≡ true) = and_parts _ _ h in
      texted (simp append_assoc)
      (join refl (unmarked (codes "?") at _ refl)
      (join (simp append_assoc) (indented_part key k true _ rest (and_parts _ _ p.0).1)
      (after_spaces k (join refl (unmarked (codes ":") _ _ refl) (indented_part value k true _ after p.1)))))
  pair_part (asked_alone key) k bol at after h =
      let p : (not (first ns (indented_text key k ++ after)) && not (is_omitted key) ≡ true) × (indented_fits key k true after ≡ true) =
      and_parts _ _ h in
      with_omitted (indented_end key k (at + 1)) (join refl (unmarked (codes "?") at _ refl) (indented_part key k true _ after p.1))
  pair_part (keyed key gap value) k bol at after h =
      let rest : List ℕ = gap ++ (codes ":" ++ (node_text value ++ after)) in
      let p : (flow_fits key 0 block_key bol rest && list_all white gap && short_key key gap ≡ true)
      × (node_fits value (suc k) true false after ≡ true) = and_parts _ _ h in
      let q : (flow_fits key 0 block_key bol rest && list_all white gap ≡ true) × (short_key key gap ≡ true) = and_parts _ _ p.0 in
      let r : (flow_fits key 0 block_key bol rest ≡ true) × (list_all white gap ≡ true) = and_parts _ _ q.0 in
      texted (simp append_assoc)
      (join (simp append_assoc) (flow_part key 0 block_key bol at rest r.0)
      (join refl (unmarked gap _ _ (whites_unmarked gap r.1))
      (join refl (unmarked (codes ":") _ _ refl) (node_part value (suc k) true false _ after p.1))))
  pair_part (keyed_alone key gap comments) k bol at after h =
      let rest : List ℕ = gap ++ (codes ":" ++ (comments_text comments ++ after)) in
      let p : (flow_fits key 0 block_key bol rest && list_all white gap && short_key key gap ≡ true)
      × (comments_fit false comments after ≡ true) = and_parts _ _ h in
      let q : (flow_fits key 0 block_key bol rest && list_all white gap ≡ true) × (short_key key gap ≡ true) = and_parts _ _ p.0 in
      let r : (flow_fits key 0 block_key bol rest ≡ true) × (list_all white gap ≡ true) = and_parts _ _ q.0 in
      texted (simp append_assoc)
      (join (simp append_assoc) (flow_part key 0 block_key bol at rest r.0)
      (join refl (unmarked gap _ _ (whites_unmarked gap r.1))
      (join refl (unmarked (codes ":") _ _ refl)
      (join refl (omitted_part _ (comments_text comments ++ after)) (lines_part false comments _ after p.1)))))

  -- what comes after `-`, `?` or `:` is a part
  indented_part : (i : Indented) (k : ℕ) (shallow : Bool) (at : ℕ) (after : List ℕ) → indented_fits i k shallow after ≡ true
      → Parted (indented_text i k) at (indented_events i k at) after (indented_comments i)
  indented_part (compact_items s is) k shallow at after h =
      sequence_of (after_spaces s (items_part is (k + 1 + s) _ after (and_parts _ _ h).1))
  indented_part (compact_pairs s ps) k shallow at after h =
      mapping_of (after_spaces s (pairs_part ps (k + 1 + s) false _ after (and_parts _ _ h).1))
  indented_part (node n) k shallow at after h = node_part n (suc k) shallow false at after h
  indented_part (omitted comments) k shallow at after h =
      join refl (omitted_part at (comments_text comments ++ after)) (lines_part false comments _ after h)
