-- The steps of the scanner before a node: at the start of a line, and on a line that goes on.
use Rattle.std.{proofs.Common.{ap, arith, refl, sym, ◌∙◌, ◌≡◌, ◌⊎◌}, specs.Prelude.{Bool, List, None, Some, [], false, if◌then◌else◌}}
use Rattle.std.specs.Prelude.{nat_le, not, suc, true, ℕ, ◌&&◌, ◌++◌, ◌+◌, ◌||◌, ◌∷◌}
use Rattle.yaml_block.proofs.Prelude.{and_left, and_right, not_from_true, or_left, or_right, white, rest, Indented, past_spaces}
use Rattle.yaml_block.proofs.Prelude.{spaces_before, seq_start, LineEnd, comments_text, inline, sep_text, byte_len, first, is_empty}
use Rattle.yaml_block.proofs.Prelude.{starts_line, BlockFrame, Sits, on_lines, plug, unwind, waits_item, node_below, read_block}
use Rattle.yaml_block.proofs.Prelude.{all_comments, drop_while, past, sign, take_while, Read, on, block_indented_at, block_items_at}
use Rattle.yaml_block.proofs.Prelude.{block_key_in, block_pairs_at, flow_leaf_at, unwind_none, byte_len_joined, node_steps, line_starts}
use Rattle.yaml_block.proofs.BlockLines.{is_deep, leaf_alone_after, mapping_or_leaf_after, nothing_after, sep_after_text, sequence_after}
use Rattle.yaml_block.proofs.{BlockLines.too_shallow_after, BlockSigns.{leaf_on_line, nothing_on_line, untabbed_taken}}
use Rattle.yaml_block.{proofs.SignSteps.{byte_len_spaces, untaken}, specs.{declared.line_sign.Sign.TheVariants.Dash, BlockParts.as_part}}
use Rattle.yaml_block.specs.{BlockParts.{part_at, sep_after}, Frames.{AfterSign, AtLeaf, AtNode, AtNodeLine, place_in}}
use Rattle.yaml_grammar.specs.Events.{Event}

-- a separation after comments ends where its white does
sep_end : (from start lead : ℕ) (comments : List LineEnd) (blank : List ℕ)
    → from + byte_len (comments_text comments) ≡ start → start + byte_len blank ≡ lead
    → from + byte_len (sep_text (sep_after comments blank)) ≡ lead
sep_end from start lead comments blank p q =
    let t : byte_len (sep_text (sep_after comments blank)) ≡ byte_len (comments_text comments) + byte_len blank =
    ap byte_len (sep_after_text comments blank) ∙ byte_len_joined (comments_text comments) blank in
    omega (arith, t, p, q)

module _ (W : Read Indented) (text : List ℕ) (from : ℕ) where
  -- after the end of a line, a node is at the start of the next solid one
  pub node_line : (fs : List BlockFrame) (evs : List Event) (m : ℕ) (shallow bol : Bool) (at : ℕ)
      (comments : List LineEnd) (start : ℕ) → AtNode W text from fs evs m shallow bol at
      → all_comments bol (rest text at) ≡ (comments, rest text start) → bol || not (is_empty comments) ≡ true
      → at + byte_len (comments_text comments) ≡ start
      → starts_line bol (comments_text comments) ≡ line_starts text start
      → AtNodeLine W text from fs evs m shallow (is_empty comments) start
  node_line fs evs m shallow bol at comments start h c s p l = record {
    bol = bol;
    comments = comments;
    reads = h.reads ∙ ap (λ r. unwind fs (as_part r))
        (node_steps m shallow bol (rest text at) ∙ ap
        (node_below block_key_in flow_leaf_at read_block block_items_at block_pairs_at m shallow bol) c);
    nested = h.nested;
    starts = s;
    alone_is = refl;
    lines = l;
    place = ap (λ x. x + byte_len (comments_text comments)) h.place ∙ p;
    wrote = h.wrote;
  }

  -- a sequence opens at the start of a line
  pub sequence_opens : (fs : List BlockFrame) (evs : List Event) (m : ℕ) (shallow alone : Bool) (start s prefix : ℕ)
      → AtNodeLine W text from fs evs m shallow alone start
      → spaces_before (rest text start) ≡ s → past_spaces (rest text start) ≡ rest text prefix → start + s ≡ prefix
      → sign 45 (rest text prefix) ≡ true
      → nat_le m (if shallow then suc s else s) ≡ true → past (rest text prefix) ≡ rest text (prefix + 1)
      → (sits : Sits) × AfterSign W text from (waits_item sits s [] ∷ fs) (evs ++ seq_start ∷ []) Dash s (prefix + 1)
  sequence_opens fs evs m shallow alone start s prefix h c e p d l q = (
    on_lines h.comments s,
    record {
      reads = h.reads ∙ ap (unwind fs)
          (sequence_after m shallow h.bol h.comments (rest text start) h.starts (ap (sign 45) e
          ∙ d) (ap (is_deep m shallow) c ∙ l)
          ∙ (ap (λ j. on (block_indented_at j false (past (past_spaces (rest text start))))
          (λ i after. plug (waits_item (on_lines h.comments j) j []) i after)) c
          ∙ ap (λ u. on (block_indented_at s false u)
          (λ i after. plug (waits_item (on_lines h.comments s) s []) i after)) (ap past e ∙ q)));
      nested = (refl, h.nested);
      awaits = (refl, refl);
      place = ap (λ x. x + s + 1) h.place ∙ ap (λ x. x + 1) p;
      wrote = ap (λ es. es ++ seq_start ∷ []) h.wrote;
    },
  )

  -- a leaf, or the first pair of a mapping, at the start of a line
  pub line_leaf : (fs : List BlockFrame) (evs : List Event) (m : ℕ) (shallow alone : Bool) (start s prefix : ℕ)
      → AtNodeLine W text from fs evs m shallow alone start
      → spaces_before (rest text start) ≡ s → past_spaces (rest text start) ≡ rest text prefix → start + s ≡ prefix
      → sign 45 (rest text prefix) && nat_le m (if shallow then suc s else s) ≡ false → nat_le m s ≡ true
      → first white (rest text prefix) ≡ false
      → (line_starts text start ≡ true) ⊎ (rest text start ≡ [])
      → starts_line (line_starts text start) (take_while white (rest text start)) ≡ line_starts text prefix
      → AtLeaf W text from fs evs m (Some s) prefix
  line_leaf fs evs m shallow alone start s prefix h c e p d l w f b =
      let t : List ℕ = rest text start in
      let plain : first white (past_spaces t) ≡ false = ap (first white) e ∙ w in
      let blank : List ℕ = take_while white t in
      let long : byte_len blank ≡ s = ap byte_len (untabbed_taken t plain)
      ∙ (byte_len_spaces (spaces_before t) ∙ c) in
      record {
        sep = sep_after h.comments blank;
        mapping = Some (on_lines h.comments s, s);
        reads = h.reads ∙ ap (unwind fs)
            (mapping_or_leaf_after m shallow h.bol (line_starts text start) (line_starts text prefix) h.comments t
            h.starts
            (ap (λ u. sign 45 u && is_deep m shallow (spaces_before t)) e
            ∙ (ap (λ j. sign 45 (rest text prefix) && is_deep m shallow j) c ∙ d)) (ap (nat_le m) c
            ∙ l) plain h.lines b f
            ∙ (ap (λ j. part_at (Some (on_lines h.comments j, j)) m (line_starts text prefix)
            (sep_after h.comments blank) (past_spaces t)) c
            ∙ ap (part_at (Some (on_lines h.comments s, s)) m (line_starts text prefix) (sep_after h.comments blank))
            e));
        nested = h.nested;
        pairs_is = refl;
        may_sit = (refl, ap (λ x. x + s) h.place ∙ p);
        place = sep_end (place_in fs from) start prefix h.comments blank h.place (ap (λ x. start + x) long ∙ p);
        wrote = h.wrote;
      }

  -- a leaf, where no pair may be
  leaf_only : (fs : List BlockFrame) (evs : List Event) (m : ℕ) (shallow alone : Bool)
      (start s prefix lead : ℕ) (h : AtNodeLine W text from fs evs m shallow alone start)
      → spaces_before (rest text start) ≡ s → past_spaces (rest text start) ≡ rest text prefix
      → sign 45 (rest text prefix) && nat_le m (if shallow then suc s else s) ≡ false
      → nat_le m (spaces_before (rest text start)) && not (first white (past_spaces (rest text start))) ≡ false
      → is_empty h.comments || nat_le m (spaces_before (rest text start)) ≡ true
      → drop_while white (rest text start) ≡ rest text lead → start + byte_len (take_while white (rest text start))
      ≡ lead
      → starts_line (line_starts text start) (take_while white (rest text start)) ≡ line_starts text lead
      → AtLeaf W text from fs evs m None lead
  leaf_only fs evs m shallow alone start s prefix lead h c e d unpaired fits drops p b =
      let t : List ℕ = rest text start in
      let blank : List ℕ = take_while white t in
      record {
        sep = sep_after h.comments blank;
        mapping = None;
        reads = h.reads ∙ ap (unwind fs)
            (leaf_alone_after m shallow h.bol (line_starts text start) (line_starts text lead) h.comments t h.starts
            (ap (λ u. sign 45 u && is_deep m shallow (spaces_before t)) e
            ∙ (ap (λ j. sign 45 (rest text prefix) && is_deep m shallow j) c ∙ d)) unpaired fits h.lines b
            ∙ ap (part_at None m (line_starts text lead) (sep_after h.comments blank)) drops);
        nested = h.nested;
        pairs_is = refl;
        may_sit = tt;
        place = sep_end (place_in fs from) start lead h.comments blank h.place p;
        wrote = h.wrote;
      }

  -- after a TAB only a leaf may come
  pub line_leaf_after_tab : (fs : List BlockFrame) (evs : List Event) (m : ℕ) (shallow alone : Bool)
      (start s prefix lead : ℕ) → AtNodeLine W text from fs evs m shallow alone start
      → spaces_before (rest text start) ≡ s → past_spaces (rest text start) ≡ rest text prefix
      → sign 45 (rest text prefix) && nat_le m (if shallow then suc s else s) ≡ false → nat_le m s ≡ true
      → first white (rest text prefix) ≡ true
      → drop_while white (rest text start) ≡ rest text lead → start + byte_len (take_while white (rest text start))
      ≡ lead
      → starts_line (line_starts text start) (take_while white (rest text start)) ≡ line_starts text lead
      → AtLeaf W text from fs evs m None lead
  line_leaf_after_tab fs evs m shallow alone start s prefix lead h c e d l w drops p b =
      leaf_only fs evs m shallow alone start s prefix lead h c e d
      (and_right _ _ (not_from_true _ (ap (first white) e ∙ w))) (or_right _ _ (ap (nat_le m) c ∙ l)) drops p b

  -- on a line that is less deep only a leaf may come
  pub line_leaf_alone : (fs : List BlockFrame) (evs : List Event) (m : ℕ) (shallow alone : Bool)
      (start s prefix lead : ℕ) → AtNodeLine W text from fs evs m shallow alone start
      → spaces_before (rest text start) ≡ s → past_spaces (rest text start) ≡ rest text prefix
      → sign 45 (rest text prefix) && nat_le m (if shallow then suc s else s) ≡ false → nat_le m s ≡ false
      → alone ≡ true
      → drop_while white (rest text start) ≡ rest text lead → start + byte_len (take_while white (rest text start))
      ≡ lead
      → starts_line (line_starts text start) (take_while white (rest text start)) ≡ line_starts text lead
      → AtLeaf W text from fs evs m None lead
  line_leaf_alone fs evs m shallow alone start s prefix lead h c e d l a drops p b =
      leaf_only fs evs m shallow alone start s prefix lead h c e d (and_left _ _ (ap (nat_le m) c ∙ l))
      (or_left _ _ (h.alone_is ∙ a)) drops p b

  -- a line with too few spaces has no node
  pub line_too_shallow : (fs : List BlockFrame) (evs : List Event) (m : ℕ) (shallow alone : Bool) (start s prefix : ℕ)
      → AtNodeLine W text from fs evs m shallow alone start
      → spaces_before (rest text start) ≡ s → past_spaces (rest text start) ≡ rest text prefix
      → sign 45 (rest text prefix) && nat_le m (if shallow then suc s else s) ≡ false → nat_le m s ≡ false
      → alone ≡ false → W ≡ None
  line_too_shallow fs evs m shallow alone start s prefix h c e d l a =
      let t : List ℕ = rest text start in
      h.reads ∙ (ap (unwind fs)
      (too_shallow_after m shallow h.bol h.comments t h.starts
      (ap (λ u. sign 45 u && is_deep m shallow (spaces_before t)) e
      ∙ (ap (λ j. sign 45 (rest text prefix) && is_deep m shallow j) c ∙ d)) (ap (nat_le m) c ∙ l) (h.alone_is
      ∙ a))
      ∙ unwind_none fs)

  -- nor has the end of the text
  pub line_at_end : (fs : List BlockFrame) (evs : List Event) (m : ℕ) (shallow alone : Bool) (start prefix : ℕ)
      → AtNodeLine W text from fs evs m shallow alone start
      → past_spaces (rest text start) ≡ rest text prefix → rest text prefix ≡ [] → W ≡ None
  line_at_end fs evs m shallow alone start prefix h e n =
      h.reads ∙ (ap (λ r. unwind fs (as_part r)) (nothing_after m shallow h.bol h.comments (rest text start) h.starts
      (e ∙ n)) ∙ unwind_none fs)

  -- ---- on a line that goes on

  -- on a line that goes on a leaf comes after whitespace
  pub node_on_line : (fs : List BlockFrame) (evs : List Event) (m : ℕ) (shallow : Bool) (at lead : ℕ)
      → AtNode W text from fs evs m shallow false at
      → all_comments false (rest text at) ≡ ([], rest text at) → is_empty (take_while white (rest text at)) ≡ false
      → drop_while white (rest text at) ≡ rest text lead
      → at + byte_len (take_while white (rest text at)) ≡ lead → line_starts text lead ≡ false
      → AtLeaf W text from fs evs m None lead
  node_on_line fs evs m shallow at lead h c w drops p b =
      let t : List ℕ = rest text at in
      record {
        sep = inline (take_while white t);
        mapping = None;
        reads = h.reads ∙ ap (unwind fs)
            (leaf_on_line m shallow t c w ∙ (ap (part_at None m false (inline (take_while white t))) drops
            ∙ ap (λ x. part_at None m x (inline (take_while white t)) (rest text lead)) (sym b)));
        nested = h.nested;
        pairs_is = refl;
        may_sit = tt;
        place = ap (λ x. x + byte_len (take_while white t)) h.place ∙ p;
        wrote = h.wrote;
      }

  -- without whitespace there is no node
  pub node_no_white : (fs : List BlockFrame) (evs : List Event) (m : ℕ) (shallow : Bool) (at : ℕ)
      → AtNode W text from fs evs m shallow false at
      → all_comments false (rest text at) ≡ ([], rest text at) → first white (rest text at) ≡ false → W ≡ None
  node_no_white fs evs m shallow at h c w =
      h.reads ∙ (ap (unwind fs) (ap as_part (nothing_on_line m shallow (rest text at) c (untaken (rest text at) w)))
      ∙ unwind_none fs)
