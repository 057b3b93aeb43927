-- The steps of the scanner after a sign: to the part on its line, to a node on a later line, or to
-- a value that is left out.
use Rattle.std.{proofs.Common.{ap, arith, inl, inr, refl, sym, ◌∙◌, ◌≡◌, ◌⊎◌, ◌≤◌}, specs.Prelude.{Bool, List, None, Some, [], false}}
use Rattle.std.specs.Prelude.{nat_le, not, suc, true, zero, ℕ, ◌&&◌, ◌++◌, ◌+◌, ◌∷◌}
use Rattle.yaml_block.proofs.Prelude.{and_from, and_left, and_right, false≢true, le-leb, not_from_false, not_from_true, white, rest}
use Rattle.yaml_block.proofs.Prelude.{Indented, omitted, past_spaces, spaces_before, omitted_at, seq_start, LineEnd, comments_text, inline}
use Rattle.yaml_block.proofs.Prelude.{byte_len, first, is_empty, spaces, starts_line, BlockFrame, key_asked, key_on_line, on_sign_line}
use Rattle.yaml_block.proofs.Prelude.{plug, unwind, waits_item, waits_key, waits_value, node_below, read_block, all_comments, closes_line}
use Rattle.yaml_block.proofs.Prelude.{block_node_stops, drop_while, past, sign, take_while, Read, on, block_indented_at, block_items_at}
use Rattle.yaml_block.proofs.Prelude.{block_key_in, block_pairs_at, flow_leaf_at, asked_for_nothing, items_open, sequence_on_sign_line}
use Rattle.yaml_block.proofs.{Prelude.{unwind_none, node_steps, line_starts}, BlockSigns.node_on_lines as node_after_lines}
use Rattle.yaml_block.proofs.BlockSigns.{compact_or_leaf, leaf_on_sign_line, nothing_on_sign_line, omitted_after, unclosed_goes_on}
use Rattle.yaml_block.{proofs.BlockSigns.{untabbed, untabbed_taken}, specs.declared.line_sign.Sign.{Sign, TheVariants.{Asked, Colon, Dash}}}
use Rattle.yaml_block.specs.{declared.frame.Waits.TheVariants.Key, Signs.{is_colon, is_shallow}, BlockParts.{as_part, part_at}}
use Rattle.yaml_block.specs.{BlockParts.part_after_sign, Frames.{AfterSign, AtLeaf, AtLine, AtNodeLine, Awaits, Seated, events_in}}
use Rattle.{yaml_block.specs.Frames.{fits_frame, part_after, waits_of}, yaml_grammar.specs.Events.Event}

-- after a sign, by what may be there
after_is : (before : Sign) (k : ℕ) (t : List ℕ) → part_after before k t ≡ part_after_sign (not (is_colon before))
    (is_shallow before) k t
after_is Dash k t = refl
after_is Asked k t = refl
after_is Colon k t = refl

after_compact : (before : Sign) (k : ℕ) (t : List ℕ) → is_colon before ≡ false
    → part_after before k t ≡ part_after_sign true (is_shallow before) k t
after_compact Dash k t h = refl
after_compact Asked k t h = refl
after_compact Colon k t h = absurd (false≢true (sym h))

-- a compact collection is seated after the sign that is awaited
seated_compact : (before : Sign) (k s : ℕ) (fs : List BlockFrame) → Awaits before k fs → is_colon before ≡ false
    → Seated (on_sign_line s) (k + 1 + s) fs
seated_compact before k s [] a h = absurd a
seated_compact before k s (g ∷ gs) a h = (ap is_colon a.0 ∙ h, ap (λ j. j + 1 + s) (sym a.1))

-- what is left out fits each frame but for that of a key
omitted_fits : (f : BlockFrame) (comments : List LineEnd) → (waits_of f ≡ Key → ⊥)
    → fits_frame f (omitted comments) ≡ true
omitted_fits (waits_item sits k done) comments h = refl
omitted_fits (waits_key sits k done) comments h = absurd (h refl)
omitted_fits (waits_value sits k done (key_asked key)) comments h = refl
omitted_fits (waits_value sits k done (key_on_line key gap)) comments h = refl

key_left_out : (f : BlockFrame) (gs : List BlockFrame) (comments : List LineEnd) (t : List ℕ) → waits_of f ≡ Key
    → unwind (f ∷ gs) (Some (omitted comments, t)) ≡ None
key_left_out (waits_item sits k done) gs comments t h = absurd (let e : ⊥ = cc in e)
key_left_out (waits_key sits k done) gs comments t h =
    ap (unwind gs) (asked_for_nothing sits k done (omitted comments) t refl) ∙ unwind_none gs
key_left_out (waits_value sits k done key) gs comments t h = absurd (let e : ⊥ = cc in e)

-- n spaces have n bytes
pub byte_len_spaces : (n : ℕ) → byte_len (spaces n) ≡ n
byte_len_spaces zero = refl
byte_len_spaces (suc n) = let more : byte_len (spaces n) ≡ n = byte_len_spaces n in omega arith

spaces_some : (s : ℕ) → 1 ≤ s → is_empty (spaces s) ≡ false
spaces_some zero l = absurd (omega arith)
spaces_some (suc s) l = refl

-- without whitespace none is taken
pub untaken : (t : List ℕ) → first white t ≡ false → is_empty (take_while white t) ≡ true
untaken [] h = refl
untaken (c ∷ cs) h = rw h refl

-- a node on a later line comes after some comments
some_comments : (k : ℕ) (shallow : Bool) (c : List LineEnd × List ℕ) → closes_line c ≡ true
    → block_node_stops (suc k) shallow c.1 ≡ false → is_empty c.0 ≡ false
some_comments k shallow c h e = by_cases c.0 c.1 h e
  where
    by_cases : (comments : List LineEnd) (t : List ℕ) → closes_line (comments, t) ≡ true
        → block_node_stops (suc k) shallow t ≡ false → is_empty comments ≡ false
    by_cases [] [] h e = absurd (false≢true (sym e))
    by_cases [] (x ∷ xs) h e = absurd (false≢true h)
    by_cases (l ∷ ls) t h e = refl

module _ (W : Read Indented) (text : List ℕ) (from : ℕ) where
  -- the part is left out
  pub omits_value : (fs : List BlockFrame) (evs : List Event) (before : Sign) (k at start : ℕ)
      → AfterSign W text from fs evs before k at
      → closes_line (all_comments false (rest text at)) ≡ true
      → (all_comments false (rest text at)).1 ≡ rest text start
      → block_node_stops (suc k) (is_shallow before) (rest text start) ≡ true
      → at + byte_len (comments_text (all_comments false (rest text at)).0) ≡ start
      → (f : BlockFrame) × (gs : List BlockFrame) × (fs ≡ f ∷ gs) × (waits_of f ≡ Key → W ≡ None)
      × ((waits_of f ≡ Key → ⊥) → AtLine W text from fs (evs ++ omitted_at at) start at)
  omits_value [] evs before k at start h c t e p = absurd h.awaits
  omits_value (f ∷ gs) evs before k at start h c t e p =
      let comments : List LineEnd = (all_comments false (rest text at)).0 in
      let after : part_after before k (rest text at) ≡ Some (omitted comments, rest text start) =
      after_is before k (rest text at)
      ∙ (omitted_after (not (is_colon before)) (is_shallow before) k (rest text at) c
      (ap (block_node_stops (suc k) (is_shallow before)) t ∙ e) ∙ ap (λ u. Some (omitted comments, u)) t) in
      let reads : W ≡ unwind (f ∷ gs) (Some (omitted comments, rest text start)) = h.reads
      ∙ ap (unwind (f ∷ gs)) after in (
        f,
        gs,
        refl,
        λ w. reads ∙ key_left_out f gs comments (rest text start) w,
        λ w. record {
          part = omitted comments;
          reads = reads;
          nested = h.nested;
          fits = omitted_fits f comments w;
          place = ap (λ q. q + byte_len (comments_text comments)) h.place ∙ p;
          ends = h.place;
          wrote = ap (λ es. es ++ omitted_at at) h.wrote
              ∙ ap (λ q. events_in (f ∷ gs) from ++ omitted_at q) (sym h.place);
        },
      )

  -- the part is a node on a later line
  pub node_on_lines : (fs : List BlockFrame) (evs : List Event) (before : Sign) (k at start : ℕ)
      → AfterSign W text from fs evs before k at
      → closes_line (all_comments false (rest text at)) ≡ true
      → (all_comments false (rest text at)).1 ≡ rest text start
      → block_node_stops (suc k) (is_shallow before) (rest text start) ≡ false
      → at + byte_len (comments_text (all_comments false (rest text at)).0) ≡ start
      → starts_line false (comments_text (all_comments false (rest text at)).0) ≡ line_starts text start
      → AtNodeLine W text from fs evs (suc k) (is_shallow before) false start
  node_on_lines fs evs before k at start h c t e p l =
      let comments : List LineEnd = (all_comments false (rest text at)).0 in
      let some : is_empty comments ≡ false = some_comments k (is_shallow before) (all_comments false (rest text at)) c
      (ap (block_node_stops (suc k) (is_shallow before)) t ∙ e) in
      let whole : ◌≡◌ {A = List LineEnd × List ℕ} (all_comments false (rest text at)) (comments, rest text start) =
      ap (λ u. (comments, u)) t in
      record {
        bol = false;
        comments = comments;
        reads = h.reads ∙ ap (unwind fs)
            (after_is before k (rest text at)
            ∙ (node_after_lines (not (is_colon before)) (is_shallow before) k (rest text at) c
            (ap (block_node_stops (suc k) (is_shallow before)) t ∙ e)
            ∙ ap as_part (node_steps (suc k) (is_shallow before) false (rest text at)
            ∙ ap (node_below block_key_in flow_leaf_at read_block block_items_at block_pairs_at (suc k)
            (is_shallow before) false) whole)));
        nested = h.nested;
        starts = not_from_false _ some;
        alone_is = some;
        lines = l;
        place = ap (λ q. q + byte_len (comments_text comments)) h.place ∙ p;
        wrote = h.wrote;
      }

  -- ---- on the line of the sign

  -- the part is a compact sequence
  pub compact_sequence : (fs : List BlockFrame) (evs : List Event) (before : Sign) (k at s prefix : ℕ)
      → AfterSign W text from fs evs before k at → is_colon before ≡ false
      → spaces_before (rest text at) ≡ s → 1 ≤ s → past_spaces (rest text at) ≡ rest text prefix → at + s ≡ prefix
      → sign 45 (rest text prefix) ≡ true
      → past (rest text prefix) ≡ rest text (prefix + 1)
      → AfterSign W text from (waits_item (on_sign_line s) (k + 1 + s) [] ∷ fs) (evs ++ seq_start ∷ []) Dash
      (k + 1 + s) (prefix + 1)
  compact_sequence fs evs before k at s prefix h n c l e p d q =
      let t : List ℕ = rest text at in
      let dash : sign 45 (past_spaces t) ≡ true = ap (sign 45) e ∙ d in
      let one : nat_le 1 (spaces_before t) ≡ true = ap (nat_le 1) c ∙ le-leb 1 s l in
      record {
        reads = h.reads ∙ ap (unwind fs)
            (after_compact before k t n
            ∙ (sequence_on_sign_line k (is_shallow before) t (and_from _ _ one dash)
            ∙ (items_open (on_sign_line (spaces_before t)) (k + 1 + spaces_before t) [] (past_spaces t) dash
            ∙ (ap (λ j. opened j (past (past_spaces t))) c ∙ ap (opened s) (ap past e ∙ q)))));
        nested = (seated_compact before k s fs h.awaits n, h.nested);
        awaits = (refl, refl);
        place = ap (λ x. x + s + 1) h.place ∙ ap (λ x. x + 1) p;
        wrote = ap (λ es. es ++ seq_start ∷ []) h.wrote;
      }
    where
      opened : ℕ → List ℕ → Read Indented
      opened j u = on (block_indented_at (k + 1 + j) false u)
          (λ i after. plug (waits_item (on_sign_line j) (k + 1 + j) []) i after)

  -- the part is a compact mapping or a leaf
  pub compact_leaf : (fs : List BlockFrame) (evs : List Event) (before : Sign) (k at s prefix : ℕ)
      → AfterSign W text from fs evs before k at → is_colon before ≡ false
      → closes_line (all_comments false (rest text at)) ≡ false → spaces_before (rest text at) ≡ s → 1 ≤ s
      → past_spaces (rest text at) ≡ rest text prefix → at + s ≡ prefix
      → sign 45 (rest text prefix) ≡ false → first white (rest text prefix) ≡ false → line_starts text prefix ≡ false
      → AtLeaf W text from fs evs (suc k) (Some (k + 1 + s)) prefix
  compact_leaf fs evs before k at s prefix h n g c l e p d w b =
      let t : List ℕ = rest text at in
      let plain : first white (past_spaces t) ≡ false = ap (first white) e ∙ w in
      let lead : take_while white t ≡ spaces s = untabbed_taken t plain ∙ ap spaces c in
      let drops : drop_while white t ≡ rest text prefix = untabbed t plain ∙ e in
      record {
        sep = inline (spaces s);
        mapping = Some (on_sign_line s, k + 1 + s);
        reads = h.reads ∙ ap (unwind fs)
            (after_compact before k t n
            ∙ (compact_or_leaf k (is_shallow before) t (unclosed_goes_on t g) (ap is_empty lead
            ∙ spaces_some s l) plain (ap (sign 45) e ∙ d)
            ∙ (ap (λ j. part_at (Some (on_sign_line j, k + 1 + j)) (suc k) false (inline (take_while white t))
            (drop_while white t)) c
            ∙ (ap (λ xs. part_at (Some (on_sign_line s, k + 1 + s)) (suc k) false (inline xs) (drop_while white t)) lead
            ∙ (ap (part_at (Some (on_sign_line s, k + 1 + s)) (suc k) false (inline (spaces s))) drops
            ∙ ap (λ x. part_at (Some (on_sign_line s, k + 1 + s)) (suc k) x (inline (spaces s)) (rest text prefix))
            (sym b))))));
        nested = h.nested;
        pairs_is = refl;
        may_sit = (seated_compact before k s fs h.awaits n, ap (λ x. x + s) h.place ∙ p);
        place = ap (λ x. x + byte_len (spaces s)) h.place ∙ (ap (λ x. at + x) (byte_len_spaces s) ∙ p);
        wrote = h.wrote;
      }

  -- the part is a leaf
  pub sign_leaf : (fs : List BlockFrame) (evs : List Event) (before : Sign) (k at lead : ℕ)
      → AfterSign W text from fs evs before k at
      → (is_colon before ≡ true) ⊎ (first white (past_spaces (rest text at)) ≡ true)
      → closes_line (all_comments false (rest text at)) ≡ false
      → is_empty (take_while white (rest text at)) ≡ false → drop_while white (rest text at) ≡ rest text lead
      → at + byte_len (take_while white (rest text at)) ≡ lead → line_starts text lead ≡ false
      → AtLeaf W text from fs evs (suc k) None lead
  sign_leaf fs evs before k at lead h n g w d p b =
      let t : List ℕ = rest text at in
      record {
        sep = inline (take_while white t);
        mapping = None;
        reads = h.reads ∙ ap (unwind fs)
            (after_is before k t
            ∙ (leaf_on_sign_line (not (is_colon before)) (is_shallow before) k t (unclosed_goes_on t g) w
            (no_compact n)
            ∙ (ap (part_at None (suc k) false (inline (take_while white t))) d
            ∙ ap (λ x. part_at None (suc k) x (inline (take_while white t)) (rest text lead)) (sym b))));
        nested = h.nested;
        pairs_is = refl;
        may_sit = tt;
        place = ap (λ x. x + byte_len (take_while white t)) h.place ∙ p;
        wrote = h.wrote;
      }
    where
      no_compact : (is_colon before ≡ true) ⊎ (first white (past_spaces (rest text at)) ≡ true)
          → not (is_colon before) && not (first white (past_spaces (rest text at))) ≡ false
      no_compact (inl e) = and_left _ _ (not_from_true _ e)
      no_compact (inr e) = and_right _ _ (not_from_true _ e)

  -- without whitespace there is no part
  pub no_white : (fs : List BlockFrame) (evs : List Event) (before : Sign) (k at : ℕ)
      → AfterSign W text from fs evs before k at
      → closes_line (all_comments false (rest text at)) ≡ false → first white (rest text at) ≡ false → W ≡ None
  no_white fs evs before k at h g w =
      let t : List ℕ = rest text at in
      h.reads ∙ (ap (unwind fs) (after_is before k t
      ∙ nothing_on_sign_line (not (is_colon before)) (is_shallow before) k t (unclosed_goes_on t g) (untaken t w))
      ∙ unwind_none fs)
