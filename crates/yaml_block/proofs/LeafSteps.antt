-- The steps of the scanner at a leaf, at the first pair of a mapping, and at a further pair.
use Rattle.std.{proofs.Common.{ap, append_assoc, arith, refl, subst, sym, ◌∙◌, ◌≡◌}, specs.Prelude.{Bool, List, None, Option, Some, []}}
use Rattle.std.specs.Prelude.{false, is_some, true, ℕ, ◌&&◌, ◌++◌, ◌+◌, ◌==◌, ◌∷◌}
use Rattle.yaml_block.proofs.Prelude.{and_from, and_right, white, rest, Indented, Node, Pair, block, flow, node, BlockScalar}
use Rattle.yaml_block.proofs.Prelude.{bare_block_text, block_events, block_text, map_start, Flow, flow_events, flow_text, short_key}
use Rattle.yaml_block.proofs.Prelude.{block_key, LineEnd, comments_text, sep_text, byte_len, first, BlockFrame, PairKey, Sits, key_asked}
use Rattle.yaml_block.proofs.Prelude.{key_on_line, keyed_part, plug, unwind, waits_item, waits_key, waits_value, bar, read_block}
use Rattle.yaml_block.proofs.Prelude.{all_comments, closes_line, drop_while, past, sign, take_while, Read, on, block_indented_at}
use Rattle.yaml_block.proofs.Prelude.{block_pairs_at, close_pairs, flow_leaf_at, flow_node_at, asked_opens, unwind_none, done_pairs_events}
use Rattle.yaml_block.proofs.{Prelude.{is_key, byte_len_joined, unbroken, line_starts}, BlockLeaves.leaf_goes_on as leaf_unclosed}
use Rattle.yaml_block.proofs.BlockLeaves.{bar_part, first_key_opens, leaf_before_colon, leaf_closes, leaf_missing, leaf_one_line}
use Rattle.yaml_block.proofs.BlockLeaves.{next_key_missing, next_key_opens, key_begins, next_key_unfit, question_opens}
use Rattle.yaml_block.specs.{declared.line_sign.Sign.TheVariants.{Asked, Colon}, BlockParts.part_at, Frames.{AfterSign, AtLeaf, AtLine}}
use Rattle.yaml_block.specs.Frames.{AtPair, MaySit, Seated, events_in, fits_frames, pairs_of, place_in, sign_after, sits_place}
use Rattle.yaml_grammar.specs.Events.{Event}

-- ---- where the mapping may sit

mapping_some : (mapping : Option (Sits × ℕ)) (k : ℕ) → pairs_of mapping ≡ Some k
    → (sits : Sits) × (mapping ≡ Some (sits, k))
mapping_some None k h = absurd (let e : ⊥ = cc in e)
mapping_some (Some p) k h = let e : p.1 ≡ k = cc in (p.0, ap (λ j. Some (p.0, j)) e)

mapping_none : (mapping : Option (Sits × ℕ)) → pairs_of mapping ≡ None → mapping ≡ None
mapping_none None h = refl
mapping_none (Some p) h = absurd (let e : ⊥ = cc in e)

mapping_is : (mapping : Option (Sits × ℕ)) (pairs : Option ℕ) → pairs_of mapping ≡ pairs
    → is_some mapping ≡ is_some pairs
mapping_is None pairs h = ap is_some h
mapping_is (Some p) pairs h = ap is_some h

-- a node fits each frame
pub node_fits_frames : (fs : List BlockFrame) (n : Node) → fits_frames fs (node n) ≡ true
node_fits_frames [] n = refl
node_fits_frames (waits_item sits k done ∷ fs) n = refl
node_fits_frames (waits_key sits k done ∷ fs) n = refl
node_fits_frames (waits_value sits k done (key_asked key) ∷ fs) n = refl
node_fits_frames (waits_value sits k done (key_on_line key gap) ∷ fs) n = refl

-- whether a leaf is a key, by its text
key_test : (m : ℕ) (bol : Bool) (text : List ℕ) (f : Flow) (after : List ℕ)
    → flow_leaf_at m bol text ≡ Some (f, after) → sign 58 (drop_while white after) ≡ true
    → is_key f after ≡ unbroken (flow_text f) && short_key f (take_while white after)
key_test m bol text f after e c = rw (leaf_one_line m bol text f after e, c) refl

module _ (W : Read Indented) (text : List ℕ) (from : ℕ) where
  -- a mapping opens at `?`
  pub asked_pair : (fs : List BlockFrame) (evs : List Event) (m k at : ℕ) → AtLeaf W text from fs evs m (Some k) at
      → sign 63 (rest text at) ≡ true
      → past (rest text at) ≡ rest text (at + 1) → (sits : Sits) × AfterSign W text from (waits_key sits k [] ∷ fs)
      (evs ++ map_start ∷ []) Asked k (at + 1)
  asked_pair fs evs m k at h q p =
      let s : (sits : Sits) × (h.mapping ≡ Some (sits, k)) = mapping_some h.mapping k h.pairs_is in
      let may : Seated s.0 k fs × (sits_place s.0 (place_in fs from) ≡ at) =
      subst (MaySit fs from at) s.1 h.may_sit in (
        s.0,
        record {
          reads = h.reads ∙ ap (unwind fs)
              (ap (λ mapping. part_at mapping m (line_starts text at) h.sep (rest text at)) s.1
              ∙ (question_opens s.0 k m (line_starts text at) h.sep (rest text at) q
              ∙ ap (λ u. on (block_indented_at k true u) (λ i after. plug (waits_key s.0 k []) i after)) p));
          nested = (may.0, h.nested);
          awaits = (refl, refl);
          place = ap (λ x. x + 1) may.1;
          wrote = ap (λ es. es ++ map_start ∷ []) h.wrote;
        },
      )

  -- a mapping opens at a key
  pub first_key : (fs : List BlockFrame) (evs : List Event) (m k at : ℕ) (f : Flow) (end colon : ℕ)
      → AtLeaf W text from fs evs m (Some k) at
      → flow_leaf_at m (line_starts text at) (rest text at) ≡ Some (f, rest text end)
      → at + byte_len (flow_text f) ≡ end
      → drop_while white (rest text end) ≡ rest text colon → end + byte_len (take_while white (rest text end)) ≡ colon
      → sign 58 (rest text colon) ≡ true
      → past (rest text colon) ≡ rest text (colon + 1) → unbroken (flow_text f) ≡ true
      → short_key f (take_while white (rest text end)) ≡ true
      → (sits : Sits) × AfterSign W text from (waits_value sits k [] (key_on_line f (take_while white (rest text end)))
      ∷ fs) (evs ++ map_start ∷ flow_events f at) Colon k (colon + 1)
  first_key fs evs m k at f end colon h e len d gap c p u short =
      let s : (sits : Sits) × (h.mapping ≡ Some (sits, k)) = mapping_some h.mapping k h.pairs_is in
      let may : Seated s.0 k fs × (sits_place s.0 (place_in fs from) ≡ at) =
      subst (MaySit fs from at) s.1 h.may_sit in
      let white_gap : List ℕ = take_while white (rest text end) in
      let key : is_key f (rest text end) ≡ true = key_test m (line_starts text at) (rest text at) f (rest text end) e
      (ap (sign 58) d ∙ c) ∙ and_from _ _ u short in (
        s.0,
        record {
          reads = h.reads ∙ ap (unwind fs)
              (ap (λ mapping. part_at mapping m (line_starts text at) h.sep (rest text at)) s.1
              ∙ (first_key_opens s.0 k m (line_starts text at) h.sep (rest text at) f (rest text end) e key
              ∙ ap (λ v. on (keyed_part k v) (λ i after.
              plug (waits_value s.0 k [] (key_on_line f white_gap)) i after)) (ap past d ∙ p)));
          nested = (may.0, h.nested);
          awaits = (refl, refl);
          place = ap (λ x. x + byte_len (flow_text f) + byte_len white_gap + 1) may.1
              ∙ (ap (λ x. x + byte_len white_gap + 1) len ∙ ap (λ x. x + 1) gap);
          wrote = ap (λ es. es ++ map_start ∷ flow_events f at) h.wrote
              ∙ ap (λ x. events_in fs from ++ map_start ∷ flow_events f x) (sym may.1);
        },
      )

  -- a mapping opens before its first key, which is read as that of a further pair
  pub first_pair : (fs : List BlockFrame) (evs : List Event) (m k at : ℕ) (f : Flow) (end : ℕ)
      → AtLeaf W text from fs evs m (Some k) at → line_starts text at ≡ (k == 0)
      → flow_node_at 0 block_key (line_starts text at) (rest text at) ≡ Some (f, rest text end)
      → sign 58 (drop_while white (rest text end)) ≡ true
      → short_key f (take_while white (rest text end)) ≡ true
      → AtPair W text from fs (evs ++ map_start ∷ []) k at
  first_pair fs evs m k at f end h bol e c short =
      let s : (sits : Sits) × (h.mapping ≡ Some (sits, k)) = mapping_some h.mapping k h.pairs_is in
      let may : Seated s.0 k fs × (sits_place s.0 (place_in fs from) ≡ at) =
      subst (MaySit fs from at) s.1 h.may_sit in
      record {
        sits = s.0;
        done = [];
        starts = bol;
        reads = h.reads ∙ ap (unwind fs)
            (ap (λ mapping. part_at mapping m (line_starts text at) h.sep (rest text at)) s.1
            ∙ (key_begins s.0 k m (line_starts text at) h.sep (rest text at) f (rest text end) e c short
            ∙ ap (λ b. close_pairs s.0 [] (block_pairs_at k b (rest text at))) bol));
        nested = h.nested;
        seated = may.0;
        place = may.1;
        wrote = ap (λ es. es ++ map_start ∷ []) h.wrote;
      }

  -- where no mapping may begin
  pub second_key : (fs : List BlockFrame) (evs : List Event) (m at : ℕ) (f : Flow) (end colon : ℕ)
      → AtLeaf W text from fs evs m None at
      → flow_leaf_at m (line_starts text at) (rest text at) ≡ Some (f, rest text end)
      → drop_while white (rest text end) ≡ rest text colon → sign 58 (rest text colon) ≡ true → W ≡ None
  second_key fs evs m at f end colon h e d c =
      h.reads ∙ (ap (unwind fs)
      (ap (λ mapping. part_at mapping m (line_starts text at) h.sep (rest text at))
      (mapping_none h.mapping h.pairs_is)
      ∙ leaf_before_colon None m (line_starts text at) h.sep (rest text at) f (rest text end) e (ap (sign 58) d
      ∙ c) refl)
      ∙ unwind_none fs)

  -- a flow node before a `:` that is no key leads nowhere
  pub no_first_key : (fs : List BlockFrame) (evs : List Event) (m k at : ℕ) (f : Flow) (end colon : ℕ)
      → AtLeaf W text from fs evs m (Some k) at
      → flow_leaf_at m (line_starts text at) (rest text at) ≡ Some (f, rest text end)
      → drop_while white (rest text end) ≡ rest text colon → sign 58 (rest text colon) ≡ true
      → unbroken (flow_text f) && short_key f (take_while white (rest text end)) ≡ false → W ≡ None
  no_first_key fs evs m k at f end colon h e d c n =
      let there : sign 58 (drop_while white (rest text end)) ≡ true = ap (sign 58) d ∙ c in
      h.reads ∙ (ap (unwind fs)
      (leaf_before_colon h.mapping m (line_starts text at) h.sep (rest text at) f (rest text end) e there
      (and_right (is_some h.mapping) _ (key_test m (line_starts text at) (rest text at) f (rest text end) e there
      ∙ n)))
      ∙ unwind_none fs)

  -- a leaf is read, and a line follows
  pub leaf_read : (fs : List BlockFrame) (evs : List Event) (m : ℕ) (pairs : Option ℕ) (at : ℕ) (f : Flow)
      (end start : ℕ) → AtLeaf W text from fs evs m pairs at
      → flow_leaf_at m (line_starts text at) (rest text at) ≡ Some (f, rest text end)
      → at + byte_len (flow_text f) ≡ end
      → sign 58 (drop_while white (rest text end)) ≡ false
      → closes_line (all_comments false (rest text end)) ≡ true
      → (all_comments false (rest text end)).1 ≡ rest text start
      → end + byte_len (comments_text (all_comments false (rest text end)).0) ≡ start
      → AtLine W text from fs (evs ++ flow_events f at) start end
  leaf_read fs evs m pairs at f end start h e len c close t p =
      let comments : List LineEnd = (all_comments false (rest text end)).0 in
      let there : place_in fs from + byte_len (sep_text h.sep) + byte_len (flow_text f) ≡ end =
      ap (λ x. x + byte_len (flow_text f)) h.place ∙ len in
      let spelled : byte_len (sep_text h.sep ++ flow_text f ++ comments_text comments) ≡ byte_len (sep_text h.sep)
      + byte_len (flow_text f) + byte_len (comments_text comments) =
      byte_len_joined (sep_text h.sep ++ flow_text f) (comments_text comments)
      ∙ ap (λ x. x + byte_len (comments_text comments)) (byte_len_joined (sep_text h.sep) (flow_text f)) in
      record {
        part = node (flow h.sep f comments);
        reads = h.reads ∙ ap (unwind fs)
            (leaf_closes h.mapping m (line_starts text at) h.sep (rest text at) f (rest text end) e c close
            ∙ ap (λ v. Some (node (flow h.sep f comments), v)) t);
        nested = h.nested;
        fits = node_fits_frames fs (flow h.sep f comments);
        place = omega (arith, there, spelled, p);
        ends = there;
        wrote = ap (λ es. es ++ flow_events f at) h.wrote
            ∙ ap (λ x. events_in fs from ++ flow_events f x) (sym h.place);
      }

  -- a leaf whose line goes on leads nowhere
  pub leaf_goes_on : (fs : List BlockFrame) (evs : List Event) (m : ℕ) (pairs : Option ℕ) (at : ℕ) (f : Flow)
      (end colon : ℕ) → AtLeaf W text from fs evs m pairs at
      → flow_leaf_at m (line_starts text at) (rest text at) ≡ Some (f, rest text end)
      → drop_while white (rest text end) ≡ rest text colon → sign 58 (rest text colon) ≡ false
      → closes_line (all_comments false (rest text end)) ≡ false → W ≡ None
  leaf_goes_on fs evs m pairs at f end colon h e d c close =
      h.reads ∙ (ap (unwind fs) (leaf_unclosed h.mapping m (line_starts text at) h.sep (rest text at) f
      (rest text end) e (ap (sign 58) d ∙ c) close) ∙ unwind_none fs)

  -- without a leaf nothing is read
  pub no_leaf : (fs : List BlockFrame) (evs : List Event) (m : ℕ) (pairs : Option ℕ) (at : ℕ)
      → AtLeaf W text from fs evs m pairs at → first bar (rest text at) ≡ false
      → is_some pairs && sign 63 (rest text at) ≡ false → flow_leaf_at m (line_starts text at) (rest text at) ≡ None
      → W ≡ None
  no_leaf fs evs m pairs at h b q e =
      h.reads ∙ (ap (unwind fs)
      (leaf_missing h.mapping m (line_starts text at) h.sep (rest text at) b
      (ap (λ x. x && sign 63 (rest text at)) (mapping_is h.mapping pairs h.pairs_is) ∙ q) e)
      ∙ unwind_none fs)

  -- a block scalar is read, and a line follows
  pub block_read : (fs : List BlockFrame) (evs : List Event) (m : ℕ) (pairs : Option ℕ) (at : ℕ) (b : BlockScalar)
      (start : ℕ) → AtLeaf W text from fs evs m pairs at
      → first bar (rest text at) ≡ true → read_block m (rest text at) ≡ Some (b, rest text start)
      → at + byte_len (block_text b) ≡ start
      → AtLine W text from fs (evs ++ block_events at b) start (at + byte_len (bare_block_text b))
  block_read fs evs m pairs at b start h bars e len =
      let spelled : byte_len (sep_text h.sep ++ block_text b) ≡ byte_len (sep_text h.sep) + byte_len (block_text b) =
      byte_len_joined (sep_text h.sep) (block_text b) in
      record {
        part = node (block h.sep b);
        reads = h.reads ∙ ap (unwind fs)
            (bar_part h.mapping m (line_starts text at) h.sep (rest text at) bars
            ∙ ap (λ r. on r (λ c after. Some (node (block h.sep c), after))) e);
        nested = h.nested;
        fits = node_fits_frames fs (block h.sep b);
        place = omega (arith, spelled, h.place, len);
        ends = ap (λ x. x + byte_len (bare_block_text b)) h.place;
        wrote = ap (λ es. es ++ block_events at b) h.wrote
            ∙ ap (λ x. events_in fs from ++ block_events x b) (sym h.place);
      }

  -- without a block scalar nothing is read
  pub no_block : (fs : List BlockFrame) (evs : List Event) (m : ℕ) (pairs : Option ℕ) (at : ℕ)
      → AtLeaf W text from fs evs m pairs at → first bar (rest text at) ≡ true
      → read_block m (rest text at) ≡ None → W ≡ None
  no_block fs evs m pairs at h bars e =
      h.reads ∙ (ap (unwind fs)
      (bar_part h.mapping m (line_starts text at) h.sep (rest text at) bars
      ∙ ap (λ r. on r (λ c after. Some (node (block h.sep c), after))) e)
      ∙ unwind_none fs)

  -- ---- a further pair

  -- a further pair starts with `?`
  pub next_asked : (fs : List BlockFrame) (evs : List Event) (k at : ℕ) → AtPair W text from fs evs k at
      → sign 63 (rest text at) ≡ true → past (rest text at) ≡ rest text (at + 1)
      → (sits : Sits) × (done : List Pair) × AfterSign W text from (waits_key sits k done ∷ fs) evs Asked k (at + 1)
  next_asked fs evs k at h q p = (
    h.sits,
    h.done,
    record {
      reads = h.reads ∙ ap (unwind fs)
          (asked_opens h.sits k (k == 0) h.done (rest text at) q
          ∙ ap (λ u. on (block_indented_at k true u) (λ i after. plug (waits_key h.sits k h.done) i after)) p);
      nested = (h.seated, h.nested);
      awaits = (refl, refl);
      place = ap (λ x. x + 1) h.place;
      wrote = h.wrote;
    },
  )

  -- a further pair starts with a key
  pub next_key : (fs : List BlockFrame) (evs : List Event) (k at : ℕ) (f : Flow) (end colon : ℕ)
      → AtPair W text from fs evs k at
      → flow_node_at 0 block_key (line_starts text at) (rest text at) ≡ Some (f, rest text end)
      → at + byte_len (flow_text f) ≡ end
      → drop_while white (rest text end) ≡ rest text colon → end + byte_len (take_while white (rest text end)) ≡ colon
      → sign 58 (rest text colon) ≡ true
      → past (rest text colon) ≡ rest text (colon + 1) → short_key f (take_while white (rest text end)) ≡ true
      → (sits : Sits) × (done : List Pair) × (key : PairKey) × (sign_after key ≡ Colon)
      × AfterSign W text from (waits_value sits k done key ∷ fs) (evs ++ flow_events f at) Colon k (colon + 1)
  next_key fs evs k at f end colon h e len d gap c p short =
      let white_gap : List ℕ = take_while white (rest text end) in
      let here : flow_node_at 0 block_key (k == 0) (rest text at) ≡ Some (f, rest text end) =
      ap (λ b. flow_node_at 0 block_key b (rest text at)) (sym h.starts) ∙ e in (
        h.sits,
        h.done,
        key_on_line f white_gap,
        refl,
        record {
          reads = h.reads ∙ ap (unwind fs)
              (next_key_opens h.sits k (k == 0) h.done (rest text at) f (rest text end) here (ap (sign 58) d
              ∙ c) short
              ∙ ap (λ v. on (keyed_part k v) (λ i after.
              plug (waits_value h.sits k h.done (key_on_line f white_gap)) i after)) (ap past d ∙ p));
          nested = (h.seated, h.nested);
          awaits = (refl, refl);
          place = ap (λ x. x + byte_len (flow_text f) + byte_len white_gap + 1) h.place
              ∙ (ap (λ x. x + byte_len white_gap + 1) len ∙ ap (λ x. x + 1) gap);
          wrote = ap (λ es. es ++ flow_events f at) h.wrote
              ∙ (append_assoc (events_in fs from) (map_start ∷ done_pairs_events k h.done
              (sits_place h.sits (place_in fs from))) (flow_events f at)
              ∙ ap (λ x. events_in fs from ++ map_start
              ∷ (done_pairs_events k h.done (sits_place h.sits (place_in fs from)) ++ flow_events f x))
              (sym h.place));
        },
      )

  -- a flow node that is no key leads nowhere
  pub no_next_key : (fs : List BlockFrame) (evs : List Event) (k at : ℕ) (f : Flow) (end colon : ℕ)
      → AtPair W text from fs evs k at
      → flow_node_at 0 block_key (line_starts text at) (rest text at) ≡ Some (f, rest text end)
      → drop_while white (rest text end) ≡ rest text colon
      → sign 58 (rest text colon) && short_key f (take_while white (rest text end)) ≡ false → W ≡ None
  no_next_key fs evs k at f end colon h e d n =
      h.reads ∙ (ap (unwind fs)
      (next_key_unfit h.sits k (k == 0) h.done (rest text at) f (rest text end)
      (ap (λ b. flow_node_at 0 block_key b (rest text at)) (sym h.starts) ∙ e)
      (ap (λ t. sign 58 t && short_key f (take_while white (rest text end))) d ∙ n))
      ∙ unwind_none fs)

  -- without a flow node nothing is read
  pub no_next_node : (fs : List BlockFrame) (evs : List Event) (k at : ℕ) → AtPair W text from fs evs k at
      → sign 63 (rest text at) ≡ false
      → flow_node_at 0 block_key (line_starts text at) (rest text at) ≡ None → W ≡ None
  no_next_node fs evs k at h q e =
      h.reads ∙ (ap (unwind fs)
      (next_key_missing h.sits k (k == 0) h.done (rest text at) q
      (ap (λ b. flow_node_at 0 block_key b (rest text at)) (sym h.starts) ∙ e))
      ∙ unwind_none fs)
