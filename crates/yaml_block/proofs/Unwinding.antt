-- The steps of the scanner at a line after a part: a collection goes on, or it ends and is the part
-- of the collection around it.
use Rattle.std.{proofs.Common.{ap, append-nil, append_assoc, arith, refl, subst, sym, ◌∙◌, ◌≡◌}, specs.Prelude.{Bool, List, Some, []}}
use Rattle.std.specs.Prelude.{codes, false, not, true, ℕ, ◌&&◌, ◌++◌, ◌+◌, ◌==◌, ◌∷◌}
use Rattle.yaml_block.proofs.Prelude.{eq-eqb, false≢true, not-true, rest, Indented, Items, Node, Pair, Pairs, asked, asked_alone}
use Rattle.yaml_block.proofs.Prelude.{compact_items, compact_pairs, indented_end, indented_events, indented_text, item, items_end}
use Rattle.yaml_block.proofs.Prelude.{items_events, items_text, keyed, keyed_alone, node, node_events, node_text, omitted, pair, pair_end}
use Rattle.yaml_block.proofs.Prelude.{pair_events, pair_text, pairs_end, pairs_events, pairs_text, past_spaces, spaces_before, as_map}
use Rattle.yaml_block.proofs.Prelude.{as_seq, map_end, map_start, omitted_at, seq_end, seq_start, flow_text, LineEnd, comments_text}
use Rattle.yaml_block.proofs.Prelude.{byte_len, spaces, BlockFrame, PairKey, Sits, close_pairs, items_part, joined_items, joined_pairs}
use Rattle.yaml_block.proofs.Prelude.{key_asked, key_on_line, on_lines, on_sign_line, pair_with, pairs_after, pairs_part, plug, unwind}
use Rattle.yaml_block.proofs.Prelude.{waits_item, waits_key, waits_value, block_node_stops, past, sign, Read, on, block_indented_at}
use Rattle.yaml_block.proofs.Prelude.{block_node_at, block_pairs_at, asked_for_alone, item_last, item_next, pair_last, pair_next}
use Rattle.yaml_block.proofs.Prelude.{done_items_end, done_items_events, done_pairs_end, done_pairs_events, item_place, items_end_last}
use Rattle.yaml_block.proofs.Prelude.{items_prefix, pair_place, pairs_end_last, pairs_prefix, byte_len_joined, on_parts, some_parts}
use Rattle.yaml_block.proofs.{Prelude.line_starts, LeafSteps.node_fits_frames, SignSteps.byte_len_spaces}
use Rattle.yaml_block.specs.{declared.line_sign.Sign.TheVariants.{Asked, Dash}, BlockParts.as_part, Frames.{AfterPair, AfterSign, AtLine}}
use Rattle.yaml_block.specs.Frames.{AtPair, Seated, events_in, fits_frame, fits_frames, inner_indent, key_events, place_in, sits_place}
use Rattle.{yaml_block.specs.Frames.value_place, yaml_grammar.specs.Events.Event}
use Rattle.yaml_recognizers.proofs.Block.BlockFrames.{value_opens as value_next}

-- ---- one more item, one more pair

items_end_more : (k : ℕ) (done : List Indented) (i : Indented) (at : ℕ)
    → done_items_end k (done ++ i ∷ []) at ≡ item_place k i (done_items_end k done at)
items_end_more k [] i at = refl
items_end_more k (d ∷ done) i at = items_end_more k done i (item_place k d at)

items_events_more : (k : ℕ) (done : List Indented) (i : Indented) (at : ℕ)
    → done_items_events k (done ++ i ∷ []) at ≡ done_items_events k done at ++ indented_events i k
    (done_items_end k done at + 1)
items_events_more k [] i at = append-nil (indented_events i k (at + 1))
items_events_more k (d ∷ done) i at =
    ap (λ es. indented_events d k (at + 1) ++ es) (items_events_more k done i (item_place k d at))
    ∙ sym (append_assoc (indented_events d k (at + 1)) (done_items_events k done (item_place k d at))
    (indented_events i k (done_items_end k done (item_place k d at) + 1)))

pairs_end_more : (k : ℕ) (done : List Pair) (p : Pair) (at : ℕ)
    → done_pairs_end k (done ++ p ∷ []) at ≡ pair_place k p (done_pairs_end k done at)
pairs_end_more k [] p at = refl
pairs_end_more k (d ∷ done) p at = pairs_end_more k done p (pair_place k d at)

pairs_events_more : (k : ℕ) (done : List Pair) (p : Pair) (at : ℕ)
    → done_pairs_events k (done ++ p ∷ []) at ≡ done_pairs_events k done at ++ pair_events p k
    (done_pairs_end k done at)
pairs_events_more k [] p at = append-nil (pair_events p k at)
pairs_events_more k (d ∷ done) p at =
    ap (λ es. pair_events d k at ++ es) (pairs_events_more k done p (pair_place k d at))
    ∙ sym (append_assoc (pair_events d k at) (done_pairs_events k done (pair_place k d at))
    (pair_events p k (done_pairs_end k done (pair_place k d at))))

-- ---- how long a collection is

items_long : (k : ℕ) (done : List Indented) (is : Items) (at : ℕ)
    → at + byte_len (items_text (joined_items done is) k) ≡ done_items_end k done at + byte_len (items_text is k)
items_long k [] is at = refl
items_long k (i ∷ done) is at =
    let more : item_place k i at + byte_len (items_text (joined_items done is) k) ≡ done_items_end k done
    (item_place k i at) + byte_len (items_text is k) = items_long k done is (item_place k i at) in
    let a : byte_len (codes "-" ++ indented_text i k ++ spaces k ++ items_text (joined_items done is) k) ≡ byte_len
    (codes "-" ++ indented_text i k ++ spaces k) + byte_len (items_text (joined_items done is) k) =
    byte_len_joined (codes "-" ++ indented_text i k ++ spaces k) (items_text (joined_items done is) k) in
    let b : byte_len (codes "-" ++ indented_text i k ++ spaces k) ≡ byte_len (codes "-" ++ indented_text i k)
    + byte_len (spaces k) = byte_len_joined (codes "-" ++ indented_text i k) (spaces k) in
    let c : byte_len (codes "-" ++ indented_text i k) ≡ 1 + byte_len (indented_text i k) = refl in
    omega (arith, more, a, b, c, byte_len_spaces k)

pairs_long : (k : ℕ) (done : List Pair) (ps : Pairs) (at : ℕ)
    → at + byte_len (pairs_text (joined_pairs done ps) k) ≡ done_pairs_end k done at + byte_len (pairs_text ps k)
pairs_long k [] ps at = refl
pairs_long k (p ∷ done) ps at =
    let more : pair_place k p at + byte_len (pairs_text (joined_pairs done ps) k) ≡ done_pairs_end k done
    (pair_place k p at) + byte_len (pairs_text ps k) = pairs_long k done ps (pair_place k p at) in
    let a : byte_len (pair_text p k ++ spaces k ++ pairs_text (joined_pairs done ps) k) ≡ byte_len
    (pair_text p k ++ spaces k) + byte_len (pairs_text (joined_pairs done ps) k) =
    byte_len_joined (pair_text p k ++ spaces k) (pairs_text (joined_pairs done ps) k) in
    let b : byte_len (pair_text p k ++ spaces k) ≡ byte_len (pair_text p k) + byte_len (spaces k) =
    byte_len_joined (pair_text p k) (spaces k) in
    omega (arith, more, a, b, byte_len_spaces k)

-- ---- a collection as the part of the one around it

-- it fits that frame
pub seated_fits : (sits : Sits) (k : ℕ) (fs : List BlockFrame) → Seated sits k fs
    → ((is : Items) → fits_frames fs (items_part sits is) ≡ true)
    × ((ps : Pairs) → fits_frames fs (pairs_part sits ps) ≡ true)
seated_fits (on_lines comments j) k fs h = (λ is. node_fits_frames fs _, λ ps. node_fits_frames fs _)
seated_fits (on_sign_line s) k [] h = absurd h
seated_fits (on_sign_line s) k (waits_item sits j done ∷ fs) h = (λ is. refl, λ ps. refl)
seated_fits (on_sign_line s) k (waits_key sits j done ∷ fs) h = (λ is. refl, λ ps. refl)
seated_fits (on_sign_line s) k (waits_value sits j done (key_asked key) ∷ fs) h = (λ is. refl, λ ps. refl)
seated_fits (on_sign_line s) k (waits_value sits j done (key_on_line key gap) ∷ fs) h = absurd (false≢true (sym h.0))

-- its own indentation, below one of n
own_indent : Sits → ℕ → ℕ
own_indent (on_lines comments j) n = j
own_indent (on_sign_line s) n = n + 1 + s

own_is : (sits : Sits) (k : ℕ) (fs : List BlockFrame) → Seated sits k fs → own_indent sits (inner_indent fs) ≡ k
unfolding own_indent
own_is (on_lines comments j) k fs h = h
own_is (on_sign_line s) k [] h = absurd h
own_is (on_sign_line s) k (g ∷ gs) h = sym h.1

-- The text, the end and the events of the part, below an indentation of n, by the place of its first sign or key:
-- those of the collection itself are `spelled`, `ends` and `means`.
record SeatedPart (sits : Sits) (n k : ℕ) (part : Indented) (spelled : ℕ → List ℕ) (ends : ℕ → ℕ → ℕ)
    (means : ℕ → ℕ → List Event) (at : ℕ) : Type 0 where
  text : at + byte_len (indented_text part n) ≡ sits_place sits at + byte_len (spelled k)
  end : indented_end part n at ≡ ends k (sits_place sits at)
  events : indented_events part n at ≡ means k (sits_place sits at)

lines_long : (comments : List LineEnd) (j : ℕ) (lines : List ℕ) (at : ℕ)
    → at + byte_len (comments_text comments ++ spaces j ++ lines) ≡ at + byte_len (comments_text comments) + j
    + byte_len lines
lines_long comments j lines at =
    let a : byte_len (comments_text comments ++ spaces j ++ lines) ≡ byte_len (comments_text comments ++ spaces j)
    + byte_len lines = byte_len_joined (comments_text comments ++ spaces j) lines in
    let b : byte_len (comments_text comments ++ spaces j) ≡ byte_len (comments_text comments) + byte_len (spaces j) =
    byte_len_joined (comments_text comments) (spaces j) in
    omega (arith, a, b, byte_len_spaces j)

line_long : (s : ℕ) (lines : List ℕ) (at : ℕ) → at + byte_len (spaces s ++ lines) ≡ at + s + byte_len lines
line_long s lines at =
    let a : byte_len (spaces s ++ lines) ≡ byte_len (spaces s) + byte_len lines = byte_len_joined (spaces s) lines in
    omega (arith, a, byte_len_spaces s)

-- of a sequence
abbrev SeatedItems : Sits → ℕ → ℕ → Items → ℕ → Type 0
SeatedItems sits n k is at = SeatedPart sits n k (items_part sits is) (items_text is) (items_end is)
    (λ j x. as_seq (items_events is j x)) at

items_sit : (sits : Sits) (n : ℕ) (is : Items) (at : ℕ) → SeatedItems sits n (own_indent sits n) is at
unfolding own_indent
items_sit (on_lines comments j) n is at =
    record { text = lines_long comments j (items_text is j) at; end = refl; events = refl }
items_sit (on_sign_line s) n is at =
    record { text = line_long s (items_text is (n + 1 + s)) at; end = refl; events = refl }

-- of a mapping
abbrev SeatedPairs : Sits → ℕ → ℕ → Pairs → ℕ → Type 0
SeatedPairs sits n k ps at = SeatedPart sits n k (pairs_part sits ps) (pairs_text ps) (pairs_end ps)
    (λ j x. as_map (pairs_events ps j x)) at

pairs_sit : (sits : Sits) (n : ℕ) (ps : Pairs) (at : ℕ) → SeatedPairs sits n (own_indent sits n) ps at
unfolding own_indent
pairs_sit (on_lines comments j) n ps at =
    record { text = lines_long comments j (pairs_text ps j) at; end = refl; events = refl }
pairs_sit (on_sign_line s) n ps at =
    record { text = line_long s (pairs_text ps (n + 1 + s)) at; end = refl; events = refl }

-- ---- a pair, from its key and its value

record PairOf (k : ℕ) (key : PairKey) (i : Indented) : Type 0 where
  made : Pair
  reads : (t : List ℕ) → pair_with key i t ≡ Some (made, t)
  text : (at : ℕ) → value_place k key at + byte_len (indented_text i k) ≡ at + byte_len (pair_text made k)
  end : (at : ℕ) → pair_end made k at ≡ indented_end i k (value_place k key at)
  events : (at : ℕ) → pair_events made k at ≡ key_events k key at ++ indented_events i k (value_place k key at)

asked_long : (k : ℕ) (key value : Indented) (at : ℕ)
    → at + 1 + byte_len (indented_text key k) + k + 1 + byte_len (indented_text value k) ≡ at + byte_len
    (pair_text (asked key value) k)
asked_long k key value at =
    let a : byte_len (codes "?" ++ indented_text key k ++ spaces k ++ codes ":" ++ indented_text value k) ≡ byte_len
    (codes "?" ++ indented_text key k ++ spaces k ++ codes ":") + byte_len (indented_text value k) =
    byte_len_joined (codes "?" ++ indented_text key k ++ spaces k ++ codes ":") (indented_text value k) in
    let b : byte_len (codes "?" ++ indented_text key k ++ spaces k ++ codes ":") ≡ byte_len
    (codes "?" ++ indented_text key k ++ spaces k) + 1 =
    byte_len_joined (codes "?" ++ indented_text key k ++ spaces k) (codes ":") in
    let c : byte_len (codes "?" ++ indented_text key k ++ spaces k) ≡ byte_len (codes "?" ++ indented_text key k)
    + byte_len (spaces k) = byte_len_joined (codes "?" ++ indented_text key k) (spaces k) in
    let d : byte_len (codes "?" ++ indented_text key k) ≡ 1 + byte_len (indented_text key k) = refl in
    omega (arith, a, b, c, d, byte_len_spaces k)

keyed_long : (key gap value : List ℕ) (at : ℕ) → at + byte_len key + byte_len gap + 1 + byte_len value ≡ at + byte_len
    (key ++ gap ++ codes ":" ++ value)
keyed_long key gap value at =
    let a : byte_len (key ++ gap ++ codes ":" ++ value) ≡ byte_len (key ++ gap ++ codes ":") + byte_len value =
    byte_len_joined (key ++ gap ++ codes ":") value in
    let b : byte_len (key ++ gap ++ codes ":") ≡ byte_len (key ++ gap) + 1 =
    byte_len_joined (key ++ gap) (codes ":") in
    omega (arith, a, b, byte_len_joined key gap)

pair_of : (sits : Sits) (k : ℕ) (done : List Pair) (key : PairKey) (i : Indented)
    → fits_frame (waits_value sits k done key) i ≡ true → PairOf k key i
pair_of sits k done (key_asked key) i h = record {
  made = asked key i;
  reads = λ t. refl;
  text =
      asked_long k key i;
  end = λ at. refl;
  events = λ at. refl;
}
pair_of sits k done (key_on_line key gap) (compact_items s is) h = absurd (false≢true h)
pair_of sits k done (key_on_line key gap) (compact_pairs s ps) h = absurd (false≢true h)
pair_of sits k done (key_on_line key gap) (node n) h = record {
  made = keyed key gap n;
  reads = λ t. refl;
  text = keyed_long (flow_text key) gap (node_text n);
  end = λ at. refl;
  events = λ at. refl;
}
pair_of sits k done (key_on_line key gap) (omitted comments) h = record {
  made = keyed_alone key gap comments;
  reads = λ t. refl;
  text = keyed_long (flow_text key) gap (comments_text comments);
  end = λ at. refl;
  events = λ at. refl;
}

-- ---- steps

module _ (W : Read Indented) (text : List ℕ) (from : ℕ) where
  -- a `-` at the same depth goes on with the sequence
  pub item_goes_on : (fs : List BlockFrame) (evs : List Event) (sits : Sits) (k : ℕ) (done : List Indented)
      (start end prefix : ℕ) (h : AtLine W text from (waits_item sits k done ∷ fs) evs start end)
      → spaces_before (rest text start) ≡ k → start + k ≡ prefix → past_spaces (rest text start) ≡ rest text prefix
      → sign 45 (rest text prefix) ≡ true
      → past (rest text prefix) ≡ rest text (prefix + 1)
      → AfterSign W text from (waits_item sits k (done ++ h.part ∷ []) ∷ fs) evs Dash k (prefix + 1)
  item_goes_on fs evs sits k done start end prefix h c p e d q =
      let i : Indented = h.part in
      let at : ℕ = sits_place sits (place_in fs from) in
      let E : ℕ = done_items_end k done at in
      let place : E + 1 + byte_len (indented_text i k) ≡ start = h.place in
      record {
        reads = h.reads ∙ ap (unwind fs)
            (item_next sits k done i (rest text start) (eq-eqb (spaces_before (rest text start)) k c) (ap (sign 45) e
            ∙ d)
            ∙ ap (λ u. on (block_indented_at k false u)
            (λ j after. plug (waits_item sits k (done ++ i ∷ [])) j after)) (ap past e ∙ q));
        nested = h.nested;
        awaits = (refl, refl);
        place = ap (λ x. x + 1) (items_end_more k done i at ∙ (ap (λ x. x + k) place ∙ p));
        wrote = h.wrote
            ∙ (append_assoc (events_in fs from) (seq_start ∷ done_items_events k done at)
            (indented_events i k (E + 1))
            ∙ ap (λ es. events_in fs from ++ seq_start ∷ es) (sym (items_events_more k done i at)));
      }

  -- else the sequence ends
  pub sequence_ends : (fs : List BlockFrame) (evs : List Event) (sits : Sits) (k : ℕ) (done : List Indented)
      (start end : ℕ) → AtLine W text from (waits_item sits k done ∷ fs) evs start end
      → (spaces_before (rest text start) == k) && sign 45 (past_spaces (rest text start)) ≡ false
      → AtLine W text from fs (evs ++ seq_end ∷ []) start end
  sequence_ends fs evs sits k done start end h n =
      let i : Indented = h.part in
      let outer : ℕ = place_in fs from in
      let at : ℕ = sits_place sits outer in
      let E : ℕ = done_items_end k done at in
      let is : Items = joined_items done (item i) in
      let s : SeatedItems sits (inner_indent fs) k is outer =
      subst (λ j. SeatedItems sits (inner_indent fs) j is outer) (own_is sits k fs h.nested.0)
      (items_sit sits (inner_indent fs) is outer) in
      let long : at + byte_len (items_text is k) ≡ E + byte_len (items_text (item i) k) =
      items_long k done (item i) at in
      let one : byte_len (items_text (item i) k) ≡ 1 + byte_len (indented_text i k) = refl in
      let place : E + 1 + byte_len (indented_text i k) ≡ start = h.place in
      record {
        part = items_part sits is;
        reads = h.reads ∙ ap (unwind fs) (item_last sits k done i (rest text start) n);
        nested = h.nested.1;
        fits = (seated_fits sits k fs h.nested.0).0 is;
        place = omega (arith, s.text, long, one, place);
        ends = s.end ∙ (items_end_last k done i at ∙ h.ends);
        wrote = ap (λ es. es ++ seq_end ∷ []) h.wrote
            ∙ (ap (λ es. es ++ seq_end ∷ []) (append_assoc (events_in fs from)
            (seq_start ∷ done_items_events k done at) (indented_events i k (E + 1)))
            ∙ (append_assoc (events_in fs from) (seq_start ∷ (done_items_events k done at ++ indented_events i k
            (E + 1))) (seq_end ∷ [])
            ∙ ap (λ es. events_in fs from ++ es) (ap as_seq (sym (items_prefix k done (item i) at)) ∙ sym s.events)));
      }

  -- a `:` at the same depth goes on with the asked key
  pub value_opens : (fs : List BlockFrame) (evs : List Event) (sits : Sits) (k : ℕ) (done : List Pair)
      (start end prefix : ℕ) (h : AtLine W text from (waits_key sits k done ∷ fs) evs start end)
      → spaces_before (rest text start) ≡ k → start + k ≡ prefix → past_spaces (rest text start) ≡ rest text prefix
      → sign 58 (rest text prefix) ≡ true
      → past (rest text prefix) ≡ rest text (prefix + 1)
      → AfterSign W text from (waits_value sits k done (key_asked h.part) ∷ fs) evs Asked k (prefix + 1)
  value_opens fs evs sits k done start end prefix h c p e d q =
      let i : Indented = h.part in
      let at : ℕ = sits_place sits (place_in fs from) in
      let P : ℕ = done_pairs_end k done at in
      let place : P + 1 + byte_len (indented_text i k) ≡ start = h.place in
      record {
        reads = h.reads ∙ ap (unwind fs)
            (value_next sits k done i (rest text start) (not-true _ h.fits)
            (eq-eqb (spaces_before (rest text start)) k c) (ap (sign 58) e ∙ d)
            ∙ ap (λ u. on (block_indented_at k true u)
            (λ j after. plug (waits_value sits k done (key_asked i)) j after)) (ap past e ∙ q));
        nested = h.nested;
        awaits = (refl, refl);
        place = ap (λ x. x + k + 1) place ∙ ap (λ x. x + 1) p;
        wrote = h.wrote ∙ append_assoc (events_in fs from) (map_start ∷ done_pairs_events k done at)
            (indented_events i k (P + 1));
      }

  -- else the key is alone
  pub key_alone : (fs : List BlockFrame) (evs : List Event) (sits : Sits) (k : ℕ) (done : List Pair) (start end : ℕ)
      → AtLine W text from (waits_key sits k done ∷ fs) evs start end
      → (spaces_before (rest text start) == k) && sign 58 (past_spaces (rest text start)) ≡ false
      → AfterPair W text from fs (evs ++ omitted_at end) k start end
  key_alone fs evs sits k done start end h n =
      let i : Indented = h.part in
      let at : ℕ = sits_place sits (place_in fs from) in
      let P : ℕ = done_pairs_end k done at in
      let place : P + 1 + byte_len (indented_text i k) ≡ start = h.place in
      let one : byte_len (pair_text (asked_alone i) k) ≡ 1 + byte_len (indented_text i k) = refl in
      record {
        sits = sits;
        done = done;
        last = asked_alone i;
        reads = h.reads ∙ ap (unwind fs) (asked_for_alone sits k done i (rest text start) (not-true _ h.fits) n);
        nested = h.nested.1;
        seated = h.nested.0;
        place = omega (arith, one, place);
        ends = h.ends;
        wrote = ap (λ es. es ++ omitted_at end) h.wrote
            ∙ (ap (λ es. es ++ omitted_at end) (append_assoc (events_in fs from)
            (map_start ∷ done_pairs_events k done at) (indented_events i k (P + 1)))
            ∙ (append_assoc (events_in fs from) (map_start ∷ (done_pairs_events k done at ++ indented_events i k
            (P + 1))) (omitted_at end)
            ∙ (ap (λ es. events_in fs from ++ map_start ∷ es)
            (append_assoc (done_pairs_events k done at) (indented_events i k (P + 1)) (omitted_at end))
            ∙ ap (λ x. events_in fs from ++ map_start
            ∷ (done_pairs_events k done at ++ (indented_events i k (P + 1) ++ omitted_at x))) (sym h.ends))));
      }

  -- with its value a pair is read
  pub value_read : (fs : List BlockFrame) (evs : List Event) (sits : Sits) (k : ℕ) (done : List Pair) (key : PairKey)
      (start end : ℕ)
      → AtLine W text from (waits_value sits k done key ∷ fs) evs start end → AfterPair W text from fs evs k start end
  value_read fs evs sits k done key start end h =
      let i : Indented = h.part in
      let at : ℕ = sits_place sits (place_in fs from) in
      let P : ℕ = done_pairs_end k done at in
      let p : PairOf k key i = pair_of sits k done key i h.fits in
      record {
        sits = sits;
        done = done;
        last = p.made;
        reads = h.reads ∙ ap (λ r. unwind fs (on r (λ q after. pairs_after sits k done q after)))
            (p.reads (rest text start));
        nested = h.nested.1;
        seated = h.nested.0;
        place = sym (p.text P) ∙ h.place;
        ends = p.end P ∙ h.ends;
        wrote = h.wrote
            ∙ (append_assoc (events_in fs from) (map_start ∷ (done_pairs_events k done at ++ key_events k key P))
            (indented_events i k (value_place k key P))
            ∙ ap (λ es. events_in fs from ++ map_start ∷ es)
            (append_assoc (done_pairs_events k done at) (key_events k key P)
            (indented_events i k (value_place k key P))
            ∙ ap (λ es. done_pairs_events k done at ++ es) (sym (p.events P))));
      }

  -- a key at the same depth goes on with the mapping
  pub pair_goes_on : (fs : List BlockFrame) (evs : List Event) (k start end prefix : ℕ)
      → AfterPair W text from fs evs k start end
      → (spaces_before (rest text start) == k) && not (block_node_stops k false (rest text start)) ≡ true → start + k ≡ prefix
      → past_spaces (rest text start) ≡ rest text prefix
      → line_starts text prefix ≡ (k == 0) → AtPair W text from fs evs k prefix
  pair_goes_on fs evs k start end prefix h n p e b =
      let at : ℕ = sits_place h.sits (place_in fs from) in
      record {
        sits = h.sits;
        done = h.done ++ h.last ∷ [];
        starts = b;
        reads = h.reads ∙ ap (unwind fs) (pair_next h.sits k h.done h.last (rest text start) n
            ∙ ap (λ t. close_pairs h.sits (h.done ++ h.last ∷ []) (block_pairs_at k (k == 0) t)) e);
        nested = h.nested;
        seated = h.seated;
        place = pairs_end_more k h.done h.last at ∙ (ap (λ x. x + k) h.place ∙ p);
        wrote = h.wrote ∙ ap (λ es. events_in fs from ++ map_start ∷ es) (sym (pairs_events_more k h.done h.last at));
      }

  -- else the mapping ends
  pub mapping_ends : (fs : List BlockFrame) (evs : List Event) (k start end : ℕ)
      → AfterPair W text from fs evs k start end
      → (spaces_before (rest text start) == k) && not (block_node_stops k false (rest text start)) ≡ false
      → AtLine W text from fs (evs ++ map_end ∷ []) start end
  mapping_ends fs evs k start end h n =
      let outer : ℕ = place_in fs from in
      let at : ℕ = sits_place h.sits outer in
      let P : ℕ = done_pairs_end k h.done at in
      let ps : Pairs = joined_pairs h.done (pair h.last) in
      let s : SeatedPairs h.sits (inner_indent fs) k ps outer =
      subst (λ j. SeatedPairs h.sits (inner_indent fs) j ps outer) (own_is h.sits k fs h.seated)
      (pairs_sit h.sits (inner_indent fs) ps outer) in
      let long : at + byte_len (pairs_text ps k) ≡ P + byte_len (pair_text h.last k) =
      pairs_long k h.done (pair h.last) at in
      record {
        part = pairs_part h.sits ps;
        reads = h.reads ∙ ap (unwind fs) (pair_last h.sits k h.done h.last (rest text start) n);
        nested = h.nested;
        fits = (seated_fits h.sits k fs h.seated).1 ps;
        place = omega (arith, s.text, long, h.place);
        ends = s.end ∙ (pairs_end_last k h.done h.last at ∙ h.ends);
        wrote = ap (λ es. es ++ map_end ∷ []) h.wrote
            ∙ (append_assoc (events_in fs from) (map_start
            ∷ (done_pairs_events k h.done at ++ pair_events h.last k P)) (map_end ∷ [])
            ∙ ap (λ es. events_in fs from ++ es) (ap as_map (sym (pairs_prefix k h.done (pair h.last) at))
            ∙ sym s.events));
      }

-- all is read
pub whole : (text : List ℕ) (from m : ℕ) (shallow bol : Bool) (evs : List Event) (start end : ℕ)
    → AtLine (as_part (block_node_at m shallow bol (rest text from))) text from [] evs start end
    → (n : Node) × (block_node_at m shallow bol (rest text from) ≡ Some (n, rest text start))
    × (evs ≡ node_events n from)
whole text from m shallow bol evs start end h =
    let p = on_parts (block_node_at m shallow bol (rest text from)) (λ n after. Some (node n, after))
    (h.part, rest text start) h.reads in
    let q : (node p.0 ≡ h.part) × (p.1 ≡ rest text start) = some_parts (node p.0) h.part p.1 (rest text start) p.3 in
    (p.0, p.2 ∙ ap (λ t. Some (p.0, t)) q.1, h.wrote ∙ ap (λ (i : Indented). indented_events i 0 from) (sym q.0))
