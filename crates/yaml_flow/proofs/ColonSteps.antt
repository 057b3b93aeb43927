-- One step of the scanner of flow collections at the `:` after a key, and after it.
use Rattle.std.{proofs.Common.{◌≡◌, ap, append_assoc, arith, inl, inr, length, refl, subst, sym, ◌∙◌, ℕ, ◌+◌, ◌≤◌}, specs.Prelude.Bool}
use Rattle.std.specs.Prelude.{true, false, ◌&&◌, nat_le, insert, List, ◌∷◌, ◌++◌, Option, Some, None}
use Rattle.yaml_flow.proofs.Prelude.{IsUtf8, IsCharBoundary, and_parts, cases_Bool, false≢true, append-nil, rest, between, Event, map_start}
use Rattle.yaml_flow.proofs.Prelude.{omitted_at, Flow, entry, Value, absent, empty, given, is_plain, asked_text, flow_events, flow_text}
use Rattle.yaml_flow.proofs.Prelude.{FlowContext, flow_key, one_line, Sep, gap_text, byte_len, starts_line, MapStart, line_starts, is_colon}
use Rattle.yaml_flow.proofs.Prelude.{FlowPart, first_node, asked_key, pair_value, Bracket, OpenFlow, close_with, entries_of, entry_of}
use Rattle.yaml_flow.proofs.Prelude.{key_is_short, past, GapRead, read_gap, widens, on, StandsFlow, flow_node_at, flow_value_at, stands}
use Rattle.yaml_flow.proofs.{Prelude.{gap_sound, IsSign, NoGap}, Appends.{appended_as, appended_between, appended_then, appended_to}}
use Rattle.yaml_flow.proofs.{EntryEvents.{empty_length, entry_length, pair_events, with_colon}, FlowSteps.{Dead, ask_of, bol_of, dead}}
use Rattle.yaml_flow.proofs.FlowSteps.{is_value, keyed, keyed_fits, keyed_refused, made_dead, plug_key, value_entry, waits_value}
use Rattle.yaml_flow.proofs.{PairKeys.{fits_line, key_fits, left_out, no_value, value_given, value_left_out}, NodeSteps.key_start}
use Rattle.yaml_flow.proofs.{NodeSteps.{no_value_part, node_length, plugged, single_is}, Signs.between_after}
use Rattle.yaml_flow.specs.{declared.collection.{Part.TheVariants.Value as ValuePart, NodeEnd.NodeEnd, Open.Open}, FlowNodes.Appended}
use Rattle.yaml_flow.specs.Frames.{AtColon, AtNode, BeganPair, Collection, EntryRead, EventList, NoPair, NodeRead, PartFits, Passes}
use Rattle.yaml_flow.specs.Frames.{SameLine, bracket_prefix, ends_plain, entry_start, fits_single, frame_prefix, in_sequence, is_first}
use Rattle.yaml_flow.specs.Frames.{is_single, pair_end, pair_start, part_prefix, part_of}

-- ---- the parts of a frame

-- the events before the key, once a single pair is begun
pair_written : (in_seq : Bool) (part : FlowPart) (at : ℕ) → is_value part ≡ false
    → (in_seq && is_first (part_of part)) ≡ false → part_prefix in_seq part at ≡ pair_start in_seq
pair_written true (first_node bol) at v h = absurd (false≢true (sym h))
pair_written false (first_node bol) at v h = refl
pair_written in_seq (asked_key sep) at v h = refl
pair_written in_seq (pair_value ask bol key before after) at v h = absurd (false≢true (sym v))

single_written : (in_seq : Bool) (part : FlowPart) (prefix key : List Event) (at : ℕ) → (in_seq && is_first (part_of part)) ≡ true
    → (prefix ++ part_prefix in_seq part at) ++ (map_start ∷ key) ≡ prefix ++ (pair_start in_seq ++ key)
single_written true (first_node bol) prefix key at h = ap (λ es. es ++ (map_start ∷ key)) (append-nil prefix)
single_written true (asked_key sep) prefix key at h = absurd (false≢true h)
single_written true (pair_value ask bol k before after) prefix key at h = absurd (false≢true h)
single_written false part prefix key at h = absurd (false≢true h)

module _ (n : ℕ) (d : FlowContext) (text : List ℕ) where
  abbrev gap_from : ℕ → GapRead
  gap_from at = read_gap n (one_line d) (rest text at)

  abbrev found_at : ℕ → Flow → ℕ → Type 0
  found_at at f end = flow_node_at n d (line_starts text at) (rest text at) ≡ Some (f, rest text end)

  -- ---- nothing comes after the node

  plug_dead : (b : Bracket) (part : FlowPart) (f : Flow) (x : List ℕ) → Dead n d (read_gap n (one_line d) x).1
      → close_with b (on (entry_of n d b.in_seq part f x) (λ e t. entries_of n d b.in_seq e t)) ≡ None
  plug_dead b (first_node bol) f x h =
      ap (keyed n d b bol None f) (no_value n d (is_plain f) x (h.colon (is_plain f))) ∙ made_dead n d b bol None f absent x h
  plug_dead b (asked_key sep) f x h =
      ap (keyed n d b false (Some sep) f) (no_value n d (is_plain f) x (h.colon (is_plain f)))
      ∙ made_dead n d b false (Some sep) f absent x h
  plug_dead b (pair_value ask bol key before after) f x h =
      ap (λ r. close_with b (on r (λ e t. entries_of n d b.in_seq e t))) (value_entry n d b.in_seq bol ask key before after f x)
      ∙ made_dead n d b bol ask key (given before after f) x h

  -- after a gap that fits nothing the collection is none
  pub node_dead : (w : Collection) (top : Open) (node_end : NodeEnd) (end : ℕ) (events : EventList) → NoGap n d (rest text end)
      → NodeRead n d text w top node_end end events → w.reads ≡ None
  node_dead w top node_end end events stop here =
      plugged n d text w top node_end end events here
      ∙ plug_dead here.waits.frame.bracket here.waits.frame.part here.node (rest text end) (dead n d (rest text end) stop)

  -- ---- the `:` after a key

  -- the test of a single pair is of the text of the key and the gap
  test_is : (line start end colon : ℕ) (key : Flow) → IsUtf8 text → start ≤ colon → IsCharBoundary text start
      → IsCharBoundary text colon → SameLine text line start colon
      → found_at start key end → (gap : Option Sep) → gap_from end ≡ (gap, rest text colon)
      → fits_single text line start colon ≡ fits_line (flow_text key ++ gap_text (gap_from end).0)
  test_is line start end colon key u l b c same found gap e =
      let s : StandsFlow n d (line_starts text start) (rest text start) key (rest text end) =
      stands n d (line_starts text start) (rest text start) key (rest text end) found in
      let g = gap_sound n (one_line d) (rest text end) in
      let spells : rest text start ≡ (flow_text key ++ gap_text (gap_from end).0) ++ rest text colon =
      s.spells ∙ (ap (λ t. flow_text key ++ t) (g.0 ∙ ap (λ t. gap_text (gap_from end).0 ++ t) (ap (λ (r : GapRead). r.1) e))
      ∙ sym (append_assoc (flow_text key) (gap_text (gap_from end).0) (rest text colon))) in
      let is : between text start colon ≡ flow_text key ++ gap_text (gap_from end).0 =
      between_after text start colon (flow_text key ++ gap_text (gap_from end).0) u l b c spells in
      ap (λ x. x && nat_le (length (between text start colon)) 1024) same ∙ ap fits_line is

  colon_fits : (in_seq : Bool) (part : FlowPart) (key : Flow) (start end : ℕ) → is_value part ≡ false
      → PartFits n d text in_seq part start → widens flow_key d ≡ true
      → found_at start key end → is_colon d (is_plain key) (gap_from end).1 ≡ true
      → ((in_seq && is_first (part_of part)) ≡ true → fits_line (flow_text key ++ gap_text (gap_from end).0) ≡ true)
      → (v : Value) (r : List ℕ) → flow_value_at n d (is_plain key) (rest text end) ≡ Some (v, r)
      → key_is_short n d in_seq (bol_of part) (ask_of part) key v r ≡ true
  colon_fits true (first_node bol) key start end x p w found i h v r e =
      key_fits n d bol (rest text start) key (rest text end) v r w (ap (λ k. flow_node_at n d k (rest text start)) p ∙ found) i e ∙ h refl
  colon_fits false (first_node bol) key start end x p w found i h v r e = refl
  colon_fits in_seq (asked_key sep) key start end x p w found i h v r e = refl
  colon_fits in_seq (pair_value ask bol k before after) key start end x p w found i h v r e = absurd (false≢true (sym x))

  -- a `:` after a node makes it a key
  pub colon_read : (w : Collection) (top : Open) (node_end : NodeEnd) (line end colon : ℕ) (events new : EventList)
      → IsUtf8 text → IsCharBoundary text top.start → IsCharBoundary text end
      → top.start ≤ end → widens flow_key d ≡ true → (top.part ≡ ValuePart → ⊥) → Passes n d text end colon
      → is_colon d (ends_plain node_end) (rest text colon) ≡ true
      → SameLine text line top.start colon → BeganPair text top line colon events new → NodeRead n d text w top node_end end events
      → AtColon n d text w (in_sequence top.kind) node_end colon new
  colon_read w top node_end line end colon events new u b c l wide p gap i same begun here =
      let o : OpenFlow = here.waits.frame in
      let k : Bracket = o.bracket in
      let key : Flow = here.node in
      let v : is_value o.part ≡ false = no_value_part o.part (λ h. p (sym here.waits.keeps.part ∙ h)) in
      let single : is_single top ≡ k.in_seq && is_first (part_of o.part) =
      single_is n d text top k.in_seq o.part here.waits.keeps.kind here.waits.keeps.part in
      let start : top.start ≡ entry_start k w.start + byte_len (asked_text (ask_of o.part)) = sym here.waits.place
      ∙ key_start n d text o.part (entry_start k w.start) v in
      let long : top.start + byte_len (flow_text key) ≡ end = node_length n d text top.start end key u b c here.found in
      let sized = gap.length in
      let reach = gap.above in
      let sign : is_colon d (is_plain key) (gap_from end).1 ≡ true =
      ap (λ x. is_colon d x (gap_from end).1) here.plain ∙ (ap (λ (r : GapRead). is_colon d (ends_plain node_end) r.1) gap.reads ∙ i) in
      let test : fits_single text line top.start colon ≡ fits_line (flow_text key ++ gap_text (gap_from end).0) =
      test_is line top.start end colon key u (omega arith) b gap.boundary same here.found gap.gap gap.reads in
      record {
        bracket = k;
        kind = here.waits.keeps.kind;
        ask = ask_of o.part;
        bol = bol_of o.part;
        key = key;
        plain = here.plain;
        follows = rest text end;
        gap = gap.gap;
        passes = gap.reads;
        sign = i;
        place = omega (arith, start, long, sized);
        fits = colon_fits k.in_seq o.part key top.start end v here.waits.fits wide here.found sign
            (λ h. sym test ∙ (begun.single (single ∙ h)).0);
        written = appended_as text w.kept new _ _ (ap (λ x. bracket_prefix k w.start ++ (pair_start k.in_seq ++ flow_events key x)) start)
            (elim (cases_Bool (k.in_seq && is_first (part_of o.part))) [
              | inl h ↦ appended_as text w.kept new _ _
                  (single_written k.in_seq o.part (bracket_prefix k w.start) (flow_events key top.start)
                  (entry_start k w.start) h)
                  (appended_between text w.kept here.before events new (frame_prefix o w.start)
                  (flow_events key top.start) here.waits.written here.written
                  ((begun.single (single ∙ h)).1 ∙ ap (λ x. insert events x MapStart) (sym here.count)))
              | inr h ↦ appended_to text w.kept events new _ (begun.other (single ∙ h))
                  (appended_as text w.kept events _ _
                  (append_assoc (bracket_prefix k w.start) (part_prefix k.in_seq o.part (entry_start k w.start)) (flow_events key top.start)
                  ∙ ap (λ es. bracket_prefix k w.start ++ (es ++ flow_events key top.start))
                  (pair_written k.in_seq o.part (entry_start k w.start) v h))
                  (appended_then text w.kept here.before events (frame_prefix o w.start)
                  (flow_events key top.start) here.waits.written here.written))
            ]);
        reads = plugged n d text w top node_end end events here ∙ plug_key n d o key (rest text end) v;
      }

  -- a key over lines, or a long one
  key_refused : (b : Bracket) (part : FlowPart) (key : Flow) (start end : ℕ)
      → (b.in_seq && is_first (part_of part)) ≡ true → PartFits n d text b.in_seq part start
      → widens flow_key d ≡ true → found_at start key end → is_colon d (is_plain key) (gap_from end).1 ≡ true
      → fits_line (flow_text key ++ gap_text (gap_from end).0) ≡ false
      → close_with b (on (entry_of n d b.in_seq part key (rest text end)) (λ e t. entries_of n d b.in_seq e t)) ≡ None
  key_refused b (first_node bol) key start end h p w found i f =
      let kind : b.in_seq ≡ true = (and_parts _ _ h).0 in
      keyed_refused n d b bol None key (flow_value_at n d (is_plain key) (rest text end))
      (λ v r e. ap (λ x. key_is_short n d x bol None key v r) kind
      ∙ (key_fits n d bol (rest text start) key (rest text end) v r w (ap (λ k. flow_node_at n d k (rest text start)) p ∙ found) i e ∙ f))
  key_refused b (asked_key sep) key start end h p w found i f = absurd (false≢true (and_parts _ _ h).1)
  key_refused b (pair_value ask bol k before after) key start end h p w found i f = absurd (false≢true (and_parts _ _ h).1)

  -- a `:` that may not be one makes the collection none
  pub colon_refused : (w : Collection) (top : Open) (node_end : NodeEnd) (line end colon : ℕ) (events : EventList)
      → IsUtf8 text → IsCharBoundary text top.start
      → top.start ≤ end → widens flow_key d ≡ true → Passes n d text end colon → is_colon d (ends_plain node_end) (rest text colon) ≡ true
      → SameLine text line top.start colon → NoPair text top line colon → NodeRead n d text w top node_end end events → w.reads ≡ None
  colon_refused w top node_end line end colon events u b l wide gap i same pair here =
      let o : OpenFlow = here.waits.frame in
      let k : Bracket = o.bracket in
      let key : Flow = here.node in
      let reach = gap.above in
      let single : is_single top ≡ k.in_seq && is_first (part_of o.part) =
      single_is n d text top k.in_seq o.part here.waits.keeps.kind here.waits.keeps.part in
      let sign : is_colon d (is_plain key) (gap_from end).1 ≡ true =
      ap (λ x. is_colon d x (gap_from end).1) here.plain ∙ (ap (λ (r : GapRead). is_colon d (ends_plain node_end) r.1) gap.reads ∙ i) in
      let test : fits_single text line top.start colon ≡ fits_line (flow_text key ++ gap_text (gap_from end).0) =
      test_is line top.start end colon key u (omega arith) b gap.boundary same here.found gap.gap gap.reads in
      plugged n d text w top node_end end events here
      ∙ key_refused k o.part key top.start end (sym single ∙ pair.0) here.waits.fits wide here.found sign (sym test ∙ pair.1)

  -- ---- after the `:`

  past_colon : (colon : ℕ) → IsSign text colon 58 → past (rest text colon) ≡ rest text (colon + 1)
  past_colon colon sign = ap past sign.splits

  module _ (w : Collection) (in_seq : Bool) (key_end : NodeEnd) (colon : ℕ) (events : EventList)
      (here : AtColon n d text w in_seq key_end colon events) where
    sign_there : is_colon d (is_plain here.key) (read_gap n (one_line d) here.follows).1 ≡ true
    sign_there = ap (λ x. is_colon d x (read_gap n (one_line d) here.follows).1) here.plain
        ∙ (ap (λ (r : GapRead). is_colon d (ends_plain key_end) r.1) here.passes ∙ here.sign)

    after_gap : IsSign text colon 58 → read_gap n (one_line d) (past (read_gap n (one_line d) here.follows).1) ≡ gap_from (colon + 1)
    after_gap sign = ap (λ (r : GapRead). read_gap n (one_line d) (past r.1)) here.passes
        ∙ ap (read_gap n (one_line d)) (past_colon colon sign)

    value_empty : IsSign text colon 58 → left_out (ends_plain key_end) (gap_from (colon + 1)) ≡ true
        → flow_value_at n d (is_plain here.key) here.follows ≡ Some (empty here.gap, rest text (colon + 1))
    value_empty sign h =
        value_left_out n d (is_plain here.key) here.follows sign_there
        (ap (left_out (is_plain here.key)) (after_gap sign) ∙ (ap (λ x. left_out x (gap_from (colon + 1))) here.plain ∙ h))
        ∙ (ap (λ (r : GapRead). Some (empty r.0, past r.1)) here.passes
        ∙ ap (λ (t : List ℕ). Some (empty here.gap, t)) (past_colon colon sign))

    value_node : IsSign text colon 58 → left_out (ends_plain key_end) (gap_from (colon + 1)) ≡ false
        → flow_value_at n d (is_plain here.key) here.follows
        ≡ on (flow_node_at n d (starts_line false (gap_text (gap_from (colon + 1)).0)) (gap_from (colon + 1)).1)
        (λ f r. Some (given here.gap (gap_from (colon + 1)).0 f, r))
    value_node sign h =
        value_given n d (is_plain here.key) here.follows sign_there
        (ap (left_out (is_plain here.key)) (after_gap sign) ∙ (ap (λ x. left_out x (gap_from (colon + 1))) here.plain ∙ h))
        ∙ (ap (λ (g : GapRead). on (flow_node_at n d (starts_line false (gap_text g.0)) g.1)
        (λ f r. Some (given (read_gap n (one_line d) here.follows).0 g.0 f, r))) (after_gap sign)
        ∙ ap (λ (x : Option Sep). on (flow_node_at n d (starts_line false (gap_text (gap_from (colon + 1)).0))
        (gap_from (colon + 1)).1) (λ f r. Some (given x (gap_from (colon + 1)).0 f, r)))
        (ap (λ (r : GapRead). r.0) here.passes))

    -- a `:` without a value ends the pair
    pub pair_without_value : (at : ℕ) (new : EventList) → IsSign text colon 58 → Passes n d text (colon + 1) at
        → left_out (ends_plain key_end) (gap_from (colon + 1)) ≡ true
        → Appended text events new (omitted_at (colon + 1) ++ pair_end in_seq) → EntryRead n d text w in_seq at new
    pair_without_value at new sign gap h a =
        let k : Bracket = here.bracket in
        let placed = here.place in
        let wide = gap.length in
        let sized = entry_length here.ask here.key (empty here.gap) in
        let more = empty_length here.gap in
        let key_at : ℕ = entry_start k w.start + byte_len (asked_text here.ask) in
        let place : key_at + byte_len (flow_text here.key) + byte_len (gap_text here.gap) + 1 ≡ colon + 1 = ap (λ x. x + 1) here.place in
        record {
          bracket = k;
          kind = here.kind;
          entry = entry here.ask here.key (empty here.gap);
          follows = rest text (colon + 1);
          gap = gap.gap;
          passes = gap.reads;
          place = omega (arith, placed, wide, sized, more);
          written = appended_as text w.kept new _ _
              (append_assoc (bracket_prefix k w.start) (pair_start k.in_seq ++ flow_events here.key key_at)
              (omitted_at (colon + 1) ++ pair_end k.in_seq)
              ∙ (ap (λ x. bracket_prefix k w.start ++ ((pair_start k.in_seq ++ flow_events here.key key_at)
              ++ (omitted_at x ++ pair_end k.in_seq))) (sym place)
              ∙ ap (λ es. bracket_prefix k w.start ++ es)
              (sym (pair_events k.in_seq here.ask here.key (empty here.gap) (entry_start k w.start)
              (λ q. with_colon here.ask (empty here.gap) refl)))))
              (appended_then text w.kept events new (bracket_prefix k w.start
              ++ (pair_start k.in_seq ++ flow_events here.key key_at))
              (omitted_at (colon + 1) ++ pair_end k.in_seq) here.written
              (subst (λ (x : Bool). Appended text events new (omitted_at (colon + 1) ++ pair_end x)) (sym here.kind) a));
          reads = here.reads
              ∙ (ap (keyed n d k here.bol here.ask here.key) (value_empty sign h)
              ∙ keyed_fits n d k here.bol here.ask here.key (empty here.gap) (rest text (colon + 1))
              (here.fits (empty here.gap) (rest text (colon + 1)) (value_empty sign h)));
        }

    -- after a `:` a value is awaited
    pub value_waits : (top : Open) (at : ℕ) → in_sequence top.kind ≡ in_seq → top.part ≡ ValuePart
        → line_starts text (colon + 1) ≡ false → IsSign text colon 58 → Passes n d text (colon + 1) at
        → left_out (ends_plain key_end) (gap_from (colon + 1)) ≡ false → AtNode n d text w top at events
    value_waits top at kind p starts sign gap h =
        let k : Bracket = here.bracket in
        let placed = here.place in
        let wide = gap.length in
        let node : flow_value_at n d (is_plain here.key) here.follows
        ≡ on (flow_node_at n d (line_starts text at) (rest text at)) (λ f r. Some (given here.gap gap.gap f, r)) =
        value_node sign h
        ∙ (ap (λ (g : GapRead). on (flow_node_at n d (starts_line false (gap_text g.0)) g.1)
        (λ f r. Some (given here.gap g.0 f, r))) gap.reads
        ∙ ap (λ (x : Bool). on (flow_node_at n d x (rest text at)) (λ f r. Some (given here.gap gap.gap f, r))) (gap.starts starts)) in
        record {
          frame = record { bracket = k; part = pair_value here.ask here.bol here.key here.gap gap.gap };
          keeps = record { kind = here.kind ∙ sym kind; part = sym p };
          fits = λ f r e. here.fits (given here.gap gap.gap f) r (node ∙ ap (λ x. on x (λ f' r'. Some (given here.gap gap.gap f', r'))) e);
          place = omega (arith, placed, wide);
          written = here.written;
          reads = here.reads
              ∙ (ap (keyed n d k here.bol here.ask here.key) node
              ∙ waits_value n d k here.bol here.ask here.key here.gap gap.gap (flow_node_at n d (line_starts text at) (rest text at)));
        }

    -- after a gap that fits nothing there is no value
    pub value_dead : IsSign text colon 58 → NoGap n d (rest text (colon + 1)) → w.reads ≡ None
    value_dead sign stop =
        let k : Bracket = here.bracket in
        let h : Dead n d (gap_from (colon + 1)).1 = dead n d (rest text (colon + 1)) stop in
        elim (cases_Bool (left_out (ends_plain key_end) (gap_from (colon + 1)))) [
          | inl e ↦ here.reads
              ∙ (ap (keyed n d k here.bol here.ask here.key) (value_empty sign e)
              ∙ made_dead n d k here.bol here.ask here.key (empty here.gap) (rest text (colon + 1)) h)
          | inr e ↦ here.reads
              ∙ ap (keyed n d k here.bol here.ask here.key) (value_node sign e
              ∙ ap (λ x. on x (λ f r. Some (given here.gap (gap_from (colon + 1)).0 f, r)))
              (h.node (starts_line false (gap_text (gap_from (colon + 1)).0))))
        ]
