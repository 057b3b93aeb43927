-- One step of the scanner of flow collections after a node: its entry ends, or a `:` makes it a key.
use Rattle.std.{proofs.Common.{◌≡◌, ap, append_assoc, arith, length, refl, subst, sym, ◌∙◌, ℕ, ◌+◌, ◌≤◌}, specs.Prelude.{Bool, true, false}}
use Rattle.std.specs.Prelude.{◌&&◌, List, [], ◌++◌, Some, None}
use Rattle.yaml_flow.proofs.Prelude.{IsUtf8, IsCharBoundary, false≢true, append-nil, rest, rest-end, Event, omitted_at, Flow, Entry, entry}
use Rattle.yaml_flow.proofs.Prelude.{absent, given, is_plain, asked_text, entry_text, entry_events, flow_events, flow_text, FlowContext}
use Rattle.yaml_flow.proofs.Prelude.{one_line, byte_len, line_starts, is_colon, FlowPart, first_node, asked_key, pair_value, Bracket}
use Rattle.yaml_flow.proofs.Prelude.{OpenFlow, close_with, entries_of, entry_of, plug, GapRead, read_gap, if_fits, on, StandsFlow}
use Rattle.yaml_flow.proofs.{Prelude.{flow_node_at, flow_value_at, stands}, Appends.{appended_as, appended_then}, PairKeys.no_value}
use Rattle.yaml_flow.proofs.{Signs.place_after, EntryEvents.{entry_length, given_length, pair_events, with_colon}, FlowSteps.absent_fits}
use Rattle.yaml_flow.proofs.FlowSteps.{ask_of, bol_of, is_value, keyed, keyed_fits, no_node_at_end, plug_key, value_entry}
use Rattle.yaml_flow.specs.declared.collection.{Part.{Part, TheVariants.{Value as ValuePart, First, Asked}}, NodeEnd.NodeEnd, Open.Open}
use Rattle.yaml_flow.specs.Frames.{is_value as is_value_part, AtNode, Collection, EntryRead, EventList, NodeRead, PartFits, Passes}
use Rattle.yaml_flow.specs.Frames.{absent_events, bracket_prefix, ends_plain, entry_start, frame_prefix, in_sequence, is_first, is_single}
use Rattle.yaml_flow.specs.{Frames.{node_start, pair_end, pair_start, part_prefix, part_of, part_start}, FlowNodes.Appended}

-- ---- parts

-- the part that the code calls a value is one
pub value_part : (part : FlowPart) (p : Part) → part_of part ≡ p → p ≡ ValuePart → is_value part ≡ true
value_part (first_node bol) p e h = cc
value_part (asked_key sep) p e h = cc
value_part (pair_value ask bol key before after) p e h = refl

-- so is the one that passes the test
pub the_value : (p : Part) → is_value_part p ≡ true → p ≡ ValuePart
the_value First h = absurd (false≢true h)
the_value Asked h = absurd (false≢true h)
the_value ValuePart h = refl

-- one that fails the test is none
pub not_value : (p : Part) → is_value_part p ≡ false → p ≡ ValuePart → ⊥
not_value p h e = false≢true (sym h ∙ ap is_value_part e)

-- a part that the code doesn't call a value is none
pub no_value_part : (part : FlowPart) → (part_of part ≡ ValuePart → ⊥) → is_value part ≡ false
no_value_part (first_node bol) h = refl
no_value_part (asked_key sep) h = refl
no_value_part (pair_value ask bol key before after) h = absurd (h refl)

-- ---- the events of an entry

regroup4 : (a b c d : List Event) → ((a ++ b) ++ c) ++ d ≡ a ++ ((b ++ c) ++ d)
regroup4 a b c d = simp append_assoc

-- the entry whose value is the node
abbrev entry_with : FlowPart → Flow → Entry
entry_with (first_node bol) f = entry None f absent
entry_with (asked_key sep) f = entry (Some sep) f absent
entry_with (pair_value ask bol key before after) f = entry ask key (given before after f)

module _ (n : ℕ) (d : FlowContext) (text : List ℕ) where
  abbrev gap_from : ℕ → GapRead
  gap_from at = read_gap n (one_line d) (rest text at)

  abbrev found_at : ℕ → Flow → ℕ → Type 0
  found_at at f end = flow_node_at n d (line_starts text at) (rest text at) ≡ Some (f, rest text end)

  -- ---- the node

  -- where there is no node, there is no collection
  pub node_missing : (w : Collection) (top : Open) (at : ℕ) (events : EventList)
      → flow_node_at n d (line_starts text at) (rest text at) ≡ None
      → AtNode n d text w top at events → w.reads ≡ None
  node_missing w top at events e here = here.reads ∙ ap (λ r. on r (λ f x. plug n d here.frame f x)) e

  -- the frame takes the node's place
  pub at_start : (w : Collection) (top : Open) (at before : ℕ) (events : EventList) → AtNode n d text w top at events
      → AtNode n d text w (record top { start = at; before = before }) at events
  at_start w top at before events here = record {
    frame = here.frame;
    keeps = record { kind = here.keeps.kind; part = here.keeps.part };
    fits = here.fits;
    place = here.place;
    written = here.written;
    reads = here.reads;
  }

  -- at the end of the text there is no node
  pub node_at_end : (w : Collection) (top : Open) (at : ℕ) (events : EventList) → length text ≤ at
      → AtNode n d text w top at events → w.reads ≡ None
  node_at_end w top at events l here =
      node_missing w top at events (ap (flow_node_at n d (line_starts text at)) (rest-end text at l)
      ∙ no_node_at_end n d (line_starts text at)) here

  -- a node ends as many bytes later as it has
  pub node_length : (at end : ℕ) (f : Flow) → IsUtf8 text → IsCharBoundary text at → IsCharBoundary text end
      → found_at at f end → at + byte_len (flow_text f) ≡ end
  node_length at end f u b c e =
      let s : StandsFlow n d (line_starts text at) (rest text at) f (rest text end) =
      stands n d (line_starts text at) (rest text at) f (rest text end) e in
      place_after text at end (flow_text f) u b c s.spells

  -- a node that is read is put into its entry
  pub plugged : (w : Collection) (top : Open) (node_end : NodeEnd) (end : ℕ) (events : EventList)
      (here : NodeRead n d text w top node_end end events)
      → w.reads ≡ plug n d here.waits.frame here.node (rest text end)
  plugged w top node_end end events here = here.waits.reads ∙ ap (λ r. on r (λ f x. plug n d here.waits.frame f x)) here.found

  -- ---- a value that is read

  value_whole : (in_seq : Bool) (part : FlowPart) (f : Flow) (at end : ℕ) → is_value part ≡ true
      → PartFits n d text in_seq part at → found_at at f end
      → entry_of n d in_seq part f (rest text end) ≡ Some (entry_with part f, rest text end)
  value_whole in_seq (first_node bol) f at end v p e = absurd (false≢true v)
  value_whole in_seq (asked_key sep) f at end v p e = absurd (false≢true v)
  value_whole in_seq (pair_value ask bol key before after) f at end v p e =
      value_entry n d in_seq bol ask key before after f (rest text end)
      ∙ ap (λ t. if_fits t (Some (entry ask key (given before after f), rest text end))) (p f (rest text end) e)

  value_written : (in_seq : Bool) (part : FlowPart) (f : Flow) (at start : ℕ) → is_value part ≡ true → part_start part at ≡ start
      → (part_prefix in_seq part at ++ flow_events f start) ++ pair_end in_seq ≡ entry_events (entry_with part f) in_seq at
  value_written in_seq (first_node bol) f at start v e = absurd (false≢true v)
  value_written in_seq (asked_key sep) f at start v e = absurd (false≢true v)
  value_written in_seq (pair_value ask bol key before after) f at start v e =
      let prefix : List Event = pair_start in_seq ++ flow_events key (at + byte_len (asked_text ask)) in
      append_assoc prefix (flow_events f start) (pair_end in_seq)
      ∙ (ap (λ k. prefix ++ (flow_events f k ++ pair_end in_seq)) (sym e)
      ∙ sym (pair_events in_seq ask key (given before after f) at (λ h. with_colon ask (given before after f) refl)))

  value_length : (part : FlowPart) (f : Flow) (at : ℕ) → is_value part ≡ true
      → at + byte_len (entry_text (entry_with part f)) ≡ part_start part at + byte_len (flow_text f)
  value_length (first_node bol) f at v = absurd (false≢true v)
  value_length (asked_key sep) f at v = absurd (false≢true v)
  value_length (pair_value ask bol key before after) f at v =
      let e = entry_length ask key (given before after f) in
      let g = given_length before after f in
      omega (arith, e, g)

  -- with its value a pair is read
  pub value_read : (w : Collection) (top : Open) (node_end : NodeEnd) (end after : ℕ) (events new : EventList)
      → IsUtf8 text → IsCharBoundary text top.start → IsCharBoundary text end
      → top.part ≡ ValuePart → Passes n d text end after → Appended text events new (pair_end (in_sequence top.kind))
      → NodeRead n d text w top node_end end events
      → EntryRead n d text w (in_sequence top.kind) after new
  value_read w top node_end end after events new u b c p gap a here =
      let o : OpenFlow = here.waits.frame in
      let k : Bracket = o.bracket in
      let v : is_value o.part ≡ true = value_part o.part top.part here.waits.keeps.part p in
      let long : top.start + byte_len (flow_text here.node) ≡ end = node_length top.start end here.node u b c here.found in
      let sized : entry_start k w.start + byte_len (entry_text (entry_with o.part here.node))
      ≡ node_start o w.start + byte_len (flow_text here.node) =
      value_length o.part here.node (entry_start k w.start) v in
      let placed = here.waits.place in
      let wide = gap.length in
      record {
        bracket = k;
        kind = here.waits.keeps.kind;
        entry = entry_with o.part here.node;
        follows = rest text end;
        gap = gap.gap;
        passes = gap.reads;
        place = omega (arith, long, sized, placed, wide);
        written = appended_as text w.kept new _ _
            (regroup4 (bracket_prefix k w.start) (part_prefix k.in_seq o.part (entry_start k w.start))
            (flow_events here.node top.start) (pair_end k.in_seq)
            ∙ ap (λ es. bracket_prefix k w.start ++ es)
            (value_written k.in_seq o.part here.node (entry_start k w.start) top.start v here.waits.place))
            (appended_then text w.kept events new (frame_prefix o w.start ++ flow_events here.node top.start) (pair_end k.in_seq)
            (appended_then text w.kept here.before events (frame_prefix o w.start)
            (flow_events here.node top.start) here.waits.written here.written)
            (subst (λ (x : Bool). Appended text events new (pair_end x)) (sym here.waits.keeps.kind) a));
        reads = plugged w top node_end end events here
            ∙ ap (λ r. close_with k (on r (λ e x. entries_of n d k.in_seq e x)))
            (value_whole k.in_seq o.part here.node top.start end v here.waits.fits here.found);
      }

  -- ---- a node with no `:` after it

  -- where a key starts
  pub key_start : (part : FlowPart) (at : ℕ) → is_value part ≡ false → part_start part at ≡ at + byte_len (asked_text (ask_of part))
  key_start (first_node bol) at v = omega arith
  key_start (asked_key sep) at v = refl
  key_start (pair_value ask bol key before after) at v = absurd (false≢true (sym v))

  absent_written : (in_seq : Bool) (part : FlowPart) (key : Flow) (at start end : ℕ) → is_value part ≡ false
      → start ≡ at + byte_len (asked_text (ask_of part))
      → end ≡ start + byte_len (flow_text key)
      → (part_prefix in_seq part at ++ flow_events key start)
      ++ absent_events (in_seq && is_first (part_of part)) in_seq end ≡ entry_events (entry (ask_of part) key absent) in_seq at
  absent_written true (first_node bol) key at start end v s e = append-nil (flow_events key start) ∙ ap (flow_events key) s
  absent_written false (first_node bol) key at start end v s e =
      ap (λ k. flow_events key start ++ (omitted_at k ++ [])) e
      ∙ (ap (λ k. flow_events key k ++ (omitted_at (k + byte_len (flow_text key)) ++ [])) s
      ∙ sym (pair_events false None key absent at (λ h. absurd (false≢true h))))
  absent_written true (asked_key sep) key at start end v s e =
      ap (λ k. (pair_start true ++ flow_events key start) ++ (omitted_at k ++ pair_end true)) e
      ∙ (ap (λ k. (pair_start true ++ flow_events key k) ++ (omitted_at (k + byte_len (flow_text key)) ++ pair_end true)) s
      ∙ sym (pair_events true (Some sep) key absent at (λ h. refl)))
  absent_written false (asked_key sep) key at start end v s e =
      ap (λ k. (pair_start false ++ flow_events key start) ++ (omitted_at k ++ pair_end false)) e
      ∙ (ap (λ k. (pair_start false ++ flow_events key k) ++ (omitted_at (k + byte_len (flow_text key)) ++ pair_end false)) s
      ∙ sym (pair_events false (Some sep) key absent at (λ h. absurd (false≢true h))))
  absent_written in_seq (pair_value ask bol key before after) key' at start end v s e = absurd (false≢true (sym v))

  -- the code's test says whether the pair is a single one
  pub single_is : (top : Open) (in_seq : Bool) (part : FlowPart) → in_seq ≡ in_sequence top.kind
      → part_of part ≡ top.part → is_single top ≡ in_seq && is_first (part_of part)
  single_is top in_seq part k p = ap (λ x. x && is_first top.part) (sym k) ∙ ap (λ x. in_seq && is_first x) (sym p)

  -- without a value the entry is the node
  pub entry_alone : (w : Collection) (top : Open) (node_end : NodeEnd) (end after : ℕ) (events new : EventList)
      → IsUtf8 text → IsCharBoundary text top.start → IsCharBoundary text end
      → (top.part ≡ ValuePart → ⊥) → Passes n d text end after → is_colon d (ends_plain node_end) (rest text after) ≡ false
      → Appended text events new (absent_events (is_single top) (in_sequence top.kind) end)
      → NodeRead n d text w top node_end end events → EntryRead n d text w (in_sequence top.kind) after new
  entry_alone w top node_end end after events new u b c p gap i a here =
      let o : OpenFlow = here.waits.frame in
      let k : Bracket = o.bracket in
      let key : Flow = here.node in
      let v : is_value o.part ≡ false = no_value_part o.part (λ h. p (sym here.waits.keeps.part ∙ h)) in
      let start : top.start ≡ entry_start k w.start + byte_len (asked_text (ask_of o.part)) = sym here.waits.place
      ∙ key_start o.part (entry_start k w.start) v in
      let long : top.start + byte_len (flow_text key) ≡ end = node_length top.start end key u b c here.found in
      let wide = gap.length in
      let sized = entry_length (ask_of o.part) key absent in
      let e : flow_value_at n d (is_plain key) (rest text end) ≡ Some (absent, rest text end) =
      no_value n d (is_plain key) (rest text end)
      (ap (λ x. is_colon d x (gap_from end).1) here.plain
      ∙ (ap (λ (r : GapRead). is_colon d (ends_plain node_end) r.1) gap.reads ∙ i)) in
      record {
        bracket = k;
        kind = here.waits.keeps.kind;
        entry = entry (ask_of o.part) key absent;
        follows = rest text end;
        gap = gap.gap;
        passes = gap.reads;
        place = omega (arith, start, long, wide, sized);
        written = appended_as text w.kept new _ _
            (regroup4 (bracket_prefix k w.start) (part_prefix k.in_seq o.part (entry_start k w.start))
            (flow_events key top.start) (absent_events (k.in_seq && is_first (part_of o.part)) k.in_seq end)
            ∙ ap (λ es. bracket_prefix k w.start ++ es)
            (absent_written k.in_seq o.part key (entry_start k w.start) top.start end v start (sym long)))
            (appended_then text w.kept events new (frame_prefix o w.start ++ flow_events key top.start)
            (absent_events (k.in_seq && is_first (part_of o.part)) k.in_seq end)
            (appended_then text w.kept here.before events (frame_prefix o w.start)
            (flow_events key top.start) here.waits.written here.written)
            (appended_as text events new _ _ (ap (λ x. absent_events x (in_sequence top.kind) end)
            (single_is top k.in_seq o.part here.waits.keeps.kind here.waits.keeps.part)
            ∙ ap (λ x. absent_events (k.in_seq && is_first (part_of o.part)) x end) (sym here.waits.keeps.kind)) a));
        reads = plugged w top node_end end events here
            ∙ (plug_key n d o key (rest text end) v
            ∙ (ap (λ r. keyed n d k (bol_of o.part) (ask_of o.part) key r) e
            ∙ keyed_fits n d k (bol_of o.part) (ask_of o.part) key absent (rest text end)
            (absent_fits n d k.in_seq (bol_of o.part) (ask_of o.part) key (rest text end))));
      }
