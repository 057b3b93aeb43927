-- One step of the scanner of flow collections: from what comes before it to what comes after it.
use Rattle.std.{proofs.Common.{◌≡◌, ap, arith, eq-eqb, refl, subst, sym, ◌∙◌, ℕ, ◌+◌, ◌<◌, append_assoc}, specs.Prelude.{Bool, true, false}}
use Rattle.std.specs.Prelude.{◌==◌, nat_lt, is_some, List, [], ◌∷◌, ◌++◌, Option, Some, None}
use Rattle.yaml_flow.proofs.Prelude.{false≢true, nat_tests, append-nil, rest, Flow, Entries, Entry, entry, Value, absent, given, none, last}
use Rattle.yaml_flow.proofs.Prelude.{is_plain, scalar, asked_text, entry_text, entries_events, FlowContext, outer, inner, block_key}
use Rattle.yaml_flow.proofs.Prelude.{flow_key, in_flow, one_line, Sep, gap_text, byte_len, first, starts_line, line_starts, is_colon}
use Rattle.yaml_flow.proofs.Prelude.{FlowPart, first_node, asked_key, pair_value, Bracket, DoneEntry, OpenFlow, closer, close_with}
use Rattle.yaml_flow.proofs.Prelude.{collection_of, entries_of, entry_of, entries_onto, plug, is_asked, key_is_short, entry_if_short}
use Rattle.yaml_flow.proofs.Prelude.{read_scalar, past, GapRead, read_gap, read_plain, Read, read_closing, if_fits, on, flow_node_at}
use Rattle.yaml_flow.proofs.Prelude.{flow_entries_at, flow_value_at, asked_for_nothing, comma_after, entry_begins, entry_is_asked}
use Rattle.yaml_flow.proofs.Prelude.{is_scalar, last_entry, no_entry, opens_map, opens_seq, IsSign, NoGap, stuck, used_up}
use Rattle.yaml_flow.proofs.{Appends.{appended_as, appended_then}, EntryEvents.{collection_events, done_end_more, done_more}}
use Rattle.yaml_flow.specs.{declared.collection.{Open.Open, Part.TheVariants.{First, Asked}}, FlowNodes.Appended, Frames.AfterQuestion}
use Rattle.yaml_flow.specs.Frames.{AtEntry, AtNode, BeforeGap, Collection, EntryRead, EventList, IsBracket, Passes, WholeRead, bracket_end}
use Rattle.yaml_flow.specs.Frames.{bracket_prefix, bracket_start, entries_start, entry_start, in_sequence, pair_start}
use Rattle.yaml_recognizers.proofs.Flow.StuckGaps.{blank, no_colon, no_node}

same : (x : ℕ) → (x == x) ≡ true
same x = eq-eqb x x refl

closed_by : {A : Type 0} (x : ℕ) (a : A) (cs : List ℕ) → read_closing x a (x ∷ cs) ≡ Some (a, cs)
closed_by x a cs = rw (same x) refl

not_closed : {A : Type 0} (x : ℕ) (a : A) (text : List ℕ) → first (λ y. y == x) text ≡ false → read_closing x a text ≡ None
not_closed x a [] h = refl
not_closed x a (c ∷ cs) h = rw h refl

no_plain : (in_seq : Bool) (gap : Option Sep) (es : Entries) → is_plain (collection_of in_seq gap es) ≡ false
no_plain true gap es = refl
no_plain false gap es = refl

closer_no_comma : (in_seq : Bool) → (closer in_seq == 44) ≡ false
closer_no_comma true = refl
closer_no_comma false = refl

no_scalar : (n : ℕ) (c : FlowContext) (bol : Bool) → read_scalar n c bol [] ≡ None
unfolding read_scalar read_plain
no_scalar n c bol = refl

-- at the end of the text there is nothing
pub no_node_at_end : (n : ℕ) (c : FlowContext) (bol : Bool) → flow_node_at n c bol [] ≡ None
no_node_at_end n c bol = is_scalar n c bol [] refl refl ∙ ap (λ r. on r (λ f rest. Some (scalar f, rest))) (no_scalar n c bol)

-- ---- a gap after which nothing goes on

-- nothing comes after it
pub record Dead (n : ℕ) (d : FlowContext) (text : List ℕ) : Type 0 where
  pub colon : (after_plain : Bool) → is_colon d after_plain text ≡ false
  pub comma : first (λ x. x == 44) text ≡ false
  pub close : (in_seq : Bool) → first (λ x. x == closer in_seq) text ≡ false
  pub asked : is_asked d text ≡ false
  pub node : (bol : Bool) → flow_node_at n d bol text ≡ None

no_sign : (x k : ℕ) → blank x ≡ true → 32 < k → (x == k) ≡ false
no_sign x k h l = grind (arith, nat_tests)

stuck_dead : (n : ℕ) (d : FlowContext) (x : ℕ) (xs : List ℕ) → blank x ≡ true → Dead n d (x ∷ xs)
stuck_dead n d x xs h = record {
  colon = λ after_plain. no_colon d after_plain x xs h;
  comma = no_sign x 44 h (omega arith);
  close = λ in_seq. elim in_seq as (λ b. (x == closer b) ≡ false)
      [ true ↦ no_sign x 93 h (omega arith) | false ↦ no_sign x 125 h (omega arith) ];
  asked = rw (no_sign x 63 h (omega arith)) refl;
  node = λ bol. no_node n d bol x xs h;
}

end_dead : (n : ℕ) (d : FlowContext) → Dead n d []
end_dead n d = record {
  colon = λ after_plain. refl;
  comma = refl;
  close = λ in_seq. refl;
  asked = refl;
  node = λ bol. no_node_at_end n d bol;
}

-- a gap that fits nothing ends no part
pub dead : (n : ℕ) (d : FlowContext) (text : List ℕ) → NoGap n d text → Dead n d (read_gap n (one_line d) text).1
dead n d text (stuck x xs e h g) = subst (λ (t : List ℕ). Dead n d t) (sym (ap (λ (r : GapRead). r.1) g ∙ e)) (stuck_dead n d x xs h)
dead n d text (used_up gap g) = subst (λ (t : List ℕ). Dead n d t) (sym (ap (λ (r : GapRead). r.1) g)) (end_dead n d)

-- ---- the parts of an entry

-- whether a line starts at the part
abbrev pub bol_of : FlowPart → Bool
bol_of (first_node bol) = bol
bol_of (asked_key sep) = false
bol_of (pair_value ask bol key before after) = bol

-- the separation after the entry's `?`
abbrev pub ask_of : FlowPart → Option Sep
ask_of (first_node bol) = None
ask_of (asked_key sep) = Some sep
ask_of (pair_value ask bol key before after) = ask

-- the part is a value
abbrev pub is_value : FlowPart → Bool
is_value (first_node bol) = false
is_value (asked_key sep) = false
is_value (pair_value ask bol key before after) = true

module _ (n : ℕ) (d : FlowContext) where
  -- the gap at a place
  abbrev pub gap_at : List ℕ → GapRead
  gap_at t = read_gap n (one_line d) t

  -- an entry with nothing after it
  pub entry_dead : (b : Bracket) (e : Entry) (text : List ℕ) → Dead n d (gap_at text).1
      → close_with b (entries_of n d b.in_seq e text) ≡ None
  entry_dead b e text h =
      last_entry n d b e text h.comma
      ∙ not_closed (closer b.in_seq) (collection_of b.in_seq b.gap (entries_onto b.done (last e (gap_at text).0)))
      (gap_at text).1 (h.close b.in_seq)

  -- an entry before such a gap makes the collection none
  pub made_dead : (b : Bracket) (bol : Bool) (ask : Option Sep) (key : Flow) (v : Value) (text : List ℕ) → Dead n d (gap_at text).1
      → close_with b (on (entry_if_short n d b.in_seq bol ask key v text) (λ e r. entries_of n d b.in_seq e r)) ≡ None
  made_dead b bol ask key v text h = either (key_is_short n d b.in_seq bol ask key v text)
    where
      either : (t : Bool) → close_with b (on (if_fits t (Some (entry ask key v, text))) (λ e r. entries_of n d b.in_seq e r)) ≡ None
      either true = entry_dead b (entry ask key v) text h
      either false = refl

  -- ---- a key that is read

  -- the collection, once the value after the key is read
  abbrev pub keyed : Bracket → Bool → Option Sep → Flow → Read Value → Read Flow
  keyed b bol ask key value = close_with b (on (on value (λ v r. entry_if_short n d b.in_seq bol ask key v r))
      (λ e r. entries_of n d b.in_seq e r))

  -- a key is read as the entry's node
  pub key_entry : (in_seq : Bool) (part : FlowPart) (key : Flow) (text : List ℕ) → is_value part ≡ false
      → entry_of n d in_seq part key text ≡ on (flow_value_at n d (is_plain key) text)
      (λ v r. entry_if_short n d in_seq (bol_of part) (ask_of part) key v r)
  key_entry in_seq (first_node bol) key text h = refl
  key_entry in_seq (asked_key sep) key text h = refl
  key_entry in_seq (pair_value ask bol key before after) key' text h = absurd (false≢true (sym h))

  -- and put into the entry
  pub plug_key : (o : OpenFlow) (key : Flow) (text : List ℕ) → is_value o.part ≡ false
      → plug n d o key text ≡ keyed o.bracket (bol_of o.part) (ask_of o.part) key (flow_value_at n d (is_plain key) text)
  plug_key o key text h = ap (λ r. close_with o.bracket (on r (λ e t. entries_of n d o.bracket.in_seq e t)))
      (key_entry o.bracket.in_seq o.part key text h)

  -- once a value is read
  pub value_entry : (in_seq bol : Bool) (ask : Option Sep) (key : Flow) (before after : Option Sep) (f : Flow) (text : List ℕ)
      → entry_of n d in_seq (pair_value ask bol key before after) f text ≡ entry_if_short n d in_seq bol ask key (given before after f) text
  value_entry in_seq bol None key before after f text = refl
  value_entry in_seq bol (Some sep) key before after f text = refl

  -- the value is the node that the bracket waits for
  pub waits_value : (b : Bracket) (bol : Bool) (ask : Option Sep) (key : Flow) (before after : Option Sep) (r : Read Flow)
      → keyed b bol ask key (on r (λ f t. Some (given before after f, t)))
      ≡ on r (λ f t. plug n d (record { bracket = b; part = pair_value ask bol key before after }) f t)
  waits_value b bol ask key before after None = refl
  waits_value b bol ask key before after (Some r) =
      ap (λ x. close_with b (on x (λ e t. entries_of n d b.in_seq e t))) (sym (value_entry b.in_seq bol ask key before after r.0 r.1))

  -- a value that fits
  pub keyed_fits : (b : Bracket) (bol : Bool) (ask : Option Sep) (key : Flow) (v : Value) (text : List ℕ)
      → key_is_short n d b.in_seq bol ask key v text ≡ true
      → keyed b bol ask key (Some (v, text)) ≡ close_with b (entries_of n d b.in_seq (entry ask key v) text)
  keyed_fits b bol ask key v text h = ap (λ t.
      close_with b (on (if_fits t (Some (entry ask key v, text))) (λ e r. entries_of n d b.in_seq e r))) h

  -- a key that does not fit, whatever its value is
  pub keyed_refused : (b : Bracket) (bol : Bool) (ask : Option Sep) (key : Flow) (r : Read Value)
      → ((v : Value) (t : List ℕ) → r ≡ Some (v, t) → key_is_short n d b.in_seq bol ask key v t ≡ false)
      → keyed b bol ask key r ≡ None
  keyed_refused b bol ask key None h = refl
  keyed_refused b bol ask key (Some r) h = ap (λ t.
      close_with b (on (if_fits t (Some (entry ask key r.0, r.1))) (λ e x. entries_of n d b.in_seq e x))) (h r.0 r.1 refl)

  -- without a `:` any key fits
  pub absent_fits : (in_seq bol : Bool) (ask : Option Sep) (key : Flow) (text : List ℕ)
      → key_is_short n d in_seq bol ask key absent text ≡ true
  absent_fits true bol None key text = refl
  absent_fits false bol None key text = refl
  absent_fits in_seq bol (Some sep) key text = refl

-- ---- an open bracket

some_gap : (g : Option Sep) → is_some g ≡ true → (sep : Sep) × (g ≡ Some sep)
some_gap None h = absurd (false≢true h)
some_gap (Some sep) h = (sep, refl)

no_gap : (g : Option Sep) → is_some g ≡ false → g ≡ None
no_gap None h = refl
no_gap (Some sep) h = absurd (false≢true (sym h))

line_in_flow : (c : FlowContext) → one_line c ≡ one_line (in_flow c)
line_in_flow outer = refl
line_in_flow inner = refl
line_in_flow block_key = refl
line_in_flow flow_key = refl

-- between brackets within brackets the context is the same
pub in_flow_twice : (c : FlowContext) → in_flow (in_flow c) ≡ in_flow c
in_flow_twice outer = refl
in_flow_twice inner = refl
in_flow_twice block_key = refl
in_flow_twice flow_key = refl

module _ (n : ℕ) (d : FlowContext) (text : List ℕ) where
  abbrev gap_from : ℕ → GapRead
  gap_from at = read_gap n (one_line d) (rest text at)

  ends_whole : (w : Collection) (b : Bracket) (es : Entries) (in_seq : Bool) (end : ℕ) (events new : EventList) → b.in_seq ≡ in_seq
      → Appended text w.kept events (bracket_prefix b w.start ++ entries_events es b.in_seq (entry_start b w.start))
      → Appended text events new (bracket_end in_seq ∷ [])
      → line_starts text end ≡ false → w.reads ≡ Some
      (collection_of b.in_seq b.gap (entries_onto b.done es), rest text end) → WholeRead n d text w end new
  ends_whole w b es in_seq end events new k a e s r = record {
    node = collection_of b.in_seq b.gap (entries_onto b.done es);
    plain = no_plain b.in_seq b.gap (entries_onto b.done es);
    inside_line = s;
    written = appended_as text w.kept new _ _
        (append_assoc (bracket_prefix b w.start) (entries_events es b.in_seq (entry_start b w.start))
        (bracket_end b.in_seq ∷ []) ∙ sym (collection_events b es w.start))
        (appended_then text w.kept events new (bracket_prefix b w.start
        ++ entries_events es b.in_seq (entry_start b w.start)) (bracket_end b.in_seq ∷ []) a
        (subst (λ (x : Bool). Appended text events new (bracket_end x ∷ [])) (sym k) e));
    reads = r;
  }

  closes_at : (in_seq : Bool) (b : Bracket) (es : Entries) (at : ℕ) → b.in_seq ≡ in_seq → IsSign text at (closer in_seq)
      → read_closing (closer b.in_seq) (collection_of b.in_seq b.gap (entries_onto b.done es)) (rest text at)
      ≡ Some (collection_of b.in_seq b.gap (entries_onto b.done es), rest text (at + 1))
  closes_at in_seq b es at k sign =
      let f : Flow = collection_of b.in_seq b.gap (entries_onto b.done es) in
      ap (read_closing (closer b.in_seq) f) (sign.splits ∙ ap (λ x. closer x ∷ rest text (at + 1)) (sym k))
      ∙ closed_by (closer b.in_seq) f (rest text (at + 1))

  -- ---- the start of an entry

  -- the closing bracket ends the collection
  pub closes : (w : Collection) (in_seq : Bool) (at : ℕ) (events new : EventList) → IsSign text at (closer in_seq)
      → line_starts text (at + 1) ≡ false
      → Appended text events new (bracket_end in_seq ∷ []) → AtEntry n d text w in_seq at events → WholeRead n d text w (at + 1) new
  closes w in_seq at events new sign s e here =
      let b : Bracket = here.bracket in
      ends_whole w b none in_seq (at + 1) events new here.kind
      (appended_as text w.kept events _ _ (sym (append-nil (bracket_prefix b w.start))) here.written) e s
      (here.reads
      ∙ (no_entry n d (line_starts text at) b (rest text at)
      (ap (first (λ x. x == closer b.in_seq)) sign.splits
      ∙ (ap (λ x. closer in_seq == closer x) here.kind ∙ same (closer in_seq)))
      ∙ closes_at in_seq b none at here.kind sign))

  -- else an entry starts
  pub begins : (w : Collection) (top : Open) (in_seq : Bool) (at : ℕ) (events : EventList)
      → in_sequence top.kind ≡ in_seq → top.part ≡ First
      → first (λ x. x == closer in_seq) (rest text at) ≡ false → is_asked d (rest text at) ≡ false
      → AtEntry n d text w in_seq at events → AtNode n d text w top at events
  begins w top in_seq at events k p h a here =
      let b : Bracket = here.bracket in
      record {
        frame = record { bracket = b; part = first_node (line_starts text at) };
        keeps = record { kind = here.kind ∙ sym k; part = sym p };
        fits = refl;
        place = here.place;
        written = appended_as text w.kept events _ _ (sym (append-nil (bracket_prefix b w.start))) here.written;
        reads = here.reads ∙ entry_begins n d (line_starts text at) b (rest text at)
            (ap (λ s. first (λ x. x == closer s) (rest text at)) here.kind ∙ h) a;
      }

  -- a `?` asks for a key
  pub question : (w : Collection) (in_seq : Bool) (at : ℕ) (events : EventList) → IsSign text at 63 → is_asked d (rest text at) ≡ true
      → first (λ x. x == closer in_seq) (rest text at) ≡ false → AtEntry n d text w in_seq at events
      → AfterQuestion n d text w in_seq (at + 1) events
  question w in_seq at events sign a h here = record { prefix = at; after = refl; entry = here; sign = sign; asked = a; unclosed = h }

  after_sign : (at prefix : ℕ) → prefix + 1 ≡ at → (x : ℕ) → IsSign text prefix x → past (rest text prefix) ≡ rest text at
  after_sign at prefix e x sign = ap past sign.splits ∙ ap (λ k. rest text k) e

  -- after its gap the key is awaited
  pub asks : (w : Collection) (top : Open) (in_seq : Bool) (at end : ℕ) (events new : EventList)
      → in_sequence top.kind ≡ in_seq → top.part ≡ Asked
      → line_starts text at ≡ false → at < end → Passes n d text at end → Appended text events new (pair_start in_seq)
      → AfterQuestion n d text w in_seq at events
      → AtNode n d text w top end new
  asks w top in_seq at end events new k p same_line l gap e here =
      let b : Bracket = here.entry.bracket in
      let lt : nat_lt at end ≡ true = grind (arith, nat_tests) in
      let s = some_gap gap.gap (gap.some ∙ lt) in
      let sep : Sep = s.0 in
      let g : read_gap n (one_line d) (past (rest text here.prefix)) ≡ (Some sep, rest text end) =
      ap (read_gap n (one_line d)) (after_sign at here.prefix here.after 63 here.sign)
      ∙ (gap.reads ∙ ap (λ (x : Option Sep). (x, rest text end)) s.1) in
      let starts : starts_line false (gap_text (Some sep)) ≡ line_starts text end =
      ap (λ (x : Option Sep). starts_line false (gap_text x)) (sym s.1) ∙ gap.starts same_line in
      let wide : at + byte_len (gap_text (Some sep)) ≡ end = ap (λ (x : Option Sep). at + byte_len (gap_text x)) (sym s.1) ∙ gap.length in
      let sized : byte_len (asked_text (Some sep)) ≡ 1 + byte_len (gap_text (Some sep)) = refl in
      let o : OpenFlow = record { bracket = b; part = asked_key sep } in
      let after = here.after in
      let placed = here.entry.place in
      record {
        frame = o;
        keeps = record { kind = here.entry.kind ∙ sym k; part = sym p };
        fits = tt;
        place = omega (arith, sized, wide, after, placed);
        written = appended_then text w.kept events new (bracket_prefix b w.start) (pair_start b.in_seq) here.entry.written
            (subst (λ (x : Bool). Appended text events new (pair_start x)) (sym here.entry.kind) e);
        reads = here.entry.reads
            ∙ (entry_is_asked n d (line_starts text here.prefix) b (rest text here.prefix) sep
            (ap (λ x. first (λ y. y == closer x) (rest text here.prefix)) here.entry.kind ∙ here.unclosed) here.asked
            (ap (λ (r : GapRead). r.0) g)
            ∙ (ap (λ (r : GapRead). on (flow_node_at n d (starts_line false (gap_text (Some sep))) r.1) (λ f t. plug n d o f t)) g
            ∙ ap (λ (x : Bool). on (flow_node_at n d x (rest text end)) (λ f t. plug n d o f t)) starts));
      }

  asked_without : (w : Collection) (in_seq : Bool) (at : ℕ) (events : EventList) → (gap_from at).0 ≡ None
      → AfterQuestion n d text w in_seq at events → w.reads ≡ None
  asked_without w in_seq at events e here =
      let b : Bracket = here.entry.bracket in
      here.entry.reads
      ∙ asked_for_nothing n d (line_starts text here.prefix) b (rest text here.prefix)
      (ap (λ x. first (λ y. y == closer x) (rest text here.prefix)) here.entry.kind ∙ here.unclosed) here.asked
      (ap (λ (t : List ℕ). (read_gap n (one_line d) t).0) (after_sign at here.prefix here.after 63 here.sign) ∙ e)

  -- without a gap the `?` asks for nothing
  pub asks_nothing : (w : Collection) (in_seq : Bool) (at end : ℕ) (events : EventList) → end ≡ at
      → Passes n d text at end → AfterQuestion n d text w in_seq at events
      → w.reads ≡ None
  asks_nothing w in_seq at end events l gap here =
      let lt : nat_lt at end ≡ false = grind (arith, nat_tests) in
      asked_without w in_seq at events (ap (λ (r : GapRead). r.0) gap.reads ∙ no_gap gap.gap (gap.some ∙ lt)) here

  -- after a gap that fits nothing it makes the collection none
  pub asks_dead : (w : Collection) (in_seq : Bool) (at : ℕ) (events : EventList) → NoGap n d (rest text at)
      → AfterQuestion n d text w in_seq at events → w.reads ≡ None
  asks_dead w in_seq at events stop here = by_gap (gap_from at).0 refl
    where
      by_gap : (g : Option Sep) → (gap_from at).0 ≡ g → w.reads ≡ None
      by_gap None e = asked_without w in_seq at events e here
      by_gap (Some sep) e =
          let b : Bracket = here.entry.bracket in
          let t : past (rest text here.prefix) ≡ rest text at = after_sign at here.prefix here.after 63 here.sign in
          here.entry.reads
          ∙ (entry_is_asked n d (line_starts text here.prefix) b (rest text here.prefix) sep
          (ap (λ x. first (λ y. y == closer x) (rest text here.prefix)) here.entry.kind ∙ here.unclosed) here.asked
          (ap (λ (x : List ℕ). (read_gap n (one_line d) x).0) t ∙ e)
          ∙ ap (λ r. on r (λ f x. plug n d (record { bracket = b; part = asked_key sep }) f x))
          (ap (λ (x : List ℕ). flow_node_at n d (starts_line false (gap_text (Some sep)))
          (read_gap n (one_line d) x).1) t ∙ (dead n d (rest text at) stop).node (starts_line false (gap_text (Some sep)))))

  -- ---- after an entry

  -- after a comma the next entry may start
  pub comma_passed : (w : Collection) (in_seq : Bool) (at : ℕ) (events : EventList) → IsSign text at 44
      → EntryRead n d text w in_seq at events
      → BeforeGap n d text w in_seq (at + 1) events
  comma_passed w in_seq at events sign here =
      let b : Bracket = here.bracket in
      let g : GapRead = read_gap n (one_line d) here.follows in
      let t : past g.1 ≡ rest text (at + 1) = ap (λ (r : GapRead). past r.1) here.passes ∙ ap past sign.splits in
      let x : DoneEntry = record { entry = here.entry; before = g.0; after = (read_gap n (one_line d) (past g.1)).0 } in
      let more : Bracket = record { in_seq = b.in_seq; gap = b.gap; done = b.done ++ x ∷ [] } in
      let before : byte_len (gap_text g.0) ≡ byte_len (gap_text here.gap) = ap (λ (r : GapRead). byte_len (gap_text r.0)) here.passes in
      let gap_after : byte_len (gap_text (read_gap n (one_line d) (past g.1)).0)
      ≡ byte_len (gap_text (gap_from (at + 1)).0) =
      ap (λ (y : List ℕ). byte_len (gap_text (read_gap n (one_line d) y).0)) t in
      let placed = here.place in
      let ends : entry_start more w.start ≡ entry_start b w.start + byte_len (entry_text here.entry) + byte_len
      (gap_text g.0) + 1 + byte_len (gap_text (read_gap n (one_line d) (past g.1)).0) =
      done_end_more b.done x (entries_start b w.start) in
      record {
        bracket = more;
        kind = here.kind;
        place = omega (arith, before, gap_after, placed, ends);
        written = appended_as text w.kept events _ _
            (ap (λ es. bracket_start b.in_seq ∷ es) (sym (done_more b.done x b.in_seq (entries_start b w.start)))) here.written;
        reads = here.reads
            ∙ (comma_after n d b here.entry here.follows
            (ap (λ (r : GapRead). first (λ y. y == 44) r.1) here.passes ∙ ap (first (λ y. y == 44)) sign.splits)
            ∙ ap (λ (y : List ℕ). close_with more (flow_entries_at n d b.in_seq
            (starts_line false (gap_text (read_gap n (one_line d) y).0)) (closer b.in_seq) (read_gap n (one_line d) y).1)) t);
      }

  last_is : (w : Collection) (in_seq : Bool) (at : ℕ) (events : EventList)
      → first (λ x. x == 44) (rest text at) ≡ false → (here : EntryRead n d text w in_seq at events)
      → w.reads ≡ read_closing (closer here.bracket.in_seq)
      (collection_of here.bracket.in_seq here.bracket.gap (entries_onto here.bracket.done (last here.entry here.gap)))
      (rest text at)
  last_is w in_seq at events h here =
      let b : Bracket = here.bracket in
      here.reads
      ∙ (last_entry n d b here.entry here.follows (ap (λ (r : GapRead). first (λ x. x == 44) r.1) here.passes ∙ h)
      ∙ ap (λ (r : GapRead). read_closing (closer b.in_seq)
      (collection_of b.in_seq b.gap (entries_onto b.done (last here.entry r.0))) r.1) here.passes)

  -- the closing bracket ends the last entry
  pub closes_entry : (w : Collection) (in_seq : Bool) (at : ℕ) (events new : EventList)
      → IsSign text at (closer in_seq) → line_starts text (at + 1) ≡ false
      → Appended text events new (bracket_end in_seq ∷ []) → EntryRead n d text w in_seq at events → WholeRead n d text w (at + 1) new
  closes_entry w in_seq at events new sign s e here =
      let b : Bracket = here.bracket in
      ends_whole w b (last here.entry here.gap) in_seq (at + 1) events new here.kind here.written e s
      (last_is w in_seq at events (ap (first (λ x. x == 44)) sign.splits ∙ closer_no_comma in_seq) here
      ∙ closes_at in_seq b (last here.entry here.gap) at here.kind sign)

  -- without a comma or a closing bracket the collection is none
  pub no_closing : (w : Collection) (in_seq : Bool) (at : ℕ) (events : EventList) → first (λ x. x == 44) (rest text at) ≡ false
      → first (λ x. x == closer in_seq) (rest text at) ≡ false → EntryRead n d text w in_seq at events → w.reads ≡ None
  no_closing w in_seq at events h k here =
      let b : Bracket = here.bracket in
      last_is w in_seq at events h here
      ∙ not_closed (closer b.in_seq) (collection_of b.in_seq b.gap (entries_onto b.done (last here.entry here.gap))) (rest text at)
      (ap (λ s. first (λ x. x == closer s) (rest text at)) here.kind ∙ k)

  -- ---- a gap before an entry

  -- a gap is passed
  pub passed : (w : Collection) (in_seq : Bool) (at end : ℕ) (events : EventList) → Passes n d text at end → line_starts text at ≡ false
      → BeforeGap n d text w in_seq at events → AtEntry n d text w in_seq end events
  passed w in_seq at end events gap same_line here =
      let b : Bracket = here.bracket in
      record {
        bracket = b;
        kind = here.kind;
        place = sym here.place ∙ (ap (λ (r : GapRead). at + byte_len (gap_text r.0)) gap.reads ∙ gap.length);
        written = here.written;
        reads = here.reads
            ∙ (ap (λ (r : GapRead). close_with b (flow_entries_at n d b.in_seq (starts_line false (gap_text r.0))
            (closer b.in_seq) r.1)) gap.reads
            ∙ ap (λ (x : Bool). close_with b (flow_entries_at n d b.in_seq x (closer b.in_seq) (rest text end))) (gap.starts same_line));
      }

  -- a gap that fits nothing is not passed
  pub not_passed : (w : Collection) (in_seq : Bool) (at : ℕ) (events : EventList) → NoGap n d (rest text at)
      → BeforeGap n d text w in_seq at events → w.reads ≡ None
  not_passed w in_seq at events stop here =
      let b : Bracket = here.bracket in
      let g : GapRead = gap_from at in
      let bol : Bool = starts_line false (gap_text g.0) in
      let h : Dead n d g.1 = dead n d (rest text at) stop in
      here.reads
      ∙ (entry_begins n d bol b g.1 (h.close b.in_seq) h.asked
      ∙ ap (λ r. on r (λ f x. plug n d (record { bracket = b; part = first_node bol }) f x)) (h.node bol))

-- ---- the bracket that opens

opens : (n : ℕ) (c : FlowContext) (bol : Bool) (in_seq : Bool) (at : ℕ) (text : List ℕ) → IsBracket text at in_seq
    → flow_node_at n c bol (rest text at) ≡ close_with
    (record { in_seq = in_seq; gap = (read_gap n (one_line c) (past (rest text at))).0; done = [] })
    (flow_entries_at n (in_flow c) in_seq (starts_line false
    (gap_text (read_gap n (one_line c) (past (rest text at))).0)) (closer in_seq)
    (read_gap n (one_line c) (past (rest text at))).1)
opens n c bol true at text s = opens_seq n c bol (rest text at) (ap (first (λ x. x == 91)) s.splits)
opens n c bol false at text s = opens_map n c bol (rest text at) (ap (first (λ x. x == 91)) s.splits) (ap (first (λ x. x == 123)) s.splits)

-- an opening bracket starts a collection
pub opened : (n : ℕ) (c d : FlowContext) (text : List ℕ) (at : ℕ) (in_seq : Bool) (kept new : EventList)
    → d ≡ in_flow c → IsBracket text at in_seq
    → Appended text kept new (bracket_start in_seq ∷ [])
    → BeforeGap n d text (record {
      reads = flow_node_at n c (line_starts text at) (rest text at);
      start = at;
      kept = kept;
    }) in_seq (at + 1) new
opened n c d text at in_seq kept new e s a =
    let f : GapRead → Read Flow =
    λ g. close_with (record { in_seq = in_seq; gap = g.0; done = [] })
    (flow_entries_at n (in_flow c) in_seq (starts_line false (gap_text g.0)) (closer in_seq) g.1) in
    let g : GapRead = read_gap n (one_line d) (rest text (at + 1)) in
    let h : read_gap n (one_line c) (past (rest text at)) ≡ g =
    ap (read_gap n (one_line c)) (ap past s.splits)
    ∙ ap (λ (k : Bool). read_gap n k (rest text (at + 1))) (line_in_flow c ∙ ap one_line (sym e)) in
    let k : flow_node_at n c (line_starts text at) (rest text at) ≡ f g = opens n c (line_starts text at) in_seq at text s ∙ ap f h in
    record {
      bracket = record { in_seq = in_seq; gap = g.0; done = [] };
      kind = refl;
      place = refl;
      written = a;
      reads = k ∙ ap (λ (x : FlowContext). close_with (record { in_seq = in_seq; gap = g.0; done = [] })
          (flow_entries_at n x in_seq (starts_line false (gap_text g.0)) (closer in_seq) g.1)) (sym e);
    }
