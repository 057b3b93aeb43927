-- One step of the reading of a flow node over its open brackets.
use Rattle.std.{proofs.Common.{ap, refl, sym, ◌∙◌, ◌≡◌}, specs.Prelude.{Bool, List, None, Option, Some, [], false, true, is_some, ℕ, ◌++◌}}
use Rattle.std.specs.Prelude.{◌==◌, ◌||◌, ◌&&◌, not, ◌∷◌}
use Rattle.yaml_recognizers.proofs.Prelude.{Entries, Entry, Flow, absent, empty, given, is_plain, last, next, none, scalar, FlowContext}
use Rattle.yaml_recognizers.proofs.{Prelude.{in_flow, one_line, Sep, gap_text, first, starts_line}, Flow.FlowNodesDepth.entries_step}
use Rattle.yaml_recognizers.proofs.{Flow.FlowNodesDepth.{entry_step, flow_step, value_step}, Scalars.ScalarsInNodes.reads_scalars}
use Rattle.yaml_recognizers.specs.{Ends.is_colon, FlowScalars.read_scalar, Prefixes.past, Gaps.{GapRead, read_gap}, FlowFrames.Bracket}
use Rattle.yaml_recognizers.specs.FlowFrames.{DoneEntry, OpenFlow, asked_key, close_with, closer, collection_of, entries_of, entry_of}
use Rattle.yaml_recognizers.specs.{FlowFrames.{first_node, entries_onto, plug, unwind}, FlowNodes.{asked_entry, asked_with, ends_entry}}
use Rattle.yaml_recognizers.specs.{FlowNodes.{is_asked, entry_if_short, next_entry}, Reading.{Read, read_closing, on}}
use Rattle.yaml_recognizers.specs.Recognizers.{flow_entries_at, flow_entry_at, flow_node_at, flow_value_at}

-- two steps after what was read are one step of both
on_on : {A B C : Type 0} (r : Read A) (f : A → List ℕ → Read B) (g : B → List ℕ → Read C) → on (on r f) g ≡ on r (λ a t. on (f a t) g)
on_on None f g = refl
on_on (Some r) f g = refl

-- a refusal inside is a refusal of the whole
pub unwind_none : (n : ℕ) (d : FlowContext) (os : List OpenFlow) → unwind n d os None ≡ None
unwind_none n d [] = refl
unwind_none n d (o ∷ os) = unwind_none n d os

-- one entry more at the end of those that are read
pub joined_more : (xs : List DoneEntry) (x : DoneEntry) (es : Entries)
    → entries_onto (xs ++ x ∷ []) es ≡ entries_onto xs (next x.entry x.before x.after es)
joined_more [] x es = refl
joined_more (y ∷ ys) x es = ap (next y.entry y.before y.after) (joined_more ys x es)

-- ---- a node: a bracket opens, or a scalar is read

-- at a `[` a sequence is opened
pub opens_seq : (n : ℕ) (c : FlowContext) (bol : Bool) (text : List ℕ) → first (λ x. x == 91) text ≡ true
    → flow_node_at n c bol text ≡ close_with (record { in_seq = true; gap = (read_gap n (one_line c) (past text)).0; done = [] })
    (flow_entries_at n (in_flow c) true (starts_line false (gap_text (read_gap n (one_line c) (past text)).0)) 93
    (read_gap n (one_line c) (past text)).1)
opens_seq n c bol text h = flow_step read_scalar reads_scalars n c bol text ∙ rw h refl

-- at a `{` a mapping is opened
pub opens_map : (n : ℕ) (c : FlowContext) (bol : Bool) (text : List ℕ) → first (λ x. x == 91) text ≡ false
    → first (λ x. x == 123) text ≡ true
    → flow_node_at n c bol text ≡ close_with (record { in_seq = false; gap = (read_gap n (one_line c) (past text)).0; done = [] })
    (flow_entries_at n (in_flow c) false (starts_line false (gap_text (read_gap n (one_line c) (past text)).0)) 125
    (read_gap n (one_line c) (past text)).1)
opens_map n c bol text h k = flow_step read_scalar reads_scalars n c bol text ∙ rw (h, k) refl

-- without a bracket there is a scalar
pub is_scalar : (n : ℕ) (c : FlowContext) (bol : Bool) (text : List ℕ) → first (λ x. x == 91) text ≡ false
    → first (λ x. x == 123) text ≡ false
    → flow_node_at n c bol text ≡ on (read_scalar n c bol text) (λ s rest. Some (scalar s, rest))
is_scalar n c bol text h k = flow_step read_scalar reads_scalars n c bol text ∙ rw (h, k) refl

-- ---- the start of an entry

-- at the closing bracket there is no further entry
pub no_entry : (n : ℕ) (d : FlowContext) (bol : Bool) (b : Bracket) (text : List ℕ) → first (λ x. x == closer b.in_seq) text ≡ true
    → close_with b (flow_entries_at n d b.in_seq bol (closer b.in_seq) text)
    ≡ read_closing (closer b.in_seq) (collection_of b.in_seq b.gap (entries_onto b.done none)) text
no_entry n d bol b text h =
    let e : flow_entries_at n d b.in_seq bol (closer b.in_seq) text ≡ Some (none, text) =
    entries_step read_scalar reads_scalars n d b.in_seq bol (closer b.in_seq) text ∙ rw h refl in
    ap (close_with b) e

-- an entry, and then what goes on
some_entry : (n : ℕ) (d : FlowContext) (bol : Bool) (b : Bracket) (text : List ℕ) → first (λ x. x == closer b.in_seq) text ≡ false
    → close_with b (flow_entries_at n d b.in_seq bol (closer b.in_seq) text)
    ≡ close_with b (on (flow_entry_at n d b.in_seq bol text) (λ e r. entries_of n d b.in_seq e r))
some_entry n d bol b text h = ap (close_with b) (entries_step read_scalar reads_scalars n d b.in_seq bol (closer b.in_seq) text ∙ rw h refl)

-- what is done with a node is done with the entry that it begins
through : {A : Type 0} (n : ℕ) (d : FlowContext) (b : Bracket) (r : Read A) (f : A → List ℕ → Read Entry)
    → close_with b (on (on r f) (λ e t. entries_of n d b.in_seq e t))
    ≡ on r (λ a t. close_with b (on (f a t) (λ e t'. entries_of n d b.in_seq e t')))
through n d b None f = refl
through n d b (Some r) f = refl

-- else an entry starts
pub entry_begins : (n : ℕ) (d : FlowContext) (bol : Bool) (b : Bracket) (text : List ℕ)
    → first (λ x. x == closer b.in_seq) text ≡ false → is_asked d text ≡ false
    → close_with b (flow_entries_at n d b.in_seq bol (closer b.in_seq) text)
    ≡ on (flow_node_at n d bol text) (λ f r. plug n d (record { bracket = b; part = first_node bol }) f r)
entry_begins n d bol b text h a =
    some_entry n d bol b text h
    ∙ (ap (λ r. close_with b (on r (λ e t. entries_of n d b.in_seq e t)))
    (entry_step read_scalar reads_scalars n d b.in_seq bol text ∙ rw a refl)
    ∙ through n d b (flow_node_at n d bol text) (λ key rest. entry_of n d b.in_seq (first_node bol) key rest))

-- an entry after `?` goes on with its node
asked_begins : (n : ℕ) (d : FlowContext) (in_seq : Bool) (gap : GapRead) (sep : Sep) → gap.0 ≡ Some sep
    → asked_entry (λ gap rest. flow_node_at n d (starts_line false (gap_text gap)) rest)
    (λ after_plain rest. flow_value_at n d after_plain rest) gap
    ≡ on (flow_node_at n d (starts_line false (gap_text (Some sep))) gap.1) (λ key rest. entry_of n d in_seq (asked_key sep) key rest)
asked_begins n d in_seq gap sep e =
    ap (λ s. asked_with (λ gap rest. flow_node_at n d (starts_line false (gap_text gap)) rest)
    (λ after_plain rest. flow_value_at n d after_plain rest) s gap.1) e

-- at a `?` a key is asked for
pub entry_is_asked : (n : ℕ) (d : FlowContext) (bol : Bool) (b : Bracket) (text : List ℕ) (sep : Sep)
    → first (λ x. x == closer b.in_seq) text ≡ false → is_asked d text ≡ true
    → (read_gap n (one_line d) (past text)).0 ≡ Some sep
    → close_with b (flow_entries_at n d b.in_seq bol (closer b.in_seq) text)
    ≡ on (flow_node_at n d (starts_line false (gap_text (Some sep))) (read_gap n (one_line d) (past text)).1)
    (λ f r. plug n d (record { bracket = b; part = asked_key sep }) f r)
entry_is_asked n d bol b text sep h a g =
    some_entry n d bol b text h
    ∙ (ap (λ r. close_with b (on r (λ e t. entries_of n d b.in_seq e t)))
    (entry_step read_scalar reads_scalars n d b.in_seq bol text
    ∙ (rw a refl ∙ asked_begins n d b.in_seq (read_gap n (one_line d) (past text)) sep g))
    ∙ through n d b (flow_node_at n d (starts_line false (gap_text (Some sep)))
    (read_gap n (one_line d) (past text)).1) (λ key rest. entry_of n d b.in_seq (asked_key sep) key rest))

-- ---- after a node: no value, or one that begins after a `:`

-- a value after `:` goes on with its node
value_given : (n : ℕ) (d : FlowContext) (after_plain : Bool) (text : List ℕ)
    → is_colon d after_plain (read_gap n (one_line d) text).1 ≡ true
    → ends_entry (read_gap n (one_line d) (past (read_gap n (one_line d) text).1)).1
    || (after_plain && not (is_some (read_gap n (one_line d) (past (read_gap n (one_line d) text).1)).0)) ≡ false
    → flow_value_at n d after_plain text
    ≡ on (flow_node_at n d (starts_line false (gap_text
    (read_gap n (one_line d) (past (read_gap n (one_line d) text).1)).0))
    (read_gap n (one_line d) (past (read_gap n (one_line d) text).1)).1)
    (λ f rest. Some (given (read_gap n (one_line d) text).0 (read_gap n (one_line d) (past (read_gap n (one_line d) text).1)).0 f, rest))
value_given n d after_plain text h k = value_step read_scalar reads_scalars n d after_plain text ∙ rw (h, k) refl

-- without a `:` there is no value
pub no_value : (n : ℕ) (d : FlowContext) (in_seq bol : Bool) (key : Flow) (text : List ℕ)
    → is_colon d (is_plain key) (read_gap n (one_line d) text).1 ≡ false
    → entry_of n d in_seq (first_node bol) key text ≡ entry_if_short n d in_seq bol None key absent text
no_value n d in_seq bol key text h =
    let e : flow_value_at n d (is_plain key) text ≡ Some (absent, text) =
    value_step read_scalar reads_scalars n d (is_plain key) text ∙ rw h refl in
    ap (λ r. on r (λ value rest. entry_if_short n d in_seq bol None key value rest)) e

-- a value that is left out after its `:`
value_left_out : (n : ℕ) (d : FlowContext) (after_plain : Bool) (text : List ℕ)
    → is_colon d after_plain (read_gap n (one_line d) text).1 ≡ true
    → ends_entry (read_gap n (one_line d) (past (read_gap n (one_line d) text).1)).1
    || (after_plain && not (is_some (read_gap n (one_line d) (past (read_gap n (one_line d) text).1)).0)) ≡ true
    → flow_value_at n d after_plain text ≡ Some (empty (read_gap n (one_line d) text).0, past (read_gap n (one_line d) text).1)
value_left_out n d after_plain text h k = value_step read_scalar reads_scalars n d after_plain text ∙ rw (h, k) refl

-- an asked key wants a gap
asked_without : (n : ℕ) (d : FlowContext) (gap : GapRead) → gap.0 ≡ None
    → asked_entry (λ gap rest. flow_node_at n d (starts_line false (gap_text gap)) rest)
    (λ after_plain rest. flow_value_at n d after_plain rest) gap ≡ None
asked_without n d gap e =
    ap (λ s. asked_with (λ gap rest. flow_node_at n d (starts_line false (gap_text gap)) rest)
    (λ after_plain rest. flow_value_at n d after_plain rest) s gap.1) e

-- after a `?` nothing is read
pub asked_for_nothing : (n : ℕ) (d : FlowContext) (bol : Bool) (b : Bracket) (text : List ℕ)
    → first (λ x. x == closer b.in_seq) text ≡ false → is_asked d text ≡ true
    → (read_gap n (one_line d) (past text)).0 ≡ None → close_with b (flow_entries_at n d b.in_seq bol (closer b.in_seq) text) ≡ None
asked_for_nothing n d bol b text h a g =
    some_entry n d bol b text h
    ∙ ap (λ r. close_with b (on r (λ e t. entries_of n d b.in_seq e t)))
    (entry_step read_scalar reads_scalars n d b.in_seq bol text
    ∙ (rw a refl ∙ asked_without n d (read_gap n (one_line d) (past text)) g))

-- ---- after an entry

-- after a comma comes the next entry
pub comma_after : (n : ℕ) (d : FlowContext) (b : Bracket) (e : Entry) (text : List ℕ)
    → first (λ x. x == 44) (read_gap n (one_line d) text).1 ≡ true
    → close_with b (entries_of n d b.in_seq e text)
    ≡ close_with (record {
      in_seq = b.in_seq;
      gap = b.gap;
      done = b.done ++ record {
        entry = e;
        before = (read_gap n (one_line d) text).0;
        after = (read_gap n (one_line d) (past (read_gap n (one_line d) text).1)).0;
      } ∷ [];
    })
    (flow_entries_at n d b.in_seq (starts_line false
    (gap_text (read_gap n (one_line d) (past (read_gap n (one_line d) text).1)).0)) (closer b.in_seq)
    (read_gap n (one_line d) (past (read_gap n (one_line d) text).1)).1)
comma_after n d b e text h =
    let g : GapRead = read_gap n (one_line d) text in
    let a : GapRead = read_gap n (one_line d) (past g.1) in
    let x : DoneEntry = record { entry = e; before = g.0; after = a.0 } in
    ap (close_with b) (comma_is (read_gap n (one_line d))
    (λ gap r. flow_entries_at n d b.in_seq (starts_line false (gap_text gap)) (closer b.in_seq) r) e g h)
    ∙ moved b x (flow_entries_at n d b.in_seq (starts_line false (gap_text a.0)) (closer b.in_seq) a.1)
  where
    comma_is : (gap_at : List ℕ → GapRead) (again : Option Sep → List ℕ → Read Entries) (e : Entry) (before : GapRead)
        → first (λ x. x == 44) before.1 ≡ true
        → next_entry gap_at again e before ≡ on (again (gap_at (past before.1)).0 (gap_at (past before.1)).1)
        (λ es rest. Some (next e before.0 (gap_at (past before.1)).0 es, rest))
    comma_is gap_at again e before h = rw h refl

    moved : (b : Bracket) (x : DoneEntry) (r : Read Entries)
        → close_with b (on r (λ es rest. Some (next x.entry x.before x.after es, rest)))
        ≡ close_with (record { in_seq = b.in_seq; gap = b.gap; done = b.done ++ x ∷ [] }) r
    moved b x None = refl
    moved b x (Some r) = ap (λ es. read_closing (closer b.in_seq) (collection_of b.in_seq b.gap es) r.1) (sym (joined_more b.done x r.0))

-- without a comma the entry is the last
pub last_entry : (n : ℕ) (d : FlowContext) (b : Bracket) (e : Entry) (text : List ℕ)
    → first (λ x. x == 44) (read_gap n (one_line d) text).1 ≡ false
    → close_with b (entries_of n d b.in_seq e text)
    ≡ read_closing (closer b.in_seq) (collection_of b.in_seq b.gap
    (entries_onto b.done (last e (read_gap n (one_line d) text).0))) (read_gap n (one_line d) text).1
last_entry n d b e text h = ap (close_with b)
    (last_is (read_gap n (one_line d)) (λ gap r.
    flow_entries_at n d b.in_seq (starts_line false (gap_text gap)) (closer b.in_seq) r) e (read_gap n (one_line d) text) h)
  where
    last_is : (gap_at : List ℕ → GapRead) (again : Option Sep → List ℕ → Read Entries) (e : Entry) (before : GapRead)
        → first (λ x. x == 44) before.1 ≡ false
        → next_entry gap_at again e before ≡ Some (last e before.0, before.1)
    last_is gap_at again e before h = rw h refl
