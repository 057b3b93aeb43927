-- The part after a sign, and a node at the start of a line: what each step of the code leads to.
use Rattle.std.proofs.Common.{◌≡◌, refl, sym, ◌∙◌, ap, subst, arith, ℕ, ◌+◌, ◌-◌, ◌*◌, ◌<◌, ◌≤◌, length, Ok, Err, inl, inr, add-one}
use Rattle.std.specs.Prelude.{Bool, true, false, not, suc, ◌&&◌, ◌||◌, ◌⊎◌, List, [], ◌∷◌, ◌++◌, Option, Some, None, Result, IfErr, IfOk}
use Rattle.std.specs.Prelude.{OnOk, nat_le, if◌then◌else◌, slice_index}
use Rattle.yaml_block.proofs.Prelude.{IsUtf8, IsCharBoundary, cases_lt, false≢true, cases_Bool, and_left, and_right, nat_tests, white, rest}
use Rattle.yaml_block.proofs.Prelude.{IsRun, past_spaces, spaces_before, LineEnd, Sep, comments_text, sep_text, items, pairs, byte_len}
use Rattle.yaml_block.proofs.Prelude.{first, is_empty, starts_line, flow_with, leaf_at, opens_pair, sep_at, read_block, all_comments}
use Rattle.yaml_block.proofs.Prelude.{closes_line, more_comments, read_line_end, block_items_at, block_key_in, block_node_at}
use Rattle.yaml_block.proofs.Prelude.{block_pairs_at, flow_leaf_at, unwind_none, comments_step, node_steps, rest-end, block_node_stops}
use Rattle.yaml_block.proofs.Prelude.{drop_while, sign, take_while, Read, on, Indented, Sits, on_sign_line, BlockFrame, waits_item}
use Rattle.yaml_block.proofs.Prelude.{waits_key, unwind, BorrowsPlain, event_of, line_starts, Event, SeqStart, MapStart, ScanFault}
use Rattle.yaml_block.proofs.{Prelude.{faults_so, ok_so, AreSpaces, AreTaken, IsLineEnd, IsSolidLine}, Stacks.{appended_one, opened}}
use Rattle.yaml_block.proofs.{PlaceSteps.{WhiteTo, white_to, comments_to}, TextPlaces.{IsPastSign, white_spelled}}
use Rattle.yaml_block.proofs.{BlockLeaves.no_leaf_unsolid, BlockLines.no_comments, BlockSigns.{no_pair_there, white_after_spaces}}
use Rattle.yaml_block.proofs.{UnwindSteps.left_out, LeafSteps.asked_pair, SignSteps.{compact_leaf, compact_sequence, no_white}}
use Rattle.yaml_block.proofs.{SignSteps.{node_on_lines, omits_value, sign_leaf}, NodeSteps.{line_leaf, line_leaf_after_tab}}
use Rattle.yaml_block.proofs.NodeSteps.{line_leaf_alone, line_too_shallow, node_line, node_no_white, node_on_line, sequence_opens}
use Rattle.yaml_block.specs.{Signs.{is_shallow as is_shallow_after, is_colon}, BlockParts.as_part}
use Rattle.yaml_block.specs.declared.{indentation.Indentation.Indentation, frame.{Leaf.Leaf, Next.Next, Waits.TheVariants.{Item, Key}}}
use Rattle.yaml_block.specs.{declared.{line_sign.Sign.{Sign, TheVariants.{Dash, Asked}}, reader.Reader.Reader}, Frames.{AfterSign, AtLeaf}}
use Rattle.yaml_block.specs.{Frames.{AtLine, AtNodeLine, AtNode, waits_of}, States.{Before, BeforePart, BeforeLeaf, BeforeNodeLine}}
use Rattle.yaml_block.specs.{States.{BeforeNode, Leads, Fails, FailsBy, Holds, Stack, GoesOn, IsAfterSign, Onward}, Lines.IsLine}
use Rattle.{yaml_block.specs.Lines.is_shallow, yaml_events.specs.declared.context.BlockContext.BlockContext}
use Rattle.yaml_scan.specs.declared.lines.Line.{Line}
use Rattle.yaml_grammar.specs.Events as grammar
use Rattle.yaml_block.specs.declared.frame.Next.TheVariants as next

-- ---- what a callee leads to, from another state

-- whatever the call reads, the one state is the other
abbrev pub Becomes : Before → Before → Type 0
Becomes A B = (W : Read Indented) (from : ℕ) (fs : List BlockFrame) (evs : List grammar.Event) → A W from fs evs
    → B W from fs evs

-- a step that leads on from a state leads on from one that is the same
pub leads_so : (text : List ℕ) (r : Result Next ScanFault) (A B : Before) (old new : Reader) → Becomes B A
    → IfOk r (Leads text A old new) → IfOk r (Leads text B old new)
leads_so text r A B old new f h =
    ok_so r (Leads text A old new) (Leads text B old new)
    (λ to l W from base fs evs held b. l W from base fs evs held (f W from fs evs b)) h

-- a step that fails from a state fails from one that is the same
pub fails_so : (text : List ℕ) (r : Result Next ScanFault) (A B : Before) (old : Reader) → Becomes B A
    → IfErr r (FailsBy text A old) → IfErr r (FailsBy text B old)
fails_so text r A B old f h =
    faults_so r (Fails text A old) (Fails text B old)
    (λ l W from base fs evs held b. l W from base fs evs held (f W from fs evs b)) h

-- a result that is Ok leads on
pub ok_opens : {E : Type 0} (r : Result Next E) (to : Next) (A B : Type 0) (P : Next → Type 0)
    → IfOk r (λ next. next ≡ to) → OnOk r A → OnOk r B → (A → B → P to) → IfOk r P
ok_opens (Ok x) to A B P e a b f = subst P (sym e) (f a b)
ok_opens (Err y) to A B P e a b f = e

-- the next step is further on
pub onward_from : (text : List ℕ) (at further least bound : ℕ) (to : Next) → at ≤ further → least ≤ bound
    → Onward text further least to → Onward text at bound to
onward_from text at further least bound to l k o =
    let above = o.above in
    let less = o.less in
    record { above = omega arith; less = omega arith; placed = o.placed }

-- a callee that leads on from a place further on
pub onward_so : (text : List ℕ) (at further least bound : ℕ) (r : Result Next ScanFault) → at ≤ further
    → least ≤ bound → IfOk r (Onward text further least) → IfOk r (Onward text at bound)
onward_so text at further least bound r l k h =
    ok_so r (Onward text further least) (Onward text at bound)
    (λ to o. onward_from text at further least bound to l k o) h

-- ---- a sequence that opens

-- a sequence is pushed on the stack
pub sequence_opened : (W : Read Indented) (text : List ℕ) (from : ℕ) (base : List Event) (fs : List BlockFrame)
    (evs : List grammar.Event) (old new : Reader) (sits : Sits) (k at : ℕ) → Holds text base fs evs old
    → new.collections.items ≡ old.collections.items ++ (record { waits = Item; indent = k }) ∷ []
    → new.events ≡ old.events ++ SeqStart ∷ []
    → AfterSign W text from (waits_item sits k [] ∷ fs) (evs ++ grammar.seq_start ∷ []) Dash k at
    → GoesOn W text from base new (next.After at k Dash)
sequence_opened W text from base fs evs old new sits k at h c e a = record {
  fs = waits_item sits k [] ∷ fs;
  evs = evs ++ grammar.seq_start ∷ [];
  holds = opened text base fs evs (evs ++ grammar.seq_start ∷ []) old new (waits_item sits k [])
      (record { waits = Item; indent = k }) h c (record { waits = refl; indent = refl })
      (appended_one text base old.events new.events evs SeqStart h.appended e tt);
  stands = a;
}

-- after the `-` the next step is further on
pub dash_onward : (bs : List ℕ) (at dash k : ℕ) → at ≤ dash → k ≤ dash → IsPastSign bs dash
    → Onward bs at (3 * (length bs - at)) (next.After (dash + 1) k Dash)
dash_onward bs at dash k l m s =
    let below : dash < length bs = s.below in
    record {
      above = omega arith;
      less = omega arith;
      placed =
          record { boundary = s.boundary; deeper = omega arith; inside_line = s.inside_line };
    }

-- spaces are white space
pub spaces_below : (bs : List ℕ) (at sp lead : ℕ) → AreSpaces bs at sp → IsRun white bs at lead → sp ≤ lead
spaces_below bs at sp lead s r = elim (cases_lt lead sp) [
  | inl l ↦ (let in_spaces : slice_index bs lead ≡ 32 = s.spaces lead r.above l in
      let below : lead < length bs = omega (arith, s.boundary.0) in
      absurd (false≢true (sym (r.stop below) ∙ ap white in_spaces)))
  | inr l ↦ l
]

-- ---- after a sign

module _ (text : List ℕ) (sg : Sign) (k at : ℕ) (u : IsUtf8 text) (placed : IsAfterSign text k at)
    (unclosed : closes_line (all_comments false (rest text at)) ≡ false) (lead : ℕ) (w : AreTaken white text at lead)
  where
    to : WhiteTo text at lead
    to = white_to text at lead u placed.boundary w

    -- without whitespace after a sign nothing is there
    pub nothing_there : lead ≡ at → (old : Reader) → Fails text (BeforePart text sg k at) old
    nothing_there e old W from base fs evs h a = no_white W text from fs evs sg k at a unclosed (to.none e)

    -- after `:`, or after a TAB, a leaf may come
    pub leaf_there : at < lead → (is_colon sg ≡ true) ⊎ (first white (past_spaces (rest text at)) ≡ true)
        → (W : Read Indented) (from : ℕ) (fs : List BlockFrame) (evs : List grammar.Event)
        → BeforePart text sg k at W from fs evs
        → BeforeLeaf text (record { at = lead; least = k + 1; pairs = None }) W from fs evs
    leaf_there l b W from fs evs a =
        subst (λ m. AtLeaf W text from fs evs m None lead) (sym (add-one k))
        (sign_leaf W text from fs evs sg k at lead a b unclosed (to.some l) to.drops to.place
        (to.inside placed.inside_line))

    module _ (sp : ℕ) (s : AreSpaces text at sp) (e : sp ≡ lead) (open_to : is_colon sg ≡ false) (some : at < lead)
      where
        count : spaces_before (rest text at) ≡ lead - at
        count = s.counts ∙ ap (λ i. i - at) e

        leaves : past_spaces (rest text at) ≡ rest text lead
        leaves = s.leaves ∙ ap (rest text) e

        place : at + (lead - at) ≡ lead
        place = omega (arith, some)

        one : 1 ≤ lead - at
        one = omega (arith, some)

        -- else a compact mapping or a leaf may come
        pub compact_leaf_there : sign 45 (rest text lead) ≡ false
            → (W : Read Indented) (from : ℕ) (fs : List BlockFrame) (evs : List grammar.Event)
            → BeforePart text sg k at W from fs evs
            → BeforeLeaf text (record { at = lead; least = k + 1; pairs = Some (k + 1 + (lead - at)) }) W from fs evs
        compact_leaf_there d W from fs evs a =
            subst (λ m. AtLeaf W text from fs evs m (Some (k + 1 + (lead - at))) lead) (sym (add-one k))
            (compact_leaf W text from fs evs sg k at (lead - at) lead a open_to unclosed count one leaves place d to.stop
            (to.inside placed.inside_line))

        -- or a compact sequence
        pub compact_sequence_there : sign 45 (rest text lead) ≡ true → IsPastSign text lead → (old new : Reader)
            → new.collections.items ≡ old.collections.items ++ (record { waits = Item; indent = k + 1 + (lead - at) })
            ∷ [] → new.events ≡ old.events ++ SeqStart ∷ []
            → Leads text (BeforePart text sg k at) old new (next.After (lead + 1) (k + 1 + (lead - at)) Dash)
        compact_sequence_there d p old new c e W from base fs evs h a =
            sequence_opened W text from base fs evs old new (on_sign_line (lead - at)) (k + 1 + (lead - at))
            (lead + 1) h c e
            (compact_sequence W text from fs evs sg k at (lead - at) lead a open_to count one leaves place d p.past_is)

-- ---- on a later line

module _ (text : List ℕ) (sg : Sign) (k at : ℕ) (u : IsUtf8 text) (placed : IsAfterSign text k at)
    (closed : closes_line (all_comments false (rest text at)) ≡ true) (line : Line)
    (s : IsSolidLine false text at line) where
  comments : (at + byte_len (comments_text (all_comments false (rest text at)).0) ≡ line.start)
      × (starts_line (line_starts text at) (comments_text (all_comments false (rest text at)).0)
      ≡ line_starts text line.start)
  comments = comments_to text at line.start false u placed.boundary s.boundary s.leaves

  -- the key after `?` may not be left out
  pub left_out_key : block_node_stops (suc k) (is_shallow_after sg) (rest text line.start) ≡ true → (old : Reader)
      → ((f : BlockFrame) (fs : List BlockFrame) → Stack (f ∷ fs) old.collections.items → waits_of f ≡ Key)
      → Fails text (BeforePart text sg k at) old
  left_out_key e old key W from base fs evs h a =
      let o = omits_value W text from fs evs sg k at line.start a closed s.leaves e comments.0 in
      o.3 (key o.0 o.1 (subst (λ gs. Stack gs old.collections.items) o.2 h.stack))

  -- an item or a value may be left out
  pub left_out_value : block_node_stops (suc k) (is_shallow_after sg) (rest text line.start) ≡ true
      → (old new : Reader) (e : Event)
      → ((f : BlockFrame) (fs : List BlockFrame) → Stack (f ∷ fs) old.collections.items → waits_of f ≡ Key → ⊥)
      → new.collections ≡ old.collections → new.events ≡ old.events ++ e ∷ []
      → event_of e ≡ grammar.scalar_event grammar.omitted_style at at [] → BorrowsPlain text e → new.end ≡ at
      → Leads text (BeforePart text sg k at) old new (next.Line (record { line = line; is_solid = true }))
  left_out_value x old new e no_key c n m b q W from base fs evs h a =
      let o = omits_value W text from fs evs sg k at line.start a closed s.leaves x comments.0 in
      record {
        fs = fs;
        evs = evs ++ grammar.omitted_at at;
        holds = left_out text base fs evs old new e at h c n m b;
        stands = subst (λ j. AtLine W text from fs (evs ++ grammar.omitted_at at) line.start j) (sym q)
            (o.4 (no_key o.0 o.1 (subst (λ gs. Stack gs old.collections.items) o.2 h.stack)));
      }

  -- a node is on a later line
  pub node_there : (node : Indentation) → node.least ≡ k + 1 → node.margin ≡ k + 1
      → is_shallow node.context ≡ is_shallow_after sg
      → block_node_stops (suc k) (is_shallow_after sg) (rest text line.start) ≡ false
      → (W : Read Indented) (from : ℕ) (fs : List BlockFrame) (evs : List grammar.Event)
      → BeforePart text sg k at W from fs evs → BeforeNodeLine text node line.start W from fs evs
  node_there node l m c e W from fs evs a = (
    false,
    m ∙ sym l,
    subst (λ j. AtNodeLine W text from fs evs j (is_shallow node.context) false line.start) (sym (l ∙ add-one k))
        (subst (λ b. AtNodeLine W text from fs evs (suc k) b false line.start) (sym c)
        (node_on_lines W text from fs evs sg k at line.start a closed s.leaves e comments.0
        (ap (λ b. starts_line b (comments_text (all_comments false (rest text at)).0)) (sym placed.inside_line)
        ∙ comments.1))),
  )

-- ---- a node at the start of a line

take_while_some : (t : List ℕ) → is_empty (take_while white t) ≡ false → first white t ≡ true
take_while_some [] h = absurd (false≢true (sym h))
take_while_some (c ∷ cs) h = elim (cases_Bool (white c)) [
  | inl e ↦ e
  | inr e ↦ absurd (false≢true (sym (sym (ap is_empty (skipped c cs e)) ∙ h)))
]
  where
    skipped : (c : ℕ) (cs : List ℕ) → white c ≡ false → take_while white (c ∷ cs) ≡ []
    skipped c cs e = rw e refl

module _ (text : List ℕ) (node : Indentation) (line : Line) (u : IsUtf8 text) (l : IsLine text line) where
  spaces : ℕ
  spaces = line.first - line.start

  start_place : line.start + (line.first - line.start) ≡ line.first
  start_place = let above = (l.spaces).above in omega arith

  -- the line starts a sequence
  pub line_sequence : sign 45 (rest text line.first) ≡ true
      → nat_le node.least (if is_shallow node.context then suc (line.first - line.start)
      else (line.first - line.start)) ≡ true → IsPastSign text line.first
      → (old new : Reader) → new.collections.items ≡ old.collections.items
      ++ (record { waits = Item; indent = line.first - line.start }) ∷ []
      → new.events ≡ old.events ++ SeqStart ∷ []
      → Leads text (BeforeNodeLine text node line.start) old new
      (next.After (line.first + 1) (line.first - line.start) Dash)
  line_sequence d f p old new c e W from base fs evs h a =
      let o = sequence_opens W text from fs evs node.least (is_shallow node.context) a.0 line.start
      (line.first - line.start) line.first a.2 (l.spaces).counts (l.spaces).leaves start_place d f p.past_is in
      sequence_opened W text from base fs evs old new o.0 (line.first - line.start) (line.first + 1) h c e o.1

  module _ (no_sequence : sign 45 (rest text line.first) && nat_le node.least (if is_shallow node.context
      then suc (line.first - line.start) else (line.first - line.start)) ≡ false) where
    -- the line is less deep than the node may be
    pub line_refused : line.first - line.start < node.margin → (old : Reader)
        → Fails text (BeforeNodeLine text node line.start) old
    line_refused m old W from base fs evs h a = by_cases a.0 a.1 a.2
      where
        by_cases : (alone : Bool) → node.margin ≡ (if alone then 0 else node.least)
            → AtNodeLine W text from fs evs node.least (is_shallow node.context) alone line.start → W ≡ None
        by_cases true e a = absurd (omega (arith, e, m))
        by_cases false e a =
            let few : nat_le node.least (line.first - line.start) ≡ false =
            (let k : line.first - line.start < node.least = omega (arith, e, m) in grind (arith, nat_tests)) in
            line_too_shallow W text from fs evs node.least (is_shallow node.context) false line.start
            (line.first - line.start) line.first a (l.spaces).counts (l.spaces).leaves no_sequence few refl

    module _ (lead : ℕ) (w : AreTaken white text line.first lead) where
      drops : drop_while white (rest text line.start) ≡ rest text lead
      drops = sym (white_after_spaces (rest text line.start)) ∙ (ap (drop_while white) (l.spaces).leaves ∙ w.leaves)

      spelled : (line.start + byte_len (take_while white (rest text line.start)) ≡ lead)
          × (starts_line (line_starts text line.start) (take_while white (rest text line.start)) ≡ line_starts text lead)
      spelled = white_spelled text line.start lead u l.boundary w.boundary drops

      to_lead : WhiteTo text line.first lead
      to_lead = white_to text line.first lead u (l.spaces).boundary w

      -- the line may have only a leaf
      pub line_leaf_only : (line.first - line.start < node.least) ⊎ (line.first < lead)
          → node.margin ≤ line.first - line.start
          → (W : Read Indented) (from : ℕ) (fs : List BlockFrame) (evs : List grammar.Event)
          → BeforeNodeLine text node line.start W from fs evs
          → BeforeLeaf text (record { at = lead; least = node.least; pairs = None }) W from fs evs
      line_leaf_only b m W from fs evs a = elim (cases_lt (line.first - line.start) node.least) [
        | inl few ↦ by_alone few a.0 a.1 a.2
        | inr many ↦ after_tab many b
      ]
        where
          by_alone : line.first - line.start < node.least → (alone : Bool)
              → node.margin ≡ (if alone then 0 else node.least)
              → AtNodeLine W text from fs evs node.least (is_shallow node.context) alone line.start
              → AtLeaf W text from fs evs node.least None lead
          by_alone few false e a = absurd (omega (arith, e, m, few))
          by_alone few true e a =
              let short : nat_le node.least (line.first - line.start) ≡ false = grind (arith, nat_tests) in
              line_leaf_alone W text from fs evs node.least (is_shallow node.context) true line.start
              (line.first - line.start) line.first lead a (l.spaces).counts (l.spaces).leaves no_sequence short
              refl
              drops spelled.0 spelled.1

          after_tab : node.least ≤ line.first - line.start → (line.first - line.start < node.least)
              ⊎ (line.first < lead) → AtLeaf W text from fs evs node.least None lead
          after_tab many (inl few) = absurd (omega (arith, many, few))
          after_tab many (inr far) =
              let deep : nat_le node.least (line.first - line.start) ≡ true = grind (arith, nat_tests) in
              line_leaf_after_tab W text from fs evs node.least (is_shallow node.context) a.0 line.start
              (line.first - line.start) line.first lead a.2 (l.spaces).counts (l.spaces).leaves no_sequence deep
              (take_while_some (rest text line.first) (to_lead.some far)) drops spelled.0 spelled.1

      -- the line has a leaf or the first pair of a mapping
      pub line_leaf_or_pairs : node.least ≤ line.first - line.start → lead ≡ line.first
          → (W : Read Indented) (from : ℕ) (fs : List BlockFrame) (evs : List grammar.Event)
          → BeforeNodeLine text node line.start W from fs evs
          → BeforeLeaf text (record { at = lead; least = node.least; pairs = Some (line.first - line.start) }) W from
          fs evs
      line_leaf_or_pairs many e W from fs evs a =
          let deep : nat_le node.least (line.first - line.start) ≡ true = grind (arith, nat_tests) in
          subst (λ j. AtLeaf W text from fs evs node.least (Some (line.first - line.start)) j) (sym e)
          (line_leaf W text from fs evs node.least (is_shallow node.context) a.0 line.start (line.first - line.start)
          line.first a.2 (l.spaces).counts (l.spaces).leaves start_place no_sequence deep
          (to_lead.none e) l.starts (spelled.1 ∙ ap (line_starts text) e))

-- ---- the first key of a mapping, after `?`

-- after the `?` the next step is further on
pub asked_onward : (bs : List ℕ) (at k : ℕ) → k ≤ at → IsPastSign bs at
    → Onward bs at (3 * (length bs - at)) (next.After (at + 1) k Asked)
asked_onward bs at k m s =
    let below : at < length bs = s.below in
    record {
      above = omega arith;
      less = omega arith;
      placed =
          record { boundary = s.boundary; deeper = omega arith; inside_line = s.inside_line };
    }

-- the first key comes after a `?`
pub asked_first : (text : List ℕ) (leaf : Leaf) (k : ℕ) → leaf.pairs ≡ Some k → sign 63 (rest text leaf.at) ≡ true
    → IsPastSign text leaf.at → (old new : Reader)
    → new.collections.items ≡ old.collections.items ++ (record { waits = Key; indent = k }) ∷ []
    → new.events ≡ old.events ++ MapStart ∷ []
    → Leads text (BeforeLeaf text leaf) old new (next.After (leaf.at + 1) k Asked)
asked_first text leaf k e q p old new c n W from base fs evs h a =
    let o = asked_pair W text from fs evs leaf.least k leaf.at
    (subst (λ ps. AtLeaf W text from fs evs leaf.least ps leaf.at) e a) q p.past_is in
    record {
      fs = waits_key o.0 k [] ∷ fs;
      evs = evs ++ grammar.map_start ∷ [];
      holds = opened text base fs evs (evs ++ grammar.map_start ∷ []) old new (waits_key o.0 k [])
          (record { waits = Key; indent = k }) h c (record { waits = refl; indent = refl })
          (appended_one text base old.events new.events evs MapStart h.appended n tt);
      stands = o.1;
    }

-- one of two, without what else is known
pub either : {A N B : Type 0} → A ⊎ (N × B) → A ⊎ B
either (inl a) = inl a
either (inr b) = inr b.1

-- a test that fails is the opposite that holds
pub not_allowed : (a b : Bool) → a ≡ not b → a ≡ false → b ≡ true
not_allowed a true e h = refl
not_allowed a false e h = absurd (false≢true (sym h ∙ e))

-- a test that holds is the opposite that fails
pub allowed : (a b : Bool) → a ≡ not b → a ≡ true → b ≡ false
allowed a false e h = refl
allowed a true e h = absurd (false≢true (sym e ∙ h))

-- ---- the start of the outermost node

no_flow_at_end : (m : ℕ) (bol : Bool) → flow_leaf_at m bol [] ≡ None
no_flow_at_end m bol = no_leaf_unsolid m bol [] refl

by_tests : {A : Type 0} (a b : Bool) (x y r : Option A) → a ≡ false → b ≡ false → r ≡ None
    → (if a then x else if b then y else r) ≡ None
by_tests false false x y r h i e = e
by_tests true b x y r h i e = absurd (false≢true (sym h))
by_tests false true x y r h i e = absurd (false≢true (sym i))

no_leaf_at_end : (m : ℕ) (bol : Bool) (sep : Option Sep)
    → leaf_at block_key_in flow_leaf_at read_block m bol sep [] ≡ None
no_leaf_at_end m bol None = refl
no_leaf_at_end m bol (Some sep) = ap (λ r. on r (λ f rest. flow_with sep f (all_comments false rest)))
    (no_flow_at_end m (starts_line bol (sep_text sep)))

no_node_at_end : (m : ℕ) (shallow bol : Bool) → block_node_at m shallow bol [] ≡ None
no_node_at_end m shallow bol =
    node_steps m shallow bol []
    ∙ by_tests ((bol || false) && false && nat_le m (if shallow then 1 else 0))
    ((bol || false) && nat_le m 0 && opens_pair block_key_in flow_leaf_at read_block true [])
    (on (block_items_at 0 []) (λ is rest'. Some (items [] 0 is, rest')))
    (on (block_pairs_at 0 true []) (λ ps rest'. Some (pairs [] 0 ps, rest')))
    (leaf_at block_key_in flow_leaf_at read_block m bol (sep_at m bol [] []) [])
    (and_left ((bol || false) && false) _ (and_right (bol || false) false refl))
    (and_right ((bol || false) && nat_le m 0) _ (no_pair_there true [] refl))
    (no_leaf_at_end m bol (sep_at m bol [] []))

-- at the end of the text no node is there
pub nothing_at_end : (text : List ℕ) (m at : ℕ) (shallow : Bool) → at ≡ length text → (old : Reader)
    → Fails text (BeforeNode text m shallow at) old
nothing_at_end text m at shallow e old W from base fs evs h a =
    a.reads ∙ (ap (λ t. unwind fs (as_part (block_node_at m shallow (line_starts text at) t)))
    (rest-end text at (omega (arith, e)))
    ∙ (ap (λ r. unwind fs (as_part r)) (no_node_at_end m shallow (line_starts text at)) ∙ unwind_none fs))

module _ (text : List ℕ) (least at : ℕ) (context : BlockContext) (u : IsUtf8 text) (b : IsCharBoundary text at) where
  at_bol : (bol : Bool) → line_starts text at ≡ bol
      → (W : Read Indented) (from : ℕ) (fs : List BlockFrame) (evs : List grammar.Event)
      → BeforeNode text least (is_shallow context) at W from fs evs
      → AtNode W text from fs evs least (is_shallow context) bol at
  at_bol bol e W from fs evs a = subst (λ x. AtNode W text from fs evs least (is_shallow context) x at) e a

  lined : (bol : Bool) (start : ℕ) → line_starts text at ≡ bol → IsCharBoundary text start
      → (all_comments bol (rest text at)).1 ≡ rest text start
      → bol || not (is_empty (all_comments bol (rest text at)).0) ≡ true
      → (W : Read Indented) (from : ℕ) (fs : List BlockFrame) (evs : List grammar.Event)
      → BeforeNode text least (is_shallow context) at W from fs evs
      → AtNodeLine W text from fs evs least (is_shallow context) (is_empty (all_comments bol (rest text at)).0) start
  lined bol start e d leaves some W from fs evs a =
      let comments : List LineEnd = (all_comments bol (rest text at)).0 in
      let whole : ◌≡◌ {A = List LineEnd × List ℕ} (all_comments bol (rest text at)) (comments, rest text start) =
      ap (λ t. (comments, t)) leaves in
      let to = comments_to text at start bol u b d leaves in
      node_line W text from fs evs least (is_shallow context) bol at comments start (at_bol bol e W from fs evs a)
      whole some to.0 (ap (λ x. starts_line x (comments_text comments)) (sym e) ∙ to.1)

  -- the outermost node at the start of a line
  pub prefix_line_there : (line : Line) (margin : ℕ) → line_starts text at ≡ true → IsSolidLine true text at line
      → ((line.start ≡ at) × (margin ≡ 0)) ⊎ ((line.start ≡ at → ⊥) × (margin ≡ least))
      → (W : Read Indented) (from : ℕ) (fs : List BlockFrame) (evs : List grammar.Event)
      → BeforeNode text least (is_shallow context) at W from fs evs
      → BeforeNodeLine text (record { least = least; margin = margin; context = context }) line.start W from fs evs
  prefix_line_there line margin e s m W from fs evs a = (
    is_empty (all_comments true (rest text at)).0,
    by_margin m,
    lined true line.start e s.boundary s.leaves refl W
        from fs evs a,
  )
    where
      by_margin : ((line.start ≡ at) × (margin ≡ 0)) ⊎ ((line.start ≡ at → ⊥) × (margin ≡ least))
          → margin ≡ (if is_empty (all_comments true (rest text at)).0 then 0 else least)
      by_margin (inl p) =
          p.1 ∙ sym (ap (λ (es : List LineEnd). if is_empty es then 0 else least)
          (no_comments true (rest text at) (s.leaves ∙ ap (rest text) p.0)))
      by_margin (inr p) = p.1 ∙ by_comments (all_comments true (rest text at)).0
          (comments_to text at line.start true u b s.boundary s.leaves).0
        where
          by_comments : (es : List LineEnd) → at + byte_len (comments_text es) ≡ line.start
              → least ≡ (if is_empty es then 0 else least)
          by_comments [] q = absurd (p.0 (sym (omega (arith, q))))
          by_comments (x ∷ xs) q = refl

  module _ (inside : line_starts text at ≡ false) where
    -- the outermost node after the end of a line
    pub prefix_rest_there : (end : ℕ) (line : Line) → IsLineEnd false text at end → IsSolidLine true text end line
        → (W : Read Indented) (from : ℕ) (fs : List BlockFrame) (evs : List grammar.Event)
        → BeforeNode text least (is_shallow context) at W from fs evs
        → BeforeNodeLine text (record { least = least; margin = least; context = context }) line.start W from fs evs
    prefix_rest_there end line r s W from fs evs a =
        let step : all_comments false (rest text at)
        ≡ (r.line_end ∷ (all_comments true (rest text end)).0, (all_comments true (rest text end)).1) =
        comments_step false (rest text at) ∙ ap (more_comments (rest text at) (λ t. all_comments true t)) r.reads in
        let some : is_empty (all_comments false (rest text at)).0 ≡ false =
        ap (λ (c : List LineEnd × List ℕ). is_empty c.0) step in (
          false,
          refl,
          subst (λ x. AtNodeLine W text from fs evs least (is_shallow context) x line.start) some
              (lined false line.start inside s.boundary (ap (λ (c : List LineEnd × List ℕ). c.1) step
              ∙ s.leaves) (ap not some) W from fs evs a),
        )

    module _ (none : read_line_end false (rest text at) ≡ None) (lead : ℕ) (w : AreTaken white text at lead) where
      goes_on : all_comments false (rest text at) ≡ ([], rest text at)
      goes_on = comments_step false (rest text at) ∙ ap (more_comments (rest text at) (λ t. all_comments true t)) none

      -- the outermost node on its line, after whitespace
      pub prefix_leaf_there : at < lead → (W : Read Indented) (from : ℕ) (fs : List BlockFrame)
          (evs : List grammar.Event) → BeforeNode text least (is_shallow context) at W from fs evs
          → BeforeLeaf text (record { at = lead; least = least; pairs = None }) W from fs evs
      prefix_leaf_there l W from fs evs a =
          let to = white_to text at lead u b w in
          node_on_line W text from fs evs least (is_shallow context) at lead (at_bol false inside W from fs evs a)
          goes_on (to.some l) to.drops to.place (to.inside inside)

      -- without whitespace there is none
      pub prefix_nothing_there : lead ≡ at → (old : Reader)
          → Fails text (BeforeNode text least (is_shallow context) at) old
      prefix_nothing_there e old W from base fs evs h a =
          let to = white_to text at lead u b w in
          node_no_white W text from fs evs least (is_shallow context) at (at_bol false inside W from fs evs a) goes_on
          (to.none e)
