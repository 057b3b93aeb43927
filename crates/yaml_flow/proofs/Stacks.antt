-- The loop over open brackets: what is popped, what is left at the end, and what stays.
use Rattle.std.{proofs.Common.{◌≡◌, refl, sym, ◌∙◌, ap, subst, arith, ℕ, ◌+◌, ◌≤◌, length, append_assoc, inl, inr}, specs.Prelude.true}
use Rattle.std.specs.Prelude.{false, List, [], ◌∷◌, ◌++◌, take, Some, None}
use Rattle.yaml_flow.proofs.Prelude.{All, IsCharBoundary, append-nil, length-append, take-append-le, All-push, All-same, All-weaker}
use Rattle.yaml_flow.proofs.Prelude.{All-pop, rest, flow_events, FlowContext, outer, inner, block_key, flow_key, in_flow, line_starts}
use Rattle.yaml_flow.proofs.{Prelude.{widens, on, flow_node_at, plug}, SameLines.same_line_here}
use Rattle.yaml_flow.specs.declared.collection.{NodeEnd.TheVariants.Delimited, Open.Open, Next.{Next, TheVariants.{Entry, Node}}}
use Rattle.yaml_flow.specs.{declared.collection.Next.TheVariants.{AfterEntry, Closed}, FlowNodes.Appended, Frames.{Around, AtNode}}
use Rattle.yaml_flow.specs.Frames.{Collection, EventList, Kept, LineMoves, NodeRead, Onward, Pushes, SameLine, Stack, Stands, Started}
use Rattle.yaml_flow.specs.Frames.{Waits, WholeRead, place_of}

-- equal lists have the same last element, and are equal before it
pub snoc_same : {A : Type 0} (xs ys : List A) (x y : A) → xs ++ x ∷ [] ≡ ys ++ y ∷ [] → (xs ≡ ys) × (x ≡ y)
snoc_same [] [] x y e = (refl, cc)
snoc_same [] (b ∷ bs) x y e = absurd (omega (arith, ap length e, length-append bs (y ∷ [])))
snoc_same (a ∷ us) [] x y e = absurd (omega (arith, ap length e, length-append us (x ∷ [])))
snoc_same (a ∷ us) (b ∷ vs) x y e =
    let t : us ++ x ∷ [] ≡ vs ++ y ∷ [] = cc in
    let h : a ≡ b = cc in
    let r = snoc_same us vs x y t in
    (ap (λ z. z ∷ us) h ∙ ap (λ zs. b ∷ zs) r.0, r.1)

-- a key's context has the same safe characters as between brackets
pub in_flow_widens : (d : FlowContext) → in_flow d ≡ d → widens flow_key d ≡ true
in_flow_widens outer e = absurd (let h : inner ≡ outer = e in cc)
in_flow_widens inner e = refl
in_flow_widens block_key e = absurd (let h : flow_key ≡ block_key = e in cc)
in_flow_widens flow_key e = refl

-- the collection that is read, before these events
abbrev pub outermost : ℕ → FlowContext → List ℕ → ℕ → EventList → Collection
outermost n c text at kept =
    record { reads = flow_node_at n c (line_starts text at) (rest text at); start = at; kept = kept }

-- ---- the events at the start

-- the list is the other and more
abbrev Extends : EventList → EventList → Type 0
Extends old new = (more : EventList) × (new ≡ old ++ more)

extends_then : (a b c : EventList) → Extends a b → Extends b c → Extends a c
extends_then a b c h k = (h.0 ++ k.0, k.1 ∙ (ap (λ es. es ++ k.0) h.1 ∙ append_assoc a h.0 k.0))

-- what is kept twice is kept
pub kept_then : (k : ℕ) (a b c : EventList) → Kept k a b → Kept k b c → Kept k a c
kept_then k a b c h g l = let p = h l in let q = g p.0 in (q.0, q.1 ∙ p.1)

module _ (n : ℕ) (d : FlowContext) (text : List ℕ) where
  stands_on : (w : Collection) (top : Open) (next : Next) (events : EventList) → Stands n d text w top next events → Extends w.kept events
  stands_on w top (Entry at) events h = (h.written.more, h.written.is)
  stands_on w top (Node at) events h = (h.written.more, h.written.is)
  stands_on w top (AfterEntry at) events h = (h.written.more, h.written.is)
  stands_on w top (Closed end) events h = (h.written.more, h.written.is)

  stack_on : (whole : Collection) (around : List Collection) (opens : List Open) (w : Collection)
      → Stack n d text whole around opens w → Extends whole.kept w.kept
  stack_on whole [] opens w s = ([], ap (λ (x : Collection). x.kept) s.1 ∙ sym (append-nil whole.kept))
  stack_on whole (c ∷ cs) opens w s =
      extends_then whole.kept c.kept w.kept (stack_on whole cs s.0 c s.4) (s.3.waits.written.more, s.3.waits.written.is)

  waits_on : (whole : Collection) (opens : List Open) (top : Open) (next : Next) (events : EventList)
      → Waits n d text whole opens top next events → Extends whole.kept events
  waits_on whole opens top next events w =
      extends_then whole.kept w.inner.kept events (stack_on whole w.around opens w.inner w.stack)
      (stands_on w.inner top next events w.stands)

  -- the events before the whole collection stay
  pub prefix_stays : (whole : Collection) (opens : List Open) (top : Open) (next : Next) (events new : EventList)
      (k : ℕ) → Waits n d text whole opens top next events
      → Kept k events new → Kept k whole.kept new
  prefix_stays whole opens top next events new k w h =
      let e = waits_on whole opens top next events w in
      let l = length-append whole.kept e.0 in
      let s = ap length e.1 in
      kept_then k whole.kept events new (λ m. (omega (arith, l, s), ap (take k) e.1 ∙ take-append-le k whole.kept e.0 m)) h

  -- ---- a refusal

  -- no bracket is open yet
  pub stack_none : (whole : Collection) (around : List Collection) (opens : List Open) (w : Collection)
      → Stack n d text whole around opens w → w.reads ≡ None → whole.reads ≡ None
  stack_none whole [] opens w s e = ap (λ (x : Collection). x.reads) (sym s.1) ∙ e
  stack_none whole (c ∷ cs) opens w s e =
      stack_none whole cs s.0 c s.4
      (s.3.waits.reads ∙ ap (λ r. on r (λ f t. plug n d s.3.waits.frame f t)) (sym s.3.node ∙ e))

  -- ---- a bracket that is closed

  -- what a closed bracket is read for, once its frame is popped
  pub record Popped (whole : Collection) (prefix : List Open) (frame : Open) (end : ℕ) (events : EventList) : Type 0 where
    pub around : List Collection
    pub outer : Collection
    pub stack : Stack n d text whole around prefix outer
    pub node : NodeRead n d text outer frame Delimited end events
    pub inside_line : line_starts text end ≡ false
    pub count : frame.before ≤ length events
    pub kept : length whole.kept ≤ frame.before

  popped_from : (whole : Collection) (around : List Collection) (w : Collection) (opens prefix : List Open)
      (frame : Open) (end : ℕ) (events : EventList)
      → Stack n d text whole around opens w → WholeRead n d text w end events → opens ≡ prefix ++ frame ∷ []
      → Popped whole prefix frame end events
  popped_from whole [] w opens prefix frame end events s r e =
      absurd (omega (arith, ap length (sym s.0 ∙ e), length-append prefix (frame ∷ [])))
  popped_from whole (c ∷ cs) w opens prefix frame end events s r e =
      let both = snoc_same s.0 prefix s.1 frame (sym s.2 ∙ e) in
      let a : Around n d text w frame c = subst (λ (x : Open). Around n d text w x c) both.1 s.3 in
      let on_kept = stack_on whole (c ∷ cs) opens w s in
      let count = a.count in
      let sized = ap length r.written.is in
      let more = length-append w.kept r.written.more in
      let sized2 = ap length on_kept.1 in
      let more2 = length-append whole.kept on_kept.0 in
      record {
        around = cs;
        outer = c;
        stack = subst (λ (x : List Open). Stack n d text whole cs x c) both.0 s.4;
        node = record {
          before = w.kept;
          waits = subst (λ k. AtNode n d text c frame k w.kept) (sym a.start) a.waits;
          count = a.count;
          node = r.node;
          plain = r.plain;
          found = ap (λ k. flow_node_at n d (line_starts text k) (rest text k)) a.start ∙ (sym a.node ∙ r.reads);
          written = subst (λ k. Appended text w.kept events (flow_events r.node k)) (sym a.start) r.written;
        };
        inside_line = r.inside_line;
        count = omega (arith, count, sized, more);
        kept = omega (arith, count, sized2, more2);
      }

  -- the innermost bracket is closed, and the one around it goes on
  pub popped : (whole : Collection) (opens prefix : List Open) (top frame : Open) (next : Next) (end : ℕ)
      (events : EventList) → Waits n d text whole opens top next events
      → next ≡ Closed end → opens ≡ prefix ++ frame ∷ [] → Popped whole prefix frame end events
  popped whole opens prefix top frame next end events w e p =
      let v : Waits n d text whole opens top (Closed end) events = subst (λ x. Waits n d text whole opens top x events) e w in
      popped_from whole v.around v.inner opens prefix frame end events v.stack v.stands p

  whole_from : (whole : Collection) (around : List Collection) (w : Collection) (opens : List Open) (end : ℕ)
      (events : EventList) → Stack n d text whole around opens w
      → WholeRead n d text w end events → length opens ≡ 0 → WholeRead n d text whole end events
  whole_from whole [] w opens end events s r l = subst (λ (x : Collection). WholeRead n d text x end events) s.1 r
  whole_from whole (c ∷ cs) w opens end events s r l = absurd (omega (arith, ap length s.2, length-append s.0 (s.1 ∷ []), l))

  -- the last bracket is closed, and the node is read
  pub whole_read : (whole : Collection) (opens : List Open) (top : Open) (next : Next) (end : ℕ) (events : EventList)
      → Waits n d text whole opens top next events
      → next ≡ Closed end → length opens ≡ 0 → WholeRead n d text whole end events
  whole_read whole opens top next end events w e l =
      let v : Waits n d text whole opens top (Closed end) events = subst (λ x. Waits n d text whole opens top x events) e w in
      whole_from whole v.around v.inner opens end events v.stack v.stands l

-- ---- places

-- the next step is further on
pub onward_from : (text : List ℕ) (at further : ℕ) (next : Next) → at ≤ further → Onward text further next → Onward text at next
onward_from text at further next l o = let m = o.above in record { boundary = o.boundary; above = omega arith; within = o.within }

-- the frames' places, once the reader has moved
pub starts_move : (text : List ℕ) (old at new to : ℕ) (opens : List Open) → at ≤ to → LineMoves text old at new to
    → All (Started text old at) opens → All (Started text new to) opens
starts_move text old at new to opens l m a =
    All-weaker (Started text old at) (Started text new to)
    (λ top s. let k = s.above in record {
      boundary = s.boundary;
      above = omega arith;
      same_line = m.tells top.start s.boundary s.above s.same_line;
    }) opens a

-- and one more frame, or none
pub starts_push : (text : List ℕ) (line at : ℕ) (opens more : List Open) → IsCharBoundary text at → line ≤ at
    → Pushes opens at more → All (Started text line at) opens
    → All (Started text line at) more
starts_push text line at opens more b l (inl e) a = All-same (Started text line at) more opens e a
starts_push text line at opens more b l (inr p) a =
    let start : p.0.start ≡ at = p.2 in
    All-same (Started text line at) more (opens ++ p.0 ∷ []) p.1
    (All-push (Started text line at) opens p.0 a (record {
      boundary = subst (λ k. IsCharBoundary text k) (sym start) b;
      above = omega arith;
      same_line = subst (λ k. SameLine text line k at) (sym start) (same_line_here text line at l);
    }))

-- the brackets that stay open keep their lines
pub starts_pop : (text : List ℕ) (line at : ℕ) (opens prefix : List Open) (frame : Open)
    → opens ≡ prefix ++ frame ∷ [] → All (Started text line at) opens
    → All (Started text line at) prefix × Started text line at frame
starts_pop text line at opens prefix frame e a = All-pop (Started text line at) opens prefix (Some frame) e a

-- ---- one turn of the loop

-- what the loop keeps
pub record Reading (n : ℕ) (d : FlowContext) (text : List ℕ) (from : ℕ) (whole : Collection) (opens : List Open)
    (top : Open) (next : Next) (events : EventList) (line : ℕ) : Type 0 where
  pub waits : Waits n d text whole opens top next events
  pub onward : Onward text (from + 1) next
  pub within : line ≤ place_of next
  pub starts : All (Started text line (place_of next)) opens

module _ {n : ℕ} {d : FlowContext} {text : List ℕ} {from : ℕ} {whole : Collection} {opens : List Open} {top : Open}
    {next : Next} {events : EventList} {line : ℕ}
    (r : Reading n d text from whole opens top next events line) where
  -- the state before the next step
  pub before : (here : Next) → next ≡ here → Reading n d text from whole opens top here events line
  before here e = subst (λ x. Reading n d text from whole opens top x events line) e r

  -- a step that goes on
  pub turned : (here : Next) → next ≡ here → {more : List Open} {top' : Open} {to : Next} {new : EventList} {line' : ℕ}
      → (Waits n d text whole opens top here events → Waits n d text whole more top' to new)
      → (All (Started text line (place_of here)) opens → All (Started text line (place_of here)) more)
      → Onward text (place_of here) to → LineMoves text line (place_of here) line' (place_of to)
      → Reading n d text from whole more top' to new line'
  turned here e {more} {top'} {to} {new} {line'} w s o m =
      let b : Reading n d text from whole opens top here events line = before here e in
      record {
        waits = w b.waits;
        onward = onward_from text (from + 1) (place_of here) to b.onward.above o;
        within = m.within b.within;
        starts = starts_move text line (place_of here) line' (place_of to) more o.above m (s b.starts);
      }

  -- a step of the innermost bracket alone
  pub stepped : (here : Next) → next ≡ here → {top' : Open} {to : Next} {new : EventList} {line' : ℕ}
      → ((w : Collection) → Stands n d text w top here events → Stands n d text w top' to new)
      → Onward text (place_of here) to
      → LineMoves text line (place_of here) line' (place_of to) → Reading n d text from whole opens top' to new line'
  stepped here e h o m =
      turned here e (λ w. record { inner = w.inner; around = w.around; stack = w.stack; stands = h w.inner w.stands })
      (λ s. s) o m

  -- a step that refuses shows that there is no node
  pub refused : (here : Next) → next ≡ here → ((w : Collection) → Stands n d text w top here events → w.reads ≡ None)
      → whole.reads ≡ None
  refused here e h =
      let w : Waits n d text whole opens top here events = (before here e).waits in
      stack_none n d text whole w.around opens w.inner w.stack (h w.inner w.stands)

  -- a step keeps the events before the whole collection
  pub kept_once : (new : EventList) (k : ℕ) → Kept k events new → Kept k whole.kept new
  kept_once new k h = prefix_stays n d text whole opens top next events new k r.waits h

  -- as many as there are
  pub kept_on : (new : EventList) → ((k : ℕ) → Kept k events new) → (k : ℕ) → Kept k whole.kept new
  kept_on new h k = kept_once new k (h k)

  -- the innermost bracket is closed, and the one around it goes on
  pub closed : (prefix : List Open) (frame : Open) (end : ℕ) → next ≡ Closed end → opens ≡ prefix ++ frame ∷ []
      → Popped n d text whole prefix frame end events
  closed prefix frame end e p = popped n d text whole opens prefix top frame next end events r.waits e p

  -- how the frames of the brackets that stay open, and of the one that goes on, started
  pub started : (prefix : List Open) (frame : Open) → opens ≡ prefix ++ frame ∷ []
      → All (Started text line (place_of next)) prefix × Started text line (place_of next) frame
  started prefix frame p = starts_pop text line (place_of next) opens prefix frame p r.starts
