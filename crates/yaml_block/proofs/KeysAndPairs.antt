-- The steps of the reader at a flow node: a leaf, the first key of a mapping, or the key of a further pair.
use Rattle.std.{proofs.Common.{ap, arith, inl, inr, length, refl, subst, sym, ◌<◌, ◌∙◌, ◌≡◌, ◌≤◌, ◌⊎◌}, specs.Prelude.{Bool, IfSome, List}}
use Rattle.std.specs.Prelude.{None, Option, Some, [], false, insert, is_some, nat_le, true, ℕ, ◌&&◌, ◌*◌, ◌++◌, ◌+◌, ◌-◌, ◌∷◌}
use Rattle.yaml_block.proofs.Prelude.{IsCharBoundary, IsUtf8, and_left, and_parts, and_right, no_break, white, between, rest, Indented}
use Rattle.yaml_block.proofs.Prelude.{flow_events, flow_text, short_key, block_key, outer, list_all, byte_len, first, BlockFrame}
use Rattle.yaml_block.proofs.Prelude.{key_on_line, waits_key, waits_value, bar, all_comments, closes_line, drop_while, sign, take_while}
use Rattle.yaml_block.proofs.Prelude.{Read, flow_node_at, unbroken, none_some, line_starts, Event, MapStart, IsSolidLine, AreTaken}
use Rattle.yaml_block.proofs.{Prelude.{Appended, FlowNodeRead}, Stacks.{appended_before, appended_more, opened}, TextPlaces.IsPastSign}
use Rattle.yaml_block.proofs.{TextPlaces.past_sign, LeafSteps.{first_key, leaf_goes_on, leaf_read, next_asked, next_key, no_first_key}}
use Rattle.yaml_block.proofs.{LeafSteps.{no_leaf, no_next_key, no_next_node, second_key}, PlaceSteps.{WhiteTo, comments_to, flow_to}}
use Rattle.yaml_block.{proofs.PlaceSteps.{short_is, unbroken_is, white_to}, specs.declared.frame.{Collection.Collection, Leaf.Leaf}}
use Rattle.yaml_block.specs.declared.{frame.{Next.Next, Waits.TheVariants.{Key, Value}}, line_sign.Sign.{Sign, TheVariants.{Asked, Colon}}}
use Rattle.yaml_block.specs.{declared.reader.Reader.Reader, Frames.{AfterSign, AtLeaf, AtLine, indent_of, waits_of}, States.BeforeColon}
use Rattle.{yaml_block.specs.States.{BeforeLeaf, BeforePair, Fails, Holds, Leads, Onward, Stack}, yaml_scan.specs.declared.lines.Line.Line}
use Rattle.yaml_grammar.specs.Events as grammar
use Rattle.yaml_block.specs.declared.frame.Next.TheVariants as next

-- a step to a place after a sign leads on
pub after_onward : (text : List ℕ) (at bound p k : ℕ) (before : Sign) → IsPastSign text p → at ≤ p → k ≤ p
    → 3 * (length text - (p + 1)) + 2 < bound → Onward text at bound (next.After (p + 1) k before)
after_onward text at bound p k before s a d l = record {
  above = omega (arith, a);
  less = l;
  placed = record { boundary = s.boundary; deeper = omega (arith, d); inside_line = s.inside_line };
}

either : (a b : Bool) → (a ≡ false) ⊎ (b ≡ false) → a && b ≡ false
either a b (inl e) = and_left a b e
either a b (inr e) = and_right a b e

kept : (text : List ℕ) (base old new : List Event) (evs : List grammar.Event) → Appended text base old evs → new ≡ old
    → Appended text base new evs
kept text base old new evs a e = subst (λ (es : List Event). Appended text base es evs) (sym e) a

module _ (text : List ℕ) (u : IsUtf8 text) where
  -- ---- a further pair

  -- a further pair starts with `?`
  pub pair_asked : (at k : ℕ) (old new : Reader) → IsCharBoundary text at → sign 63 (rest text at) ≡ true
      → new.collections.items ≡ old.collections.items ++ (record { waits = Key; indent = k }) ∷ []
      → new.events ≡ old.events → Leads text (BeforePair text k at) old new (next.After (at + 1) k Asked)
  pair_asked at k old new b q c e = λ W from base fs evs held pair.
      let s : IsPastSign text at = past_sign text at 63 u b (omega arith) refl q in
      let p = next_asked W text from fs evs k at pair q s.past_is in
      record {
        fs = waits_key p.0 k p.1 ∷ fs;
        evs = evs;
        holds = opened text base fs evs evs old new (waits_key p.0 k p.1) (record { waits = Key; indent = k }) held c
            (record { waits = refl; indent = refl }) (kept text base old.events new.events evs held.appended e);
        stands = p.2;
      }

  -- the key of a further pair is read
  pub key_read : (k at end : ℕ) (old mid : Reader) → FlowNodeRead 0 block_key text at end old.events mid.events
      → mid.collections ≡ old.collections
      → (W : Read Indented) (from : ℕ) (base : List Event) (fs : List BlockFrame) (evs : List grammar.Event)
      → Holds text base fs evs old → BeforePair text k at W from fs evs
      → (es : List grammar.Event) × Holds text base fs es mid × BeforeColon text k at end W from fs es
  key_read k at end old mid f i W from base fs evs held pair = (
    evs ++ flow_events f.node at,
    record {
      stack = subst (λ (v : List Collection). Stack fs v) (sym (ap (λ v. v.items) i)) held.stack;
      appended = appended_more text base old.events mid.events evs (flow_events f.node at) held.appended f.appended;
    },
    record { key = f.node; found = f.found; before = evs; pair = pair; wrote = refl },
  )

  -- a step from its `:` is one from the key
  pub key_leads : (k at end : ℕ) (old mid new : Reader) (to : Next)
      → FlowNodeRead 0 block_key text at end old.events mid.events → mid.collections ≡ old.collections
      → Leads text (BeforeColon text k at end) mid new to → Leads text (BeforePair text k at) old new to
  key_leads k at end old mid new to f i l = λ W from base fs evs held pair.
      let p = key_read k at end old mid f i W from base fs evs held pair in l W from base fs p.0 p.1 p.2

  -- and so is one that fails
  pub key_fails : (k at end : ℕ) (old mid : Reader) → FlowNodeRead 0 block_key text at end old.events mid.events
      → mid.collections ≡ old.collections
      → Fails text (BeforeColon text k at end) mid → Fails text (BeforePair text k at) old
  key_fails k at end old mid f i l = λ W from base fs evs held pair.
      let p = key_read k at end old mid f i W from base fs evs held pair in l W from base fs p.0 p.1 p.2

  module _ (at k end colon : ℕ) (b : IsCharBoundary text at) (d : IsCharBoundary text end)
      (t : AreTaken white text end colon) where
    -- a key before its `:` waits for its value
    pub key_waits : sign 58 (rest text colon) ≡ true → nat_le (length (between text at colon)) 1024 ≡ true
        → (W : Read Indented) (from : ℕ) (fs : List BlockFrame) (evs : List grammar.Event)
        → BeforeColon text k at end W from fs evs
        → (f : BlockFrame) × (waits_of f ≡ Value) × (indent_of f ≡ k)
        × AfterSign W text from (f ∷ fs) evs Colon k (colon + 1)
    key_waits c short W from fs evs h =
        let w : WhiteTo text end colon = white_to text end colon u d t in
        let s : IsPastSign text colon = past_sign text colon 58 u t.boundary (omega arith) refl c in
        let len : at + byte_len (flow_text h.key) ≡ end =
        (flow_to text at end h.key 0 block_key (line_starts text at) u b d h.found).0 in
        let is_short : short_key h.key (take_while white (rest text end)) ≡ true =
        sym (short_is text at end colon h.key 0 block_key (line_starts text at) u b d h.found t) ∙ short in
        let p = next_key W text from fs h.before k at h.key end colon h.pair h.found len w.drops w.place c s.past_is
        is_short in
        let key : BlockFrame = waits_value p.0 k p.1 p.2 in (
          key,
          refl,
          refl,
          subst (λ (es : List grammar.Event). AfterSign W text from (key ∷ fs) es Colon k (colon + 1)) (sym h.wrote)
              p.4,
        )

    -- the part after the `:` is read next
    pub pair_key : (old new : Reader) → sign 58 (rest text colon) ≡ true
        → nat_le (length (between text at colon)) 1024 ≡ true
        → new.collections.items ≡ old.collections.items ++ (record { waits = Value; indent = k }) ∷ []
        → new.events ≡ old.events → Leads text (BeforeColon text k at end) old new (next.After (colon + 1) k Colon)
    pair_key old new c short i e = λ W from base fs evs held h.
        let p = key_waits c short W from fs evs h in
        record {
          fs = p.0 ∷ fs;
          evs = evs;
          holds = opened text base fs evs evs old new p.0 (record { waits = Value; indent = k }) held i
              (record { waits = p.1; indent = p.2 }) (kept text base old.events new.events evs held.appended e);
          stands = p.3;
        }

    -- a flow node that is no key is refused
    pub pair_unkeyed : (old : Reader)
        → (sign 58 (rest text colon) ≡ false) ⊎ (nat_le (length (between text at colon)) 1024 ≡ false)
        → Fails text (BeforeColon text k at end) old
    pair_unkeyed old n = λ W from base fs evs held h.
        let w : WhiteTo text end colon = white_to text end colon u d t in
        no_next_key W text from fs h.before k at h.key end colon h.pair h.found w.drops
        (ap (λ x. sign 58 (rest text colon) && x) (sym
        (short_is text at end colon h.key 0 block_key (line_starts text at) u b d h.found t))
        ∙ either (sign 58 (rest text colon)) (nat_le (length (between text at colon)) 1024) n)

  -- without a flow node the pair is refused
  pub pair_missing : (at k : ℕ) (old : Reader) → sign 63 (rest text at) ≡ false
      → flow_node_at 0 block_key (line_starts text at) (rest text at) ≡ None → Fails text (BeforePair text k at) old
  pair_missing at k old q n = λ W from base fs evs held pair. no_next_node W text from fs evs k at pair q n

  -- ---- a leaf

  -- the first key of a mapping waits for its value
  pub leaf_waits : (leaf : Leaf) (k end colon : ℕ) (old mid : List Event) → leaf.pairs ≡ Some k
      → IsCharBoundary text leaf.at → (f : FlowNodeRead leaf.least outer text leaf.at end old mid)
      → AreTaken white text end colon → sign 58 (rest text colon) ≡ true
      → list_all no_break (between text leaf.at end) && nat_le (length (between text leaf.at colon)) 1024 ≡ true
      → (W : Read Indented) (from : ℕ) (fs : List BlockFrame) (evs : List grammar.Event)
      → BeforeLeaf text leaf W from fs evs
      → (g : BlockFrame) × (waits_of g ≡ Value) × (indent_of g ≡ k)
      × AfterSign W text from (g ∷ fs) (evs ++ grammar.map_start ∷ flow_events f.node leaf.at) Colon k (colon + 1)
  leaf_waits leaf k end colon old mid n b f t c fits W from fs evs here =
      let at : ℕ = leaf.at in
      let w : WhiteTo text end colon = white_to text end colon u f.boundary t in
      let s : IsPastSign text colon = past_sign text colon 58 u t.boundary (omega arith) refl c in
      let len : at + byte_len (flow_text f.node) ≡ end =
      (flow_to text at end f.node leaf.least outer (line_starts text at) u b f.boundary f.found).0 in
      let q : (list_all no_break (between text at end) ≡ true) × (nat_le (length (between text at colon)) 1024 ≡ true) =
      and_parts _ _ fits in
      let is_short : short_key f.node (take_while white (rest text end)) ≡ true =
      sym (short_is text at end colon f.node leaf.least outer (line_starts text at) u b f.boundary f.found t)
      ∙ q.1 in
      let one : unbroken (flow_text f.node) ≡ true =
      sym (unbroken_is text at end f.node leaf.least outer (line_starts text at) u b f.boundary f.found) ∙ q.0 in
      let at_leaf : AtLeaf W text from fs evs leaf.least (Some k) at =
      subst (λ (x : Option ℕ). AtLeaf W text from fs evs leaf.least x at) n here in
      let p = first_key W text from fs evs leaf.least k at f.node end colon at_leaf f.found len w.drops w.place c
      s.past_is one is_short in
      (waits_value p.0 k [] (key_on_line f.node (take_while white (rest text end))), refl, refl, p.1)

  -- the first pair of a mapping starts with a key on one line
  pub leaf_key : (leaf : Leaf) (k end colon : ℕ) (old new : Reader) (mid : List Event) → leaf.pairs ≡ Some k
      → IsCharBoundary text leaf.at → FlowNodeRead leaf.least outer text leaf.at end old.events mid
      → AreTaken white text end colon → sign 58 (rest text colon) ≡ true
      → list_all no_break (between text leaf.at end) && nat_le (length (between text leaf.at colon)) 1024 ≡ true
      → new.collections.items ≡ old.collections.items ++ (record { waits = Value; indent = k }) ∷ []
      → new.events ≡ insert mid (length old.events) MapStart
      → Leads text (BeforeLeaf text leaf) old new (next.After (colon + 1) k Colon)
  leaf_key leaf k end colon old new mid n b f t c fits i e = λ W from base fs evs held here.
      let p = leaf_waits leaf k end colon old.events mid n b f t c fits W from fs evs here in
      let es : List grammar.Event = evs ++ grammar.map_start ∷ flow_events f.node leaf.at in
      record {
        fs = p.0 ∷ fs;
        evs = es;
        holds = opened text base fs evs es old new p.0 (record { waits = Value; indent = k }) held i
            (record { waits = p.1; indent = p.2 })
            (appended_before text base old.events mid new.events evs (flow_events f.node leaf.at) held.appended
            f.appended e);
        stands = p.3;
      }

  -- a flow node before a `:` that is no key is refused
  pub leaf_unkeyed : (leaf : Leaf) (end colon : ℕ) (old : Reader) (mid : List Event) → IsCharBoundary text leaf.at
      → FlowNodeRead leaf.least outer text leaf.at end old.events mid
      → AreTaken white text end colon → sign 58 (rest text colon) ≡ true
      → (leaf.pairs ≡ None) ⊎ (list_all no_break (between text leaf.at end) && nat_le
      (length (between text leaf.at colon)) 1024 ≡ false) → Fails text (BeforeLeaf text leaf) old
  leaf_unkeyed leaf end colon old mid b f t c n = λ W from base fs evs held here.
      by_pairs W from fs evs leaf.pairs refl n here
    where
      w : WhiteTo text end colon
      w = white_to text end colon u f.boundary t

      tests : list_all no_break (between text leaf.at end) && nat_le (length (between text leaf.at colon)) 1024
          ≡ unbroken (flow_text f.node) && short_key f.node (take_while white (rest text end))
      tests =
          ap (λ x. x && nat_le (length (between text leaf.at colon)) 1024)
          (unbroken_is text leaf.at end f.node leaf.least outer (line_starts text leaf.at) u b f.boundary f.found)
          ∙ ap (λ x. unbroken (flow_text f.node) && x)
          (short_is text leaf.at end colon f.node leaf.least outer (line_starts text leaf.at) u b f.boundary
          f.found t)

      by_pairs : (W : Read Indented) (from : ℕ) (fs : List BlockFrame) (evs : List grammar.Event) (pairs : Option ℕ)
          → leaf.pairs ≡ pairs
          → (leaf.pairs ≡ None) ⊎ (list_all no_break (between text leaf.at end) && nat_le
          (length (between text leaf.at colon)) 1024 ≡ false)
          → AtLeaf W text from fs evs leaf.least leaf.pairs leaf.at → W ≡ None
      by_pairs W from fs evs None e n here =
          second_key W text from fs evs leaf.least leaf.at f.node end colon
          (subst (λ (x : Option ℕ). AtLeaf W text from fs evs leaf.least x leaf.at) e here) f.found w.drops c
      by_pairs W from fs evs (Some k) e (inl n) here = absurd (none_some k (sym n ∙ e))
      by_pairs W from fs evs (Some k) e (inr n) here =
          no_first_key W text from fs evs leaf.least k leaf.at f.node end colon
          (subst (λ (x : Option ℕ). AtLeaf W text from fs evs leaf.least x leaf.at) e here) f.found w.drops c
          (sym tests ∙ n)

  -- a flow node before the end of its line is a leaf
  pub leaf_line : (leaf : Leaf) (end : ℕ) (line : Line) (old new : Reader) (mid : List Event)
      → IsCharBoundary text leaf.at → FlowNodeRead leaf.least outer text leaf.at end old.events mid
      → sign 58 (drop_while white (rest text end)) ≡ false → IsSolidLine false text end line
      → closes_line (all_comments false (rest text end)) ≡ true
      → new.collections ≡ old.collections → new.events ≡ mid → new.end ≡ end
      → Leads text (BeforeLeaf text leaf) old new (next.Line (record { line = line; is_solid = true }))
  leaf_line leaf end line old new mid b f c l close i e d = λ W from base fs evs held here.
      let at : ℕ = leaf.at in
      let len : at + byte_len (flow_text f.node) ≡ end =
      (flow_to text at end f.node leaf.least outer (line_starts text at) u b f.boundary f.found).0 in
      let read : AtLine W text from fs (evs ++ flow_events f.node at) line.start end =
      leaf_read W text from fs evs leaf.least leaf.pairs at f.node end line.start here f.found len c close l.leaves
      (comments_to text end line.start false u f.boundary l.boundary l.leaves).0 in
      record {
        fs = fs;
        evs = evs ++ flow_events f.node at;
        holds = record {
          stack = subst (λ (v : List Collection). Stack fs v) (sym (ap (λ v. v.items) i)) held.stack;
          appended = kept text base mid new.events (evs ++ flow_events f.node at)
              (appended_more text base old.events mid evs (flow_events f.node at) held.appended f.appended) e;
        };
        stands = subst (λ (x : ℕ). AtLine W text from fs (evs ++ flow_events f.node at) line.start x) (sym d) read;
      }

  -- a flow node on a line that goes on is refused
  pub leaf_unclosed : (leaf : Leaf) (end colon : ℕ) (old : Reader) (mid : List Event)
      → FlowNodeRead leaf.least outer text leaf.at end old.events mid → AreTaken white text end colon
      → sign 58 (rest text colon) ≡ false → closes_line (all_comments false (rest text end)) ≡ false
      → Fails text (BeforeLeaf text leaf) old
  leaf_unclosed leaf end colon old mid f t c n = λ W from base fs evs held here.
      leaf_goes_on W text from fs evs leaf.least leaf.pairs leaf.at f.node end colon here f.found t.leaves c n

  -- without a flow node the leaf is refused
  pub leaf_nothing : (leaf : Leaf) (old : Reader) → first bar (rest text leaf.at) ≡ false
      → IfSome leaf.pairs (λ indent. sign 63 (rest text leaf.at) ≡ false)
      → flow_node_at leaf.least outer (line_starts text leaf.at) (rest text leaf.at) ≡ None
      → Fails text (BeforeLeaf text leaf) old
  leaf_nothing leaf old h q n = λ W from base fs evs held here.
      no_leaf W text from fs evs leaf.least leaf.pairs leaf.at here h (unasked leaf.pairs q) n
    where
      unasked : (pairs : Option ℕ) → IfSome pairs (λ indent. sign 63 (rest text leaf.at) ≡ false)
          → is_some pairs && sign 63 (rest text leaf.at) ≡ false
      unasked None h = refl
      unasked (Some k) h = h
