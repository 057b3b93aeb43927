-- The steps of `unwind`: a collection goes on at the line after its part, or it ends.
use Rattle.std.{proofs.Common.{◌≡◌, refl, sym, ◌∙◌, ap, subst, arith, ℕ, ◌+◌, ◌-◌, ◌*◌, ◌<◌, ◌≤◌, length}, specs.Prelude.{true, false, not}}
use Rattle.std.specs.Prelude.{◌&&◌, ◌==◌, List, [], ◌∷◌, ◌++◌, Option, Some, None}
use Rattle.yaml_block.proofs.Prelude.{IsUtf8, and_parts, eqb-true, false≢true, is_empty, line_break, rest, past_spaces, spaces_before}
use Rattle.yaml_block.proofs.Prelude.{Indented, block_node_stops, sign, Read, BlockFrame, waits_item, waits_key, waits_value, key_asked}
use Rattle.yaml_block.proofs.{Prelude.{event_of, line_starts, BorrowsPlain, Event, SeqEnd, MapEnd, Appended}, TextPlaces.pair_starts}
use Rattle.yaml_block.proofs.{TextPlaces.{IsPastSign, past_sign}, Stacks.{Popped, appended_one, emptied, opened, popped}}
use Rattle.yaml_block.proofs.Unwinding.{item_goes_on, sequence_ends, value_opens, key_alone, value_read, pair_goes_on, mapping_ends}
use Rattle.yaml_block.specs.{Lines.IsLine, declared.frame.{Next.Next, Collection.Collection, Waits.{Waits, TheVariants.{Item, Key, Value}}}}
use Rattle.yaml_block.specs.declared.{next_line.NextLine.NextLine, line_sign.Sign.{Sign, TheVariants.{Dash, Asked}}, reader.Reader.Reader}
use Rattle.yaml_block.specs.{Frames.{AfterSign, AtLine, AfterPair, waits_of, indent_of}, States.{Holds, Stack, GoesOn, Onward}}
use Rattle.yaml_block.specs.Turns.{IsPart, ItemRead, KeyRead, PairRead, PartRead, Turns, StillPart, Unwound}
use Rattle.yaml_scan.specs.declared.lines.Line.{Line}
use Rattle.yaml_grammar.specs.Events as grammar
use Rattle.yaml_block.specs.declared.frame.Next.TheVariants as next

-- a sign is on the line, after as many spaces
pub record SignHere (bs : List ℕ) (line : Line) (k x : ℕ) : Type 0 where
  pub count : spaces_before (rest bs line.start) ≡ k
  pub place : line.start + k ≡ line.first
  pub spaces : past_spaces (rest bs line.start) ≡ rest bs line.first
  pub here : sign x (rest bs line.first) ≡ true
  pub past_it : IsPastSign bs line.first

-- a byte of a sign is the sign there
pub sign_here : (bs : List ℕ) (line : Line) (k x : ℕ) → IsUtf8 bs → IsLine bs line → x < 128 → line_break x ≡ false
    → (spaces_before (rest bs line.start) == k) && sign x (past_spaces (rest bs line.start)) ≡ true
    → SignHere bs line k x
sign_here bs line k x u l a b h =
    let p : ((spaces_before (rest bs line.start) == k) ≡ true) × (sign x (past_spaces (rest bs line.start)) ≡ true) =
    and_parts _ _ h in
    let count : spaces_before (rest bs line.start) ≡ k = eqb-true _ _ p.0 in
    let s : sign x (rest bs line.first) ≡ true = ap (sign x) (sym (l.spaces).leaves) ∙ p.1 in
    let above : line.start ≤ line.first = (l.spaces).above in
    let counts : spaces_before (rest bs line.start) ≡ line.first - line.start = (l.spaces).counts in
    record {
      count = count;
      place = omega arith;
      spaces = (l.spaces).leaves;
      here = s;
      past_it = past_sign bs line.first x u (l.spaces).boundary a b s;
    }

-- after the sign the next step is further on
pub sign_onward : (bs : List ℕ) (line : Line) (k x : ℕ) (sg : Sign) → SignHere bs line k x
    → Onward bs line.start (3 * (length bs - line.start) + 1) (next.After (line.first + 1) k sg)
sign_onward bs line k x sg s =
    let place : line.start + k ≡ line.first = s.place in
    let below : line.first < length bs = (s.past_it).below in
    record {
      above = omega arith;
      less = omega arith;
      placed = record {
        boundary = (s.past_it).boundary;
        deeper = omega arith;
        inside_line =
            (s.past_it).inside_line;
      };
    }

module _ (W : Read Indented) (text : List ℕ) (from : ℕ) (base : List Event) (fs : List BlockFrame)
    (evs : List grammar.Event) (old new : Reader) (h : Holds text base fs evs old) where
  -- a step that goes on after a sign of its collection, with the same events
  after_sign : (f : BlockFrame) (waits : Waits) (indent : ℕ) (line : Line) (x : ℕ) (sg : Sign)
      → new.collections.items ≡ old.collections.items ++ (record { waits = waits; indent = indent }) ∷ []
      → new.events ≡ old.events
      → waits_of f ≡ waits → indent_of f ≡ indent → SignHere text line indent x
      → (SignHere text line (indent_of f) x
      → AfterSign W text from (f ∷ fs) evs sg (indent_of f) (line.first + 1))
      → GoesOn W text from base new (next.After (line.first + 1) indent sg)
  after_sign f waits indent line x sg c e w i s a = record {
    fs = f ∷ fs;
    evs = evs;
    holds = opened text base fs evs evs old new f (record { waits = waits; indent = indent }) h c
        (record { waits = w; indent = i }) (subst (λ (es : List Event). Appended text base es evs)
        (sym e) h.appended);
    stands = subst (λ j. AfterSign W text from (f ∷ fs) evs sg j (line.first + 1)) i
        (a (subst (λ j. SignHere text line j x) (sym i) s));
  }

  -- a sequence goes on with a `-`
  pub item_next : (indent : ℕ) (line : Line) (end : ℕ) → ItemRead indent W text from fs evs line.start end
      → SignHere text line indent 45
      → new.collections.items ≡ old.collections.items ++ (record { waits = Item; indent = indent }) ∷ []
      → new.events ≡ old.events
      → GoesOn W text from base new (next.After (line.first + 1) indent Dash)
  item_next indent line end p s c e = by_frame p.0 p.1 p.2 p.3
    where
      by_frame : (f : BlockFrame) → waits_of f ≡ Item → indent_of f ≡ indent
          → AtLine W text from (f ∷ fs) evs line.start end
          → GoesOn W text from base new (next.After (line.first + 1) indent Dash)
      by_frame (waits_item sits k done) w i a =
          after_sign (waits_item sits k (done ++ a.part ∷ [])) Item indent line 45 Dash c e refl i s
          (λ t. item_goes_on W text from fs evs sits k done line.start end line.first a t.count t.place t.spaces t.here
          (t.past_it).past_is)
      by_frame (waits_key sits k done) w i a = absurd (let e : ⊥ = cc in e)
      by_frame (waits_value sits k done key) w i a = absurd (let e : ⊥ = cc in e)

  -- a mapping goes on with the `:` of an asked key
  pub value_next : (indent : ℕ) (line : Line) (end : ℕ) → KeyRead indent W text from fs evs line.start end
      → SignHere text line indent 58
      → new.collections.items ≡ old.collections.items ++ (record { waits = Value; indent = indent }) ∷ []
      → new.events ≡ old.events
      → GoesOn W text from base new (next.After (line.first + 1) indent Asked)
  value_next indent line end p s c e = by_frame p.0 p.1 p.2 p.3
    where
      by_frame : (f : BlockFrame) → waits_of f ≡ Key → indent_of f ≡ indent
          → AtLine W text from (f ∷ fs) evs line.start end
          → GoesOn W text from base new (next.After (line.first + 1) indent Asked)
      by_frame (waits_key sits k done) w i a =
          after_sign (waits_value sits k done (key_asked a.part)) Value indent line 58 Asked c e refl i s
          (λ t. value_opens W text from fs evs sits k done line.start end line.first a t.count t.place t.spaces t.here
          (t.past_it).past_is)
      by_frame (waits_item sits k done) w i a = absurd (let e : ⊥ = cc in e)
      by_frame (waits_value sits k done key) w i a = absurd (let e : ⊥ = cc in e)

  -- a step that writes one event and ends a collection
  ends_with : (e : Event) (start end : ℕ) → new.collections ≡ old.collections → new.events ≡ old.events ++ e ∷ []
      → BorrowsPlain text e → new.end ≡ end
      → AtLine W text from fs (evs ++ event_of e ∷ []) start end → IsPart W text from base fs new start
  ends_with e start end c n b q a = record {
    evs = evs ++ event_of e ∷ [];
    holds = record {
      stack = subst (λ v. Stack fs v.items) (sym c) h.stack;
      appended =
          appended_one text base old.events new.events evs e h.appended n b;
    };
    stands = subst (λ j. AtLine W text from fs (evs ++ event_of e ∷ []) start j) (sym q) a;
  }

  -- a sequence ends
  pub item_ends : (indent start end : ℕ) → ItemRead indent W text from fs evs start end
      → (spaces_before (rest text start) == indent) && sign 45 (past_spaces (rest text start)) ≡ false
      → new.collections ≡ old.collections → new.events ≡ old.events ++ SeqEnd ∷ [] → new.end ≡ end
      → IsPart W text from base fs new start
  item_ends indent start end p n c e q = by_frame p.0 p.1 p.2 p.3
    where
      by_frame : (f : BlockFrame) → waits_of f ≡ Item → indent_of f ≡ indent
          → AtLine W text from (f ∷ fs) evs start end → IsPart W text from base fs new start
      by_frame (waits_item sits k done) w i a =
          ends_with SeqEnd start end c e tt q
          (sequence_ends W text from fs evs sits k done start end a
          (subst (λ j. (spaces_before (rest text start) == j) && sign 45 (past_spaces (rest text start)) ≡ false)
          (sym i) n))
      by_frame (waits_key sits k done) w i a = absurd (let e : ⊥ = cc in e)
      by_frame (waits_value sits k done key) w i a = absurd (let e : ⊥ = cc in e)

  -- a mapping ends
  pub pair_ends : (indent start end : ℕ) → AfterPair W text from fs evs indent start end
      → (spaces_before (rest text start) == indent) && not (block_node_stops indent false (rest text start)) ≡ false
      → new.collections ≡ old.collections → new.events ≡ old.events ++ MapEnd ∷ [] → new.end ≡ end
      → IsPart W text from base fs new start
  pair_ends indent start end a n c e q = ends_with MapEnd start end c e tt q
      (mapping_ends W text from fs evs indent start end a n)

-- the key of a pair whose value is left out with its `:`
pub alone_key : (W : Read Indented) (text : List ℕ) (from : ℕ) (fs : List BlockFrame) (evs : List grammar.Event)
    (indent start end : ℕ) → KeyRead indent W text from fs evs start end
    → (spaces_before (rest text start) == indent) && sign 58 (past_spaces (rest text start)) ≡ false
    → AfterPair W text from fs (evs ++ grammar.omitted_at end) indent start end
alone_key W text from fs evs indent start end p n = by_frame p.0 p.1 p.2 p.3
  where
    by_frame : (f : BlockFrame) → waits_of f ≡ Key → indent_of f ≡ indent → AtLine W text from (f ∷ fs) evs start end
        → AfterPair W text from fs (evs ++ grammar.omitted_at end) indent start end
    by_frame (waits_key sits k done) w i a =
        subst (λ j. AfterPair W text from fs (evs ++ grammar.omitted_at end) j start end) i
        (key_alone W text from fs evs sits k done start end a
        (subst (λ j. (spaces_before (rest text start) == j) && sign 58 (past_spaces (rest text start)) ≡ false)
        (sym i) n))
    by_frame (waits_item sits k done) w i a = absurd (let e : ⊥ = cc in e)
    by_frame (waits_value sits k done key) w i a = absurd (let e : ⊥ = cc in e)

-- what is read of a collection, by what it waited for
pub item_of : (W : Read Indented) (text : List ℕ) (from : ℕ) (fs : List BlockFrame) (evs : List grammar.Event)
    (c : Collection) (start end : ℕ) → c.waits ≡ Item
    → PartRead c W text from fs evs start end → ItemRead c.indent W text from fs evs start end
item_of W text from fs evs c start end w p = (p.0, (p.1).waits ∙ w, (p.1).indent, p.2)

-- the open collection that waits for a key
pub key_of : (W : Read Indented) (text : List ℕ) (from : ℕ) (fs : List BlockFrame) (evs : List grammar.Event)
    (c : Collection) (start end : ℕ) → c.waits ≡ Key
    → PartRead c W text from fs evs start end → KeyRead c.indent W text from fs evs start end
key_of W text from fs evs c start end w p = (p.0, (p.1).waits ∙ w, (p.1).indent, p.2)

-- the open collection that waits for a value
pub pair_of : (W : Read Indented) (text : List ℕ) (from : ℕ) (fs : List BlockFrame) (evs : List grammar.Event)
    (c : Collection) (start end : ℕ) → c.waits ≡ Value
    → PartRead c W text from fs evs start end → PairRead c.indent W text from fs evs start end
pair_of W text from fs evs c start end w p = by_frame p.0 ((p.1).waits ∙ w) (p.1).indent p.2
  where
    by_frame : (f : BlockFrame) → waits_of f ≡ Value → indent_of f ≡ c.indent
        → AtLine W text from (f ∷ fs) evs start end → AfterPair W text from fs evs c.indent start end
    by_frame (waits_value sits k done key) w i a = subst (λ j. AfterPair W text from fs evs j start end) i
        (value_read W text from fs evs sits k done key start end a)
    by_frame (waits_item sits k done) w i a = absurd (let e : ⊥ = cc in e)
    by_frame (waits_key sits k done) w i a = absurd (let e : ⊥ = cc in e)

-- ---- a further pair

-- a pair goes on at the line
pub record PairHere (bs : List ℕ) (line : Line) (k : ℕ) : Type 0 where
  pub place : line.start + k ≡ line.first
  pub spaces : past_spaces (rest bs line.start) ≡ rest bs line.first
  pub starts : line_starts bs line.first ≡ (k == 0)

not_empty : (k : ℕ) (text : List ℕ) → not (block_node_stops k false text) ≡ true → is_empty text ≡ false
not_empty k [] h = absurd (false≢true h)
not_empty k (c ∷ cs) h = refl

-- a further pair is on the line
pub pair_here : (bs : List ℕ) (line : Line) (k : ℕ) → IsUtf8 bs → IsLine bs line
    → (spaces_before (rest bs line.start) == k) && not (block_node_stops k false (rest bs line.start)) ≡ true
    → PairHere bs line k
pair_here bs line k u l h =
    let p : ((spaces_before (rest bs line.start) == k) ≡ true) × (not (block_node_stops k false (rest bs line.start)) ≡ true) =
    and_parts _ _ h in
    let count : spaces_before (rest bs line.start) ≡ k = eqb-true _ _ p.0 in
    let above : line.start ≤ line.first = (l.spaces).above in
    let counts : spaces_before (rest bs line.start) ≡ line.first - line.start = (l.spaces).counts in
    record {
      place = omega arith;
      spaces = (l.spaces).leaves;
      starts = pair_starts bs line.start line.first k u l.boundary (l.spaces).boundary l.starts
          (not_empty k (rest bs line.start) p.1) count (l.spaces).leaves;
    }

-- at the pair the next step is further on
pub pair_onward : (bs : List ℕ) (line : Line) (k : ℕ) → IsLine bs line → PairHere bs line k
    → Onward bs line.start (3 * (length bs - line.start) + 1) (next.Pair line.first k)
pair_onward bs line k l p =
    let place : line.start + k ≡ line.first = p.place in
    record {
      above = omega arith;
      less = omega arith;
      placed = record { boundary = (l.spaces).boundary; deep = omega arith };
    }

-- a mapping goes on with a further pair
pub pair_next : (W : Read Indented) (text : List ℕ) (from : ℕ) (base : List Event) (fs : List BlockFrame)
    (evs : List grammar.Event) (reader : Reader) (k : ℕ) (line : Line) (end : ℕ)
    → Holds text base fs evs reader → AfterPair W text from fs evs k line.start end
    → (spaces_before (rest text line.start) == k) && not (block_node_stops k false (rest text line.start)) ≡ true
    → PairHere text line k → GoesOn W text from base reader (next.Pair line.first k)
pair_next W text from base fs evs reader k line end h a t p = record {
  fs = fs;
  evs = evs;
  holds = h;
  stands = pair_goes_on W text from fs evs k line.start end line.first a t p.place p.spaces p.starts;
}

-- the reader after a value is left out
pub left_out : (text : List ℕ) (base : List Event) (fs : List BlockFrame) (evs : List grammar.Event)
    (old new : Reader) (e : Event) (end : ℕ) → Holds text base fs evs old
    → new.collections ≡ old.collections → new.events ≡ old.events ++ e ∷ []
    → event_of e ≡ grammar.scalar_event grammar.omitted_style end end [] → BorrowsPlain text e
    → Holds text base fs (evs ++ grammar.omitted_at end) new
left_out text base fs evs old new e end h c n m b = record {
  stack = subst (λ v. Stack fs v.items) (sym c) h.stack;
  appended = subst (λ x. Appended text base new.events (evs ++ x ∷ [])) m
      (appended_one text base old.events new.events evs e h.appended n b);
}

-- ---- the walk over the open collections

turned : (W : Read Indented) (text : List ℕ) (from : ℕ) (base : List Event) (start : ℕ) (now mid : Reader)
    (c : Collection) → now.collections.items ≡ mid.collections.items ++ c ∷ []
    → mid.events ≡ now.events → mid.end ≡ now.end → Unwound W text from base now start
    → (gs : List BlockFrame) × (es : List grammar.Event) × Holds text base gs es mid
    × PartRead c W text from gs es start mid.end
turned W text from base start now mid c i e q p =
    let part : IsPart W text from base p.fs now start = p.part in
    let top : Popped p.fs mid.collections.items c = popped p.fs now.collections.items mid.collections.items c
    (part.holds).stack i in (
      top.others,
      part.evs,
      record {
        stack = top.stack;
        appended = subst (λ (es : List Event). Appended text base es part.evs) (sym e)
            (part.holds).appended;
      },
      (
        top.frame,
        top.keeps,
        subst (λ j. AtLine W text from (top.frame ∷ top.others) part.evs start j) (sym q)
            (subst (λ gs. AtLine W text from gs part.evs start now.end) top.is part.stands),
      ),
    )

-- a collection that goes on leads to the next step
pub unwinds_on : (text : List ℕ) (after : NextLine) (first now mid new : Reader) (c : Collection) (next : Option Next)
    (to : Next) → StillPart text after.line.start first now
    → now.collections.items ≡ mid.collections.items ++ c ∷ [] → mid.events ≡ now.events → mid.end ≡ now.end
    → Turns (PartRead c) text after mid new next → next ≡ Some to
    → (W : Read Indented) (from : ℕ) (base : List Event) (fs : List BlockFrame) (evs : List grammar.Event)
    → Holds text base fs evs first
    → AtLine W text from fs evs after.line.start first.end → GoesOn W text from base new to
unwinds_on text after first now mid new c next to s i e q t n W from base fs evs h a =
    let p = turned W text from base after.line.start now mid c i e q (s W from base fs evs h a) in
    let all : Turns (PartRead c) text after mid new (Some to) =
    subst (λ x. Turns (PartRead c) text after mid new x) n t in
    all W from base p.0 p.1 p.2 p.3

-- a collection that ends is the part of the one around it
pub unwinds_more : (text : List ℕ) (after : NextLine) (first now mid new : Reader) (c : Collection)
    (next : Option Next) → StillPart text after.line.start first now
    → now.collections.items ≡ mid.collections.items ++ c ∷ [] → mid.events ≡ now.events → mid.end ≡ now.end
    → Turns (PartRead c) text after mid new next → next ≡ None
    → StillPart text after.line.start first new
unwinds_more text after first now mid new c next s i e q t n W from base fs evs h a =
    let p = turned W text from base after.line.start now mid c i e q (s W from base fs evs h a) in
    let all : Turns (PartRead c) text after mid new None = subst (λ x. Turns (PartRead c) text after mid new x) n t in
    record { fs = p.0; part = all W from base p.0 p.1 p.2 p.3 }

-- when all have ended, the node is read
pub unwinds_all : (text : List ℕ) (start : ℕ) (first now mid : Reader) → StillPart text start first now
    → length now.collections.items ≡ 0
    → mid.collections.items ≡ [] → mid.events ≡ now.events → mid.end ≡ now.end
    → (W : Read Indented) (from : ℕ) (base : List Event) (fs : List BlockFrame) (evs : List grammar.Event)
    → Holds text base fs evs first
    → AtLine W text from fs evs start first.end → IsPart W text from base [] mid start
unwinds_all text start first now mid s l i e q W from base fs evs h a =
    let p : Unwound W text from base now start = s W from base fs evs h a in
    let part : IsPart W text from base p.fs now start = p.part in
    let none : p.fs ≡ [] = emptied p.fs now.collections.items (part.holds).stack l in
    record {
      evs = part.evs;
      holds = record {
        stack = i;
        appended = subst (λ (es : List Event). Appended text base es part.evs) (sym e)
            (part.holds).appended;
      };
      stands = subst (λ j. AtLine W text from [] part.evs start j) (sym q)
          (subst (λ gs. AtLine W text from gs part.evs start now.end) none part.stands);
    }

-- before the first step the reader has read its part
pub still_first : (text : List ℕ) (start : ℕ) (first : Reader) → StillPart text start first first
still_first text start first W from base fs evs h a =
    record { fs = fs; part = record { evs = evs; holds = h; stands = a } }

-- a list of length 0 is empty
pub no_items : {A : Type 0} (xs : List A) → length xs ≡ 0 → xs ≡ []
no_items [] l = refl
no_items (x ∷ xs) l = absurd (omega (arith, l))
