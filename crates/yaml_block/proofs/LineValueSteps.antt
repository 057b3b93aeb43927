-- The steps of the reader at a value that is the rest of its line.
use Rattle.std.proofs.{Common.{ap, append_assoc, arith, inl, length, refl, subst, sym, ◌<◌, ◌∙◌, ◌≡◌, ◌≤◌}, Math.Seq.drop-append_seam}
use Rattle.std.{proofs.Math.Seq.take-append_seam, specs.Prelude.{Bool, IfSome, List, None, Option, Some, [], false, nat_le, true, ℕ, ◌*◌}}
use Rattle.std.specs.Prelude.{◌++◌, ◌+◌, ◌-◌, ◌∷◌, ◌&&◌, insert}
use Rattle.yaml_block.proofs.Prelude.{IsCharBoundary, IsUtf8, and_from, false≢true, list_all, no_break, white, between, rest, Indented}
use Rattle.yaml_block.proofs.Prelude.{plain_style, flow_events, flow_text, block_key, outer, byte_len, first, BlockFrame, all_comments}
use Rattle.yaml_block.proofs.Prelude.{closes_line, read_line_end, solid, drop_while, sign, take_while, Read, take_while_every}
use Rattle.yaml_block.proofs.Prelude.{take_while_split, sign_head, sign_solid, no_line_no_join, no_more_lines, solid_no_line, line_starts}
use Rattle.yaml_block.proofs.Prelude.{Event, MapStart, AreTaken, is_sign, IsSign, sign_there, no_comments_at, open_line, IsFirstLine}
use Rattle.yaml_block.proofs.{Prelude.{NoNextLine, ends_inside_line, FlowNodeRead}, LeafSteps.leaf_read, PlaceSteps.{comments_to, flow_to}}
use Rattle.yaml_block.proofs.{PlainStarts.plain_start, SignsAndLines.{leaf_there, onward_from}, Stacks.{appended_before, appended_more}}
use Rattle.yaml_block.proofs.{TextPlaces.{IsPastSign, past_sign}, UnwindSteps.pair_of, KeysAndPairs.{key_waits, leaf_key, leaf_line}}
use Rattle.yaml_block.{proofs.KeysAndPairs.leaf_waits, specs.{Frames.{AfterPair, AtLeaf, AtLine}, Lines.IsNextLine}}
use Rattle.yaml_block.specs.declared.frame.{Collection.Collection, Leaf.Leaf, Next.Next, Waits.TheVariants.Value}
use Rattle.yaml_block.specs.declared.{line_sign.Sign.TheVariants.Colon, line_value.LineValue.LineValue, next_line.NextLine.NextLine}
use Rattle.yaml_block.specs.{declared.reader.Reader.Reader, Turns.{IsPart, MayGoOn, PairRead, Turns}, LineValues.{IsFirstKey, IsLeadIn}}
use Rattle.yaml_block.specs.{LineValues.{IsLineValue, IsPlainLine, IsRestOfLine}, States.{BeforeColon, BeforeLeaf, BeforeLineValue, Holds}}
use Rattle.{yaml_block.specs.States.{IsAfterSign, Leads, Onward, Stack}, yaml_recognizers.proofs.Basics.Breaks.unbroken}
use Rattle.yaml_recognizers.{proofs.Scalars.JoinSteps.no_break as no_break_joins, specs.Joins.read_join}
use Rattle.yaml_scan.{specs.declared.lines.Line.Line, proofs.GapSteps.{no_white_taken, solid_no_end, space_taken}}
use Rattle.yaml_flow_scalars.proofs.PlainLines.{key_no_line}
use Rattle.yaml_grammar.specs.Events as grammar
use Rattle.yaml_block.specs.declared.frame.Next.TheVariants as next

-- where a line ends after whitespace and a comment, no `:` follows the whitespace
no_colon : (t : List ℕ) → closes_line (all_comments false t) ≡ true → sign 58 (drop_while white t) ≡ false
no_colon [] c = refl
no_colon (x ∷ xs) c = by_cases (sign 58 (drop_while white (x ∷ xs))) refl
  where
    by_cases : (b : Bool) → sign 58 (drop_while white (x ∷ xs)) ≡ b → sign 58 (drop_while white (x ∷ xs)) ≡ false
    by_cases false e = e
    by_cases true e =
        let none : read_line_end false (x ∷ xs) ≡ None =
        ap (read_line_end false) (take_while_split white (x ∷ xs))
        ∙ solid_no_line false (take_while white (x ∷ xs)) (drop_while white (x ∷ xs))
        (take_while_every white (x ∷ xs)) (sign_solid 58 (drop_while white (x ∷ xs)) refl e) in
        absurd (false≢true (sym (ap closes_line (no_comments_at false (x ∷ xs) none)) ∙ c))

-- nothing is joined to a line that goes on with a `:`
colon_no_join : (n : ℕ) (t : List ℕ) → read_join false n (58 ∷ t) ≡ None
unfolding read_join
colon_no_join n t = no_break_joins false n [] (58 ∷ t) (unbroken (58 ∷ t) refl)

-- what stands before further events is put in before them
inserted : (old more : List Event) (e : Event) → (old ++ e ∷ []) ++ more ≡ insert (old ++ more) (length old) e
inserted old more e = rw (take-append_seam old more, drop-append_seam old more) (append_assoc old (e ∷ []) more)

module _ (text : List ℕ) (u : IsUtf8 text) where
  -- the first line of a plain scalar is the whole scalar where it is a key
  pub first_line_key : (at end : ℕ) → IsCharBoundary text at → IsFirstLine block_key text at end
      → IsPlainLine 0 block_key text at end
  first_line_key at end b f =
      let whole = f.whole 0 (key_no_line 0 block_key text end refl) in
      record {
        scalar = whole;
        unbroken = f.unbroken;
        inside_line = ends_inside_line plain_style 0 block_key text at (between text at end) end u b whole;
      }

  -- after one space something solid goes on with the line
  pub lead_in : (at : ℕ) → IsCharBoundary text at → first (is_sign 32) (rest text at) ≡ true
      → first solid (rest text (at + 1)) ≡ true → IsLeadIn text at (at + 1)
  lead_in at b space s =
      let there : IsSign text at 32 = sign_there text at 32 u b (omega arith) space in
      let taken : AreTaken white text at (at + 1) = space_taken text at u b there.boundary there.splits s in
      record {
        above = omega arith;
        white = taken;
        goes_on = open_line text at u b there.below (solid_no_end text at (at + 1) u b taken s);
      }

  -- after one space the rest of the line is read
  pub lead_to : (at n : ℕ) (found : Option LineValue) → IsCharBoundary text at
      → first (is_sign 32) (rest text at) ≡ true → IfSome found (IsRestOfLine text n)
      → IfSome found (λ value. value.start ≡ at + 1) → IfSome found (λ value. IsLeadIn text at value.start)
  lead_to at n (Some value) b space f s =
      let start = plain_start n outer text value.start value.end _ f.plain.scalar in
      subst (λ (j : ℕ). IsLeadIn text at j) (sym s)
      (lead_in at b space (subst (λ (j : ℕ). first solid (rest text j) ≡ true) s start.solid_is))
  lead_to at n None b space f s = f

  -- the place after the `:` and the space
  pub past_space : (at : ℕ) → IsCharBoundary text at → first (is_sign 58) (rest text at) ≡ true
      → first (is_sign 32) (rest text (at + 1)) ≡ true → IsCharBoundary text (at + 1 + 1)
  past_space at b c space =
      let there : IsSign text at 58 = sign_there text at 58 u b (omega arith) c in
      (sign_there text (at + 1) 32 u there.boundary (omega arith) space).boundary

  -- a `:` before a space is a sign
  pub spaced_colon : (at : ℕ) → IsCharBoundary text at → first (is_sign 58) (rest text at) ≡ true
      → first (is_sign 32) (rest text (at + 1)) ≡ true → sign 58 (rest text at) ≡ true
  spaced_colon at b c space =
      let there : IsSign text at 58 = sign_there text at 58 u b (omega arith) c in
      let next : IsSign text (at + 1) 32 = sign_there text (at + 1) 32 u there.boundary (omega arith) space in
      ap (sign 58) (there.splits ∙ ap (λ r. 58 ∷ r) next.splits)

  -- and so is one at the end of its line
  pub closing_colon : (at : ℕ) → IsCharBoundary text at → first (is_sign 58) (rest text at) ≡ true
      → first (is_sign 10) (rest text (at + 1)) ≡ true → sign 58 (rest text at) ≡ true
  closing_colon at b c feed =
      let there : IsSign text at 58 = sign_there text at 58 u b (omega arith) c in
      let next : IsSign text (at + 1) 10 = sign_there text (at + 1) 10 u there.boundary (omega arith) feed in
      ap (sign 58) (there.splits ∙ ap (λ r. 58 ∷ r) next.splits)

  -- the place after the `:`
  pub after_colon : (at colon k : ℕ) → IsCharBoundary text colon → sign 58 (rest text colon) ≡ true → k ≤ at
      → at ≤ colon → IsAfterSign text k (colon + 1)
  after_colon at colon k b c deep below =
      let s : IsPastSign text colon = past_sign text colon 58 u b (omega arith) refl c in
      record { boundary = s.boundary; deeper = omega (arith, deep, below); inside_line = s.inside_line }

  -- after the key of a further pair its value is the rest of the line
  pub pair_value : (at k end start : ℕ) (old new : Reader) (to : Next) → IsCharBoundary text at
      → IsCharBoundary text end → k ≤ at → at < end → sign 58 (rest text end) ≡ true
      → nat_le (length (between text at end)) 1024 ≡ true → IsLeadIn text (end + 1) start
      → Leads text (BeforeLineValue text k start) old new to → Leads text (BeforeColon text k at end) old new to
  pair_value at k end start old new to b d deep far c short lead l = λ W from base fs evs held h.
      let taken : AreTaken white text end end = no_white_taken text end d (sign_solid 58 (rest text end) refl c) in
      let placed : IsAfterSign text k (end + 1) = after_colon at end k d c deep (omega (arith, far)) in
      let p = key_waits text u at k end end b d taken c short W from fs evs h in
      let leaf : AtLeaf W text from (p.0 ∷ fs) evs (k + 1) None start =
      leaf_there text Colon k (end + 1) u placed lead.goes_on start lead.white lead.above (inl refl) W from
      (p.0 ∷ fs) evs p.3 in
      l W from base fs evs held (p.0, p.1, p.2, leaf)

  -- after the first key of a mapping its value is the rest of the line
  pub leaf_value : (leaf : Leaf) (k end colon start : ℕ) (old mid new : Reader) (keys : List Event) (to : Next)
      → leaf.pairs ≡ Some k → k ≤ leaf.at → IsCharBoundary text leaf.at
      → FlowNodeRead leaf.least outer text leaf.at end old.events keys → AreTaken white text end colon
      → sign 58 (rest text colon) ≡ true
      → list_all no_break (between text leaf.at end) && nat_le (length (between text leaf.at colon)) 1024 ≡ true
      → mid.collections ≡ old.collections → mid.events ≡ insert keys (length old.events) MapStart
      → IsLeadIn text (colon + 1) start
      → Leads text (BeforeLineValue text k start) mid new to → Leads text (BeforeLeaf text leaf) old new to
  leaf_value leaf k end colon start old mid new keys to n deep b f t c fits i e lead l =
      λ W from base fs evs held here.
      let p = leaf_waits text u leaf k end colon old.events keys n b f t c fits W from fs evs here in
      let es : List grammar.Event = evs ++ grammar.map_start ∷ flow_events f.node leaf.at in
      let placed : IsAfterSign text k (colon + 1) = after_colon leaf.at colon k t.boundary c deep
      (omega (arith, f.above, t.above)) in
      let value : AtLeaf W text from (p.0 ∷ fs) es (k + 1) None start =
      leaf_there text Colon k (colon + 1) u placed lead.goes_on start lead.white lead.above (inl refl) W from
      (p.0 ∷ fs) es p.3 in
      l W from base fs es
      (record {
        stack = subst (λ (v : List Collection). Stack fs v) (sym (ap (λ v. v.items) i)) held.stack;
        appended = appended_before text base old.events keys mid.events evs (flow_events f.node leaf.at) held.appended
            f.appended e;
      })
      (p.0, p.1, p.2, value)

  -- before a `:` no further line of a plain scalar comes
  colon_no_line : (n end : ℕ) → sign 58 (rest text end) ≡ true → NoNextLine n outer text end
  colon_no_line n end c =
      let head = sign_head 58 (rest text end) c in
      no_more_lines n outer (rest text end)
      (no_line_no_join n outer (rest text end) (ap (read_join false n) head.1 ∙ colon_no_join n head.0))

  -- the first line of a plain scalar is the whole scalar where a `:` follows it
  pub plain_before_colon : (n at end : ℕ) → IsCharBoundary text at → IsFirstLine outer text at end
      → sign 58 (rest text end) ≡ true → IsPlainLine n outer text at end
  plain_before_colon n at end b f c =
      let whole = f.whole n (colon_no_line n end c) in
      record {
        scalar = whole;
        unbroken = f.unbroken;
        inside_line = ends_inside_line plain_style n outer text at (between text at end) end u b whole;
      }

  -- the first key is read after the start of its mapping, as if the start were put in before it
  first_key_read : (leaf : Leaf) (end : ℕ) (old opened mid : Reader) → opened.events ≡ old.events ++ MapStart ∷ []
      → FlowNodeRead leaf.least outer text leaf.at end opened.events mid.events
      → (keys : List Event) × FlowNodeRead leaf.least outer text leaf.at end old.events keys
      × (mid.events ≡ insert keys (length old.events) MapStart)
  first_key_read leaf end old opened mid e key =
      let more : List Event = key.appended.more in (
        old.events ++ more,
        record {
          above = key.above;
          boundary = key.boundary;
          within = key.within;
          inside_line = key.inside_line;
          node = key.node;
          found = key.found;
          appended = record { more = more; is = refl; means = key.appended.means; borrows = key.appended.borrows };
        },
        key.appended.is ∙ (ap (λ es. es ++ more) e ∙ inserted old.events more MapStart),
      )

  module _ (leaf : Leaf) (k end : ℕ) (old opened mid : Reader) (n : leaf.pairs ≡ Some k)
      (b : IsCharBoundary text leaf.at) (f : IsFirstKey text leaf.at end)
      (i : opened.collections ≡ old.collections) (e : opened.events ≡ old.events ++ MapStart ∷ [])
      (j : mid.collections ≡ opened.collections)
      (key : FlowNodeRead leaf.least outer text leaf.at end opened.events mid.events) where
    -- after the first key of a mapping its value is the rest of the line
    pub first_key_value : (start : ℕ) (new : Reader) (to : Next) → k ≤ leaf.at → IsLeadIn text (end + 1) start
        → Leads text (BeforeLineValue text k start) mid new to → Leads text (BeforeLeaf text leaf) old new to
    first_key_value start new to deep lead l =
        let read = first_key_read leaf end old opened mid e key in
        leaf_value leaf k end end start old mid new read.0 to n deep b read.1
        (no_white_taken text end f.line.boundary (sign_solid 58 (rest text end) refl f.colon)) f.colon
        (and_from _ _ f.line.unbroken f.short) (j ∙ i) read.2 lead l

    -- after the first key of a mapping its value is read next
    pub first_key_waits : (new : Reader)
        → new.collections.items ≡ mid.collections.items ++ (record { waits = Value; indent = k }) ∷ []
        → new.events ≡ mid.events → Leads text (BeforeLeaf text leaf) old new (next.After (end + 1) k Colon)
    first_key_waits new w same =
        let read = first_key_read leaf end old opened mid e key in
        leaf_key text u leaf k end end old new read.0 n b read.1
        (no_white_taken text end f.line.boundary (sign_solid 58 (rest text end) refl f.colon)) f.colon
        (and_from _ _ f.line.unbroken f.short)
        (w ∙ ap (λ v. v.items ++ (record { waits = Value; indent = k }) ∷ []) (j ∙ i)) (same ∙ read.2)

  -- a leaf is the rest of its line
  pub leaf_is_line : (leaf : Leaf) (value : LineValue) (old new : Reader) → value.start ≡ leaf.at
      → IsRestOfLine text leaf.least value
      → FlowNodeRead leaf.least outer text leaf.at value.end old.events new.events
      → new.collections ≡ old.collections → new.end ≡ value.end
      → Leads text (BeforeLeaf text leaf) old new
      (next.Line (record { line = value.after; is_solid = true }))
  leaf_is_line leaf value old new s v f i d =
      leaf_line text u leaf value.end value.after old new new.events
      (subst (λ (j : ℕ). IsCharBoundary text j) s v.boundary) f (no_colon (rest text value.end) v.closes) v.line
      v.closes i refl d

  -- the value is read, and so is the pair
  pub value_read : (k : ℕ) (value : LineValue) (old mid : Reader) → IsLineValue text k value
      → FlowNodeRead (k + 1) outer text value.start value.end old.events mid.events
      → mid.collections ≡ old.collections → mid.end ≡ value.end
      → (W : Read Indented) (from : ℕ) (base : List Event) (fs : List BlockFrame) (evs : List grammar.Event)
      → Holds text base fs evs old → BeforeLineValue text k value.start W from fs evs
      → (es : List grammar.Event) × Holds text base fs es mid × AfterPair W text from fs es k value.after.start mid.end
  value_read k value old mid v f i d W from base fs evs held b =
      let start : ℕ = value.start in
      let es : List grammar.Event = evs ++ flow_events f.node start in
      let key : BlockFrame = b.0 in
      let len : start + byte_len (flow_text f.node) ≡ value.end =
      (flow_to text start value.end f.node (k + 1) outer (line_starts text start) u v.boundary f.boundary f.found).0 in
      let read : AtLine W text from (key ∷ fs) es value.after.start value.end =
      leaf_read W text from (key ∷ fs) evs (k + 1) None start f.node value.end value.after.start b.3 f.found len
      (no_colon (rest text value.end) v.closes) v.closes (v.line).leaves
      (comments_to text value.end value.after.start false u f.boundary (v.line).boundary (v.line).leaves).0 in
      let pair : AfterPair W text from fs es k value.after.start value.end =
      pair_of W text from fs es (record { waits = Value; indent = k }) value.after.start value.end refl
      (key, record { waits = b.1; indent = b.2 }, read) in (
        es,
        record {
          stack = subst (λ (v : List Collection). Stack fs v) (sym (ap (λ v. v.items) i)) held.stack;
          appended = appended_more text base old.events mid.events evs (flow_events f.node start) held.appended
              f.appended;
        },
        subst (λ j. AfterPair W text from fs es k value.after.start j) (sym d) pair,
      )

  -- a further pair follows on a later line
  pub value_goes_on : (k : ℕ) (value : LineValue) (after : NextLine) (old mid new : Reader) (found : Option Next)
      (to : Next) → after.line ≡ value.after → IsLineValue text k value
      → FlowNodeRead (k + 1) outer text value.start value.end old.events mid.events
      → mid.collections ≡ old.collections → mid.end ≡ value.end
      → Turns (PairRead k) text after mid new found → found ≡ Some to
      → Leads text (BeforeLineValue text k value.start) old new to
  value_goes_on k value after old mid new found to a v f i d t n = λ W from base fs evs held b.
      let p = value_read k value old mid v f i d W from base fs evs held b in
      let all : Turns (PairRead k) text after mid new (Some to) =
      subst (λ x. Turns (PairRead k) text after mid new x) n t in
      all W from base fs p.0 p.1
      (subst (λ (l : Line). AfterPair W text from fs p.0 k l.start mid.end) (sym a) p.2)

  -- no further pair follows
  pub value_ends : (k : ℕ) (value : LineValue) (after : NextLine) (old mid new : Reader) (found : Option Next)
      → after.line ≡ value.after → IsLineValue text k value
      → FlowNodeRead (k + 1) outer text value.start value.end old.events mid.events
      → mid.collections ≡ old.collections → mid.end ≡ value.end
      → Turns (PairRead k) text after mid new found → found ≡ None
      → Leads text (BeforeLineValue text k value.start) old new (next.Line after)
  value_ends k value after old mid new found a v f i d t n = λ W from base fs evs held b.
      let p = value_read k value old mid v f i d W from base fs evs held b in
      let all : Turns (PairRead k) text after mid new None =
      subst (λ x. Turns (PairRead k) text after mid new x) n t in
      let part : IsPart W text from base fs new after.line.start = all W from base fs p.0 p.1
      (subst (λ (l : Line). AfterPair W text from fs p.0 k l.start mid.end) (sym a) p.2) in
      record { fs = fs; evs = part.evs; holds = part.holds; stands = part.stands }

-- ---- places

-- the line after the scalar is a next line
line_placed : (text : List ℕ) (n : ℕ) (value : LineValue) → IsRestOfLine text n value
    → IsNextLine text (record { line = value.after; is_solid = true })
line_placed text n value v = record {
  line = record { boundary = (v.line).boundary; spaces = (v.line).spaces; starts = v.starts };
  solid = (v.line).solid;
}

-- the line after the scalar is further on
pub line_onward : (text : List ℕ) (value : LineValue) (n : ℕ) → IsRestOfLine text n value
    → Onward text value.start (3 * (length text - value.start))
    (next.Line (record { line = value.after; is_solid = true }))
line_onward text value n v =
    let long = ((v.plain).scalar).above in
    let after = (v.line).above in
    let within = (v.line).boundary.0 in
    record {
      above = omega (arith, long, after);
      less = omega (arith, long, after, within);
      placed = line_placed text n value v;
    }

-- and so is a pair on it
pub further : (text : List ℕ) (value : LineValue) (after : NextLine) (k : ℕ) (found : Option Next) (to : Next)
    → IsLineValue text k value → after.line ≡ value.after → MayGoOn text after.line.start found → found ≡ Some to
    → Onward text value.start (3 * (length text - value.start)) to
further text value after k found to v a m n =
    let long = ((v.plain).scalar).above in
    let next_line = (v.line).above in
    let within = (v.line).boundary.0 in
    onward_from text value.start value.after.start (3 * (length text - value.after.start) + 1)
    (3 * (length text - value.start)) to (omega (arith, long, next_line)) (omega (arith, long, next_line, within))
    (subst (λ (l : Line). Onward text l.start (3 * (length text - l.start) + 1) to) a
    (subst (λ (x : Option Next). MayGoOn text after.line.start x) n m))
