-- What the scanners of lines and flow nodes say of places of a text, in the words of the steps.
use Rattle.std.{proofs.Common.{ap, arith, inl, inr, length, refl, sym, ◌<◌, ◌∙◌, ◌≡◌}, specs.Prelude.{Bool, List, Some, [], false, nat_le}}
use Rattle.std.specs.Prelude.{true, ℕ, ◌++◌, ◌+◌, ◌∷◌}
use Rattle.yaml_block.proofs.Prelude.{IsCharBoundary, IsUtf8, and_parts, cases_Bool, false≢true, nat_tests, no_break, line_break, white}
use Rattle.yaml_block.proofs.Prelude.{between, rest, between-append, same_place, Flow, flow_text, short_key, FlowContext, LineEnd}
use Rattle.yaml_block.proofs.Prelude.{comments_text, list_all, byte_len, first, is_empty, starts_line, all_comments, drop_while, take_while}
use Rattle.yaml_block.proofs.Prelude.{flow_node_at, all_sound, stands, take_while_every, unbroken, line_starts, AreSpaces, AreTaken}
use Rattle.yaml_block.proofs.{BlockSigns.{untabbed, white_starts}, TextPlaces.{between_is, comments_unmarked, spelled, starts_over}}
use Rattle.yaml_block.proofs.TextPlaces.{white_inside, white_spelled}

-- ---- white space

-- white space goes from one place to another
pub record WhiteTo (bs : List ℕ) (at end : ℕ) : Type 0 where
  pub place : at + byte_len (take_while white (rest bs at)) ≡ end
  pub drops : drop_while white (rest bs at) ≡ rest bs end
  pub starts : starts_line (line_starts bs at) (take_while white (rest bs at)) ≡ line_starts bs end
  pub stop : first white (rest bs end) ≡ false
  pub some : at < end → is_empty (take_while white (rest bs at)) ≡ false
  pub none : end ≡ at → first white (rest bs at) ≡ false
  pub inside : line_starts bs at ≡ false → line_starts bs end ≡ false
  pub inside_after : at < end → line_starts bs end ≡ false

drop_while_stop : (test : ℕ → Bool) (text : List ℕ) → first test (drop_while test text) ≡ false
drop_while_stop test [] = refl
drop_while_stop test (c ∷ cs) = elim (cases_Bool (test c)) [
  | inl e ↦ rw e (drop_while_stop test cs)
  | inr e ↦ ap (first test) (kept e) ∙ e
]
  where
    kept : test c ≡ false → drop_while test (c ∷ cs) ≡ c ∷ cs
    kept e = rw e refl

some_last : (bol : Bool) (xs : List ℕ) → list_all white xs ≡ true → is_empty xs ≡ false → starts_line bol xs ≡ false
some_last bol [] h n = absurd (false≢true (sym n))
some_last bol (x ∷ xs) h n =
    let p : (white x ≡ true) × (list_all white xs ≡ true) = and_parts _ _ h in
    ap (λ b. starts_line b xs) (unbroken_white x p.0) ∙ white_starts xs p.1
  where
    unbroken_white : (x : ℕ) → white x ≡ true → line_break x ≡ false
    unbroken_white x h = grind (arith, nat_tests)

-- whitespace up to a place, over the characters
pub white_to : (bs : List ℕ) (at end : ℕ) → IsUtf8 bs → IsCharBoundary bs at → AreTaken white bs at end
    → WhiteTo bs at end
white_to bs at end u b t =
    let s : (at + byte_len (take_while white (rest bs at)) ≡ end)
    × (starts_line (line_starts bs at) (take_while white (rest bs at)) ≡ line_starts bs end) =
    white_spelled bs at end u b t.boundary t.leaves in
    let stop : first white (rest bs end) ≡ false = ap (first white) (sym t.leaves)
    ∙ drop_while_stop white (rest bs at) in
    let some : at < end → is_empty (take_while white (rest bs at)) ≡ false = λ l.
    filled (take_while white (rest bs at)) s.0 l in
    record {
      place = s.0;
      drops = t.leaves;
      starts = s.1;
      stop = stop;
      some = some;
      none = λ e. ap (λ i. first white (rest bs i)) (sym e) ∙ stop;
      inside = λ n. white_inside bs at end u b t.boundary n t.leaves;
      inside_after = λ l. sym s.1 ∙ some_last (line_starts bs at) (take_while white (rest bs at))
          (take_while_every white (rest bs at)) (some l);
    }
  where
    filled : (xs : List ℕ) → at + byte_len xs ≡ end → at < end → is_empty xs ≡ false
    filled [] p l = absurd (omega (arith, p, l))
    filled (x ∷ xs) p l = refl

-- ---- comments

-- comments up to the next solid line, over the characters
pub comments_to : (bs : List ℕ) (at start : ℕ) (bol : Bool) → IsUtf8 bs → IsCharBoundary bs at
    → IsCharBoundary bs start → (all_comments bol (rest bs at)).1 ≡ rest bs start
    → (at + byte_len (comments_text (all_comments bol (rest bs at)).0) ≡ start)
    × (starts_line (line_starts bs at) (comments_text (all_comments bol (rest bs at)).0) ≡ line_starts bs start)
comments_to bs at start bol u b d e =
    let comments : List LineEnd = (all_comments bol (rest bs at)).0 in
    let t : rest bs at ≡ comments_text comments ++ rest bs start = (all_sound bol (rest bs at)).0
    ∙ ap (λ x. comments_text comments ++ x) e in (
      spelled bs at start (comments_text comments) u b d t,
      starts_over bs at start (comments_text comments) u b d t
          (comments_unmarked bol (rest bs at)),
    )

-- ---- spaces

-- if the whitespace ends where the spaces do, there is no TAB
pub no_tab : (bs : List ℕ) (at sp lead : ℕ) → AreSpaces bs at sp → WhiteTo bs at lead → sp ≡ lead
    → first white (rest bs sp) ≡ false
no_tab bs at sp lead s w e = ap (λ i. first white (rest bs i)) e ∙ w.stop

-- else there is one
pub tab : (bs : List ℕ) (at sp lead : ℕ) → IsUtf8 bs → IsCharBoundary bs at → AreSpaces bs at sp
    → AreTaken white bs at lead → sp < lead → first white (rest bs sp) ≡ true
tab bs at sp lead u b s t l = by_cases (first white (rest bs sp)) refl
  where
    by_cases : (x : Bool) → first white (rest bs sp) ≡ x → first white (rest bs sp) ≡ true
    by_cases true e = e
    by_cases false e =
        let same : rest bs sp ≡ rest bs lead = sym s.leaves
        ∙ (sym (untabbed (rest bs at) (ap (first white) s.leaves ∙ e)) ∙ t.leaves) in
        let i : sp ≡ lead = same_place bs sp lead u s.boundary t.boundary same in
        absurd (omega (arith, i, l))

-- ---- flow nodes

-- a flow node up to a place, over the characters
pub flow_to : (bs : List ℕ) (at end : ℕ) (f : Flow) (n : ℕ) (c : FlowContext) (bol : Bool) → IsUtf8 bs
    → IsCharBoundary bs at → IsCharBoundary bs end
    → flow_node_at n c bol (rest bs at) ≡ Some (f, rest bs end)
    → (at + byte_len (flow_text f) ≡ end) × (between bs at end ≡ flow_text f)
flow_to bs at end f n c bol u b d e =
    let t : rest bs at ≡ flow_text f ++ rest bs end = (stands n c bol (rest bs at) f (rest bs end) e).spells in
    (spelled bs at end (flow_text f) u b d t, between_is bs at end (flow_text f) u b d t)

-- the test of bytes says whether the key is short
pub short_is : (bs : List ℕ) (at end colon : ℕ) (f : Flow) (n : ℕ) (c : FlowContext) (bol : Bool) → IsUtf8 bs
    → IsCharBoundary bs at → IsCharBoundary bs end
    → flow_node_at n c bol (rest bs at) ≡ Some (f, rest bs end) → AreTaken white bs end colon
    → nat_le (length (between bs at colon)) 1024 ≡ short_key f (take_while white (rest bs end))
short_is bs at end colon f n c bol u b d e t =
    let p : (at + byte_len (flow_text f) ≡ end) × (between bs at end ≡ flow_text f) =
    flow_to bs at end f n c bol u b d e in
    let whole : between bs at colon ≡ flow_text f ++ take_while white (rest bs end) =
    between-append bs at end colon u (omega (arith, p.0)) t.above b d t.boundary
    ∙ (ap (λ x. x ++ between bs end colon) p.1 ∙ ap (λ x. flow_text f ++ x) (sym t.takes)) in
    ap (λ x. nat_le (length x) 1024) whole

-- the test of bytes says whether the node is on one line
pub unbroken_is : (bs : List ℕ) (at end : ℕ) (f : Flow) (n : ℕ) (c : FlowContext) (bol : Bool) → IsUtf8 bs
    → IsCharBoundary bs at → IsCharBoundary bs end
    → flow_node_at n c bol (rest bs at) ≡ Some (f, rest bs end)
    → list_all no_break (between bs at end) ≡ unbroken (flow_text f)
unbroken_is bs at end f n c bol u b d e = ap (list_all no_break) (flow_to bs at end f n c bol u b d e).1
