-- The parts of a tree, written with comments.
use Rattle.std.{proofs.Common.{◌≡◌, refl, ap, arith}, specs.Prelude.{ℕ, ◌+◌, true, List, [], ◌∷◌, ◌++◌, codes, length}}
use Rattle.{yaml_data.specs.Seen.{Pair, elements_of, members_of}, yaml_grammar.specs.{Texts.spaces, Trees.{Tree, text, sequence, mapping}}}
use Rattle.{yaml_grammar.specs.Trees.{Elements, no_element, element, Members, no_member, member}, yaml_commented.specs.Trails.Trail}
use Rattle.yaml_commented.specs.{Trails.trail_text, Commented.{next_trail, later_trails, after_key, after_tree, after_value}}
use Rattle.yaml_commented.specs.Commented.{after_elements, after_members, scalar_with, key_with, element_with, value_with, elements_with}
use Rattle.yaml_commented.specs.{Commented.{members_with, tree_with}, TrailsFit.{trail_fits, scalar_trail_fits, key_trail_fits}}
use Rattle.yaml_commented.specs.TrailsFit.{ElementFits, ValueFits, ElementsFit, MembersFit, TreeFits}
use Rattle.comments_kept.specs.{declared.weaver.Weaver.Weaver, Weaving.{Woven, Wrote, WovenEnd, WovenLine, WovenScalar, WovenKey}}
use Rattle.comments_kept.specs.Weaving.{WovenElement, WovenValue, WovenElements, WovenMembers, WovenTop, elements_led, members_led}
use Rattle.comments_kept.{specs.Laid.{freely, below_element, below_tree, below_value}, proofs.Weaving.{both, said, plain, nothing}}
use Rattle.yaml_data.specs.declared.tree.Tree as declared

-- ---- elements

-- after the first, each element has its indentation
led_elements : (ts : Elements) (i : ℕ) (ws : List Trail) → elements_led i ts i ws ≡ elements_with ts i ws
led_elements no_element i ws = refl
led_elements (element t ts) i ws = refl

-- one more element, and those after it
pub element_taken : (lead i : ℕ) (t : Tree) (ts : Elements) (a b c d e : Weaver) → Wrote a (spaces lead) b → Wrote b (codes "- ") c
    → WovenElement t i c d → WovenElements i ts i d e → WovenElements lead (element t ts) i a e
element_taken lead i t ts a b c d e indent dash one others =
    let none : List Trail → Type 0 = λ ws. Unit {0} in
    let mark = both (λ ws. spaces lead) (λ ws. codes "- ") (λ ws. ws) (λ ws. ws) none none a b c
    (plain (spaces lead) a b indent) (plain (codes "- ") b c dash) in
    let first = both (λ ws. spaces lead ++ codes "- ") (element_with t i) (λ ws. ws) (after_tree t) (λ ws. none ws × none ws)
    (ElementFits t i) a c d mark one in
    let all = both (λ ws. spaces lead ++ codes "- " ++ element_with t i ws) (elements_led i ts i) (after_tree t) (after_elements ts)
    (λ ws. (none ws × none ws) × ElementFits t i ws) (ElementsFit ts i) a d e first others in
    said (λ ws. spaces lead ++ codes "- " ++ element_with t i ws ++ elements_led i ts i (after_tree t ws))
    (elements_led lead (element t ts) i)
    (λ ws. after_elements ts (after_tree t ws)) (after_elements (element t ts))
    (λ ws. ((none ws × none ws) × ElementFits t i ws) × ElementsFit ts i (after_tree t ws)) (ElementsFit (element t ts) i) a e
    (λ ws. ap (λ cs. spaces lead ++ codes "- " ++ element_with t i ws ++ cs) (led_elements ts i (after_tree t ws)))
    (λ ws. refl) (λ ws h. (h.0.1, h.1)) all

-- no element is left
pub no_elements : (lead i : ℕ) (a : Weaver) → WovenElements lead no_element i a a
no_elements lead i a = said (λ ws. []) (elements_led lead no_element i) (λ ws. ws) (after_elements no_element)
    (λ ws. Unit {0}) (ElementsFit no_element i) a a (λ ws. refl) (λ ws. refl) (λ ws h. tt) (nothing a)

-- ---- members

-- after the first, each member has its indentation
led_members : (ms : Members) (i : ℕ) (ws : List Trail) → members_led i ms i ws ≡ members_with ms i ws
led_members no_member i ws = refl
led_members (member key t ms) i ws = refl

-- one more member, and those after it
pub member_taken : (lead i : ℕ) (key : List ℕ) (t : Tree) (ms : Members) (a b c d e : Weaver) → Wrote a (spaces lead) b
    → WovenKey key i b c → WovenValue t i c d → WovenMembers i ms i d e → WovenMembers lead (member key t ms) i a e
member_taken lead i key t ms a b c d e indent name one others =
    let none : List Trail → Type 0 = λ ws. Unit {0} in
    let named : List Trail → Type 0 = λ ws. key_trail_fits key ws ≡ true in
    let mark = both (λ ws. spaces lead) (key_with i key) (λ ws. ws) (after_key key) none named a b c
    (plain (spaces lead) a b indent) name in
    let first = both (λ ws. spaces lead ++ key_with i key ws) (value_with t i) (after_key key) (after_value t)
    (λ ws. none ws × named ws) (ValueFits t i) a c d mark one in
    let all = both (λ ws. spaces lead ++ key_with i key ws ++ value_with t i (after_key key ws)) (members_led i ms i)
    (λ ws. after_value t (after_key key ws)) (after_members ms)
    (λ ws. (none ws × named ws) × ValueFits t i (after_key key ws)) (MembersFit ms i) a d e first others in
    said (λ ws. spaces lead ++ key_with i key ws ++ value_with t i (after_key key ws)
    ++ members_led i ms i (after_value t (after_key key ws)))
    (members_led lead (member key t ms) i)
    (λ ws. after_members ms (after_value t (after_key key ws))) (after_members (member key t ms))
    (λ ws. ((none ws × named ws) × ValueFits t i (after_key key ws)) × MembersFit ms i (after_value t (after_key key ws)))
    (MembersFit (member key t ms) i) a e
    (λ ws. ap (λ cs. spaces lead ++ key_with i key ws ++ value_with t i (after_key key ws) ++ cs)
    (led_members ms i (after_value t (after_key key ws))))
    (λ ws. refl) (λ ws h. (h.0.0.1, h.0.1, h.1)) all

-- no member is left
pub no_members : (lead i : ℕ) (a : Weaver) → WovenMembers lead no_member i a a
no_members lead i a = said (λ ws. []) (members_led lead no_member i) (λ ws. ws) (after_members no_member)
    (λ ws. Unit {0}) (MembersFit no_member i) a a (λ ws. refl) (λ ws. refl) (λ ws h. tt) (nothing a)

-- ---- an element

module _ (i : ℕ) (a b : Weaver) where
  -- what it is, is the same part
  pub element_is : (t : Tree) (P : List Trail → List ℕ) (f : List Trail → List Trail) (F : List Trail → Type 0)
      → ((ws : List Trail) → P ws ≡ element_with t i ws) → ((ws : List Trail) → f ws ≡ after_tree t ws)
      → ((ws : List Trail) → F ws → ElementFits t i ws) → Woven P f F (below_element t i) a b → WovenElement t i a b
  element_is t P f F texts lefts meets w = said P (element_with t i) f (after_tree t) F (ElementFits t i) a b texts lefts meets w

  -- a text
  pub element_text : (value : List ℕ) → WovenScalar value i a b → WovenElement (text value) i a b
  element_text value w = element_is (text value) (λ ws. scalar_with (i + 2) value (next_trail ws)) later_trails
      (λ ws. scalar_trail_fits i value (next_trail ws) ≡ true) (λ ws. refl) (λ ws. refl) (λ ws h. h) w

  -- a sequence without elements
  pub element_no_items : (ts : List declared.Tree) → length ts ≡ 0 → WovenLine (codes "[]") a b
      → WovenElement (sequence (elements_of ts)) i a b
  element_no_items [] e w = element_is (sequence no_element) (λ ws. codes "[]" ++ trail_text (next_trail ws)) later_trails
      (λ ws. trail_fits (next_trail ws) ≡ true) (λ ws. refl) (λ ws. refl) (λ ws h. h) w
  element_no_items (t ∷ ts) e w = absurd (omega arith)

  -- a sequence
  pub element_items : (ts : List declared.Tree) → (length ts ≡ 0 → ⊥) → WovenElements 0 (elements_of ts) (i + 2) a b
      → WovenElement (sequence (elements_of ts)) i a b
  element_items [] some w = absurd (some refl)
  element_items (t ∷ ts) some w = element_is (sequence (elements_of (t ∷ ts))) (elements_led 0 (elements_of (t ∷ ts)) (i + 2))
      (after_elements (elements_of (t ∷ ts))) (ElementsFit (elements_of (t ∷ ts)) (i + 2))
      (λ ws. refl) (λ ws. refl) (λ ws h. h) w

  -- a mapping without members
  pub element_no_pairs : (ms : List Pair) → length ms ≡ 0 → WovenLine (codes "{}") a b
      → WovenElement (mapping (members_of ms)) i a b
  element_no_pairs [] e w = element_is (mapping no_member) (λ ws. codes "{}" ++ trail_text (next_trail ws)) later_trails
      (λ ws. trail_fits (next_trail ws) ≡ true) (λ ws. refl) (λ ws. refl) (λ ws h. h) w
  element_no_pairs (m ∷ ms) e w = absurd (omega arith)

  -- a mapping
  pub element_pairs : (ms : List Pair) → (length ms ≡ 0 → ⊥) → WovenMembers 0 (members_of ms) (i + 2) a b
      → WovenElement (mapping (members_of ms)) i a b
  element_pairs [] some w = absurd (some refl)
  element_pairs (m ∷ ms) some w = element_is (mapping (members_of (m ∷ ms))) (members_led 0 (members_of (m ∷ ms)) (i + 2))
      (after_members (members_of (m ∷ ms))) (MembersFit (members_of (m ∷ ms)) (i + 2))
      (λ ws. refl) (λ ws. refl) (λ ws h. h) w

-- ---- a tree at the top

module _ (a b : Weaver) where
  -- what it is, is the same part
  top_is : (t : Tree) (P : List Trail → List ℕ) (f : List Trail → List Trail) (F : List Trail → Type 0)
      → ((ws : List Trail) → P ws ≡ tree_with t ws) → ((ws : List Trail) → f ws ≡ after_tree t ws)
      → ((ws : List Trail) → F ws → TreeFits t ws) → Woven P f F (below_tree t) a b → WovenTop t a b
  top_is t P f F texts lefts meets w = said P (tree_with t) f (after_tree t) F (TreeFits t) a b texts lefts meets w

  -- a text
  pub top_text : (value : List ℕ) → WovenScalar value 0 a b → WovenTop (text value) a b
  top_text value w = top_is (text value) (λ ws. scalar_with 2 value (next_trail ws)) later_trails
      (λ ws. scalar_trail_fits 0 value (next_trail ws) ≡ true) (λ ws. refl) (λ ws. refl) (λ ws h. h) w

  -- a sequence without elements
  pub top_no_items : (ts : List declared.Tree) → length ts ≡ 0 → WovenLine (codes "[]") a b → WovenTop (sequence (elements_of ts)) a b
  top_no_items [] e w = top_is (sequence no_element) (λ ws. codes "[]" ++ trail_text (next_trail ws)) later_trails
      (λ ws. trail_fits (next_trail ws) ≡ true) (λ ws. refl) (λ ws. refl) (λ ws h. h) w
  top_no_items (t ∷ ts) e w = absurd (omega arith)

  -- a sequence
  pub top_items : (ts : List declared.Tree) → (length ts ≡ 0 → ⊥) → WovenElements 0 (elements_of ts) 0 a b
      → WovenTop (sequence (elements_of ts)) a b
  top_items [] some w = absurd (some refl)
  top_items (t ∷ ts) some w = top_is (sequence (elements_of (t ∷ ts))) (elements_led 0 (elements_of (t ∷ ts)) 0)
      (after_elements (elements_of (t ∷ ts))) (ElementsFit (elements_of (t ∷ ts)) 0) (λ ws. refl) (λ ws. refl) (λ ws h. h) w

  -- a mapping without members
  pub top_no_pairs : (ms : List Pair) → length ms ≡ 0 → WovenLine (codes "{}") a b → WovenTop (mapping (members_of ms)) a b
  top_no_pairs [] e w = top_is (mapping no_member) (λ ws. codes "{}" ++ trail_text (next_trail ws)) later_trails
      (λ ws. trail_fits (next_trail ws) ≡ true) (λ ws. refl) (λ ws. refl) (λ ws h. h) w
  top_no_pairs (m ∷ ms) e w = absurd (omega arith)

  -- a mapping
  pub top_pairs : (ms : List Pair) → (length ms ≡ 0 → ⊥) → WovenMembers 0 (members_of ms) 0 a b
      → WovenTop (mapping (members_of ms)) a b
  top_pairs [] some w = absurd (some refl)
  top_pairs (m ∷ ms) some w = top_is (mapping (members_of (m ∷ ms))) (members_led 0 (members_of (m ∷ ms)) 0)
      (after_members (members_of (m ∷ ms))) (MembersFit (members_of (m ∷ ms)) 0) (λ ws. refl) (λ ws. refl) (λ ws h. h) w

-- ---- a value

module _ (i : ℕ) where
  -- what it is, is the same part
  value_is : (a b : Weaver) (t : Tree) (P : List Trail → List ℕ) (f : List Trail → List Trail) (F : List Trail → Type 0)
      → ((ws : List Trail) → P ws ≡ value_with t i ws) → ((ws : List Trail) → f ws ≡ after_value t ws)
      → ((ws : List Trail) → F ws → ValueFits t i ws) → Woven P f F (below_value t i) a b → WovenValue t i a b
  value_is a b t P f F texts lefts meets w = said P (value_with t i) f (after_value t) F (ValueFits t i) a b texts lefts meets w

  -- a text, after a space
  pub value_text : (value : List ℕ) (a b c : Weaver) → Wrote a (codes " ") b → WovenScalar value i b c → WovenValue (text value) i a c
  value_text value a b c space w =
      value_is a c (text value) (λ ws. codes " " ++ scalar_with (i + 2) value (next_trail ws)) later_trails
      (λ ws. Unit {0} × (scalar_trail_fits i value (next_trail ws) ≡ true)) (λ ws. refl) (λ ws. refl) (λ ws h. h.1)
      (both (λ ws. codes " ") (λ ws. scalar_with (i + 2) value (next_trail ws)) (λ ws. ws) later_trails (λ ws. Unit {0})
      (λ ws. scalar_trail_fits i value (next_trail ws) ≡ true) a b c (plain (codes " ") a b space) w)

  -- a sequence without elements
  pub value_no_items : (ts : List declared.Tree) (a b : Weaver) → length ts ≡ 0 → WovenLine (codes " []") a b
      → WovenValue (sequence (elements_of ts)) i a b
  value_no_items [] a b e w = value_is a b (sequence no_element) (λ ws. codes " []" ++ trail_text (next_trail ws)) later_trails
      (λ ws. trail_fits (next_trail ws) ≡ true) (λ ws. refl) (λ ws. refl) (λ ws h. h) w
  value_no_items (t ∷ ts) a b e w = absurd (omega arith)

  -- a mapping without members
  pub value_no_pairs : (ms : List Pair) (a b : Weaver) → length ms ≡ 0 → WovenLine (codes " {}") a b
      → WovenValue (mapping (members_of ms)) i a b
  value_no_pairs [] a b e w = value_is a b (mapping no_member) (λ ws. codes " {}" ++ trail_text (next_trail ws)) later_trails
      (λ ws. trail_fits (next_trail ws) ≡ true) (λ ws. refl) (λ ws. refl) (λ ws h. h) w
  value_no_pairs (m ∷ ms) a b e w = absurd (omega arith)

  -- the end of the key's line, and the indentation of the next one
  begun : (a b c : Weaver) → WovenEnd a b → Wrote b (spaces (i + 2)) c
      → Woven (λ ws. trail_text (next_trail ws) ++ spaces (i + 2)) later_trails
      (λ ws. (trail_fits (next_trail ws) ≡ true) × Unit {0}) (freely ∷ []) a c
  begun a b c e w = both (λ ws. trail_text (next_trail ws)) (λ ws. spaces (i + 2)) later_trails (λ ws. ws)
      (λ ws. trail_fits (next_trail ws) ≡ true) (λ ws. Unit {0}) a b c e (plain (spaces (i + 2)) b c w)

  -- a sequence
  pub value_items : (ts : List declared.Tree) (a b c d : Weaver) → (length ts ≡ 0 → ⊥) → WovenEnd a b → Wrote b (spaces (i + 2)) c
      → WovenElements 0 (elements_of ts) (i + 2) c d → WovenValue (sequence (elements_of ts)) i a d
  value_items [] a b c d some e w es = absurd (some refl)
  value_items (t ∷ ts) a b c d some e w es =
      let all : Elements = elements_of (t ∷ ts) in
      value_is a d (sequence all)
      (λ ws. trail_text (next_trail ws) ++ spaces (i + 2) ++ elements_led 0 all (i + 2) (later_trails ws))
      (λ ws. after_elements all (later_trails ws))
      (λ ws. ((trail_fits (next_trail ws) ≡ true) × Unit {0}) × ElementsFit all (i + 2) (later_trails ws))
      (λ ws. refl) (λ ws. refl) (λ ws h. (h.0.0, h.1.0, h.1.1))
      (both (λ ws. trail_text (next_trail ws) ++ spaces (i + 2)) (elements_led 0 all (i + 2)) later_trails (after_elements all)
      (λ ws. (trail_fits (next_trail ws) ≡ true) × Unit {0}) (ElementsFit all (i + 2)) a c d (begun a b c e w) es)

  -- a mapping
  pub value_pairs : (ms : List Pair) (a b c d : Weaver) → (length ms ≡ 0 → ⊥) → WovenEnd a b → Wrote b (spaces (i + 2)) c
      → WovenMembers 0 (members_of ms) (i + 2) c d → WovenValue (mapping (members_of ms)) i a d
  value_pairs [] a b c d some e w es = absurd (some refl)
  value_pairs (m ∷ ms) a b c d some e w es =
      let all : Members = members_of (m ∷ ms) in
      value_is a d (mapping all)
      (λ ws. trail_text (next_trail ws) ++ spaces (i + 2) ++ members_led 0 all (i + 2) (later_trails ws))
      (λ ws. after_members all (later_trails ws))
      (λ ws. ((trail_fits (next_trail ws) ≡ true) × Unit {0}) × MembersFit all (i + 2) (later_trails ws))
      (λ ws. refl) (λ ws. refl) (λ ws h. (h.0.0, h.1.0, h.1.1, h.1.2))
      (both (λ ws. trail_text (next_trail ws) ++ spaces (i + 2)) (members_led 0 all (i + 2)) later_trails (after_members all)
      (λ ws. (trail_fits (next_trail ws) ≡ true) × Unit {0}) (MembersFit all (i + 2)) a c d (begun a b c e w) es)
