-- A single pair: what its key has to meet, said of the key as it was read between the brackets. It doesn't depend on
-- the value.
use Rattle.std.{proofs.Common.{refl, sym, ◌≡◌}, specs.Prelude.{Bool, List, None, Option, Some, false, true, ℕ, ◌&&◌, ◌++◌}}
use Rattle.yaml_recognizers.proofs.Prelude.{and_parts, Flow, Value, absent, before_colon, empty, given, has_colon, is_plain, short_key}
use Rattle.yaml_recognizers.proofs.Prelude.{value_text, FlowContext, flow_key, one_line, Sep, inline, lines}
use Rattle.yaml_recognizers.{proofs.Flow.FlowNodesNarrower.{flow_key_line, flow_narrower}, specs.CanonicalComments.canonical_gap}
use Rattle.yaml_recognizers.specs.{CanonicalFlowNodes.{canonical_flow, canonical_value}, FlowNodes.key_is_short, OneLine.gap_on_one_line}
use Rattle.yaml_recognizers.specs.OneLine.{on_one_line, widens}

-- two tests that hold of the same
same_test : (a b : Bool) → (a ≡ true → b ≡ true) → (b ≡ true → a ≡ true) → a ≡ b
same_test true true f g = refl
same_test true false f g = sym (f refl)
same_test false true f g = g refl
same_test false false f g = refl

-- the gap before the `:`
abbrev pub gap_before : Value → Option Sep
gap_before absent = None
gap_before (empty gap) = gap
gap_before (given before after f) = before

-- a gap that fits between brackets fits in a key exactly where it is on one line
gap_in_key : (n : ℕ) (key : Bool) (gap : Option Sep) (after : List ℕ) → canonical_gap n key gap after ≡ true
    → canonical_gap n true gap after ≡ gap_on_one_line gap
gap_in_key n key None after h = refl
gap_in_key n key (Some (inline blank)) after h = h
gap_in_key n key (Some (lines comments lead)) after h = refl

-- a canonical value is so in a key just where the gap before its `:` is on one line
value_in_key : (v : Value) (n : ℕ) (d : FlowContext) (key after_plain : Bool) (after : List ℕ)
    → canonical_value v n d key after_plain after ≡ true
    → canonical_value v n d true after_plain after ≡ gap_on_one_line (gap_before v)
value_in_key absent n d key after_plain after h = refl
value_in_key (empty gap) n d key after_plain after h =
    let p = and_parts _ _ h in
    rw (gap_in_key n key gap _ p.0, p.1) (and_true (gap_on_one_line gap))
  where
    and_true : (b : Bool) → b && true ≡ b
    and_true true = refl
    and_true false = refl
value_in_key (given before gap_after f) n d key after_plain after h =
    let p = and_parts _ _ h in
    let q = and_parts _ _ p.0 in
    let r = and_parts _ _ q.0 in
    rw (gap_in_key n key before _ r.0, r.1, q.1, p.1) (and_all (gap_on_one_line before))
  where
    and_all : (b : Bool) → b && true && true && true ≡ b
    and_all true = refl
    and_all false = refl

-- what the recognizer asks of an entry's key, once the value is read, is what the `:` shows
pub single_pair_asks : (n : ℕ) (d : FlowContext) (bol : Bool) (key : Flow) (v : Value) (rest : List ℕ)
    → widens flow_key d ≡ true → has_colon v ≡ true
    → canonical_flow key n d bol (value_text v ++ rest) ≡ true → canonical_value v n d (one_line d) (is_plain key) rest ≡ true
    → key_is_short n d true bol None key v rest ≡ (on_one_line key && short_key key (before_colon v)) && gap_on_one_line (gap_before v)
single_pair_asks n d bol key v rest w c h k =
    let line : canonical_flow key 0 flow_key bol (value_text v ++ rest) ≡ on_one_line key =
    same_test (canonical_flow key 0 flow_key bol (value_text v ++ rest)) (on_one_line key)
    (λ e. flow_key_line key 0 flow_key d bol (value_text v ++ rest) w e)
    (λ o. flow_narrower key n 0 d flow_key bol (value_text v ++ rest) w o h) in
    rw (c, line, value_in_key v n d (one_line d) (is_plain key) rest k) refl
