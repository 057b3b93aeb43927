-- What a `:` after a node makes of it: a key, which has to be on one line and short, with a value.
use Rattle.std.{proofs.Common.{◌≡◌, ap, refl, subst, sym, ◌∙◌, ℕ, length, inl, inr, append_assoc}, specs.Prelude.{Bool, true, false, not}}
use Rattle.std.specs.Prelude.{◌&&◌, ◌||◌, nat_le, List, ◌∷◌, ◌++◌, Option, Some, None, is_some}
use Rattle.yaml_flow.proofs.Prelude.{and_from, cases_Bool, or_parts, Flow, Value, absent, empty, given, before_colon, flow_text, has_colon}
use Rattle.yaml_flow.proofs.Prelude.{is_plain, short_key, value_text, FlowContext, flow_key, one_line, safe, Sep, gap_text, first, is_empty}
use Rattle.yaml_flow.proofs.Prelude.{starts_line, is_colon, ends_entry, key_is_short, read_scalar, past, GapRead, read_gap, gap_on_one_line}
use Rattle.yaml_flow.proofs.Prelude.{on_one_line, widens, on, StandsFlow, flow_node_at, flow_value_at, stands, gap_sound, unbroken}
use Rattle.yaml_flow.proofs.Prelude.{unbroken_joined, gap_one_line, flow_one_line, on_parts, some_parts}
use Rattle.yaml_recognizers.specs.{CanonicalComments.canonical_gap, CanonicalFlowNodes.{canonical_flow, canonical_value}}
use Rattle.yaml_recognizers.proofs.Flow.{FlowNodesDepth.value_step, FlowNodesSound.colon_parts, SinglePairs.{gap_before, single_pair_asks}}
use Rattle.yaml_recognizers.proofs.Scalars.ScalarsInNodes.{reads_scalars}

-- ---- the value after a node

-- there is none
pub no_value : (n : ℕ) (d : FlowContext) (after_plain : Bool) (text : List ℕ)
    → is_colon d after_plain (read_gap n (one_line d) text).1 ≡ false
    → flow_value_at n d after_plain text ≡ Some (absent, text)
no_value n d after_plain text h = value_step read_scalar reads_scalars n d after_plain text ∙ rw h refl

-- the value is left out
abbrev pub left_out : Bool → GapRead → Bool
left_out after_plain after = ends_entry after.1 || (after_plain && not (is_some after.0))

-- a `:` without a value
pub value_left_out : (n : ℕ) (d : FlowContext) (after_plain : Bool) (text : List ℕ)
    → is_colon d after_plain (read_gap n (one_line d) text).1 ≡ true
    → left_out after_plain (read_gap n (one_line d) (past (read_gap n (one_line d) text).1)) ≡ true
    → flow_value_at n d after_plain text ≡ Some (empty (read_gap n (one_line d) text).0, past (read_gap n (one_line d) text).1)
value_left_out n d after_plain text h k = value_step read_scalar reads_scalars n d after_plain text ∙ rw (h, k) refl

-- a `:` with a value
pub value_given : (n : ℕ) (d : FlowContext) (after_plain : Bool) (text : List ℕ)
    → is_colon d after_plain (read_gap n (one_line d) text).1 ≡ true
    → left_out after_plain (read_gap n (one_line d) (past (read_gap n (one_line d) text).1)) ≡ false
    → flow_value_at n d after_plain text
    ≡ on (flow_node_at n d (starts_line false (gap_text
    (read_gap n (one_line d) (past (read_gap n (one_line d) text).1)).0))
    (read_gap n (one_line d) (past (read_gap n (one_line d) text).1)).1)
    (λ f rest. Some (given (read_gap n (one_line d) text).0 (read_gap n (one_line d) (past (read_gap n (one_line d) text).1)).0 f, rest))
value_given n d after_plain text h k = value_step read_scalar reads_scalars n d after_plain text ∙ rw (h, k) refl

-- a value whose `:` comes after this gap
pub record ColonValue (n : ℕ) (d : FlowContext) (after_plain : Bool) (text : List ℕ) (gap : Option Sep) (v : Value)
    (rest : List ℕ) : Type 0 where
  pub spells : text ≡ value_text v ++ rest
  pub fits : canonical_value v n d (one_line d) after_plain rest ≡ true
  pub colon : has_colon v ≡ true
  pub white : before_colon v ≡ gap_text gap
  pub before : gap_before v ≡ gap

has_white : (a p : Bool) → p && not a ≡ false → a || not p ≡ true
has_white true p h = refl
has_white false true h = sym h
has_white false false h = refl

-- what is read after a `:` is a value
pub colon_value : (n : ℕ) (d : FlowContext) (after_plain : Bool) (text : List ℕ) (v : Value) (rest : List ℕ)
    → is_colon d after_plain (read_gap n (one_line d) text).1 ≡ true
    → flow_value_at n d after_plain text ≡ Some (v, rest) → ColonValue n d after_plain text (read_gap n (one_line d) text).0 v rest
colon_value n d after_plain text v rest i h =
    let b : GapRead = read_gap n (one_line d) text in
    let g : (text ≡ gap_text b.0 ++ b.1) × (canonical_gap n (one_line d) b.0 b.1 ≡ true) = gap_sound n (one_line d) text in
    let a : GapRead = read_gap n (one_line d) (past b.1) in
    let g2 : (past b.1 ≡ gap_text a.0 ++ a.1) × (canonical_gap n (one_line d) a.0 a.1 ≡ true) = gap_sound n (one_line d) (past b.1) in
    let c : (b.1 ≡ 58 ∷ past b.1) × (not (after_plain && first (safe d) (past b.1)) ≡ true) = colon_parts d after_plain b.1 i in
    elim (cases_Bool (left_out after_plain a)) [
      | inl l ↦ (let q = some_parts (empty b.0) v (past b.1) rest (sym (value_left_out n d after_plain text i l) ∙ h) in
          let colon : b.1 ≡ 58 ∷ rest = c.0 ∙ ap (λ (t : List ℕ). 58 ∷ t) q.1 in
          let regrouped : value_text (empty b.0) ++ rest ≡ gap_text b.0 ++ (58 ∷ rest) = simp append_assoc in
          subst (λ (x : Value). ColonValue n d after_plain text b.0 x rest) q.0 (record {
            spells = g.0 ∙ (ap (λ (t : List ℕ). gap_text b.0 ++ t) colon ∙ sym regrouped);
            fits = and_from _ _ (subst (λ (t : List ℕ). canonical_gap n (one_line d) b.0 t ≡ true) colon g.1)
                (subst (λ (t : List ℕ). not (after_plain && first (safe d) t) ≡ true) q.1 c.1);
            colon = refl;
            white = refl;
            before = refl;
          }))
      | inr r ↦ (let p = on_parts (flow_node_at n d (starts_line false (gap_text a.0)) a.1) _ _
          (sym (value_given n d after_plain text i r) ∙ h) in
          let q = some_parts (given b.0 a.0 p.0) v p.1 rest p.3 in
          let j : StandsFlow n d (starts_line false (gap_text a.0)) a.1 p.0 p.1 =
          stands n d (starts_line false (gap_text a.0)) a.1 p.0 p.1 p.2 in
          let node : a.1 ≡ flow_text p.0 ++ rest = j.spells ∙ ap (λ (t : List ℕ). flow_text p.0 ++ t) q.1 in
          let colon : b.1 ≡ 58 ∷ (gap_text a.0 ++ (flow_text p.0 ++ rest)) = c.0
          ∙ (ap (λ (t : List ℕ). 58 ∷ t) g2.0 ∙ ap (λ (t : List ℕ). 58 ∷ (gap_text a.0 ++ t)) node) in
          let regrouped : value_text (given b.0 a.0 p.0) ++ rest
          ≡ gap_text b.0 ++ (58 ∷ (gap_text a.0 ++ (flow_text p.0 ++ rest))) = simp append_assoc in
          subst (λ (x : Value). ColonValue n d after_plain text b.0 x rest) q.0 (record {
            spells = g.0 ∙ (ap (λ (t : List ℕ). gap_text b.0 ++ t) colon ∙ sym regrouped);
            fits = and_from _ _ (and_from _ _ (and_from _ _ (subst (λ (t : List ℕ). canonical_gap n (one_line d) b.0 t ≡ true) colon g.1)
                (has_white (is_some a.0) after_plain (or_parts _ _ r).1))
                (subst (λ (t : List ℕ). canonical_gap n (one_line d) a.0 t ≡ true) node g2.1))
                (subst (λ (t : List ℕ). canonical_flow p.0 n d (starts_line false (gap_text a.0)) t ≡ true) q.1 j.canonical);
            colon = refl;
            white = refl;
            before = refl;
          }))
    ]

-- ---- the key of a single pair

-- the text of the key, with the white before its `:`, has no break and is short
abbrev pub fits_line : List ℕ → Bool
fits_line text = unbroken text && nat_le (length text) 1024

turned : (a s g : Bool) → (a && s) && g ≡ (a && g) && s
turned true true true = refl
turned true true false = refl
turned true false true = refl
turned true false false = refl
turned false s g = refl

-- a key fits if it is on one line and short
pub key_fits : (n : ℕ) (d : FlowContext) (bol : Bool) (text : List ℕ) (key : Flow) (after : List ℕ) (v : Value)
    (rest : List ℕ) → widens flow_key d ≡ true
    → flow_node_at n d bol text ≡ Some (key, after) → is_colon d (is_plain key) (read_gap n (one_line d) after).1 ≡ true
    → flow_value_at n d (is_plain key) after ≡ Some (v, rest)
    → key_is_short n d true bol None key v rest ≡ fits_line (flow_text key ++ gap_text (read_gap n (one_line d) after).0)
key_fits n d bol text key after v rest w found i h =
    let c : ColonValue n d (is_plain key) after (read_gap n (one_line d) after).0 v rest =
    colon_value n d (is_plain key) after v rest i h in
    let gap : Option Sep = (read_gap n (one_line d) after).0 in
    let rest_after : List ℕ = (read_gap n (one_line d) after).1 in
    let s : StandsFlow n d bol text key after = stands n d bol text key after found in
    let canonical : canonical_flow key n d bol (value_text v ++ rest) ≡ true =
    subst (λ (t : List ℕ). canonical_flow key n d bol t ≡ true) c.spells s.canonical in
    let g : (after ≡ gap_text gap ++ rest_after) × (canonical_gap n (one_line d) gap rest_after ≡ true) = gap_sound n (one_line d) after in
    let filled : is_empty rest_after ≡ false = ap is_empty (colon_parts d (is_plain key) rest_after i).0 in
    let key_line : on_one_line key ≡ unbroken (flow_text key) = flow_one_line key n d bol after s.canonical in
    let gap_line : gap_on_one_line gap ≡ unbroken (gap_text gap) = gap_one_line n (one_line d) gap rest_after g.1 filled in
    single_pair_asks n d bol key v rest w c.colon canonical c.fits
    ∙ (ap (λ x. (on_one_line key && short_key key x) && gap_on_one_line (gap_before v)) c.white
    ∙ (ap (λ x. (on_one_line key && short_key key (gap_text gap)) && gap_on_one_line x) c.before
    ∙ (ap (λ x. (x && short_key key (gap_text gap)) && gap_on_one_line gap) key_line
    ∙ (ap (λ x. (unbroken (flow_text key) && short_key key (gap_text gap)) && x) gap_line
    ∙ (turned (unbroken (flow_text key)) (short_key key (gap_text gap)) (unbroken (gap_text gap))
    ∙ ap (λ x. x && short_key key (gap_text gap)) (sym (unbroken_joined (flow_text key) (gap_text gap))))))))
