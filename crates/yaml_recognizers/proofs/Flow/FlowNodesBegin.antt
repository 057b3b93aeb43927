-- What the text of a flow node starts with, and what distinguishes its alternatives.
use Rattle.std.{proofs.Common.{ap, append_assoc, inl, inr, refl, subst, sym, ◌∙◌, ◌≡◌, ◌⊎◌}, specs.Prelude.{Bool, List, None, Some, []}}
use Rattle.std.specs.Prelude.{codes, cond, false, not, true, ℕ, ◌&&◌, ◌++◌, ◌==◌, ◌||◌, ◌∷◌}
use Rattle.yaml_recognizers.proofs.Prelude.{and_left, and_parts, cases_eq, eqb-true, false≢true, ne_eqb, not-true, not_from_true, or_cases}
use Rattle.yaml_recognizers.proofs.Prelude.{or_from, indicator, is_in, ns, Entries, Entry, Flow, entries_text, entry, entry_text, flow_text}
use Rattle.yaml_recognizers.proofs.Prelude.{last, map, next, none, scalar, seq, single_pair, value_text, FlowContext, Line, Scalar}
use Rattle.yaml_recognizers.proofs.Prelude.{block_key, double, flow_key, inner, lines_after, lines_text, one_line, outer, plain}
use Rattle.yaml_recognizers.proofs.Prelude.{plain_first, plain_kind, plain_line, plain_lines, plain_text, safe, scalar_fits, scalar_text}
use Rattle.yaml_recognizers.proofs.{Prelude.{single, gap_text, first, is_empty, marker, no_marker}, Scalars.PlainScalars.plain_regrouped}
use Rattle.yaml_recognizers.{proofs.Basics.Solid.{marker_first, plain_solid}, specs.{BlockNodes.bar, FlowNodes.{ends_entry, is_asked}}}
use Rattle.yaml_recognizers.specs.{Prefixes.sign, CanonicalFlowNodes.{canonical_entries, canonical_entry, canonical_flow}, Ends.closing}
use Rattle.yaml_recognizers.specs.Ends.{between_brackets, solid}

-- ---- plain scalars

-- what is no indicator is none of them
pub no_indicator : (x k : ℕ) → indicator k ≡ true → indicator x ≡ false → x == k ≡ false
no_indicator x k h f = elim (cases_eq x k) [
  | inl e ↦ absurd (false≢true (sym f ∙ ap indicator e ∙ h))
  | inr n ↦ ne_eqb x k n
]

-- a character of `?:-` is one of the three
pub sign_cases : (P : ℕ → Type 0) (x : ℕ) → is_in x (codes "?:-") ≡ true → P 63 → P 58 → P 45 → P x
sign_cases P x h a b c = elim (or_cases (x == 63) _ h) [
  | inl e ↦ subst P (sym (eqb-true x 63 e)) a
  | inr i ↦ elim (or_cases (x == 58) _ i) [
    | inl e ↦ subst P (sym (eqb-true x 58 e)) b
    | inr j ↦ elim (or_cases (x == 45) _ j) [ inl e ↦ subst P (sym (eqb-true x 45 e)) c | inr n ↦ absurd (false≢true n) ]
  ]
]

-- if the second fails, both do not hold
pub not_both : (b c : Bool) → c ≡ false → b && c ≡ false
not_both true c h = h
not_both false c h = refl

-- a plain scalar begins with something solid that is no bracket, and no `?` that asks
pub plain_begins : (c : FlowContext) (prefix after : List ℕ) → plain_line c prefix after ≡ true
    → (first solid (prefix ++ after) ≡ true) × (ends_entry (prefix ++ after) ≡ false) × (is_asked c (prefix ++ after) ≡ false)
    × (first (λ x. x == 91) (prefix ++ after) ≡ false) × (first (λ x. x == 123) (prefix ++ after) ≡ false)
plain_begins c [] after h = absurd (false≢true h)
plain_begins c (x ∷ xs) after h =
    let p : (ns x ≡ true) × (not (indicator x) || (is_in x (codes "?:-") && first (safe c) (xs ++ after)) ≡ true) =
    and_parts _ _ (and_parts _ _ h).0 in
    elim (or_cases _ _ p.1) [
      | inl i ↦ (let f : indicator x ≡ false = not-true _ i in (
        plain_solid x p.0 (no_indicator x 35 refl f),
        or_from _ _ (no_indicator x 44 refl f) (or_from _ _ (no_indicator x 93 refl f) (or_from _ _ (no_indicator x 125 refl f) refl)),
        and_left (x == 63) _ (no_indicator x 63 refl f),
        no_indicator x 91 refl f,
        no_indicator x 123 refl f,
      ))
      | inr i ↦ (let q : (is_in x (codes "?:-") ≡ true) × (first (safe c) (xs ++ after) ≡ true) = and_parts _ _ i in (
        sign_cases (λ x. solid x ≡ true) x q.0 refl refl refl,
        sign_cases (λ x. closing x ≡ false) x q.0 refl refl refl,
        not_both (x == 63) _ (not_from_true _ q.1),
        sign_cases (λ x. x == 91 ≡ false) x q.0 refl refl refl,
        sign_cases (λ x. x == 123 ≡ false) x q.0 refl refl refl,
      ))
    ]

-- the first line of a plain scalar that fits, and that no marker is there
pub plain_prefix : (n : ℕ) (c : FlowContext) (bol : Bool) (prefix : List ℕ) (more : List (Line ℕ)) (after : List ℕ)
    → scalar_fits n c bol (plain prefix more) after ≡ true
    → (plain_line c prefix (lines_after plain_kind more after) ≡ true) × (no_marker bol (lines_text plain_text prefix more ++ after) ≡ true)
plain_prefix n c bol prefix more after h =
    let p : (no_marker bol (lines_text plain_text prefix more ++ after)
    && plain_line c prefix (lines_after plain_kind more after) && plain_lines n c prefix more after ≡ true)
    × (is_empty more || not (one_line c) ≡ true) = and_parts _ _ h in
    let q : (no_marker bol (lines_text plain_text prefix more ++ after)
    && plain_line c prefix (lines_after plain_kind more after) ≡ true)
    × (plain_lines n c prefix more after ≡ true) = and_parts _ _ p.0 in
    let r : (no_marker bol (lines_text plain_text prefix more ++ after) ≡ true)
    × (plain_line c prefix (lines_after plain_kind more after) ≡ true) = and_parts _ _ q.0 in
    (r.1, r.0)

-- ---- nodes

-- the text of a node begins with no closing bracket, no white and no comment
pub flow_begins : (f : Flow) (n : ℕ) (c : FlowContext) (bol : Bool) (after : List ℕ) → canonical_flow f n c bol after ≡ true
    → (first solid (flow_text f ++ after) ≡ true) × (ends_entry (flow_text f ++ after) ≡ false)
    × (is_asked c (flow_text f ++ after) ≡ false)
flow_begins (scalar (plain prefix more)) n c bol after h =
    let b = plain_begins c prefix (lines_after plain_kind more after) (plain_prefix n c bol prefix more after h).0 in
    subst (λ (t : List ℕ). (first solid t ≡ true) × (ends_entry t ≡ false) × (is_asked c t ≡ false))
    (sym (plain_regrouped prefix more after)) (b.0, b.1, b.2)
flow_begins (scalar (single prefix more)) n c bol after h = (refl, refl, refl)
flow_begins (scalar (double prefix more)) n c bol after h = (refl, refl, refl)
flow_begins (seq gap es) n c bol after h = (refl, refl, refl)
flow_begins (map gap es) n c bol after h = (refl, refl, refl)

-- a scalar starts with something solid
pub scalar_begins : (s : Scalar) (n : ℕ) (c : FlowContext) (bol : Bool) (after : List ℕ) → scalar_fits n c bol s after ≡ true
    → (first (λ x. x == 91) (scalar_text s ++ after) ≡ false) × (first (λ x. x == 123) (scalar_text s ++ after) ≡ false)
scalar_begins (plain prefix more) n c bol after h =
    let b = plain_begins c prefix (lines_after plain_kind more after) (plain_prefix n c bol prefix more after h).0 in
    subst (λ (t : List ℕ). (first (λ x. x == 91) t ≡ false) × (first (λ x. x == 123) t ≡ false))
    (sym (plain_regrouped prefix more after)) (b.3, b.4)
scalar_begins (single prefix more) n c bol after h = (refl, refl)
scalar_begins (double prefix more) n c bol after h = (refl, refl)

-- ---- entries

-- a closing bracket
abbrev pub bracket : ℕ → Bool
bracket x = (x == 93) || (x == 125)

-- a closing bracket is one of two
bracket_cases : (x : ℕ) → bracket x ≡ true → (x ≡ 93) ⊎ (x ≡ 125)
bracket_cases x h = elim (or_cases (x == 93) (x == 125) h) [ inl e ↦ inl (eqb-true x 93 e) | inr e ↦ inr (eqb-true x 125 e) ]

-- a closing bracket closes an entry
pub bracket_closing : (x : ℕ) → bracket x ≡ true → closing x ≡ true
bracket_closing x h = elim (bracket_cases x h) [ inl e ↦ rw e | inr e ↦ rw e ]

-- a closing bracket is no comma
pub bracket_no_comma : (x : ℕ) → bracket x ≡ true → (x == 44) ≡ false
bracket_no_comma x h = elim (bracket_cases x h) [ inl e ↦ rw e | inr e ↦ rw e ]

-- where no entry ends, no bracket closes
unclosed : (text : List ℕ) (close : ℕ) → closing close ≡ true → ends_entry text ≡ false → first (λ x. x == close) text ≡ false
unclosed [] close k h = refl
unclosed (c ∷ cs) close k h = elim (cases_eq c close) [
  | inl e ↦ absurd (false≢true (sym h ∙ ap closing e ∙ k))
  | inr n ↦ ne_eqb c close n
]

-- the key of an entry is canonical in one context or in the other
either_key : (pair : Bool) (f : Flow) (n : ℕ) (c : FlowContext) (bol : Bool) (after : List ℕ) (short : Bool)
    → cond pair (canonical_flow f 0 flow_key bol after && short) (canonical_flow f n c bol after) ≡ true
    → (first solid (flow_text f ++ after) ≡ true) × (ends_entry (flow_text f ++ after) ≡ false)
either_key true f n c bol after short h = let b = flow_begins f 0 flow_key bol after (and_parts _ _ h).0 in (b.0, b.1)
either_key false f n c bol after short h = let b = flow_begins f n c bol after h in (b.0, b.1)

-- an entry starts with something solid
entry_begins : (e : Entry) (n : ℕ) (d : FlowContext) (in_seq bol : Bool) (after : List ℕ) → canonical_entry e n d in_seq bol after ≡ true
    → (first solid (entry_text e ++ after) ≡ true) × (ends_entry (entry_text e ++ after) ≡ false)
entry_begins (entry None key value) n d in_seq bol after h =
    let p = and_parts _ _ h in
    let regrouped : entry_text (entry None key value) ++ after ≡ flow_text key ++ (value_text value ++ after) = simp append_assoc in
    let b = either_key (single_pair in_seq None value) key n d bol (value_text value ++ after) _ p.0 in
    subst (λ (t : List ℕ). (first solid t ≡ true) × (ends_entry t ≡ false)) (sym regrouped) b
entry_begins (entry (Some sep) key value) n d in_seq bol after h = (refl, refl)

-- the text up to a closing bracket starts with something solid
pub entries_begin : (es : Entries) (n : ℕ) (d : FlowContext) (in_seq bol : Bool) (close : ℕ) (after : List ℕ) → bracket close ≡ true
    → canonical_entries es n d in_seq bol (close ∷ after) ≡ true → first solid (entries_text es ++ (close ∷ after)) ≡ true
entries_begin none n d in_seq bol close after k h = elim (bracket_cases close k) [ inl e ↦ rw e | inr e ↦ rw e ]
entries_begin (last e gap) n d in_seq bol close after k h =
    let regrouped : entries_text (last e gap) ++ (close ∷ after) ≡ entry_text e ++ (gap_text gap ++ (close ∷ after)) = simp append_assoc in
    rw regrouped (entry_begins e n d in_seq bol _ (and_parts _ _ h).0).0
entries_begin (next e before gap_after es) n d in_seq bol close after k h =
    let regrouped : entries_text (next e before gap_after es) ++ (close ∷ after)
    ≡ entry_text e ++ (gap_text before ++ (44 ∷ (gap_text gap_after ++ (entries_text es ++ (close ∷ after))))) =
    simp append_assoc in
    let p = and_parts _ _ h in
    let q = and_parts _ _ p.0 in
    rw regrouped (entry_begins e n d in_seq bol _ (and_parts _ _ q.0).0).0

-- an entry begins with no closing bracket
pub entry_opens : (e : Entry) (n : ℕ) (d : FlowContext) (in_seq bol : Bool) (close : ℕ) (after : List ℕ) → bracket close ≡ true
    → canonical_entry e n d in_seq bol after ≡ true → first (λ x. x == close) (entry_text e ++ after) ≡ false
entry_opens e n d in_seq bol close after k h =
    unclosed (entry_text e ++ after) close (bracket_closing close k) (entry_begins e n d in_seq bol after h).1

-- ---- nodes in a block

-- outside brackets what is safe is ns
wide_safe : (c : FlowContext) (xs : List ℕ) → between_brackets c ≡ false → first (safe c) xs ≡ true → first ns xs ≡ true
wide_safe outer [] w h = h
wide_safe outer (x ∷ xs) w h = h
wide_safe block_key [] w h = h
wide_safe block_key (x ∷ xs) w h = h
wide_safe inner xs w h = absurd (false≢true (sym w))
wide_safe flow_key xs w h = absurd (false≢true (sym w))

-- a plain scalar starts with no indicator as a sign
plain_unsigned : (c : FlowContext) (k x : ℕ) (xs : List ℕ) → between_brackets c ≡ false → indicator k ≡ true
    → plain_first c x xs ≡ true → sign k (x ∷ xs) ≡ false
plain_unsigned c k x xs w i h = elim (or_cases _ _ (and_parts _ _ h).1) [
  | inl n ↦ and_left (x == k) _ (no_indicator x k i (not-true _ n))
  | inr n ↦ not_both (x == k) _ (not_from_true _ (wide_safe c xs w (and_parts _ _ n).1))
]

-- a plain scalar starts with no `|` and no `>`
plain_no_bar : (c : FlowContext) (x : ℕ) (xs : List ℕ) → plain_first c x xs ≡ true → bar x ≡ false
plain_no_bar c x xs h = elim (or_cases _ _ (and_parts _ _ h).1) [
  | inl n ↦ or_from _ _ (no_indicator x 124 refl (not-true _ n)) (no_indicator x 62 refl (not-true _ n))
  | inr n ↦ sign_cases (λ x. bar x ≡ false) x (and_parts _ _ n).0 refl refl refl
]

-- what neither comes before a document (a byte order mark) nor begins a directive (`%`)
abbrev pub reserved : ℕ → Bool
reserved x = (x == 37) || (x == 0xfeff)

-- a plain scalar starts with no reserved character
plain_unreserved : (c : FlowContext) (x : ℕ) (xs : List ℕ) → plain_first c x xs ≡ true → reserved x ≡ false
plain_unreserved c x xs h =
    or_from _ _
    (elim (or_cases _ _ (and_parts _ _ h).1) [
      | inl n ↦ no_indicator x 37 refl (not-true _ n)
      | inr n ↦ sign_cases (λ y. y == 37 ≡ false) x (and_parts _ _ n).0 refl refl refl
    ])
    (elim (cases_eq x 0xfeff) [
      | inl e ↦ absurd (false≢true (ap ns (sym e) ∙ (and_parts _ _ h).0))
      | inr n ↦ ne_eqb x 0xfeff n
    ])

-- the start of a flow node or a block scalar
pub record Opens (text : List ℕ) : Type 0 where
  pub solid_first : first solid text ≡ true
  pub no_dash : sign 45 text ≡ false
  pub no_ask : sign 63 text ≡ false
  pub no_colon : sign 58 text ≡ false
  pub unreserved : first reserved text ≡ false

-- a plain scalar may start a node
plain_opens : (c : FlowContext) (prefix after : List ℕ) → between_brackets c ≡ false
    → plain_line c prefix after ≡ true → Opens (prefix ++ after) × (first bar (prefix ++ after) ≡ false)
plain_opens c [] after w h = absurd (false≢true h)
plain_opens c (x ∷ xs) after w h =
    let f : plain_first c x (xs ++ after) ≡ true = (and_parts _ _ h).0 in (
      record {
        solid_first = (plain_begins c (x ∷ xs) after h).0;
        no_dash = plain_unsigned c 45 x _ w refl f;
        no_ask = plain_unsigned c 63 x _ w refl f;
        no_colon = plain_unsigned c 58 x _ w refl f;
        unreserved = plain_unreserved c x _ f;
      },
      plain_no_bar c x _ f,
    )

-- a flow node in a block starts with no sign of a block node, and with no `|` or `>`
pub flow_opens : (f : Flow) (n : ℕ) (c : FlowContext) (bol : Bool) (after : List ℕ) → between_brackets c ≡ false
    → canonical_flow f n c bol after ≡ true
    → Opens (flow_text f ++ after) × (first bar (flow_text f ++ after) ≡ false)
flow_opens (scalar (plain prefix more)) n c bol after w h =
    subst (λ (t : List ℕ). Opens t × (first bar t ≡ false)) (sym (plain_regrouped prefix more after))
    (plain_opens c prefix (lines_after plain_kind more after) w (plain_prefix n c bol prefix more after h).0)
flow_opens (scalar (single prefix more)) n c bol after w h =
    (record { solid_first = refl; no_dash = refl; no_ask = refl; no_colon = refl; unreserved = refl }, refl)
flow_opens (scalar (double prefix more)) n c bol after w h =
    (record { solid_first = refl; no_dash = refl; no_ask = refl; no_colon = refl; unreserved = refl }, refl)
flow_opens (seq gap es) n c bol after w h = (
  record
      { solid_first = refl; no_dash = refl; no_ask = refl; no_colon = refl; unreserved = refl },
  refl,
)
flow_opens (map gap es) n c bol after w h = (
  record
      { solid_first = refl; no_dash = refl; no_ask = refl; no_colon = refl; unreserved = refl },
  refl,
)

-- a key at the start of a line is no marker
pub key_unmarked : (f : Flow) (n : ℕ) (c : FlowContext) (after : List ℕ) → canonical_flow f n c true after ≡ true
    → marker (flow_text f ++ after) ≡ false
key_unmarked (scalar (plain prefix more)) n c after h =
    not-true _ (plain_prefix n c true prefix more after h).1
key_unmarked (scalar (single prefix more)) n c after h = marker_first 39 _ refl refl
key_unmarked (scalar (double prefix more)) n c after h = marker_first 34 _ refl refl
key_unmarked (seq gap es) n c after h = marker_first 91 _ refl refl
key_unmarked (map gap es) n c after h = marker_first 123 _ refl refl
