-- A flow node is on one line exactly where its text has no break.
use Rattle.std.{proofs.Common.{ap, arith, refl, sym, ◌∙◌, ◌≡◌}, specs.Prelude.{Bool, List, None, Option, Some, [], codes, cond, false}}
use Rattle.std.specs.Prelude.{flat_map, not, true, ℕ, ◌&&◌, ◌++◌, ◌==◌, ◌||◌, ◌∷◌, if◌then◌else◌, is_some}
use Rattle.yaml_recognizers.proofs.Prelude.{list_all, and_from, and_parts, cond_both, false≢true, nat_tests, is_in, line_break, nb_json, ns}
use Rattle.yaml_recognizers.proofs.Prelude.{white, Entries, Entry, Flow, Value, absent, asked_text, before_colon, empty, entries_text}
use Rattle.yaml_recognizers.proofs.Prelude.{entry, entry_text, flow_text, given, is_plain, last, map, next, none, scalar, seq, short_key}
use Rattle.yaml_recognizers.proofs.Prelude.{single_pair, value_text, FlowContext, block_key, inner, outer, QuotedChar, Line, Scalar, double}
use Rattle.yaml_recognizers.proofs.Prelude.{quoted_char_fits, escape, flow_key, hex_digit, in_flow, quoted_char_text, line_text, lines_text}
use Rattle.yaml_recognizers.proofs.Prelude.{number, one_line, plain, plain_line, plain_next, plain_run, plain_text, raw, scalar_fits}
use Rattle.yaml_recognizers.proofs.Prelude.{scalar_text, single, single_text, Break, Sep, break_text, comment_line_fits, comment_text}
use Rattle.yaml_recognizers.proofs.Prelude.{comments_fit, comments_text, cr, cr_lf, gap_text, inline, lf, line_end_text, lines, stop_fits}
use Rattle.yaml_recognizers.proofs.{Prelude.{is_empty, optional, starts_line}, Separation.LineEnds.line_parts}
use Rattle.yaml_recognizers.specs.{CanonicalComments.{canonical_gap, is_line_end}, WholeScalars.stands_on_one_line}
use Rattle.yaml_recognizers.specs.CanonicalFlowNodes.{canonical_entries, canonical_entry, canonical_flow, canonical_value}
use Rattle.yaml_recognizers.specs.OneLine.{entries_on_one_line, entry_on_one_line, gap_on_one_line, on_one_line, value_on_one_line}

-- the text has no break
abbrev pub unbroken : List ℕ → Bool
unbroken xs = list_all (λ x. not (line_break x)) xs

-- two texts joined have no break if neither has
pub unbroken_joined : (xs ys : List ℕ) → unbroken (xs ++ ys) ≡ unbroken xs && unbroken ys
unbroken_joined [] ys = refl
unbroken_joined (x ∷ xs) ys = by_cases (not (line_break x)) (unbroken xs) (unbroken ys) (unbroken_joined xs ys)
  where
    by_cases : (a b c : Bool) {d : Bool} → d ≡ b && c → a && d ≡ (a && b) && c
    by_cases true b c e = e
    by_cases false b c e = refl

-- two texts without a break, joined, have none
both_unbroken : (xs ys : List ℕ) → unbroken xs ≡ true → unbroken ys ≡ true → unbroken (xs ++ ys) ≡ true
both_unbroken xs ys h k = unbroken_joined xs ys ∙ and_from _ _ h k

-- a break in the first of two is one in both, joined
left_broken : (xs ys : List ℕ) → unbroken xs ≡ false → unbroken (xs ++ ys) ≡ false
left_broken xs ys h = unbroken_joined xs ys ∙ rw h refl

-- and so is a break in the second
right_broken : (xs ys : List ℕ) → unbroken ys ≡ false → unbroken (xs ++ ys) ≡ false
right_broken xs ys h = unbroken_joined xs ys ∙ rw h (and_false (unbroken xs))
  where
    and_false : (b : Bool) → b && false ≡ false
    and_false true = refl
    and_false false = refl

-- a break has a break
break_broken : (b : Break) → unbroken (break_text b) ≡ false
break_broken lf = refl
break_broken cr = refl
break_broken cr_lf = refl

-- ---- scalars

-- things that are spelled without a break have none, one after another
all_unbroken : {A : Type 0} (spell : A → List ℕ) (p : A → Bool) (xs : List A)
    → ((x : A) → p x ≡ true → unbroken (spell x) ≡ true) → list_all p xs ≡ true → unbroken (flat_map spell xs) ≡ true
all_unbroken spell p [] f h = refl
all_unbroken spell p (x ∷ xs) f h = let q = and_parts _ _ h in
    both_unbroken (spell x) (flat_map spell xs) (f x q.0) (all_unbroken spell p xs f q.1)

-- a character that is no break has none
one_unbroken : (x : ℕ) → line_break x ≡ false → unbroken (x ∷ []) ≡ true
one_unbroken x h = rw h refl

-- a character between single quotes has no break
single_unbroken : (x : ℕ) → nb_json x ≡ true → unbroken (single_text x) ≡ true
single_unbroken x h = cond_both (x == 39) (codes "''") (x ∷ []) (λ (t : List ℕ). unbroken t ≡ true) (λ _. refl)
    (λ _. one_unbroken x (grind (arith, nat_tests)))

-- hexadecimal digits have no break
digits_unbroken : (ds : List ℕ) → list_all hex_digit ds ≡ true → unbroken ds ≡ true
digits_unbroken [] h = refl
digits_unbroken (d ∷ ds) h = let q = and_parts _ _ h in and_from _ _ (digit d q.0) (digits_unbroken ds q.1)
  where
    digit : (d : ℕ) → hex_digit d ≡ true → not (line_break d) ≡ true
    digit d h = grind (arith, nat_tests)

-- one thing between double quotes has no break
item_unbroken : (i : QuotedChar) → quoted_char_fits i ≡ true → unbroken (quoted_char_text i) ≡ true
item_unbroken (raw c) h = one_unbroken c (json c (and_parts _ _ h).0)
  where
    json : (c : ℕ) → nb_json c ≡ true → line_break c ≡ false
    json c h = grind (arith, nat_tests)
item_unbroken (escape c) h = one_unbroken c (sign c h)
  where
    sign : (c : ℕ) → is_in c (9 ∷ codes "0abtnvfre \"/\\N_LP") ≡ true → line_break c ≡ false
    sign c h = grind (arith, nat_tests)
item_unbroken (number c digits) h =
    let p = and_parts _ _ h in
    let q = and_parts _ _ p.0 in
    let r = and_parts _ _ q.0 in
    and_from _ _ (sign c r.0) (digits_unbroken digits q.1)
  where
    sign : (c : ℕ) → is_in c (codes "xuU") ≡ true → not (line_break c) ≡ true
    sign c h = grind (arith, nat_tests)

-- ns is no break
ns_unbroken : (x : ℕ) → ns x ≡ true → not (line_break x) ≡ true
ns_unbroken x h = grind (arith, nat_tests)

-- white and plain characters
run_unbroken : (c : FlowContext) (prev : ℕ) (xs after : List ℕ) → plain_run c prev xs after ≡ true
    → unbroken (flat_map plain_text xs) ≡ true
run_unbroken c prev [] after h = refl
run_unbroken c prev (x ∷ xs) after h =
    let q = and_parts _ _ h in and_from _ _ (one c prev x (xs ++ after) q.0) (run_unbroken c x xs after q.1)
  where
    one : (c : FlowContext) (prev x : ℕ) (t : List ℕ) → white x || plain_next c prev x t ≡ true → not (line_break x) ≡ true
    one outer prev x t h = grind (arith, nat_tests)
    one inner prev x t h = grind (arith, nat_tests)
    one block_key prev x t h = grind (arith, nat_tests)
    one flow_key prev x t h = grind (arith, nat_tests)

-- a further line has a break
line_broken : {A : Type 0} (spell : A → List ℕ) (l : Line A) → unbroken (line_text spell l) ≡ false
line_broken spell l =
    left_broken (((l.blank ++ (if l.escaped then codes "\\" else []) ++ break_text l.stop)
    ++ flat_map (λ e. e.blank ++ break_text e.stop) l.empties) ++ l.lead) (flat_map spell l.held)
    (left_broken ((l.blank ++ (if l.escaped then codes "\\" else []) ++ break_text l.stop)
    ++ flat_map (λ e. e.blank ++ break_text e.stop) l.empties) l.lead
    (left_broken (l.blank ++ (if l.escaped then codes "\\" else []) ++ break_text l.stop)
    (flat_map (λ e. e.blank ++ break_text e.stop) l.empties)
    (right_broken (l.blank ++ (if l.escaped then codes "\\" else [])) (break_text l.stop) (break_broken l.stop))))

-- what the first line holds has no break: so there is one exactly where there is a further line
lines_one_line : {A : Type 0} (spell : A → List ℕ) (prefix : List A) (more : List (Line A))
    → unbroken (flat_map spell prefix) ≡ true → unbroken (lines_text spell prefix more) ≡ is_empty more
lines_one_line spell prefix [] h = both_unbroken (flat_map spell prefix) [] h refl
lines_one_line spell prefix (l ∷ ls) h =
    right_broken (flat_map spell prefix) (line_text spell l ++ flat_map (line_text spell) ls)
    (left_broken (line_text spell l) (flat_map (line_text spell) ls) (line_broken spell l))

-- quotes have no break
between_quotes : (q : ℕ) (xs : List ℕ) → line_break q ≡ false → unbroken ((q ∷ []) ++ xs ++ (q ∷ [])) ≡ unbroken xs
between_quotes q xs h =
    unbroken_joined ((q ∷ []) ++ xs) (q ∷ []) ∙ rw h (and_true (unbroken xs))
  where
    and_true : (b : Bool) → b && true ≡ b
    and_true true = refl
    and_true false = refl

-- the first line of a plain scalar has no break
plain_prefix : (c : FlowContext) (prefix after : List ℕ) → plain_line c prefix after ≡ true → unbroken (flat_map plain_text prefix) ≡ true
plain_prefix c [] after h = refl
plain_prefix c (x ∷ xs) after h =
    let q = and_parts _ _ h in and_from _ _ (ns_unbroken x (and_parts _ _ q.0).0) (run_unbroken c x xs after q.1)

-- a scalar is on one line exactly if its text has no break
pub scalar_one_line : (s : Scalar) (n : ℕ) (c : FlowContext) (bol : Bool) (after : List ℕ)
    → scalar_fits n c bol s after ≡ true → stands_on_one_line s ≡ unbroken (scalar_text s)
scalar_one_line (plain prefix more) n c bol after h =
    let p = and_parts _ _ h in
    let q = and_parts _ _ p.0 in
    let r = and_parts _ _ q.0 in
    sym (lines_one_line plain_text prefix more (plain_prefix c prefix _ r.1))
scalar_one_line (single prefix more) n c bol after h =
    let p = and_parts _ _ h in
    let q = and_parts _ _ p.0 in
    sym (between_quotes 39 (lines_text single_text prefix more) refl
    ∙ lines_one_line single_text prefix more (all_unbroken single_text nb_json prefix single_unbroken q.0))
scalar_one_line (double prefix more) n c bol after h =
    let p = and_parts _ _ h in
    let q = and_parts _ _ p.0 in
    sym (between_quotes 34 (lines_text quoted_char_text prefix more) refl
    ∙ lines_one_line quoted_char_text prefix more (all_unbroken quoted_char_text quoted_char_fits prefix item_unbroken q.0))

-- ---- gaps

-- two texts, joined, aren't empty if the second isn't
nonempty_after : (xs ys : List ℕ) → is_empty ys ≡ false → is_empty (xs ++ ys) ≡ false
nonempty_after [] ys h = h
nonempty_after (x ∷ xs) ys h = refl

-- whitespace has no break
white_unbroken : (xs : List ℕ) → list_all white xs ≡ true → unbroken xs ≡ true
white_unbroken [] h = refl
white_unbroken (x ∷ xs) h = let q = and_parts _ _ h in and_from _ _ (one x q.0) (white_unbroken xs q.1)
  where
    one : (x : ℕ) → white x ≡ true → not (line_break x) ≡ true
    one x h = grind (arith, nat_tests)

-- a line's end that isn't at the end of the text has a break
stop_broken : (stop : Option Break) (after : List ℕ) → stop_fits stop after ≡ true → is_empty after ≡ false
    → unbroken (optional break_text stop) ≡ false
stop_broken None after h k = absurd (false≢true (sym k ∙ h))
stop_broken (Some b) after h k = break_broken b

-- so is a gap
pub gap_one_line : (n : ℕ) (key : Bool) (gap : Option Sep) (after : List ℕ) → canonical_gap n key gap after ≡ true
    → is_empty after ≡ false → gap_on_one_line gap ≡ unbroken (gap_text gap)
gap_one_line n key None after h k = refl
gap_one_line n key (Some (inline blank)) after h k = sym (white_unbroken blank (and_parts _ _ h).0)
gap_one_line n key (Some (lines [] lead)) after h k =
    let p = and_parts _ _ h in
    let q = and_parts _ _ p.0 in
    let r = and_parts _ _ q.0 in
    absurd (false≢true r.1)
gap_one_line n key (Some (lines (e ∷ es) lead)) after h k =
    let p = and_parts _ _ h in
    let q = and_parts _ _ p.0 in
    let c : (comments_fit false (e ∷ es) (lead ++ after) ≡ true) × (not (is_line_end (lead ++ after)) ≡ true) = and_parts _ _ q.1 in
    let here : comment_line_fits false e (comments_text es ++ (lead ++ after)) ≡ true = (and_parts _ _ c.0).0 in
    let stop : unbroken (optional break_text e.stop) ≡ false =
    stop_broken e.stop (comments_text es ++ (lead ++ after)) (line_parts false e (comments_text es ++ (lead ++ after)) here).stop_fit
    (nonempty_after (comments_text es) (lead ++ after) (nonempty_after lead after k)) in
    sym (left_broken (comments_text (e ∷ es)) lead
    (left_broken (line_end_text e) (comments_text es)
    (right_broken (e.blank ++ optional comment_text e.comment) (optional break_text e.stop) stop)))

-- ---- nodes

-- brackets have no break
bracketed : (a b : ℕ) (g es : List ℕ) → line_break a ≡ false → line_break b ≡ false
    → unbroken ((a ∷ []) ++ g ++ es ++ (b ∷ [])) ≡ unbroken g && unbroken es
bracketed a b g es h k =
    unbroken_joined ((a ∷ []) ++ g ++ es) (b ∷ [])
    ∙ (ap (λ t. t && unbroken (b ∷ [])) (unbroken_joined ((a ∷ []) ++ g) es)
    ∙ rw (h, k) (and_true (unbroken g && unbroken es)))
  where
    and_true : (b : Bool) → b && true ≡ b
    and_true true = refl
    and_true false = refl

-- a break in three texts, joined, is one in one of them
three : (xs ys zs : List ℕ) → unbroken (xs ++ ys ++ zs) ≡ (unbroken xs && unbroken ys) && unbroken zs
three xs ys zs = unbroken_joined (xs ++ ys) zs ∙ ap (λ t. t && unbroken zs) (unbroken_joined xs ys)

-- `?` has no break
asked_same : (ask : Option Sep) → unbroken (asked_text ask) ≡ unbroken (gap_text ask)
asked_same None = refl
asked_same (Some sep) = refl

-- of the two forms of a key one fits
of_either : (P : Type 0) (b x y z : Bool) → cond b (x && y) z ≡ true → (x ≡ true → P) → (z ≡ true → P) → P
of_either P true x y z h f g = f (and_parts x y h).0
of_either P false x y z h f g = g h

-- what holds together with true
and_true : (b : Bool) → b && true ≡ b
and_true true = refl
and_true false = refl

mutual
  -- so is a flow node
  pub flow_one_line : (f : Flow) (n : ℕ) (c : FlowContext) (bol : Bool) (after : List ℕ)
      → canonical_flow f n c bol after ≡ true → on_one_line f ≡ unbroken (flow_text f)
  flow_one_line (scalar s) n c bol after h = scalar_one_line s n c bol after h
  flow_one_line (seq gap es) n c bol after h =
      let p = and_parts _ _ h in
      rw (
        gap_one_line n (one_line c) gap (entries_text es ++ (93 ∷ after)) p.0
            (nonempty_after (entries_text es) (93 ∷ after) refl),
        entries_one_line es n (in_flow c) true _ (93 ∷ after) p.1 refl,
      )
      (sym (bracketed 91 93 (gap_text gap) (entries_text es) refl refl))
  flow_one_line (map gap es) n c bol after h =
      let p = and_parts _ _ h in
      rw (
        gap_one_line n (one_line c) gap (entries_text es ++ (125 ∷ after)) p.0
            (nonempty_after (entries_text es) (125 ∷ after) refl),
        entries_one_line es n (in_flow c) false _ (125 ∷ after) p.1 refl,
      )
      (sym (bracketed 123 125 (gap_text gap) (entries_text es) refl refl))

  -- entries are on one line just where their text has no break
  entries_one_line : (es : Entries) (n : ℕ) (d : FlowContext) (in_seq bol : Bool) (after : List ℕ)
      → canonical_entries es n d in_seq bol after ≡ true → is_empty after ≡ false
      → entries_on_one_line es ≡ unbroken (entries_text es)
  entries_one_line none n d in_seq bol after h k = refl
  entries_one_line (last e gap) n d in_seq bol after h k =
      let p = and_parts _ _ h in
      rw (
        entry_one_line e n d in_seq bol (gap_text gap ++ after) p.0 (nonempty_after (gap_text gap) after k),
        gap_one_line n (one_line d) gap after p.1 k,
      )
      (sym (unbroken_joined (entry_text e) (gap_text gap)))
  entries_one_line (next e before gap_after es) n d in_seq bol after h k =
      let p = and_parts _ _ h in
      let q = and_parts _ _ p.0 in
      let r = and_parts _ _ q.0 in
      let more : is_empty (entries_text es ++ after) ≡ false = nonempty_after (entries_text es) after k in
      rw (
        entry_one_line e n d in_seq bol (gap_text before ++ (44 ∷ (gap_text gap_after ++ (entries_text es ++ after))))
            r.0 (nonempty_after (gap_text before) (44 ∷ (gap_text gap_after ++ (entries_text es ++ after))) refl),
        gap_one_line n (one_line d) before (44 ∷ (gap_text gap_after ++ (entries_text es ++ after))) r.1 refl,
        gap_one_line n (one_line d) gap_after (entries_text es ++ after) q.1 more,
        entries_one_line es n d in_seq _ after p.1 k,
      )
      (sym (three ((entry_text e ++ gap_text before) ++ (44 ∷ [])) (gap_text gap_after) (entries_text es)
      ∙ ap (λ t. (t && unbroken (gap_text gap_after)) && unbroken (entries_text es))
      (unbroken_joined (entry_text e ++ gap_text before) (44 ∷ [])
      ∙ (and_true (unbroken (entry_text e ++ gap_text before)) ∙ unbroken_joined (entry_text e) (gap_text before)))))

  -- and so is an entry
  entry_one_line : (e : Entry) (n : ℕ) (d : FlowContext) (in_seq bol : Bool) (after : List ℕ)
      → canonical_entry e n d in_seq bol after ≡ true → is_empty after ≡ false
      → entry_on_one_line e ≡ unbroken (entry_text e)
  entry_one_line (entry ask key value) n d in_seq bol after h k =
      let p = and_parts _ _ h in
      let q = and_parts _ _ p.0 in
      let more : is_empty (value_text value ++ after) ≡ false = nonempty_after (value_text value) after k in
      let line : on_one_line key ≡ unbroken (flow_text key) =
      of_either (on_one_line key ≡ unbroken (flow_text key)) (single_pair in_seq ask value)
      (canonical_flow key 0 flow_key bol (value_text value ++ after)) (short_key key (before_colon value))
      (canonical_flow key n d (if is_some ask then starts_line false (gap_text ask) else bol) (value_text value ++ after)) q.1
      (λ f. flow_one_line key 0 flow_key bol (value_text value ++ after) f)
      (λ f. flow_one_line key n d (if is_some ask then starts_line false (gap_text ask) else bol)
      (value_text value ++ after) f) in
      rw (
        gap_one_line n (one_line d) ask (flow_text key ++ (value_text value ++ after)) q.0
            (nonempty_after (flow_text key) (value_text value ++ after) more),
        line,
        value_one_line value n d (one_line d || single_pair in_seq ask value) (is_plain key) after p.1 k,
      )
      (sym (three (asked_text ask) (flow_text key) (value_text value)
      ∙ ap (λ t. (t && unbroken (flow_text key)) && unbroken (value_text value)) (asked_same ask)))

  -- and a value
  value_one_line : (v : Value) (n : ℕ) (d : FlowContext) (key after_plain : Bool) (after : List ℕ)
      → canonical_value v n d key after_plain after ≡ true → is_empty after ≡ false
      → value_on_one_line v ≡ unbroken (value_text v)
  value_one_line absent n d key after_plain after h k = refl
  value_one_line (empty gap) n d key after_plain after h k =
      let p = and_parts _ _ h in
      rw (gap_one_line n key gap (58 ∷ after) p.0 refl)
      (sym (unbroken_joined (gap_text gap) (58 ∷ []) ∙ and_true (unbroken (gap_text gap))))
  value_one_line (given before gap_after f) n d key after_plain after h k =
      let p = and_parts _ _ h in
      let q = and_parts _ _ p.0 in
      let r = and_parts _ _ q.0 in
      rw (
        gap_one_line n key before (58 ∷ (gap_text gap_after ++ (flow_text f ++ after))) r.0 refl,
        gap_one_line n (one_line d) gap_after (flow_text f ++ after) q.1 (nonempty_after (flow_text f) after k),
        flow_one_line f n d _ after p.1,
      )
      (sym (three ((gap_text before) ++ (58 ∷ [])) (gap_text gap_after) (flow_text f)
      ∙ ap (λ t. (t && unbroken (gap_text gap_after)) && unbroken (flow_text f))
      (unbroken_joined (gap_text before) (58 ∷ []) ∙ and_true (unbroken (gap_text before)))))
