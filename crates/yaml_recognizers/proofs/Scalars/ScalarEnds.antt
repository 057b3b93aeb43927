-- A flow scalar ends before what comes after it in a node: a key's `:`, a comma, a closing bracket, or comments with a
-- line after them that is less deep.
use Rattle.std.{proofs.Common.{ap, append_assoc, arith, inl, inr, refl, subst, sym, ◌<◌, ◌∙◌, ◌≡◌, ◌⊎◌}, specs.Prelude.{Bool, List, None}}
use Rattle.std.specs.Prelude.{Option, Some, [], cond, false, is_some, length, nat_lt, not, suc, true, zero, ℕ, ◌&&◌, ◌++◌, ◌==◌, ◌||◌, ◌∷◌}
use Rattle.yaml_recognizers.proofs.Prelude.{and_from, and_left, and_parts, and_right, cases_Bool, cond-false, cond-true, cond_both}
use Rattle.yaml_recognizers.proofs.Prelude.{eqb-true, false≢true, lt-ltb, ltb-true, not-false, not-true, not_from_false, not_from_true}
use Rattle.yaml_recognizers.proofs.Prelude.{or_cases, line_break, ns, space, white, spaces_before, is_plain, scalar, FlowEmptyLine}
use Rattle.yaml_recognizers.proofs.Prelude.{FlowContext, Line, Scalar, block_key, double, flow_key, inner, one_line, outer, plain}
use Rattle.yaml_recognizers.proofs.Prelude.{plain_next, safe, single, Break, LineEnd, Sep, break_text, comment_fits, comment_line_fits}
use Rattle.yaml_recognizers.proofs.Prelude.{comment_text, comments_fit, comments_text, gap_fits, gap_text, indents, inline, line_end_text}
use Rattle.yaml_recognizers.proofs.Prelude.{lines, stop_fits, list_all, begins, first, is_empty, marker, no_marker, optional, spaces}
use Rattle.yaml_recognizers.proofs.Basics.{Blanks.white_at_break, Prefixes.drop_while_all, Breaks.{break_first, break_read, unbroken}}
use Rattle.yaml_recognizers.proofs.Scalars.{Joins.no_empty, SingleScalars.white_is, PlainRuns.{no_run, no_run_at_break, no_run_at_end}}
use Rattle.yaml_recognizers.proofs.{Scalars.PlainRuns.{unplain, white_stops}, Separation.LineEnds.{LineParts, line_parts, line_regrouped}}
use Rattle.yaml_recognizers.{proofs.Separation.LineEnds.tail_not_white, specs.{Comments.read_break, FlowScalars.scalar_ends}}
use Rattle.yaml_recognizers.specs.{Prefixes.{drop_while, take_while}, QuotedScalars.quote, Reading.{Read, on}, Repeated.and_more}
use Rattle.yaml_recognizers.specs.{Repeated.repeated, Ends.{closing, between_brackets, is_colon, less_deep}, Joins.{Join, at_break}}
use Rattle.yaml_recognizers.specs.{Joins.{after_blank, read_empty, read_join, with_lead}, PlainScalars.{last_char, plain_ends}}
use Rattle.yaml_recognizers.specs.PlainScalars.{read_plain_line, read_run, with_run}

-- a further line of a plain scalar begins with this text
abbrev pub goes_on : ℕ → FlowContext → List ℕ → Bool
goes_on n c text = indents n (take_while white text) && no_marker true text && not (is_empty (read_run c 32 (drop_while white text)))

-- ---- each style

-- the facts of a text that end any flow scalar before it
pub record Ends (n : ℕ) (c : FlowContext) (after : List ℕ) : Type 0 where
  pub run : (prev : ℕ) → read_run c prev after ≡ []
  pub line : read_plain_line n c after ≡ None
  pub quote : first quote after ≡ false

-- what ends a node in a context ends a scalar there
pub ends_scalar : (n : ℕ) (c : FlowContext) (s : Scalar) (after : List ℕ) → Ends n c after → scalar_ends n c s after ≡ true
unfolding scalar_ends plain_ends
ends_scalar n c (plain prefix more) after e =
    and_from _ _ (ap is_empty (e.run (last_char prefix more))) (right (one_line c) _ (ap (λ (r : Read (Line ℕ)). not (is_some r)) e.line))
  where
    right : (x y : Bool) → y ≡ true → x || y ≡ true
    right true y h = refl
    right false y h = h
ends_scalar n c (single prefix more) after e = not_from_false _ e.quote
ends_scalar n c (double prefix more) after e = refl

-- ---- no further line

-- no line begins without a break
pub no_line_here : (n : ℕ) (c : FlowContext) (text : List ℕ) → at_break text ≡ false → read_plain_line n c text ≡ None
unfolding read_plain_line read_join after_blank
no_line_here n c text h = rw (unbroken (drop_while white text) h) refl

-- nor where what comes after the break and the empty lines goes on with none
no_line_after : (n : ℕ) (c : FlowContext) (text : List ℕ) (b : Break) (rest : List ℕ) → read_break (drop_while white text) ≡ Some (b, rest)
    → goes_on n c (repeated (read_empty n) (length rest) rest).1 ≡ false → read_plain_line n c text ≡ None
unfolding read_plain_line read_join after_blank
no_line_after n c text b rest e h =
    let found : List FlowEmptyLine × List ℕ = repeated (read_empty n) (length rest) rest in
    let finish : Read Join → Read (Line ℕ) = λ r. on r (λ j t. with_run j t (read_run c 32 t)) in
    ap (λ (r : Read Break). finish (on r (λ stop t.
    with_lead false n (take_while white text) stop (repeated (read_empty n) (length t) t)))) e
    ∙ last (indents n (take_while white found.1) && no_marker true found.1) _ (drop_while white found.1) h
  where
    last : (b : Bool) (j : Join) (t : List ℕ) → b && not (is_empty (read_run c 32 t)) ≡ false
        → ◌≡◌ {A = Read (Line ℕ)} (on (cond b (Some (j, t)) None) (λ j' t'. with_run j' t' (read_run c 32 t'))) None
    last true j t h = cond-true _ _ _ (not-false (is_empty (read_run c 32 t)) h)
    last false j t h = refl

-- ---- white, and then what is neither white nor a break

-- a test that fails on whitespace and on what comes after it fails on the first character
white_first : (p : ℕ → Bool) (blank tail : List ℕ) → list_all white blank ≡ true → p 32 ≡ false → p 9 ≡ false
    → first p tail ≡ false → first p (blank ++ tail) ≡ false
white_first p [] tail w s t h = h
white_first p (x ∷ xs) tail w s t h = white_is (λ y. p y ≡ false) x (and_parts _ _ w).0 s t

-- whitespace, and a text that starts with no run, break or quote, end a scalar
pub blank_ends : (n : ℕ) (c : FlowContext) (blank tail : List ℕ) → list_all white blank ≡ true
    → ((prev : ℕ) → read_run c prev tail ≡ []) → at_break tail ≡ false
    → first quote tail ≡ false → Ends n c (blank ++ tail)
blank_ends n c blank tail w r b q = record {
  run = λ prev. white_stops c prev blank tail w (λ x _. r x) (λ _. r prev);
  line = no_line_here n c (blank ++ tail) (white_at_break blank tail w ∙ b);
  quote = white_first quote blank tail w refl refl q;
}

-- ---- a key's colon, a comma, a closing bracket

-- a `:` before no safe character is no plain character
colon_unplain : (c : FlowContext) (prev : ℕ) (rest : List ℕ) → first (safe c) rest ≡ false → plain_next c prev 58 rest ≡ false
colon_unplain c prev rest h = rw h (none (safe c 58))
  where
    none : (s : Bool) → (s && false) || false || false ≡ false
    none true = refl
    none false = refl

-- a `:` that no safe character follows
pub colon_ends : (n : ℕ) (c : FlowContext) (gap rest : List ℕ) → list_all white gap ≡ true
    → first (safe c) rest ≡ false → Ends n c (gap ++ (58 ∷ rest))
colon_ends n c gap rest g h = blank_ends n c gap (58 ∷ rest) g (λ prev. no_run c prev 58 rest (colon_unplain c prev rest h) refl) refl refl

-- a closing character is a comma or a closing bracket
closing_is : (P : ℕ → Type 0) (x : ℕ) → closing x ≡ true → P 44 → P 93 → P 125 → P x
closing_is P x h a b d = elim (or_cases (x == 44) _ h) [
  | inl e ↦ subst P (sym (eqb-true x 44 e)) a
  | inr i ↦ elim (or_cases (x == 93) _ i) [
    | inl e ↦ subst P (sym (eqb-true x 93 e)) b
    | inr j ↦ elim (or_cases (x == 125) _ j) [ inl e ↦ subst P (sym (eqb-true x 125 e)) d | inr n ↦ absurd (false≢true n) ]
  ]
]

-- between brackets a closing character is not safe
closing_unsafe : (d : FlowContext) (x : ℕ) → between_brackets d ≡ true → closing x ≡ true → safe d x ≡ false
closing_unsafe outer x i h = absurd (false≢true i)
closing_unsafe block_key x i h = absurd (false≢true i)
closing_unsafe inner x i h = closing_is (λ y. safe inner y ≡ false) x h refl refl refl
closing_unsafe flow_key x i h = closing_is (λ y. safe flow_key y ≡ false) x h refl refl refl

-- what ends an entry after a gap: it is neither white nor a break, and no plain character
record Barrier (d : FlowContext) (tail : List ℕ) : Type 0 where
  run : (prev : ℕ) → read_run d prev tail ≡ []
  bare : at_break tail ≡ false
  unblank : first white tail ≡ false
  unquoted : first quote tail ≡ false

-- a closing character ends a plain scalar between brackets
closing_barrier : (d : FlowContext) (tail : List ℕ) → between_brackets d ≡ true → first closing tail ≡ true → Barrier d tail
closing_barrier d [] i h = absurd (false≢true h)
closing_barrier d (x ∷ xs) i h =
    let none : (prev : ℕ) → plain_next d prev x xs ≡ false =
    λ prev. unplain d prev x xs (closing_unsafe d x i h) (closing_is (λ y. (y == 58) ≡ false) x h refl refl refl)
    (closing_is (λ y. (y == 35) ≡ false) x h refl refl refl) in
    let w : white x ≡ false = closing_is (λ y. white y ≡ false) x h refl refl refl in
    record {
      run = λ prev. no_run d prev x xs (none prev) w;
      bare = closing_is (λ y. at_break (y ∷ xs) ≡ false) x h refl refl refl;
      unblank = w;
      unquoted = closing_is (λ y. quote y ≡ false) x h refl refl refl;
    }

-- a `:` before no safe character ends a plain scalar
colon_barrier : (d : FlowContext) (rest : List ℕ) → first (safe d) rest ≡ false → Barrier d (58 ∷ rest)
colon_barrier d rest h = record {
  run = λ prev. no_run d prev 58 rest (colon_unplain d prev rest h) refl;
  bare = refl;
  unblank = refl;
  unquoted = refl;
}

-- ---- comments

-- the tail of a line's end: a comment, a break, or the end of the text
tail_runs : (c : FlowContext) (x : ℕ) (comment : Option (List ℕ)) (stop : Option Break) (rest : List ℕ)
    → stop_fits stop rest ≡ true → white x ≡ true
    → read_run c x (optional comment_text comment ++ (optional break_text stop ++ rest)) ≡ []
tail_runs c x (Some text) stop rest h w =
    no_run c x 35 (text ++ (optional break_text stop ++ rest)) (hash (safe c 35) (ns x) (white_is (λ y. ns y ≡ false) x w refl refl)) refl
  where
    hash : (s b : Bool) → b ≡ false → (s && false) || false || (true && b) ≡ false
    hash true b h = h
    hash false b h = h
tail_runs c x None None [] h w = no_run_at_end c x
tail_runs c x None None (y ∷ ys) h w = absurd (false≢true h)
tail_runs c x None (Some b) rest h w = no_run_at_break c x b rest

-- no run goes on into a line's end without whitespace
tail_bare : (c : FlowContext) (prev : ℕ) (blank : List ℕ) (comment : Option (List ℕ)) (stop : Option Break) (rest : List ℕ)
    → comment_fits (false || not (is_empty blank)) comment ≡ true → stop_fits stop rest ≡ true → is_empty blank ≡ true
    → read_run c prev (optional comment_text comment ++ (optional break_text stop ++ rest)) ≡ []
tail_bare c prev (x ∷ xs) comment stop rest k h e = absurd (false≢true e)
tail_bare c prev [] (Some text) stop rest k h e = absurd (false≢true k)
tail_bare c prev [] None None [] k h e = no_run_at_end c prev
tail_bare c prev [] None None (y ∷ ys) k h e = absurd (false≢true h)
tail_bare c prev [] None (Some b) rest k h e = no_run_at_break c prev b rest

-- a line's end after its whitespace starts with no break, or a break is read there
tail_break : (comment : Option (List ℕ)) (stop : Option Break) (rest : List ℕ) → stop_fits stop rest ≡ true
    → (first line_break (optional comment_text comment ++ (optional break_text stop ++ rest)) ≡ false)
    ⊎ ((b : Break) × (read_break (optional comment_text comment ++ (optional break_text stop ++ rest)) ≡ Some (b, rest)))
tail_break (Some text) stop rest f = inl refl
tail_break None None [] f = inl refl
tail_break None None (x ∷ xs) f = absurd (false≢true f)
tail_break None (Some b) rest f = inr (b, break_read b rest f)

-- a test that fails on `#` and on breaks fails on the start of a line's end
tail_first : (p : ℕ → Bool) (comment : Option (List ℕ)) (stop : Option Break) (rest : List ℕ)
    → stop_fits stop rest ≡ true → p 35 ≡ false → p 10 ≡ false → p 13 ≡ false
    → first p (optional comment_text comment ++ (optional break_text stop ++ rest)) ≡ false
tail_first p (Some text) stop rest f h a b = h
tail_first p None None [] f h a b = refl
tail_first p None None (x ∷ xs) f h a b = absurd (false≢true f)
tail_first p None (Some s) rest f h a b = break_first p s rest a b

-- what comes after the whitespace of a line's end is its comment and its stop
after_white : (bol : Bool) (e : LineEnd) (rest : List ℕ) → LineParts bol e rest
    → drop_while white (line_end_text e ++ rest) ≡ optional comment_text e.comment ++ (optional break_text e.stop ++ rest)
after_white bol e rest p =
    ap (drop_while white) (line_regrouped e rest)
    ∙ drop_while_all white e.blank _ p.blank_white (tail_not_white e.comment e.stop rest p.stop_fit)

-- no line of a plain scalar begins with a line of comments
line_stuck : (n : ℕ) (c : FlowContext) (bol : Bool) (e : LineEnd) (rest : List ℕ)
    → comment_line_fits bol e rest ≡ true → goes_on n c (line_end_text e ++ rest) ≡ false
line_stuck n c bol e rest h =
    let p = line_parts bol e rest h in
    let none : read_run c 32 (drop_while white (line_end_text e ++ rest)) ≡ [] =
    ap (read_run c 32) (after_white bol e rest p) ∙ tail_runs c 32 e.comment e.stop rest p.stop_fit refl in
    and_right _ _ (ap (λ (r : List ℕ). not (is_empty r)) none)

-- an empty line is a whole line of comments, or none
empty_or_none : (n : ℕ) (bol : Bool) (e : LineEnd) (rest : List ℕ) → comment_line_fits bol e rest ≡ true
    → (read_empty n (line_end_text e ++ rest) ≡ None) ⊎ ((x : FlowEmptyLine) × (read_empty n (line_end_text e ++ rest) ≡ Some (x, rest)))
unfolding read_empty
empty_or_none n bol e rest h =
    let p = line_parts bol e rest h in
    let text : List ℕ = line_end_text e ++ rest in
    let blank : List ℕ = take_while white text in
    elim (tail_break e.comment e.stop rest p.stop_fit) [
      | inl f ↦ inl (no_empty n text (ap (first line_break) (after_white bol e rest p) ∙ f))
      | inr b ↦ elim (cases_Bool (begins (spaces n) blank || list_all space blank)) [
        | inl i ↦ inr (
          record { blank = blank; stop = b.0 },
          cond-true _ _ _ i ∙ ap (λ (r : Read Break).
              on r (λ stop t. Some (record { blank = blank; stop = stop }, t))) (ap read_break (after_white bol e rest p) ∙ b.1),
        )
        | inr i ↦ inl (cond-false _ _ _ i)
      ]
    ]

-- nor after the empty lines at the start of comments
comments_stuck : (n : ℕ) (c : FlowContext) (fuel : ℕ) (es : List LineEnd) (after : List ℕ)
    → comments_fit true es after ≡ true → at_break after ≡ false
    → goes_on n c after ≡ false → goes_on n c (repeated (read_empty n) fuel (comments_text es ++ after)).1 ≡ false
unfolding repeated
comments_stuck n c zero [] after h b g = g
comments_stuck n c (suc fuel) [] after h b g = rw (no_empty n after b) g
comments_stuck n c zero (e ∷ es) after h b g =
    let p = and_parts _ _ h in
    ap (goes_on n c) (append_assoc (line_end_text e) (comments_text es) after) ∙ line_stuck n c true e (comments_text es ++ after) p.0
comments_stuck n c (suc fuel) (e ∷ es) after h b g =
    let p = and_parts _ _ h in
    let f : comment_line_fits true e (comments_text es ++ after) ≡ true = p.0 in
    let rest : List ℕ = comments_text es ++ after in
    let text : List ℕ = line_end_text e ++ rest in
    let again : List ℕ → List FlowEmptyLine × List ℕ = λ t. repeated (read_empty n) fuel t in
    ap (λ (t : List ℕ). goes_on n c (repeated (read_empty n) (suc fuel) t).1) (append_assoc (line_end_text e) (comments_text es) after)
    ∙ elim (empty_or_none n true e rest f) [
      | inl i ↦ ap (λ (r : Read FlowEmptyLine). goes_on n c (and_more text again r).1) i ∙ line_stuck n c true e rest f
      | inr i ↦ ap (λ (r : Read FlowEmptyLine). goes_on n c (and_more text again r).1) i.1 ∙ comments_stuck n c fuel es after p.1 b g
    ]

-- at the end of the text a scalar ends
nothing_after : (n : ℕ) (c : FlowContext) (after : List ℕ) → is_empty after ≡ true → Ends n c after
nothing_after n c [] h = record { run = no_run_at_end c; line = no_line_here n c [] refl; quote = refl }
nothing_after n c (x ∷ xs) h = absurd (false≢true h)

-- no quote comes after comments, if none comes after them all
comments_unquoted : (es : List LineEnd) (after : List ℕ) → comments_fit false es after ≡ true
    → first quote after ≡ false → first quote (comments_text es ++ after) ≡ false
comments_unquoted [] after h q = q
comments_unquoted (e ∷ es) after h q =
    let rest : List ℕ = comments_text es ++ after in
    let tail : List ℕ = optional comment_text e.comment ++ (optional break_text e.stop ++ rest) in
    let p = line_parts false e rest (and_parts _ _ h).0 in
    ap (first quote) (append_assoc (line_end_text e) (comments_text es) after ∙ line_regrouped e rest)
    ∙ white_first quote e.blank tail p.blank_white refl refl (tail_first quote e.comment e.stop rest p.stop_fit refl refl refl)

-- comments, where what comes after them is no empty line and begins no line of the scalar
pub comments_end : (n : ℕ) (c : FlowContext) (es : List LineEnd) (after : List ℕ) → comments_fit false es after ≡ true
    → at_break after ≡ false
    → goes_on n c after ≡ false → Ends n c (comments_text es ++ after)
comments_end n c [] after h b g = nothing_after n c after h
comments_end n c (e ∷ es) after h b g =
    let q = and_parts _ _ h in
    let rest : List ℕ = comments_text es ++ after in
    let p = line_parts false e rest q.0 in
    let tail : List ℕ = optional comment_text e.comment ++ (optional break_text e.stop ++ rest) in
    let text : List ℕ = line_end_text e ++ rest in
    let whole : Ends n c text = record {
      run = λ prev. ap (read_run c prev) (line_regrouped e rest)
          ∙ white_stops c prev e.blank tail p.blank_white (λ x w. tail_runs c x e.comment e.stop rest p.stop_fit w)
          (tail_bare c prev e.blank e.comment e.stop rest p.comment_fit p.stop_fit);
      line = elim (tail_break e.comment e.stop rest p.stop_fit) [
        | inl i ↦ no_line_here n c text (ap (first line_break) (after_white false e rest p) ∙ i)
        | inr i ↦ no_line_after n c text i.0 rest (ap read_break (after_white false e rest p) ∙ i.1)
            (comments_stuck n c (length rest) es after q.1 b g)
      ];
      quote = ap (first quote) (line_regrouped e rest)
          ∙ white_first quote e.blank tail p.blank_white refl refl
          (tail_first quote e.comment e.stop rest p.stop_fit refl refl refl);
    } in
    subst (Ends n c) (sym (append_assoc (line_end_text e) (comments_text es) after)) whole

-- ---- in flow collections

-- a gap, and a barrier
gap_ends : (n m : ℕ) (d : FlowContext) (gap : Option Sep) (tail : List ℕ) → gap_fits m false gap tail ≡ true
    → Barrier d tail → Ends n d (gap_text gap ++ tail)
gap_ends n m d None tail h b = blank_ends n d [] tail refl b.run b.bare b.unquoted
gap_ends n m d (Some (inline blank)) tail h b = blank_ends n d blank tail (and_parts _ _ h).0 b.run b.bare b.unquoted
gap_ends n m d (Some (lines es lead)) tail h b =
    let p = and_parts _ _ h in
    let w : list_all white lead ≡ true = (and_parts _ _ p.1).0 in
    let stuck : goes_on n d (lead ++ tail) ≡ false =
    and_right _ _ (ap (λ (r : List ℕ). not (is_empty r)) (ap (read_run d 32) (drop_while_all white lead tail w b.unblank) ∙ b.run 32)) in
    subst (Ends n d) (sym (append_assoc (comments_text es) lead tail))
    (comments_end n d es (lead ++ tail) p.0 (white_at_break lead tail w ∙ b.bare) stuck)

-- no quote comes after a gap, if none comes at its end
gap_unquoted : (m : ℕ) (gap : Option Sep) (tail : List ℕ) → gap_fits m false gap tail ≡ true
    → first quote tail ≡ false → first quote (gap_text gap ++ tail) ≡ false
gap_unquoted m None tail h q = q
gap_unquoted m (Some (inline blank)) tail h q = white_first quote blank tail (and_parts _ _ h).0 refl refl q
gap_unquoted m (Some (lines es lead)) tail h q =
    let p = and_parts _ _ h in
    ap (first quote) (append_assoc (comments_text es) lead tail)
    ∙ comments_unquoted es (lead ++ tail) p.0 (white_first quote lead tail (and_parts _ _ p.1).0 refl refl q)

-- before a gap and the `:` of a value a scalar ends
colon_after : (n m : ℕ) (d : FlowContext) (s : Scalar) (gap : Option Sep) (rest : List ℕ) → gap_fits m false gap (58 ∷ rest) ≡ true
    → not (is_plain (scalar s) && first (safe d) rest) ≡ true → scalar_ends n d s (gap_text gap ++ (58 ∷ rest)) ≡ true
unfolding scalar_ends
colon_after n m d (plain prefix more) gap rest g h =
    ends_scalar n d (plain prefix more) (gap_text gap ++ (58 ∷ rest))
    (gap_ends n m d gap (58 ∷ rest) g (colon_barrier d rest (not-true _ h)))
colon_after n m d (single prefix more) gap rest g h = not_from_false _ (gap_unquoted m gap (58 ∷ rest) g refl)
colon_after n m d (double prefix more) gap rest g h = refl

-- after a scalar between brackets: a gap, and then a comma, a closing bracket, or the `:` of a value
pub ends_between_brackets : (n m : ℕ) (d : FlowContext) (s : Scalar) (gap : Option Sep) (rest : List ℕ)
    → between_brackets d ≡ true → gap_fits m false gap rest ≡ true
    → first closing rest || is_colon d (is_plain (scalar s)) rest ≡ true → scalar_ends n d s (gap_text gap ++ rest) ≡ true
ends_between_brackets n m d s gap [] i g h = absurd (false≢true h)
ends_between_brackets n m d s gap (x ∷ xs) i g h = elim (or_cases (closing x) _ h) [
  | inl k ↦ ends_scalar n d s (gap_text gap ++ (x ∷ xs)) (gap_ends n m d gap (x ∷ xs) g (closing_barrier d (x ∷ xs) i k))
  | inr k ↦ (let p : (x == 58 ≡ true) × (not (is_plain (scalar s) && first (safe d) xs) ≡ true) = and_parts _ _ k in
      let e : x ≡ 58 = eqb-true x 58 p.0 in
      subst (λ (y : ℕ). scalar_ends n d s (gap_text gap ++ (y ∷ xs)) ≡ true) (sym e)
      (colon_after n m d s gap xs (subst (λ (y : ℕ). gap_fits m false gap (y ∷ xs) ≡ true) e g) p.1))
]

-- ---- in blocks

-- outside brackets a character is safe if it is ns
wide_safe : (c : FlowContext) (x : ℕ) → between_brackets c ≡ false → safe c x ≡ ns x
wide_safe outer x h = refl
wide_safe block_key x h = refl
wide_safe inner x h = absurd (false≢true (sym h))
wide_safe flow_key x h = absurd (false≢true (sym h))

-- so a text starts with a safe character if it starts with an ns
wide_first : (c : FlowContext) (rest : List ℕ) → between_brackets c ≡ false → first (safe c) rest ≡ first ns rest
wide_first c [] h = refl
wide_first c (x ∷ xs) h = wide_safe c x h

-- after a key: white, and a `:` that no ns follows
pub ends_before_colon : (n : ℕ) (c : FlowContext) (s : Scalar) (gap rest : List ℕ) → between_brackets c ≡ false
    → list_all white gap ≡ true → first ns rest ≡ false
    → scalar_ends n c s (gap ++ (58 ∷ rest)) ≡ true
ends_before_colon n c s gap rest i g h = ends_scalar n c s (gap ++ (58 ∷ rest)) (colon_ends n c gap rest g (wide_first c rest i ∙ h))

-- a line of fewer than n spaces isn't indented by n
narrow : (n : ℕ) (text : List ℕ) → nat_lt (spaces_before text) n ≡ true → begins (spaces n) (take_while white text) ≡ false
narrow zero text h = absurd (omega (arith, ltb-true (spaces_before text) 0 h))
narrow (suc n) [] h = refl
narrow (suc n) (x ∷ xs) h = elim (cases_Bool (x == 32)) [
  | inl e ↦ (let i : suc (spaces_before xs) < suc n =
      ltb-true _ _ (subst (λ (b : Bool). nat_lt (cond b (suc (spaces_before xs)) 0) (suc n) ≡ true) e h) in
      rw e (and_right _ _ (narrow n xs (lt-ltb _ _ (omega arith)))))
  | inr e ↦ rw e (cond_both (x == 9) (x ∷ take_while white xs) [] (λ (t : List ℕ). begins (spaces (suc n)) t ≡ false)
      (λ _. rw e) (λ _. refl))
]

-- no further line goes on where the text is less deep
pub less_deep_stops : (n : ℕ) (c : FlowContext) (text : List ℕ) → less_deep n text ≡ true → goes_on n c text ≡ false
less_deep_stops n c [] h = and_right _ _ (ap (λ (r : List ℕ). not (is_empty r)) (no_run_at_end c 32))
less_deep_stops n c (x ∷ xs) h = elim (or_cases (marker (x ∷ xs)) _ h) [
  | inl e ↦ and_left _ _ (and_right _ _ (not_from_true _ e))
  | inr e ↦ and_left _ _ (and_left _ _ (and_right _ _ (narrow n (x ∷ xs) e)))
]

-- after a node: comments, and a line that is less deep, where the comments leave no line of white after them
pub ends_before_comments : (n : ℕ) (c : FlowContext) (s : Scalar) (es : List LineEnd) (after : List ℕ)
    → comments_fit false es after ≡ true → at_break after ≡ false
    → less_deep n after ≡ true → scalar_ends n c s (comments_text es ++ after) ≡ true
ends_before_comments n c s es after h b d =
    ends_scalar n c s (comments_text es ++ after) (comments_end n c es after h b (less_deep_stops n c after d))
