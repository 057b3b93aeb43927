-- A scalar ends where the recognizer says exactly if it is whole. So the recognizer decides whether one is whole at
-- the start of a text, and finds it.
use Rattle.std.{proofs.Common.{◌≡◌, refl, sym, ◌∙◌, ap, subst, append_assoc, append-nil, length-append, arith, ◌≤◌}, specs.Prelude.ℕ}
use Rattle.std.specs.Prelude.{Bool, true, List, [], ◌∷◌, ◌++◌, length, drop, flat_map, Some, None}
use Rattle.yaml_recognizers.proofs.Prelude.{drop-append_seam, and_parts, false≢true, not-true, not_from_false, append_cancel_right}
use Rattle.yaml_recognizers.proofs.Prelude.{FlowContext, Line, Scalar, plain, single, double, plain_text, line_text, flow_empties_text}
use Rattle.yaml_recognizers.proofs.Prelude.{join_text, plain_more, plain_lines, plain_kind, lines_after, scalar_text, scalar_fits}
use Rattle.yaml_recognizers.proofs.{Prelude.{scalar_value, style_of}, Basics.Reading.{sound_is, some_parts}}
use Rattle.yaml_recognizers.proofs.Scalars.{PlainScalars.{plain_texts, plain_read, plain_sound}, PlainLongest.{Reaches, plain_reaches}}
use Rattle.yaml_recognizers.{proofs.Scalars.FlowScalars.{sound, once, none_stands}, specs.PlainScalars.{read_plain, last_of, last_char}}
use Rattle.yaml_recognizers.specs.{PlainScalars.plain_ends, FlowScalars.{read_scalar, scalar_ends, Stands}, WholeScalars.Longest}
use Rattle.yaml_recognizers.specs.WholeScalars.{StandsWhole, IsScalar, NoScalar}

-- ---- the last character of a plain scalar is that of its text

-- the last character of two texts, joined, is that of the second, if it has one
last-append : (p q : ℕ) (xs : List ℕ) (y : ℕ) (ys : List ℕ) → last_of p (xs ++ (y ∷ ys)) ≡ last_of q (y ∷ ys)
unfolding last_of
last-append p q [] y ys = refl
last-append p q (x ∷ xs) y ys = last-append x q xs y ys

-- each line holds something
abbrev some_held : List (Line ℕ) → Type 0
some_held [] = Unit {0}
some_held (l ∷ ls) = ((y : ℕ) × (ys : List ℕ) × (l.held ≡ y ∷ ys)) × some_held ls

-- a further line holds a character
held_some : (c : FlowContext) (held after : List ℕ) → plain_more c held after ≡ true → (y : ℕ) × (ys : List ℕ) × (held ≡ y ∷ ys)
held_some c [] after h = absurd (false≢true h)
held_some c (y ∷ ys) after h = (y, ys, refl)

-- so do all further lines
lines_some : (n : ℕ) (c : FlowContext) (before : List ℕ) (ls : List (Line ℕ)) (after : List ℕ)
    → plain_lines n c before ls after ≡ true → some_held ls
lines_some n c before [] after h = tt
lines_some n c before (l ∷ ls) after h =
    let p = and_parts _ _ h in
    (held_some c l.held (lines_after plain_kind ls after) (and_parts _ _ p.0).1, lines_some n c l.held ls after p.1)

-- the last character of a text of lines is that of the last line
last_in_text : (prefix : List ℕ) (ls : List (Line ℕ)) → some_held ls
    → last_of 32 (prefix ++ flat_map (line_text plain_text) ls) ≡ last_char prefix ls
unfolding last_char
last_in_text prefix [] s = ap (last_of 32) (append-nil prefix)
last_in_text prefix (l ∷ ls) s =
    let more : List ℕ = flat_map (line_text plain_text) ls in
    let join : List ℕ = join_text l ++ flow_empties_text l.empties ++ l.lead in
    let regrouped : prefix ++ ((join ++ flat_map plain_text l.held) ++ more)
    ≡ (prefix ++ join) ++ (flat_map plain_text l.held ++ more) = simp append_assoc in
    let held : flat_map plain_text l.held ++ more ≡ s.0.0 ∷ (s.0.1 ++ more) = ap (λ t. t ++ more) (plain_texts l.held ∙ s.0.2) in
    ap (last_of 32) (regrouped ∙ ap (λ t. (prefix ++ join) ++ t) held)
    ∙ (last-append 32 32 (prefix ++ join) s.0.0 (s.0.1 ++ more)
    ∙ (ap (λ t. last_of 32 (t ++ more)) (sym s.0.2)
    ∙ last_in_text l.held ls s.1))

-- the last character of a plain scalar is that of its last line
last_is : (n : ℕ) (c : FlowContext) (bol : Bool) (prefix : List ℕ) (more : List (Line ℕ)) (after : List ℕ)
    → scalar_fits n c bol (plain prefix more) after ≡ true
    → last_of 32 (scalar_text (plain prefix more)) ≡ last_char prefix more
last_is n c bol prefix more after h =
    let p = and_parts _ _ h in
    let q = and_parts _ _ p.0 in
    ap (λ (t : List ℕ). last_of 32 (t ++ flat_map (line_text plain_text) more)) (plain_texts prefix)
    ∙ last_in_text prefix more (lines_some n c prefix more after q.1)

-- ---- of two ends of one text, as long as one another

-- two ways to cut a text before ends of one length are one
same_ends : (xs ys as' bs : List ℕ) → xs ++ as' ≡ ys ++ bs → length as' ≡ length bs → (xs ≡ ys) × (as' ≡ bs)
same_ends xs ys as' bs e m =
    let long : length xs ≡ length ys = omega (arith, ap length e, length-append xs as', length-append ys bs) in
    let rest : as' ≡ bs = sym (drop-append_seam xs as')
    ∙ (ap (λ t. drop (length xs) t) e ∙ (ap (λ k. drop k (ys ++ bs)) long ∙ drop-append_seam ys bs)) in
    (append_cancel_right xs ys bs (ap (λ t. xs ++ t) (sym rest) ∙ e), rest)

-- ---- plain

-- a plain scalar that stands there is read
plain_found : (n : ℕ) (c : FlowContext) (bol : Bool) (text : List ℕ) (prefix : List ℕ) (more : List (Line ℕ))
    (rest : List ℕ) → Stands n c bol text (plain prefix more) rest
    → read_plain n c bol text ≡ Some (plain prefix more, rest)
unfolding scalar_ends
plain_found n c bol text prefix more rest h = ap (read_plain n c bol) h.spells ∙ plain_read n c bol prefix more rest h.fits h.ends

-- what is read goes at least as far as a plain scalar that fits
reaches_at : (n : ℕ) (c : FlowContext) (bol : Bool) (text : List ℕ) (prefix : List ℕ) (more : List (Line ℕ))
    (after : List ℕ) → text ≡ scalar_text (plain prefix more) ++ after
    → scalar_fits n c bol (plain prefix more) after ≡ true → Reaches after (read_plain n c bol text)
reaches_at n c bol text prefix more after e h =
    subst (λ (t : List ℕ). Reaches after (read_plain n c bol t)) (sym e) (plain_reaches n c bol prefix more after h)

-- a plain scalar that stands there is the longest
plain_longest : (n : ℕ) (c : FlowContext) (bol : Bool) (text : List ℕ) (prefix : List ℕ) (more : List (Line ℕ))
    (rest : List ℕ) → Stands n c bol text (plain prefix more) rest
    → Longest n c bol text rest
plain_longest n c bol text prefix more rest h prefix' more' after e f =
    let r : Reaches after (read_plain n c bol text) = reaches_at n c bol text prefix' more' after e f in
    let same : rest ≡ r.2 = (some_parts (plain prefix more) (plain r.0 r.1) rest r.2
    (sym (plain_found n c bol text prefix more rest h) ∙ r.3)).1 in
    omega (arith, ap length same, r.4)

-- and the longest that fits stands there
longest_stands : (n : ℕ) (c : FlowContext) (bol : Bool) (text : List ℕ) (prefix : List ℕ) (more : List (Line ℕ))
    (rest : List ℕ) → text ≡ scalar_text (plain prefix more) ++ rest
    → scalar_fits n c bol (plain prefix more) rest ≡ true → Longest n c bol text rest → Stands n c bol text (plain prefix more) rest
unfolding scalar_ends
longest_stands n c bol text prefix more rest e f l =
    let r : Reaches rest (read_plain n c bol text) = reaches_at n c bol text prefix more rest e f in
    let found : Stands n c bol text (plain r.0 r.1) r.2 =
    sound_is (Stands n c bol text) (read_plain n c bol text) (plain r.0 r.1, r.2) (plain_sound n c bol text) r.3 in
    let far : length rest ≤ length r.2 = l r.0 r.1 r.2 found.spells found.fits in
    let same : (scalar_text (plain r.0 r.1) ≡ scalar_text (plain prefix more)) × (r.2 ≡ rest) =
    same_ends (scalar_text (plain r.0 r.1)) (scalar_text (plain prefix more)) r.2 rest (sym found.spells ∙ e) (omega (arith, far, r.4)) in
    let last : last_char r.0 r.1 ≡ last_char prefix more =
    sym (last_is n c bol r.0 r.1 r.2 found.fits) ∙ (ap (last_of 32) same.0 ∙ last_is n c bol prefix more rest f) in
    let ended : plain_ends n c (last_char r.0 r.1) r.2 ≡ true = found.ends in
    record {
      spells = e;
      fits = f;
      ends = subst (λ (t : List ℕ). plain_ends n c (last_char prefix more) t ≡ true) same.1
          (subst (λ (k : ℕ). plain_ends n c k r.2 ≡ true) last ended);
    }

-- ---- all styles

-- a scalar that ends there is whole
pub stands_whole : (n : ℕ) (c : FlowContext) (bol : Bool) (text : List ℕ) (s : Scalar) (rest : List ℕ)
    → Stands n c bol text s rest → StandsWhole n c bol text s rest
unfolding scalar_ends
stands_whole n c bol text (plain prefix more) rest h =
    record { spells = h.spells; fits = h.fits; whole = plain_longest n c bol text prefix more rest h }
stands_whole n c bol text (single prefix more) rest h = record { spells = h.spells; fits = h.fits; whole = not-true _ h.ends }
stands_whole n c bol text (double prefix more) rest h = record { spells = h.spells; fits = h.fits; whole = tt }

-- a whole scalar ends there
pub whole_stands : (n : ℕ) (c : FlowContext) (bol : Bool) (text : List ℕ) (s : Scalar) (rest : List ℕ)
    → StandsWhole n c bol text s rest → Stands n c bol text s rest
unfolding scalar_ends
whole_stands n c bol text (plain prefix more) rest h = longest_stands n c bol text prefix more rest h.spells h.fits h.whole
whole_stands n c bol text (single prefix more) rest h = record { spells = h.spells; fits = h.fits; ends = not_from_false _ h.whole }
whole_stands n c bol text (double prefix more) rest h = record { spells = h.spells; fits = h.fits; ends = refl }

-- ---- what a scanner may say of what it finds

-- a scalar that is read is whole, and each whole one is the same
pub is_scalar : (n : ℕ) (c : FlowContext) (bol : Bool) (text : List ℕ) (s : Scalar) (rest : List ℕ)
    → read_scalar n c bol text ≡ Some (s, rest)
    → IsScalar n c bol text (style_of s) (scalar_value s) rest
is_scalar n c bol text s rest h =
    let here : Stands n c bol text s rest = sound n c bol text s rest h in
    record {
      scalar = s;
      stands = stands_whole n c bol text s rest here;
      styled = refl;
      means = refl;
      only = λ other after o.
          let same = once n c bol text other s after rest (whole_stands n c bol text other after o) here in
          (ap scalar_text same.0, ap style_of same.0, ap scalar_value same.0, same.1);
    }

-- if none is read, none is whole there
pub no_scalar : (n : ℕ) (c : FlowContext) (bol : Bool) (text : List ℕ) → read_scalar n c bol text ≡ None → NoScalar n c bol text
no_scalar n c bol text e s rest h = none_stands n c bol text s rest e (whole_stands n c bol text s rest h)

-- two that are whole at one place are one
pub whole_once : (n : ℕ) (c : FlowContext) (bol : Bool) (text : List ℕ) (s s' : Scalar) (rest rest' : List ℕ)
    → StandsWhole n c bol text s rest → StandsWhole n c bol text s' rest'
    → (s ≡ s') × (rest ≡ rest')
whole_once n c bol text s s' rest rest' h h' =
    once n c bol text s s' rest rest' (whole_stands n c bol text s rest h) (whole_stands n c bol text s' rest' h')
