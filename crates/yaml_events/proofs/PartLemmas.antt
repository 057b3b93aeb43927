-- The events that parts stand for, as the parts grow and shrink.
use Rattle.std.proofs.Common.{◌≡◌, ℕ, ◌≤◌, List, [], ◌∷◌, ◌++◌, length, take, drop, refl, ap, sym, ◌∙◌, subst, arith, Bor, length-append}
use Rattle.std.proofs.{Common.length-drop, lemmas.List.{append-nil, drop-append-le, length-take-le, take-append-drop, Sums.sum_by-append}}
use Rattle.std.proofs.{lemmas.{List.Sums.{sum_by-cons, sum_by-take-le}, Str.chars-nil}, Math.Seq.{take-append_seam, drop-append_seam}}
use Rattle.std.specs.{List.{sum_by, insert}, Str.chars}
use Rattle.{yaml_grammar.specs.Events.{omitted_style, scalar_event}, yaml_events.specs.{Omitted.AppendsOmitted, declared.event.Event.Event}}
use Rattle.yaml_events.specs.declared.{event.{Event.TheVariants.MapStart, Style.Style}, parts.{Kind.Kind, BorrowedScalar.BorrowedScalar}}
use Rattle.yaml_events.specs.{declared.parts.{OtherScalar.OtherScalar, Stored.Stored}, Parts.{kind_of, borrowed_of, others_of, borrows}}
use Rattle.yaml_events.specs.Parts.{omits, has_other, stored_event, borrowed_event, omitted_event, event_at, events_in, Fits}
use Rattle.yaml_events.specs.declared.parts.Edge.TheVariants as edge
use Rattle.yaml_events.specs.declared.parts.Kind.TheVariants as kind
use Rattle.yaml_events.specs.declared.parts.Stored.TheVariants as stored

-- ---- each kind is an event

pub events-length : (empty : Bor (List ℕ)) (ks : List Kind) (bs : List BorrowedScalar) (us : List ℕ) (os : List OtherScalar)
    → length (events_in empty ks bs us os) ≡ length ks
events-length empty [] bs us os = refl
events-length empty (k ∷ ks) bs us os =
    omega (arith, events-length empty ks (drop (borrows k) bs) (drop (omits k) us) (drop (has_other k) os))

-- ---- lists of parts behind one another

-- values behind those that a kind takes change nothing
event_at-append : (empty : Bor (List ℕ)) (k : Kind) (bs more : List BorrowedScalar) (us omitted : List ℕ) (os others : List OtherScalar)
    → borrows k ≤ length bs → omits k ≤ length us → has_other k ≤ length os
    → event_at empty k (bs ++ more) (us ++ omitted) (os ++ others) ≡ event_at empty k bs us os
event_at-append empty (kind.Edge e) bs more us omitted os others b u o = refl
event_at-append empty (kind.Borrowed style) [] more us omitted os others b u o = absurd (omega (arith, b))
event_at-append empty (kind.Borrowed style) (x ∷ bs) more us omitted os others b u o = refl
event_at-append empty kind.Omitted bs more [] omitted os others b u o = absurd (omega (arith, u))
event_at-append empty kind.Omitted bs more (x ∷ us) omitted os others b u o = refl
event_at-append empty (kind.Other style) bs more us omitted [] others b u o = absurd (omega (arith, o))
event_at-append empty (kind.Other style) bs more us omitted (x ∷ os) others b u o = refl

pub events-append : (empty : Bor (List ℕ)) (ks later : List Kind) (bs more : List BorrowedScalar) (us omitted : List ℕ)
    (os others : List OtherScalar) → Fits ks bs us os
    → events_in empty (ks ++ later) (bs ++ more) (us ++ omitted) (os ++ others)
    ≡ events_in empty ks bs us os ++ events_in empty later more omitted others
events-append empty [] later [] more [] omitted [] others fits = refl
events-append empty [] later (b ∷ bs) more us omitted os others fits = absurd (omega (arith, fits.0))
events-append empty [] later [] more (u ∷ us) omitted os others fits = absurd (omega (arith, fits.1))
events-append empty [] later [] more [] omitted (o ∷ os) others fits = absurd (omega (arith, fits.2))
events-append empty (k ∷ ks) later bs more us omitted os others fits =
    let b : borrows k ≤ length bs = omega (arith, fits.0, sum_by-cons borrows k ks) in
    let u : omits k ≤ length us = omega (arith, fits.1, sum_by-cons omits k ks) in
    let o : has_other k ≤ length os = omega (arith, fits.2, sum_by-cons has_other k ks) in
    let left : Fits ks (drop (borrows k) bs) (drop (omits k) us) (drop (has_other k) os) = (
      omega (arith, fits.0, sum_by-cons borrows k ks, length-drop (borrows k) bs),
      omega (arith, fits.1, sum_by-cons omits k ks, length-drop (omits k) us),
      omega (arith, fits.2, sum_by-cons has_other k ks, length-drop (has_other k) os),
    ) in
    rw (
      event_at-append empty k bs more us omitted os others b u o,
      drop-append-le (borrows k) bs more b,
      drop-append-le (omits k) us omitted u,
      drop-append-le (has_other k) os others o,
    )
    (ap (λ es. event_at empty k bs us os ∷ es)
    (events-append empty ks later (drop (borrows k) bs) more (drop (omits k) us) omitted (drop (has_other k) os) others left))

-- ---- an event more

event_at-of : (empty : Bor (List ℕ)) (e : Stored) → event_at empty (kind_of e) (borrowed_of e) [] (others_of e) ≡ stored_event e
event_at-of empty (stored.Edge e) = refl
event_at-of empty (stored.Borrowed style scalar) = refl
event_at-of empty (stored.Other style scalar) = refl

counts-of : (e : Stored) → (borrows (kind_of e) ≡ length (borrowed_of e)) × (omits (kind_of e) ≡ 0)
    × (has_other (kind_of e) ≡ length (others_of e))
counts-of (stored.Edge e) = (refl, refl, refl)
counts-of (stored.Borrowed style scalar) = (refl, refl, refl)
counts-of (stored.Other style scalar) = (refl, refl, refl)

pub events-push : (empty : Bor (List ℕ)) (ks : List Kind) (bs : List BorrowedScalar) (us : List ℕ) (os : List OtherScalar)
    (e : Stored) → Fits ks bs us os
    → events_in empty (ks ++ kind_of e ∷ []) (bs ++ borrowed_of e) us (os ++ others_of e)
    ≡ events_in empty ks bs us os ++ stored_event e ∷ []
events-push empty ks bs us os e fits =
    subst (λ l. events_in empty (ks ++ kind_of e ∷ []) (bs ++ borrowed_of e) l (os ++ others_of e)
    ≡ events_in empty ks bs us os ++ stored_event e ∷ []) (append-nil us)
    (events-append empty ks (kind_of e ∷ []) bs (borrowed_of e) us [] os (others_of e) fits
    ∙ ap (λ x. events_in empty ks bs us os ++ x ∷ []) (event_at-of empty e))

pub fits-push : (ks : List Kind) (bs : List BorrowedScalar) (us : List ℕ) (os : List OtherScalar) (e : Stored)
    → Fits ks bs us os → Fits (ks ++ kind_of e ∷ []) (bs ++ borrowed_of e) us (os ++ others_of e)
fits-push ks bs us os e fits =
    let counts = counts-of e in (
      omega (arith, sum_by-append borrows ks (kind_of e ∷ []), length-append bs (borrowed_of e), fits.0, counts.0),
      omega (arith, sum_by-append omits ks (kind_of e ∷ []), fits.1, counts.1),
      omega (arith, sum_by-append has_other ks (kind_of e ∷ []), length-append os (others_of e), fits.2, counts.2),
    )

-- ---- a borrowed scalar more

pub events-push_borrowed : (empty : Bor (List ℕ)) (ks : List Kind) (bs : List BorrowedScalar) (us : List ℕ)
    (os : List OtherScalar) (style : Style) (b : BorrowedScalar) → Fits ks bs us os
    → events_in empty (ks ++ kind.Borrowed style ∷ []) (bs ++ b ∷ []) us os
    ≡ events_in empty ks bs us os ++ borrowed_event style b ∷ []
events-push_borrowed empty ks bs us os style b fits =
    subst (λ l. events_in empty (ks ++ kind.Borrowed style ∷ []) (bs ++ b ∷ []) us l
    ≡ events_in empty ks bs us os ++ borrowed_event style b ∷ []) (append-nil os)
    (events-push empty ks bs us os (stored.Borrowed style b) fits)

-- ---- an omitted value more

pub events-push_omitted : (empty : Bor (List ℕ)) (ks : List Kind) (bs : List BorrowedScalar) (us : List ℕ)
    (os : List OtherScalar) (at : ℕ) → Fits ks bs us os
    → events_in empty (ks ++ kind.Omitted ∷ []) bs (us ++ at ∷ []) os ≡ events_in empty ks bs us os ++ omitted_event empty at ∷ []
events-push_omitted empty ks bs us os at fits =
    subst (λ l. events_in empty (ks ++ kind.Omitted ∷ []) l (us ++ at ∷ []) os
    ≡ events_in empty ks bs us os ++ omitted_event empty at ∷ []) (append-nil bs)
    (subst (λ l. events_in empty (ks ++ kind.Omitted ∷ []) (bs ++ []) (us ++ at ∷ []) l
    ≡ events_in empty ks bs us os ++ omitted_event empty at ∷ []) (append-nil os)
    (events-append empty ks (kind.Omitted ∷ []) bs [] us (at ∷ []) os [] fits))

pub appends_omitted : (empty : Bor (List ℕ)) (at : ℕ) (old new : List Event) → empty.now ≡ []
    → new ≡ old ++ omitted_event empty at ∷ [] → AppendsOmitted at old new
appends_omitted empty at old new none is = record {
  event = omitted_event empty at;
  is = is;
  means = ap (λ value. scalar_event omitted_style at at (chars value)) none ∙ ap (scalar_event omitted_style at at) chars-nil;
  borrows = λ text. tt;
}

-- ---- the first events

-- the parts of the first n events
abbrev first_borrowed : ℕ → List Kind → List BorrowedScalar → List BorrowedScalar
first_borrowed n ks bs = take (sum_by borrows (take n ks)) bs

abbrev first_omitted : ℕ → List Kind → List ℕ → List ℕ
first_omitted n ks us = take (sum_by omits (take n ks)) us

abbrev first_others : ℕ → List Kind → List OtherScalar → List OtherScalar
first_others n ks os = take (sum_by has_other (take n ks)) os

pub fits-take : (n : ℕ) (ks : List Kind) (bs : List BorrowedScalar) (us : List ℕ) (os : List OtherScalar) → Fits ks bs us os
    → Fits (take n ks) (first_borrowed n ks bs) (first_omitted n ks us) (first_others n ks os)
fits-take n ks bs us os fits = (
  sym (length-take-le (sum_by borrows (take n ks)) bs (omega (arith, fits.0, sum_by-take-le borrows ks n))),
  sym (length-take-le (sum_by omits (take n ks)) us (omega (arith, fits.1, sum_by-take-le omits ks n))),
  sym (length-take-le (sum_by has_other (take n ks)) os (omega (arith, fits.2, sum_by-take-le has_other ks n))),
)

-- the events are those of the first n kinds, and then those of the others
events-split : (empty : Bor (List ℕ)) (n : ℕ) (ks : List Kind) (bs : List BorrowedScalar) (us : List ℕ) (os : List OtherScalar)
    → Fits ks bs us os → events_in empty ks bs us os
    ≡ events_in empty (take n ks) (first_borrowed n ks bs) (first_omitted n ks us) (first_others n ks os)
    ++ events_in empty (drop n ks) (drop (sum_by borrows (take n ks)) bs) (drop (sum_by omits (take n ks)) us)
    (drop (sum_by has_other (take n ks)) os)
events-split empty n ks bs us os fits =
    let b = sum_by borrows (take n ks) in
    let u = sum_by omits (take n ks) in
    let o = sum_by has_other (take n ks) in
    let parts : events_in empty (take n ks ++ drop n ks) (take b bs ++ drop b bs) (take u us ++ drop u us) (take o os ++ drop o os)
    ≡ events_in empty ks bs us os =
    rw (take-append-drop n ks, take-append-drop b bs, take-append-drop u us, take-append-drop o os) refl in
    sym parts
    ∙ events-append empty (take n ks) (drop n ks) (take b bs) (drop b bs) (take u us) (drop u us) (take o os) (drop o os)
    (fits-take n ks bs us os fits)

-- how many the first events are
first-length : (empty : Bor (List ℕ)) (n : ℕ) (ks : List Kind) (bs : List BorrowedScalar) (us : List ℕ) (os : List OtherScalar)
    → n ≤ length ks → length (events_in empty (take n ks) bs us os) ≡ n
first-length empty n ks bs us os within = events-length empty (take n ks) bs us os ∙ length-take-le n ks within

pub events-take : (empty : Bor (List ℕ)) (n : ℕ) (ks : List Kind) (bs : List BorrowedScalar) (us : List ℕ) (os : List OtherScalar)
    → Fits ks bs us os → n ≤ length ks
    → events_in empty (take n ks) (first_borrowed n ks bs) (first_omitted n ks us) (first_others n ks os)
    ≡ take n (events_in empty ks bs us os)
events-take empty n ks bs us os fits within =
    let first = events_in empty (take n ks) (first_borrowed n ks bs) (first_omitted n ks us) (first_others n ks os) in
    let others = events_in empty (drop n ks) (drop (sum_by borrows (take n ks)) bs) (drop (sum_by omits (take n ks)) us)
    (drop (sum_by has_other (take n ks)) os) in
    let seam : take n (first ++ others) ≡ first =
    subst (λ m. take m (first ++ others) ≡ first)
    (first-length empty n ks (first_borrowed n ks bs) (first_omitted n ks us) (first_others n ks os) within)
    (take-append_seam first others) in
    sym (ap (λ es. take n es) (events-split empty n ks bs us os fits) ∙ seam)

-- ---- the start of a mapping between others

pub events-insert : (empty : Bor (List ℕ)) (n : ℕ) (ks : List Kind) (bs : List BorrowedScalar) (us : List ℕ) (os : List OtherScalar)
    → Fits ks bs us os → n ≤ length ks
    → events_in empty (insert ks n (kind.Edge edge.MapStart)) bs us os ≡ insert (events_in empty ks bs us os) n MapStart
events-insert empty n ks bs us os fits within =
    let b = sum_by borrows (take n ks) in
    let u = sum_by omits (take n ks) in
    let o = sum_by has_other (take n ks) in
    let first = events_in empty (take n ks) (take b bs) (take u us) (take o os) in
    let others = events_in empty (drop n ks) (drop b bs) (drop u us) (drop o os) in
    let long : length first ≡ n = first-length empty n ks (take b bs) (take u us) (take o os) within in
    let parts : events_in empty (take n ks ++ (kind.Edge edge.MapStart) ∷ drop n ks) (take b bs ++ drop b bs) (take u us ++ drop u us)
    (take o os ++ drop o os) ≡ events_in empty (insert ks n (kind.Edge edge.MapStart)) bs us os =
    rw (take-append-drop b bs, take-append-drop u us, take-append-drop o os) refl in
    let whole = events-split empty n ks bs us os fits in
    let before : take n (events_in empty ks bs us os) ≡ first = ap (λ es. take n es) whole
    ∙ subst (λ m. take m (first ++ others) ≡ first) long (take-append_seam first others) in
    let after : drop n (events_in empty ks bs us os) ≡ others = ap (λ es. drop n es) whole
    ∙ subst (λ m. drop m (first ++ others) ≡ others) long (drop-append_seam first others) in
    sym parts
    ∙ events-append empty (take n ks) ((kind.Edge edge.MapStart) ∷ drop n ks) (take b bs) (drop b bs) (take u us) (drop u us)
    (take o os) (drop o os) (fits-take n ks bs us os fits)
    ∙ sym (rw (before, after) refl)

-- ---- where the values fit the kinds, none lacks

pub borrowed-lacks : (style : Style) (ks all : List Kind) (bs : List BorrowedScalar) (us : List ℕ) (os : List OtherScalar)
    → Fits all bs us os → all ≡ kind.Borrowed style ∷ ks → length bs ≡ 0 → ⊥
borrowed-lacks style ks all bs us os fits is none =
    omega (arith, fits.0, ap (λ k. sum_by borrows k) is, sum_by-cons borrows (kind.Borrowed style) ks, none)

pub omitted-lacks : (ks all : List Kind) (bs : List BorrowedScalar) (us : List ℕ) (os : List OtherScalar)
    → Fits all bs us os → all ≡ kind.Omitted ∷ ks → length us ≡ 0 → ⊥
omitted-lacks ks all bs us os fits is none =
    omega (arith, fits.1, ap (λ k. sum_by omits k) is, sum_by-cons omits kind.Omitted ks, none)

pub other-lacks : (style : Style) (ks all : List Kind) (bs : List BorrowedScalar) (us : List ℕ) (os : List OtherScalar)
    → Fits all bs us os → all ≡ kind.Other style ∷ ks → length os ≡ 0 → ⊥
other-lacks style ks all bs us os fits is none =
    omega (arith, fits.2, ap (λ k. sum_by has_other k) is, sum_by-cons has_other (kind.Other style) ks, none)
