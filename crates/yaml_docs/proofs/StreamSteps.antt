-- Reading a stream from one place to the next: the events so far, and those of the sections that are left.
use Rattle.std.proofs.Common.{ap, append-nil, append_assoc, arith, inl, inr, length, refl, subst, sym, ◌<◌, ◌∙◌, ◌≡◌, ◌≤◌}
use Rattle.std.{proofs.{Math.{Nat.add-zero, Logic.◌⊎◌}, lemmas.List.Elements.All-append}, specs.Prelude.{All, Bool, List, None, Option}}
use Rattle.std.specs.Prelude.{Some, [], drop, false, true, ℕ, ◌++◌, ◌+◌, ◌∷◌}
use Rattle.yaml_docs.proofs.Prelude.{IsUtf8, chars, cases_lt, false≢true, or_left, or_right, len_utf8_bounds, between, rest, rest-end}
use Rattle.yaml_docs.proofs.Prelude.{LineEnd, comments_text, line_end_text, bare, explicit, byte_len, first, is_empty, starts_line}
use Rattle.yaml_docs.proofs.Prelude.{BorrowsPlain, events_of, line_starts, Event, line, opens, section_events, section_text, is_line_end}
use Rattle.yaml_docs.proofs.Prelude.{all_comments, closes_line, more_comments, read_line_end, Read, document_node_at, section_at}
use Rattle.yaml_docs.proofs.Prelude.{sections_at, order_mark, read_directed, read_explicit, read_section, LineOf, all_sound, line_is_end}
use Rattle.yaml_docs.proofs.Prelude.{line_sound, byte_len_joined, line_or_end, chosen, none_some, on_parts, some_parts, sound_is}
use Rattle.yaml_docs.proofs.{Prelude.{IsLineStart, IsSolidLine, Line, appended_means}, SectionSteps.{no_more_sections, no_section}}
use Rattle.yaml_docs.proofs.{SectionSteps.{section_filled, section_spells, section_step}, TextPlaces.{between_is, spelled_end}}
use Rattle.yaml_docs.{proofs.TextPlaces.starts_between, specs.Sections.{BeginsSection, SectionRead, ReadUpTo, and_then, ends_document}}
use Rattle.yaml_docs.specs.{Sections.{meaning_from, sections_meaning, read_as, stream_meaning}, declared.documents.Section.Section}
use Rattle.yaml_docs.specs.declared.documents.Section.TheVariants.{Suffix, Explicit, Directed, Bare}
use Rattle.yaml_recognizers.proofs.{Separation.CommentsDepth.comments_step, Basics.LineStarts.line_starts as line_start}
use Rattle.yaml_grammar.specs.Events as grammar
use Rattle.yaml_recognizers.specs.CanonicalStreams as flat

-- ---- lines of white space and comments

nothing_more : (m : Option (List grammar.Event)) → and_then [] m ≡ m
nothing_more None = refl
nothing_more (Some es) = refl

one_line_read : (opened : Bool) (text rest : List ℕ) (e : LineEnd) → read_line_end true text ≡ Some (e, rest)
    → LineOf true text e rest → section_at opened true text ≡ Some (line e, rest)
unfolding read_section
one_line_read opened text rest e h l =
    let there : is_line_end text ≡ true = subst (λ (t : List ℕ). is_line_end t ≡ true) (sym l.0) (line_is_end true e rest l.1) in
    rw (there, h) refl

pair_parts : {A B : Type 0} (a c : A) (b d : B) → ◌≡◌ {A = A × B} (a, b) (c, d) → (a ≡ c) × (b ≡ d)
pair_parts {A} {B} a c b d h = (ap (λ (p : A × B). p.0) h, ap (λ (p : A × B). p.1) h)

lines_skipped : (es : List LineEnd) (opened : Bool) (text rest : List ℕ) (at : ℕ) → all_comments true text ≡ (es, rest)
    → sections_meaning at (sections_at opened true text)
    ≡ sections_meaning (at + byte_len (comments_text es)) (sections_at opened true rest)
lines_skipped [] opened text rest at h =
    let spelled : text ≡ comments_text (all_comments true text).0 ++ (all_comments true text).1 = (all_sound true text).0 in
    let same : text ≡ rest = spelled ∙ ap (λ (c : List LineEnd × List ℕ). comments_text c.0 ++ c.1) h in
    ap (λ (t : List ℕ). sections_meaning at (sections_at opened true t)) same
    ∙ ap (λ (n : ℕ). sections_meaning n (sections_at opened true rest)) (sym (add-zero at))
lines_skipped (e ∷ es) opened text rest at h = of_line (λ t place k. lines_skipped es opened t rest place k) (read_line_end true text) refl
  where
    of_line : ((t : List ℕ) (place : ℕ) → all_comments true t ≡ (es, rest)
        → sections_meaning place (sections_at opened true t)
        ≡ sections_meaning (place + byte_len (comments_text es)) (sections_at opened true rest)) → (r : Read LineEnd)
        → read_line_end true text ≡ r
        → sections_meaning at (sections_at opened true text)
        ≡ sections_meaning (at + byte_len (comments_text (e ∷ es))) (sections_at opened true rest)
    of_line again None q =
        let none : ◌≡◌ {A = List LineEnd × List ℕ} ([], text) (e ∷ es, rest) =
        sym (comments_step true text ∙ ap (more_comments text (λ t. all_comments true t)) q) ∙ h in
        let no : [] ≡ e ∷ es = (pair_parts [] (e ∷ es) text rest none).0 in
        cc
    of_line again (Some r) q =
        let more : List LineEnd × List ℕ = all_comments true r.1 in
        let both : ◌≡◌ {A = List LineEnd × List ℕ} (r.0 ∷ more.0, more.1) (e ∷ es, rest) =
        sym (comments_step true text ∙ ap (more_comments text (λ t. all_comments true t)) q) ∙ h in
        let parts : (r.0 ∷ more.0 ≡ e ∷ es) × (more.1 ≡ rest) = pair_parts (r.0 ∷ more.0) (e ∷ es) more.1 rest both in
        let cons : r.0 ∷ more.0 ≡ e ∷ es = parts.0 in
        let first : r.0 ≡ e = cc in
        let others : more.0 ≡ es = cc in
        let later : all_comments true r.1 ≡ (es, rest) = ap (λ (x : List LineEnd). (x, more.1)) others
        ∙ ap (λ (t : List ℕ). (es, t)) parts.1 in
        let l : LineOf true text r.0 r.1 = sound_is (LineOf true text) (read_line_end true text) (r.0, r.1) (line_sound true text) q in
        let place : ℕ = at + byte_len (line_end_text r.0) in
        let same_len : byte_len (line_end_text r.0 ++ comments_text es)
        ≡ byte_len (line_end_text e ++ comments_text es) =
        ap (λ (x : LineEnd). byte_len (line_end_text x ++ comments_text es)) first in
        let place_is : place + byte_len (comments_text es) ≡ at + byte_len (comments_text (e ∷ es)) =
        omega (arith, byte_len_joined (line_end_text r.0) (comments_text es), same_len) in
        section_step opened text r.1 (line r.0) at (one_line_read opened text r.1 r.0 q l) (line_start true r.0 r.1 l.1)
        ∙ (nothing_more (sections_meaning place (sections_at opened true r.1))
        ∙ (again r.1 place later ∙ ap (λ (n : ℕ). sections_meaning n (sections_at opened true rest)) place_is))

later_unmarked : (bs : List ℕ) (at next : ℕ) → at ≤ next → (0 < at) ⊎ (first order_mark (rest bs at) ≡ false)
    → (0 < next) ⊎ (first order_mark (rest bs next) ≡ false)
later_unmarked bs at next l (inl p) = inl (omega arith)
later_unmarked bs at next l (inr f) = elim (cases_lt at next) [
  | inl k ↦ inl (omega arith)
  | inr k ↦ (let e : at ≡ next = omega arith in inr (subst (λ (n : ℕ). first order_mark (rest bs n) ≡ false) e f))
]

-- comment lines before a section are passed
pub lines_passed : (bs : List ℕ) (opened : Bool) (at : ℕ) (events : List Event) (next : Line) → IsUtf8 bs
    → ReadUpTo bs opened at events → IsSolidLine true bs at next → IsLineStart bs next.start
    → ReadUpTo bs opened next.start events
lines_passed bs opened at events next u r s starts =
    let c : List LineEnd × List ℕ = all_comments true (rest bs at) in
    let spelled : rest bs at ≡ comments_text c.0 ++ rest bs next.start = (all_sound true (rest bs at)).0
    ∙ ap (λ (t : List ℕ). comments_text c.0 ++ t) s.leaves in
    let place : next.start ≡ at + byte_len (comments_text c.0) =
    spelled_end bs at next.start (comments_text c.0) u r.boundary s.boundary spelled in
    let same : meaning_from opened bs at ≡ meaning_from opened bs next.start =
    lines_skipped c.0 opened (rest bs at) c.1 at refl
    ∙ (ap (λ (t : List ℕ). sections_meaning (at + byte_len (comments_text c.0)) (sections_at opened true t)) s.leaves
    ∙ ap (λ (n : ℕ). sections_meaning n (sections_at opened true (rest bs next.start))) (sym place)) in
    record {
      boundary = s.boundary;
      starts = starts;
      unmarked = later_unmarked bs at next.start s.above r.unmarked;
      reads = r.reads ∙ ap (and_then (events_of events)) same;
      borrows = r.borrows;
    }

-- ---- sections

joined_after : (es fs : List grammar.Event) (m : Option (List grammar.Event)) → and_then es (and_then fs m) ≡ and_then (es ++ fs) m
joined_after es fs None = refl
joined_after es fs (Some gs) = ap (λ (x : List grammar.Event). Some x) (sym (append_assoc es fs gs))

-- what may follow a section is said from its kind
opens_as : (section : Section) (opened : Bool) (text rest : List ℕ) (p : flat.Section)
    → read_as section text ≡ Some (p, rest) → opens opened p ≡ ends_document section
opens_as Suffix opened text rest p h =
    let c : List LineEnd × List ℕ = all_comments false (drop 3 text) in
    elim (chosen (closes_line c) (Some (flat.suffix c.0, c.1)) None (Some (p, rest)) h) [
      | inl q ↦ ap (opens opened) (sym (some_parts (flat.suffix c.0) p c.1 rest q.1).0)
      | inr q ↦ absurd (none_some (p, rest) q.1)
    ]
opens_as Explicit opened text rest p h =
    let q = on_parts (read_explicit document_node_at text) (λ x after. Some (flat.document (explicit x), after)) (p, rest) h in
    ap (opens opened) (sym (some_parts (flat.document (explicit q.0)) p q.1 rest q.3).0)
opens_as Directed opened text rest p h =
    let q = on_parts (read_directed document_node_at text) (λ d after. Some (flat.document d, after)) (p, rest) h in
    ap (opens opened) (sym (some_parts (flat.document q.0) p q.1 rest q.3).0)
opens_as Bare opened text rest p h =
    let q = on_parts (document_node_at true text) (λ n after. Some (flat.document (bare n), after)) (p, rest) h in
    ap (opens opened) (sym (some_parts (flat.document (bare q.0)) p q.1 rest q.3).0)

some_bytes : (xs : List ℕ) → 1 ≤ length xs → 1 ≤ byte_len xs
some_bytes [] h = absurd (omega arith)
some_bytes (x ∷ xs) h = omega (arith, (len_utf8_bounds x).0)

-- a line starts at the place, since the text goes on there
pub starts_here : (bs : List ℕ) (at : ℕ) → IsLineStart bs at → is_empty (rest bs at) ≡ false → line_starts bs at ≡ true
starts_here bs at (inl l) n = l
starts_here bs at (inr e) n = absurd (false≢true (sym n ∙ ap is_empty e))

starts_or_ends : (bs : List ℕ) (at end : ℕ) (xs : List ℕ) → line_starts bs end ≡ starts_line true xs
    → IsLineStart bs end → line_or_end (starts_line true xs) (rest bs end) ≡ true
starts_or_ends bs at end xs e (inl l) = or_left _ _ (sym e ∙ l)
starts_or_ends bs at end xs e (inr n) = or_right _ _ (ap is_empty n)

-- a section is read, with its events and its end
pub record SectionPassed (bs : List ℕ) (at : ℕ) (section : Section) (end : ℕ) (new : List Event) : Type 0 where
  pub onward : at < end
  pub read : ReadUpTo bs (ends_document section) end new

-- after it the next one may be read
pub section_passed : (bs : List ℕ) (opened : Bool) (at : ℕ) (section : Section) (old new : List Event) (end : ℕ)
    → IsUtf8 bs → ReadUpTo bs opened at old → is_empty (rest bs at) ≡ false
    → BeginsSection opened (rest bs at) section → SectionRead bs at section old new end → SectionPassed bs at section end new
section_passed bs opened at section old new end u r n b p =
    let found : section_at opened true (rest bs at) ≡ Some (p.found, rest bs end) = b.reads ∙ p.reads in
    let spells : rest bs at ≡ section_text p.found ++ rest bs end = section_spells opened (rest bs at) (rest bs end) p.found found in
    let place : end ≡ at + byte_len (section_text p.found) = spelled_end bs at end (section_text p.found) u r.boundary p.boundary spells in
    let long : 1 ≤ byte_len (section_text p.found) =
    some_bytes (section_text p.found) (section_filled opened (rest bs at) (rest bs end) p.found found) in
    let line_is : line_starts bs end ≡ starts_line true (section_text p.found) =
    starts_between bs at end u (omega arith) r.boundary p.boundary r.unmarked
    ∙ (ap (λ (bol : Bool). starts_line bol (between bs at end)) (starts_here bs at r.starts n)
    ∙ ap (starts_line true) (between_is bs at end (section_text p.found) u r.boundary p.boundary spells)) in
    let step : meaning_from opened bs at ≡ and_then (section_events p.found at) (meaning_from (ends_document section) bs end) =
    section_step opened (rest bs at) (rest bs end) p.found at found (starts_or_ends bs at end (section_text p.found) line_is p.starts)
    ∙ (ap (λ (place' : ℕ). and_then (section_events p.found at)
    (sections_meaning place' (sections_at (opens opened p.found) true (rest bs end)))) (sym place)
    ∙ ap (λ (o : Bool). and_then (section_events p.found at) (meaning_from o bs end))
    (opens_as section opened (rest bs at) (rest bs end) p.found p.reads)) in
    let events : events_of new ≡ events_of old ++ section_events p.found at =
    appended_means bs old new (section_events p.found at) p.appended in
    record {
      onward = omega arith;
      read = record {
        boundary = p.boundary;
        starts = p.starts;
        unmarked = inl (omega arith);
        reads = r.reads ∙ (ap (and_then (events_of old)) step
            ∙ (joined_after (events_of old) (section_events p.found at) (meaning_from (ends_document section) bs end)
            ∙ ap (λ (x : List grammar.Event). and_then x (meaning_from (ends_document section) bs end)) (sym events)));
        borrows = subst (λ (es : List Event). All (BorrowsPlain bs) es) (sym p.appended.is)
            (All-append (BorrowsPlain bs) old p.appended.more r.borrows p.appended.borrows);
      };
    }

-- ---- the end

-- at the end of the text everything is read
pub text_ends : (bs : List ℕ) (opened : Bool) (at : ℕ) (events : List Event) → ReadUpTo bs opened at events
    → length bs ≤ at → stream_meaning (chars bs) ≡ Some (events_of events)
text_ends bs opened at events r l =
    let none : sections_at opened true (rest bs at) ≡ Some [] = no_more_sections opened (rest bs at) (ap is_empty (rest-end bs at l)) in
    r.reads ∙ (ap (λ (m : Option (List flat.Section)). and_then (events_of events) (sections_meaning at m)) none
    ∙ ap (λ (x : List grammar.Event). Some x) (append-nil (events_of events)))

-- where no section is, the text means nothing
pub no_meaning : (bs : List ℕ) (opened : Bool) (at : ℕ) (events : List Event) → ReadUpTo bs opened at events
    → is_empty (rest bs at) ≡ false → section_at opened true (rest bs at) ≡ None
    → stream_meaning (chars bs) ≡ None
no_meaning bs opened at events r n h = r.reads
    ∙ ap (λ (m : Option (List flat.Section)). and_then (events_of events) (sections_meaning at m))
    (no_section opened (rest bs at) n h)
