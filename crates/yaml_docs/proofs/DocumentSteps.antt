-- Documents at a place of a text, from what is there.
use Rattle.std.{proofs.Common.{ap, arith, refl, subst, sym, ◌<◌, ◌∙◌, ◌≡◌}, specs.Prelude.{Bool, List, None, Some, [], codes, drop, false}}
use Rattle.std.specs.Prelude.{length, nat_lt, true, ℕ, ◌&&◌, ◌++◌, ◌+◌, ◌∷◌}
use Rattle.yaml_docs.proofs.Prelude.{IsCharBoundary, IsUtf8, and_from, and_parts, nat_tests, rest, char_at, Node, node_events, as_document}
use Rattle.yaml_docs.proofs.Prelude.{document_end, omitted_style, scalar_event, LineEnd, Document, Explicit, bare, content, directed}
use Rattle.yaml_docs.proofs.Prelude.{explicit, explicit_events, nothing, is_empty, marker, BorrowsPlain, event_of, line_starts, Event}
use Rattle.yaml_docs.proofs.Prelude.{is_line_end, document, suffix, all_comments, closes_line, Read, on, document_node_at, explicit_with}
use Rattle.yaml_docs.proofs.Prelude.{marker_of, read_directed, read_explicit, suffix_with, begins_split, starts_after, Line, BlockNodeRead}
use Rattle.yaml_docs.proofs.{Prelude.{appended_none, appended_one, appended_then}, TextPlaces.{StandsUpTo, place_after}}
use Rattle.yaml_docs.specs.declared.documents.Section.TheVariants.{Explicit as ExplicitSection, Suffix, Directed, Bare}
use Rattle.yaml_docs.specs.{Directives.IsDirective, Sections.{SectionRead, read_as}, Documents.{DocumentRead, ExplicitNodeRead}}
use Rattle.{yaml_docs.specs.Documents.{ExplicitRead, IsOmitted, SuffixRead, after_dashes}, yaml_grammar.specs.BlockScalars.spaces_before}
use Rattle.{yaml_events.specs.declared.event.Event.TheVariants.{DocEnd, DocStart}, yaml_recognizers.specs.BlockNodes.omits}
use Rattle.{yaml_recognizers.specs.Ends.block_node_stops, yaml_flow.specs.FlowNodes.Appended}
use Rattle.yaml_grammar.specs.Events as grammar

-- ---- markers

-- `---` is at the place
pub dashes_there : (bs : List ℕ) (at : ℕ) → IsUtf8 bs → IsCharBoundary bs at → marker_of 45 (rest bs at) ≡ true
    → StandsUpTo bs at (codes "---") (drop 3 (rest bs at)) (at + 3)
dashes_there bs at u b h = place_after bs at (codes "---") (drop 3 (rest bs at)) u b
    (begins_split (codes "---") (rest bs at) (and_parts _ _ h).0)

-- `...` is at the place
pub dots_there : (bs : List ℕ) (at : ℕ) → IsUtf8 bs → IsCharBoundary bs at → marker_of 46 (rest bs at) ≡ true
    → StandsUpTo bs at (codes "...") (drop 3 (rest bs at)) (at + 3)
dots_there bs at u b h = place_after bs at (codes "...") (drop 3 (rest bs at)) u b
    (begins_split (codes "...") (rest bs at) (and_parts _ _ h).0)

-- if the line of a `...` goes on, there is no suffix
pub no_suffix : (text after : List ℕ) → after ≡ drop 3 text → closes_line (all_comments false after) ≡ false
    → suffix_with (all_comments false (drop 3 text)) ≡ None
no_suffix text after e h = subst (λ (t : List ℕ). suffix_with (all_comments false t) ≡ None) e
    (let none : suffix_with (all_comments false after) ≡ None = rw h refl in none)

suffix_found : (c : List LineEnd × List ℕ) (after : List ℕ) → closes_line c ≡ true → c.1 ≡ after → suffix_with c ≡ Some (suffix c.0, after)
suffix_found c after h e = rw h (ap (λ (t : List ℕ). Some (suffix c.0, t)) e)

-- else there is one
pub suffix_is : (text past_marker after : List ℕ) → past_marker ≡ drop 3 text
    → closes_line (all_comments false past_marker) ≡ true → (all_comments false past_marker).1 ≡ after
    → suffix_with (all_comments false (drop 3 text)) ≡ Some (suffix (all_comments false past_marker).0, after)
suffix_is text past_marker after e h l =
    subst (λ (t : List ℕ). suffix_with (all_comments false t)
    ≡ Some (suffix (all_comments false past_marker).0, after)) e (suffix_found (all_comments false past_marker) after h l)

-- something is left before the end of a text
pub some_left : (bs : List ℕ) (at : ℕ) → IsUtf8 bs → IsCharBoundary bs at → at < length bs → is_empty (rest bs at) ≡ false
some_left bs at u b l = ap is_empty (char_at bs at u b l).1.splits

-- no line starts after a `---`
pub inside_line : (bs : List ℕ) (at : ℕ) → IsUtf8 bs → IsCharBoundary bs at → marker_of 45 (rest bs at) ≡ true
    → line_starts bs (at + 3) ≡ false
inside_line bs at u b h =
    let s = dashes_there bs at u b h in
    starts_after bs at (at + 3) (codes "--") 45 u (omega arith) b s.boundary s.is refl

-- ---- a node that is left out

no_fewer : (n : ℕ) → nat_lt n 0 ≡ false
no_fewer n = grind (arith, nat_tests)

-- at the end of the text the node is left out
pub omits_at_end : (c : List LineEnd × List ℕ) → closes_line c ≡ true → c.1 ≡ [] → omits 0 false c ≡ true
omits_at_end c h e = and_from _ _ h (subst (λ (t : List ℕ). block_node_stops 0 false t ≡ true) (sym e) refl)

no_end : (t : List ℕ) → is_empty t ≡ false → marker t ≡ false → is_line_end t ≡ false → block_node_stops 0 false t ≡ false
no_end t e m l = rw (e, m, l, no_fewer (spaces_before t)) refl

not_both : (a b : Bool) → b ≡ false → a && b ≡ false
not_both true b h = h
not_both false b h = refl

-- at anything else it isn't
pub no_omission : (c : List LineEnd × List ℕ) (after : List ℕ) → c.1 ≡ after → is_empty after ≡ false
    → marker after ≡ false → is_line_end after ≡ false → omits 0 false c ≡ false
no_omission c after e some m l = not_both (closes_line c) (block_node_stops 0 false c.1)
    (ap (block_node_stops 0 false) e ∙ no_end after some m l)

-- ---- the node after a `---`

-- a document whose node is left out
pub omitted_read : (text after : List ℕ) (c : List LineEnd × List ℕ) → omits 0 false c ≡ true → c.1 ≡ after
    → explicit_with document_node_at text c ≡ Some (nothing c.0, after)
omitted_read text after c h e = rw h (ap (λ (t : List ℕ). Some (nothing c.0, t)) e)

-- a document with its node
pub node_read : (text after : List ℕ) (c : List LineEnd × List ℕ) (n : Node) → omits 0 false c ≡ false
    → document_node_at false text ≡ Some (n, after)
    → explicit_with document_node_at text c ≡ Some (content n, after)
node_read text after c n h e = rw (h, e) refl

-- without a node there is no document
pub node_missing : (text : List ℕ) (c : List LineEnd × List ℕ) → omits 0 false c ≡ false
    → document_node_at false text ≡ None → explicit_with document_node_at text c ≡ None
node_missing text c h e = rw (h, e) refl

-- what follows a `---` is read
pub explicit_is : (text after : List ℕ) (r : Read Explicit) → marker_of 45 text ≡ true → after ≡ drop 3 text
    → explicit_with document_node_at after (all_comments false after) ≡ r
    → read_explicit document_node_at text ≡ r
unfolding read_explicit
explicit_is text after r h e k = rw h (subst (λ (t : List ℕ). explicit_with document_node_at t (all_comments false t) ≡ r) e k)

-- without a `---` there is no explicit document
pub no_explicit : (node_at : Bool → List ℕ → Read Node) (text : List ℕ) → marker_of 45 text ≡ false → read_explicit node_at text ≡ None
unfolding read_explicit
no_explicit node_at text h = rw h refl

-- the events after a `---` are those of the document
pub after_dashes_is : (x : Explicit) (at : ℕ) → as_document (after_dashes x (at + 3)) ≡ explicit_events x at
after_dashes_is (content n) at = refl
after_dashes_is (nothing comments) at = refl

-- ---- events

-- the events of a node become those of a document
pub in_document : (text : List ℕ) (old one two new : List Event) (meaning : List grammar.Event)
    → one ≡ old ++ DocStart ∷ [] → Appended text one two meaning → new ≡ two ++ DocEnd ∷ []
    → Appended text old new (as_document meaning)
in_document text old one two new meaning e a f =
    appended_then text old one new (grammar.document_start ∷ []) (meaning ++ document_end ∷ [])
    (appended_one text old one DocStart grammar.document_start e refl tt)
    (appended_then text one two new meaning (document_end ∷ []) a (appended_one text two new DocEnd document_end f refl tt))

-- ---- what is read at a place

-- the node after a `---` is read
pub content_read : (bs : List ℕ) (at : ℕ) (old new : List Event) (end : ℕ) → line_starts bs at ≡ false
    → omits 0 false (all_comments false (rest bs at)) ≡ false
    → BlockNodeRead 0 false bs at old new end → ExplicitNodeRead bs at old new end
content_read bs at old new end l o r =
    record {
      boundary = r.boundary;
      starts = r.fresh;
      document = content r.node;
      reads = node_read (rest bs at) (rest bs end) (all_comments false (rest bs at)) r.node o
          (subst (λ (bol : Bool). document_node_at bol (rest bs at) ≡ Some (r.node, rest bs end)) l r.found);
      appended = r.appended;
    }

-- if there is none, none is read
pub content_missing : (bs : List ℕ) (at : ℕ) → line_starts bs at ≡ false → omits 0 false (all_comments false (rest bs at)) ≡ false
    → document_node_at (line_starts bs at) (rest bs at) ≡ None
    → explicit_with document_node_at (rest bs at) (all_comments false (rest bs at)) ≡ None
content_missing bs at l o h = node_missing (rest bs at) (all_comments false (rest bs at)) o
    (subst (λ (bol : Bool). document_node_at bol (rest bs at) ≡ None) l h)

-- an omitted node is read
pub nothing_read : (bs : List ℕ) (at : ℕ) (old new : List Event) (end : ℕ) (event : Event) → IsOmitted bs at end
    → new ≡ old ++ event ∷ [] → event_of event ≡ scalar_event omitted_style at at []
    → BorrowsPlain bs event → ExplicitNodeRead bs at old new end
nothing_read bs at old new end event o e m b =
    record {
      boundary = o.boundary;
      starts = o.starts;
      document = nothing (all_comments false (rest bs at)).0;
      reads = omitted_read (rest bs at) (rest bs end) (all_comments false (rest bs at)) o.omitted o.leaves;
      appended = appended_one bs old new event (scalar_event omitted_style at at []) e m b;
    }

-- between the events of a document's start and end
pub explicit_found : (bs : List ℕ) (at : ℕ) (old one two new : List Event) (end : ℕ)
    → marker_of 45 (rest bs at) ≡ true → rest bs (at + 3) ≡ drop 3 (rest bs at)
    → one ≡ old ++ DocStart ∷ [] → new ≡ two ++ DocEnd ∷ [] → ExplicitNodeRead bs (at + 3) one two end → ExplicitRead bs at old new end
explicit_found bs at old one two new end h l e f r =
    record {
      boundary = r.boundary;
      starts = r.starts;
      document = r.document;
      reads = explicit_is (rest bs at) (rest bs (at + 3)) (Some (r.document, rest bs end)) h l r.reads;
      appended = subst (λ (es : List grammar.Event). Appended bs old new es) (after_dashes_is r.document at)
          (in_document bs old one two new (after_dashes r.document (at + 3)) e r.appended f);
    }

-- a bare document is read
pub bare_found : (bs : List ℕ) (at : ℕ) (old one two new : List Event) (end : ℕ) → line_starts bs at ≡ true
    → one ≡ old ++ DocStart ∷ [] → new ≡ two ++ DocEnd ∷ []
    → BlockNodeRead 0 false bs at one two end → SectionRead bs at Bare old new end
bare_found bs at old one two new end l e f r =
    let found : document_node_at true (rest bs at) ≡ Some (r.node, rest bs end) =
    subst (λ (bol : Bool). document_node_at bol (rest bs at) ≡ Some (r.node, rest bs end)) l r.found in
    record {
      boundary = r.boundary;
      starts = r.fresh;
      found = document (bare r.node);
      reads = rw found refl;
      appended = in_document bs old one two new (node_events r.node at) e r.appended f;
    }

-- if there is none, none is read
pub bare_missing : (bs : List ℕ) (at : ℕ) → line_starts bs at ≡ true
    → document_node_at (line_starts bs at) (rest bs at) ≡ None → read_as Bare (rest bs at) ≡ None
bare_missing bs at l h =
    let none : document_node_at true (rest bs at) ≡ None =
    subst (λ (bol : Bool). document_node_at bol (rest bs at) ≡ None) l h in rw none refl

-- a suffix is the section there
pub suffix_section : (bs : List ℕ) (at : ℕ) (events : List Event) (end : ℕ) → SuffixRead bs at end
    → SectionRead bs at Suffix events events end
suffix_section bs at events end r =
    record { boundary = r.boundary; starts = r.starts; found = suffix r.comments; reads = r.reads; appended = appended_none bs events }

-- so is an explicit document
pub explicit_section : (bs : List ℕ) (at : ℕ) (old new : List Event) (end : ℕ) → ExplicitRead bs at old new end
    → SectionRead bs at ExplicitSection old new end
explicit_section bs at old new end r =
    let found : read_explicit document_node_at (rest bs at) ≡ Some (r.document, rest bs end) = r.reads in
    record {
      boundary = r.boundary;
      starts = r.starts;
      found = document (explicit r.document);
      reads = rw found refl;
      appended = r.appended;
    }

-- so is a document with a directive
pub directed_section : (bs : List ℕ) (at : ℕ) (old new : List Event) (end : ℕ) → DocumentRead bs at old new end
    → SectionRead bs at Directed old new end
directed_section bs at old new end r =
    record {
      boundary = r.boundary;
      starts = r.starts;
      found = document r.document;
      reads = ap (λ (x : Read Document). on x (λ d after. Some (document d, after))) r.reads;
      appended = r.appended;
    }

-- without an explicit document there is no such section
pub explicit_none : (text : List ℕ) → read_explicit document_node_at text ≡ None → read_as ExplicitSection text ≡ None
explicit_none text h = rw h refl

-- without a document with a directive there is no such section
pub directed_none : (text : List ℕ) → read_directed document_node_at text ≡ None → read_as Directed text ≡ None
directed_none text h = ap (λ (x : Read Document). on x (λ d after. Some (document d, after))) h

-- ---- after a directive

-- after a directive the document is read
pub document_found : (bs : List ℕ) (at : ℕ) (line : Line) (old new : List Event) (end : ℕ) → IsDirective bs at line
    → ExplicitRead bs line.start old new end → DocumentRead bs at old new end
document_found bs at line old new end d r =
    let found : read_explicit document_node_at (rest bs line.start) ≡ Some (r.document, rest bs end) = r.reads in
    record {
      boundary = r.boundary;
      starts = r.starts;
      document = directed d.blank d.version d.comments r.document;
      reads = d.reads document_node_at ∙ ap (λ (x : Read Explicit).
          on x (λ y after. Some (directed d.blank d.version d.comments y, after))) found;
      appended = subst (λ (place : ℕ). Appended bs old new (explicit_events r.document place)) d.place r.appended;
    }

-- if there is none, none is read
pub document_missing : (bs : List ℕ) (at : ℕ) (line : Line) → IsDirective bs at line
    → read_explicit document_node_at (rest bs line.start) ≡ None → read_directed document_node_at (rest bs at) ≡ None
document_missing bs at line d h = d.reads document_node_at
    ∙ ap (λ (x : Read Explicit). on x (λ y after. Some (directed d.blank d.version d.comments y, after))) h
