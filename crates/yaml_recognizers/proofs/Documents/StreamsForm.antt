-- The canonical form of streams: of its sections each document and each suffix takes in the lines after it that it may
-- have.
use Rattle.std.{proofs.Common.{ap, append_assoc, refl, subst, sym, ◌∙◌, ◌≡◌}, specs.Prelude.{Bool, List, None, Option, Some, [], false}}
use Rattle.std.specs.Prelude.{if◌then◌else◌, true, ℕ, ◌&&◌, ◌++◌, ◌+◌, ◌∷◌}
use Rattle.yaml_recognizers.proofs.Prelude.{add-zero, add_assoc, and_from, and_parts, cond_both, not-true, not_from_false, append-nil}
use Rattle.yaml_recognizers.proofs.Prelude.{Event, LineEnd, comment_fits, comment_line_fits, comments_fit, comments_text, line_end_text}
use Rattle.yaml_recognizers.proofs.Prelude.{Document, Stream, bare, directed, document_events, document_text, explicit, fits, mark_text}
use Rattle.yaml_recognizers.proofs.{Prelude.{suffix_fits, suffix_text, byte_len, ends_word, starts_line}, Separation.LineEnds.LineParts}
use Rattle.yaml_recognizers.proofs.Separation.{LineEnds.line_parts, CommentsForm.{comments_form_fit, comments_joined, joined_before}}
use Rattle.yaml_recognizers.proofs.{BlockScalars.BlockScalarsForm.{takes, takes_not}, Documents.DocumentsForm.document_form}
use Rattle.yaml_recognizers.proofs.Documents.DocumentsForm.{document_form_events, document_form_fits, document_form_text, document_open}
use Rattle.yaml_recognizers.proofs.Documents.{DocumentsForm.explicit_stop, StreamsFlat.{stream_sections, stream_sections_events}}
use Rattle.yaml_recognizers.proofs.Documents.{StreamsFlat.stream_sections_text, StreamsFlatFit.{flat_document_fits, section_fits}}
use Rattle.yaml_recognizers.proofs.{Documents.StreamsFlatFit.{sections_fit, stream_sections_fit}, Basics.LineStarts.byte_len_joined}
use Rattle.yaml_recognizers.{proofs.Basics.LineStarts.starts_joined, specs.CanonicalComments.is_line_end}
use Rattle.yaml_recognizers.specs.{CanonicalForms.IsCanonicalFormOf, CanonicalStreams.{FlatStream, Section, canonical_document}}
use Rattle.yaml_recognizers.specs.CanonicalStreams.{canonical_sections, document, line, opens, section_events, section_text}
use Rattle.yaml_recognizers.specs.CanonicalStreams.{sections_events, sections_text, suffix}

-- ---- the lines at the start of sections, and what comes after them

-- the lines at the start of sections
abbrev pub prefix_lines : List Section → List LineEnd
prefix_lines [] = []
prefix_lines (suffix comments ∷ ps) = []
prefix_lines (line e ∷ ps) = e ∷ prefix_lines ps
prefix_lines (document d ∷ ps) = []

-- the sections after them
abbrev pub past_lines : List Section → List Section
past_lines [] = []
past_lines (suffix comments ∷ ps) = suffix comments ∷ ps
past_lines (line e ∷ ps) = past_lines ps
past_lines (document d ∷ ps) = document d ∷ ps

-- sections are the comment lines at their start and the others
split_text : (ps : List Section) → sections_text ps ≡ comments_text (prefix_lines ps) ++ sections_text (past_lines ps)
split_text [] = refl
split_text (suffix comments ∷ ps) = refl
split_text (line e ∷ ps) = ap (λ (t : List ℕ). line_end_text e ++ t) (split_text ps)
    ∙ sym (append_assoc (line_end_text e) (comments_text (prefix_lines ps)) (sections_text (past_lines ps)))
split_text (document d ∷ ps) = refl

-- they mean what the others mean
split_events : (ps : List Section) (at : ℕ) → sections_events ps at
    ≡ sections_events (past_lines ps) (at + byte_len (comments_text (prefix_lines ps)))
split_events [] at = refl
split_events (suffix comments ∷ ps) at = rw add-zero
split_events (line e ∷ ps) at =
    let place : at + byte_len (comments_text (prefix_lines (line e ∷ ps)))
    ≡ at + byte_len (line_end_text e) + byte_len (comments_text (prefix_lines ps)) =
    rw (byte_len_joined (line_end_text e) (comments_text (prefix_lines ps))) (sym (add_assoc at _ _)) in
    split_events ps (at + byte_len (line_end_text e)) ∙ ap (λ (b : ℕ). sections_events (past_lines ps) b) (sym place)
split_events (document d ∷ ps) at = rw add-zero

-- a comment that fits fits after whitespace
comment_wider : (apart : Bool) (comment : Option (List ℕ)) → comment_fits apart comment ≡ true → comment_fits true comment ≡ true
comment_wider apart None h = refl
comment_wider apart (Some text) h = (and_parts _ _ h).1

-- a comment line fits at the start of a line too
pub line_wider : (bol : Bool) (e : LineEnd) (after : List ℕ) → comment_line_fits bol e after ≡ true → comment_line_fits true e after ≡ true
line_wider bol e after h =
    let l : LineParts bol e after = line_parts bol e after h in
    and_from _ _ l.some (and_from _ _ (and_from _ _ l.blank_white (comment_wider _ e.comment l.comment_fit)) l.stop_fit)

-- canonical sections, parted after the lines at their start
record Split (ps : List Section) (opened bol : Bool) : Type 0 where
  lines : comments_fit true (prefix_lines ps) (sections_text (past_lines ps)) ≡ true
  past : canonical_sections (past_lines ps) opened (starts_line bol (comments_text (prefix_lines ps))) ≡ true
  stop : is_line_end (sections_text (past_lines ps)) ≡ false

-- a document starts with no comment line
document_stop : (d : Document) (opened bol : Bool) (after : List ℕ) → canonical_document d opened bol after ≡ true
    → is_line_end (document_text d ++ after) ≡ false
document_stop (bare n) opened bol after h = not-true _ (and_parts _ _ (and_parts _ _ h).0).1
document_stop (explicit x) opened bol after h = explicit_stop x after
document_stop (directed blank version comments x) opened bol after h = refl

-- what the comment lines at the start and the others meet
split : (ps : List Section) (opened bol : Bool) → canonical_sections ps opened bol ≡ true → Split ps opened bol
split [] opened bol h = record { lines = refl; past = refl; stop = refl }
split (suffix comments ∷ ps) opened bol h = record { lines = refl; past = h; stop = refl }
split (line e ∷ ps) opened bol h =
    let b : Bool = starts_line bol (line_end_text e) in
    let p : (comment_line_fits bol e (sections_text ps) ≡ true) × (canonical_sections ps opened b ≡ true) = and_parts _ _ h in
    let r : Split ps opened b = split ps opened b p.1 in
    record {
      lines = and_from _ _ (subst (λ (t : List ℕ). comment_line_fits true e t ≡ true) (split_text ps)
          (line_wider bol e (sections_text ps) p.0)) r.lines;
      past = rw (starts_joined bol (line_end_text e) (comments_text (prefix_lines ps))) r.past;
      stop = r.stop;
    }
split (document d ∷ ps) opened bol h = record {
  lines = refl;
  past = h;
  stop = document_stop d opened bol (sections_text ps) (and_parts _ _ h).0;
}

-- ---- a section before canonical sections

-- a section takes in the lines after it that it may have
abbrev pub join : Section → List Section → List Section
join (suffix comments) ps = suffix (comments ++ prefix_lines ps) ∷ past_lines ps
join (line e) ps = line e ∷ ps
join (document d) ps =
    if takes (document_open d) (prefix_lines ps) (sections_text (past_lines ps))
    then document (document_form d (prefix_lines ps)) ∷ past_lines ps
    else document (document_form d []) ∷ ps

-- text and meaning

-- a suffix with the comments taken in has both texts
suffix_form_text : (comments ls : List LineEnd) → suffix_text (comments ++ ls) ≡ suffix_text comments ++ comments_text ls
suffix_form_text comments ls = ap (λ (t : List ℕ). 46 ∷ (46 ∷ (46 ∷ t))) (comments_joined comments ls)

-- the text with the comment lines taken in
taken_text : (text taken : List ℕ) (ps : List Section) → taken ≡ text ++ comments_text (prefix_lines ps)
    → taken ++ sections_text (past_lines ps) ≡ text ++ sections_text ps
taken_text text taken ps e =
    rw e (append_assoc text (comments_text (prefix_lines ps)) (sections_text (past_lines ps))
    ∙ ap (λ (t : List ℕ). text ++ t) (sym (split_text ps)))

-- and its events
taken_events : (text taken : List ℕ) (ps : List Section) (at : ℕ) → taken ≡ text ++ comments_text (prefix_lines ps)
    → sections_events (past_lines ps) (at + byte_len taken) ≡ sections_events ps (at + byte_len text)
taken_events text taken ps at e =
    let place : at + byte_len taken ≡ at + byte_len text + byte_len (comments_text (prefix_lines ps)) =
    rw (e, byte_len_joined text (comments_text (prefix_lines ps))) (sym (add_assoc at _ _)) in
    ap (λ (b : ℕ). sections_events (past_lines ps) b) place ∙ sym (split_events ps (at + byte_len text))

-- without comments to take in, a document has the same text
alone_text : (d : Document) → document_text (document_form d []) ≡ document_text d
alone_text d = document_form_text d [] ∙ append-nil (document_text d)

-- a section joined to the others has the same text
join_text : (p : Section) (ps : List Section) → sections_text (join p ps) ≡ section_text p ++ sections_text ps
join_text (suffix comments) ps = taken_text (suffix_text comments) (suffix_text (comments ++ prefix_lines ps)) ps
    (suffix_form_text comments (prefix_lines ps))
join_text (line e) ps = refl
join_text (document d) ps =
    cond_both (takes (document_open d) (prefix_lines ps) (sections_text (past_lines ps)))
    (document (document_form d (prefix_lines ps)) ∷ past_lines ps) (document (document_form d []) ∷ ps)
    (λ (qs : List Section). sections_text qs ≡ document_text d ++ sections_text ps)
    (λ _. taken_text (document_text d) (document_text (document_form d (prefix_lines ps))) ps (document_form_text d (prefix_lines ps)))
    (λ _. rw (alone_text d))

-- it means the same
join_events : (p : Section) (ps : List Section) (at : ℕ)
    → sections_events (join p ps) at ≡ section_events p at ++ sections_events ps (at + byte_len (section_text p))
join_events (suffix comments) ps at = taken_events (suffix_text comments)
    (suffix_text (comments ++ prefix_lines ps)) ps at (suffix_form_text comments (prefix_lines ps))
join_events (line e) ps at = refl
join_events (document d) ps at =
    cond_both (takes (document_open d) (prefix_lines ps) (sections_text (past_lines ps)))
    (document (document_form d (prefix_lines ps)) ∷ past_lines ps) (document (document_form d []) ∷ ps)
    (λ (qs : List Section). sections_events qs at ≡ document_events d at ++ sections_events ps (at + byte_len (document_text d)))
    (λ _. rw (document_form_events d (prefix_lines ps) at)
    (ap (λ (es : List Event). document_events d at ++ es)
    (taken_events (document_text d) (document_text (document_form d (prefix_lines ps))) ps at
    (document_form_text d (prefix_lines ps)))))
    (λ _. rw (document_form_events d [] at, alone_text d))

-- it fits

-- it is canonical
join_fits : (p : Section) (ps : List Section) (opened bol : Bool) → section_fits p opened bol (sections_text ps) ≡ true
    → canonical_sections ps (opens opened p) (starts_line bol (section_text p)) ≡ true → canonical_sections (join p ps) opened bol ≡ true
join_fits (suffix comments) ps opened bol h c =
    let ls : List LineEnd = prefix_lines ps in
    let after : List ℕ = sections_text (past_lines ps) in
    let s : Split ps true (starts_line bol (suffix_text comments)) = split ps true (starts_line bol (suffix_text comments)) c in
    let f : suffix_fits comments bol (comments_text ls ++ after) ≡ true =
    subst (λ (t : List ℕ). suffix_fits comments bol t ≡ true) (split_text ps) h in
    let p : (bol && ends_word (comments_text comments ++ (comments_text ls ++ after)) ≡ true)
    × (comments_fit false comments (comments_text ls ++ after) ≡ true) = and_parts _ _ f in
    let past : canonical_sections (past_lines ps) true (starts_line bol (suffix_text (comments ++ ls))) ≡ true =
    subst (λ (b : Bool). canonical_sections (past_lines ps) true b ≡ true)
    (sym (ap (starts_line bol) (suffix_form_text comments ls)
    ∙ starts_joined bol (suffix_text comments) (comments_text ls))) s.past in
    and_from _ _ (and_from _ _ (rw (joined_before comments ls after) p.0)
    (comments_form_fit false comments ls after p.1 s.lines (not_from_false _ s.stop))) past
join_fits (line e) ps opened bol h c = and_from _ _ h c
join_fits (document d) ps opened bol h c =
    let ls : List LineEnd = prefix_lines ps in
    let after : List ℕ = sections_text (past_lines ps) in
    let s : Split ps false (starts_line bol (document_text d)) = split ps false (starts_line bol (document_text d)) c in
    cond_both (takes (document_open d) ls after) (document (document_form d ls) ∷ past_lines ps) (document (document_form d []) ∷ ps)
    (λ (qs : List Section). canonical_sections qs opened bol ≡ true)
    (λ t. let f : flat_document_fits d opened bol (comments_text ls ++ after) ≡ true =
    subst (λ (t : List ℕ). flat_document_fits d opened bol t ≡ true) (split_text ps) h in
    let past : canonical_sections (past_lines ps) false (starts_line bol (document_text (document_form d ls))) ≡ true =
    subst (λ (b : Bool). canonical_sections (past_lines ps) false b ≡ true)
    (sym (ap (starts_line bol) (document_form_text d ls) ∙ starts_joined bol (document_text d) (comments_text ls))) s.past in
    and_from _ _ (document_form_fits d ls opened bol after f s.lines t) past)
    (λ n. let t : takes (document_open d) [] (sections_text ps) ≡ true =
    subst (λ (t : List ℕ). takes (document_open d) [] t ≡ true) (sym (split_text ps))
    (takes_not (document_open d) ls after s.lines s.stop n) in
    let past : canonical_sections ps false (starts_line bol (document_text (document_form d []))) ≡ true = rw (alone_text d) c in
    and_from _ _ (document_form_fits d [] opened bol (sections_text ps) h refl t) past)

-- ---- the stream

-- sections in their canonical form
abbrev pub sections_form : List Section → List Section
sections_form [] = []
sections_form (p ∷ ps) = join p (sections_form ps)

-- the form of sections has the same text
sections_form_text : (ps : List Section) → sections_text (sections_form ps) ≡ sections_text ps
sections_form_text [] = refl
sections_form_text (p ∷ ps) = join_text p (sections_form ps) ∙ ap (λ (t : List ℕ). section_text p ++ t) (sections_form_text ps)

-- it means the same
sections_form_events : (ps : List Section) (at : ℕ) → sections_events (sections_form ps) at ≡ sections_events ps at
sections_form_events [] at = refl
sections_form_events (p ∷ ps) at =
    join_events p (sections_form ps) at ∙ ap (λ (es : List Event). section_events p at ++ es)
    (sections_form_events ps (at + byte_len (section_text p)))

-- it is canonical
sections_form_fit : (ps : List Section) (opened bol : Bool) → sections_fit ps opened bol ≡ true
    → canonical_sections (sections_form ps) opened bol ≡ true
sections_form_fit [] opened bol h = refl
sections_form_fit (p ∷ ps) opened bol h =
    let q : (section_fits p opened bol (sections_text ps) ≡ true)
    × (sections_fit ps (opens opened p) (starts_line bol (section_text p)) ≡ true) = and_parts _ _ h in
    join_fits p (sections_form ps) opened bol (rw (sections_form_text ps) q.0)
    (sections_form_fit ps (opens opened p) (starts_line bol (section_text p)) q.1)

-- a stream in its canonical form
abbrev pub stream_form : Stream → FlatStream
stream_form s = record { mark = s.mark; sections = sections_form (stream_sections s) }

-- it is the canonical form of a stream that fits
pub stream_form_is : (s : Stream) → fits s ≡ true → IsCanonicalFormOf s (stream_form s)
stream_form_is s h =
    record {
      canonical = sections_form_fit (stream_sections s) true true (stream_sections_fit s h);
      text = ap (λ (t : List ℕ). mark_text s.mark ++ t) (sections_form_text (stream_sections s)) ∙ stream_sections_text s;
      meaning = sections_form_events (stream_sections s) _ ∙ stream_sections_events s;
    }
