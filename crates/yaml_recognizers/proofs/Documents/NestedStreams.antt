-- The nested form of a canonical flat stream fits, spells the same, and means the same.
use Rattle.std.{proofs.Common.{ap, append_assoc, arith, refl, subst, sym, ◌∙◌, ◌≡◌}, specs.Prelude.{Bool, List, None, Option, Some, []}}
use Rattle.std.specs.Prelude.{false, if◌then◌else◌, not, true, ℕ, ◌&&◌, ◌++◌, ◌+◌, ◌||◌, ◌∷◌}
use Rattle.yaml_recognizers.proofs.Prelude.{and_from, and_parts, false≢true, append-nil, Event, CanRead, Presents, LineEnd, comment_fits}
use Rattle.yaml_recognizers.proofs.Prelude.{comment_line_fits, comments_fit, comments_text, line_end_text, Document, bare, directed}
use Rattle.yaml_recognizers.proofs.Prelude.{document_events, document_fits, document_text, explicit, explicit_events, explicit_fits}
use Rattle.yaml_recognizers.proofs.Prelude.{explicit_text, fits, mark_text, stream_events, optional_document_events, optional_document_fits}
use Rattle.yaml_recognizers.proofs.Prelude.{part_fits, part_text, parts_events, parts_fit, parts_text, stream_text, suffix_fits}
use Rattle.yaml_recognizers.proofs.Prelude.{suffix_text, suffixes, byte_len, ends_word, is_empty, optional, starts_line}
use Rattle.yaml_recognizers.proofs.{Separation.LineEnds.{LineParts, line_parts}, Documents.StreamsComplete.section_some}
use Rattle.yaml_recognizers.proofs.Meanings.CanonicalFits.{comments_fit_too, document_fits_too, explicit_fits_too}
use Rattle.yaml_recognizers.proofs.Basics.LineStarts.{byte_len_joined, comments_start, line_not_end, line_starts, starts_joined}
use Rattle.yaml_recognizers.specs.{CanonicalComments.canonical_comments, CanonicalStreams.{FlatStream, Section, canonical_document}}
use Rattle.yaml_recognizers.specs.CanonicalStreams.{canonical_explicit, canonical_sections, canonical_stream, document, flat_events}
use Rattle.yaml_recognizers.specs.{CanonicalStreams.{flat_text, line, sections_events, sections_text, suffix}, NestedStreams.Opened}
use Rattle.yaml_recognizers.specs.NestedStreams.{closed_sections, nested_stream, opened_sections}

-- ---- what it spells

-- the text of one suffix with what may come after it
suffixes_text : (comments prefix : List LineEnd) (d : Option Document)
    → part_text (suffixes comments [] prefix d) ≡ suffix_text comments ++ (comments_text prefix ++ optional document_text d)
suffixes_text comments prefix d =
    ap (λ t. t ++ comments_text prefix ++ optional document_text d) (append-nil (suffix_text comments))
    ∙ append_assoc (suffix_text comments) (comments_text prefix) (optional document_text d)

-- the text of what comes where a document may
abbrev opened_text : Opened → List ℕ
opened_text o = comments_text o.prefix ++ (optional document_text o.document ++ parts_text o.parts)

-- a suffix before what comes where a document may
suffix_opened : (comments : List LineEnd) (o : Opened) (text : List ℕ) → text ≡ opened_text o
    → suffix_text comments ++ text ≡ parts_text (suffixes comments [] o.prefix o.document ∷ o.parts)
suffix_opened comments o text t =
    let regrouped : suffix_text comments ++ opened_text o
    ≡ (suffix_text comments ++ (comments_text o.prefix ++ optional document_text o.document))
    ++ parts_text o.parts = simp append_assoc in
    ap (λ u. suffix_text comments ++ u) t ∙ (regrouped
    ∙ ap (λ u. u ++ parts_text o.parts) (sym (suffixes_text comments o.prefix o.document)))

mutual
  -- it spells the sections
  opened_spells : (ps : List Section) (bol : Bool) → canonical_sections ps true bol ≡ true
      → sections_text ps ≡ opened_text (opened_sections ps)
  opened_spells [] bol h = refl
  opened_spells (line e ∷ ps) bol h =
      let more : sections_text ps ≡ opened_text (opened_sections ps) =
      opened_spells ps (starts_line bol (line_end_text e)) (and_parts _ _ h).1 in
      ap (λ u. line_end_text e ++ u) more ∙ sym (append_assoc (line_end_text e) (comments_text (opened_sections ps).prefix) _)
  opened_spells (document d ∷ ps) bol h = ap (λ u. document_text d ++ u)
      (closed_spells ps (starts_line bol (document_text d)) (and_parts _ _ h).1)
  opened_spells (suffix comments ∷ ps) bol h =
      suffix_opened comments (opened_sections ps) (sections_text ps)
      (opened_spells ps (starts_line bol (suffix_text comments)) (and_parts _ _ h).1)

  -- and so does what comes after a document
  closed_spells : (ps : List Section) (bol : Bool) → canonical_sections ps false bol ≡ true
      → sections_text ps ≡ parts_text (closed_sections ps)
  closed_spells [] bol h = refl
  closed_spells (line e ∷ ps) bol h = ap (λ u. line_end_text e ++ u)
      (closed_spells ps (starts_line bol (line_end_text e)) (and_parts _ _ h).1)
  closed_spells (document (explicit x) ∷ ps) bol h =
      ap (λ u. explicit_text x ++ u) (closed_spells ps (starts_line bol (explicit_text x)) (and_parts _ _ h).1)
  closed_spells (document (bare n) ∷ ps) bol h = absurd (false≢true h)
  closed_spells (document (directed blank version comments x) ∷ ps) bol h = absurd (false≢true h)
  closed_spells (suffix comments ∷ ps) bol h =
      suffix_opened comments (opened_sections ps) (sections_text ps)
      (opened_spells ps (starts_line bol (suffix_text comments)) (and_parts _ _ h).1)

-- ---- what it has to meet

-- each part of what comes where a document may fits
record OpenedFits (bol : Bool) (o : Opened) : Type 0 where
  prefix : comments_fit true o.prefix (optional document_text o.document ++ parts_text o.parts) ≡ true
  document : optional_document_fits o.document true (parts_text o.parts) ≡ true
  parts : parts_fit o.parts (starts_line bol (comments_text o.prefix ++ optional document_text o.document)) [] ≡ true

-- a line that fits does so at the start of a line
line_at_start : (bol : Bool) (e : LineEnd) (rest : List ℕ) → comment_line_fits bol e rest ≡ true → comment_line_fits true e rest ≡ true
line_at_start bol e rest h =
    let p : LineParts bol e rest = line_parts bol e rest h in
    and_from _ _ p.some (and_from _ _ (and_from _ _ p.blank_white (comment_at_start e.comment p.comment_fit)) p.stop_fit)
  where
    comment_at_start : (c : Option (List ℕ)) → comment_fits (bol || not (is_empty e.blank)) c ≡ true → comment_fits true c ≡ true
    comment_at_start None k = refl
    comment_at_start (Some text) k = (and_parts _ _ k).1

-- after a `...`
suffixes_fit_too : (comments : List LineEnd) (o : Opened) (bol : Bool) (text after : List ℕ)
    → bol && ends_word (comments_text comments ++ text) && canonical_comments false comments text ≡ true
    → text ≡ opened_text o → after ≡ parts_text o.parts → OpenedFits (starts_line bol (suffix_text comments)) o
    → part_fits (suffixes comments [] o.prefix o.document) bol after ≡ true
suffixes_fit_too comments o bol text after h t b f =
    let p : (bol && ends_word (comments_text comments ++ text) ≡ true)
    × (canonical_comments false comments text ≡ true) = and_parts _ _ h in
    let s : suffix_fits comments bol text ≡ true = and_from _ _ p.0 (comments_fit_too false comments text p.1) in
    let here : suffix_fits comments bol (opened_text o) ≡ true = subst (λ (u : List ℕ). suffix_fits comments bol u ≡ true) t s in
    subst (λ (u : List ℕ). part_fits (suffixes comments [] o.prefix o.document) bol u ≡ true) (sym b)
    (and_from _ _ (and_from _ _ (and_from _ _ here refl) f.prefix) f.document)

-- a suffix before what fits makes parts that fit
suffix_parts : (comments : List LineEnd) (o : Opened) (bol : Bool) (text : List ℕ)
    → bol && ends_word (comments_text comments ++ text) && canonical_comments false comments text ≡ true
    → text ≡ opened_text o → OpenedFits (starts_line bol (suffix_text comments)) o
    → parts_fit (suffixes comments [] o.prefix o.document ∷ o.parts) bol [] ≡ true
suffix_parts comments o bol text h t f =
    let e : starts_line bol (part_text (suffixes comments [] o.prefix o.document))
    ≡ starts_line (starts_line bol (suffix_text comments)) (comments_text o.prefix ++ optional document_text o.document) =
    ap (starts_line bol) (suffixes_text comments o.prefix o.document)
    ∙ starts_joined bol (suffix_text comments) (comments_text o.prefix ++ optional document_text o.document) in
    and_from _ _ (suffixes_fit_too comments o bol text (parts_text o.parts ++ []) h t (append-nil (parts_text o.parts)) f)
    (subst (λ (b : Bool). parts_fit o.parts b [] ≡ true) (sym e) f.parts)

-- a line starts after a suffix, or the text ends
suffix_starts : (comments : List LineEnd) (bol : Bool) (text : List ℕ)
    → bol && ends_word (comments_text comments ++ text) && canonical_comments false comments text ≡ true
    → starts_line bol (suffix_text comments) || is_empty text ≡ true
suffix_starts comments bol text h = comments_start false comments text (and_parts _ _ (and_parts _ _ h).1).0

mutual
  -- sections where a document may come fit
  opened_fits : (ps : List Section) (bol : Bool) → canonical_sections ps true bol ≡ true
      → bol || is_empty (sections_text ps) ≡ true → OpenedFits bol (opened_sections ps)
  opened_fits [] bol h b = record { prefix = refl; document = refl; parts = refl }
  opened_fits (line e ∷ ps) bol h b =
      let o : Opened = opened_sections ps in
      let start : Bool = starts_line bol (line_end_text e) in
      let q : (comment_line_fits bol e (sections_text ps) ≡ true) × (canonical_sections ps true start ≡ true) = and_parts _ _ h in
      let more : OpenedFits start o = opened_fits ps start q.1 (line_starts bol e (sections_text ps) q.0) in
      let here : comment_line_fits true e (opened_text o) ≡ true =
      subst (λ (u : List ℕ). comment_line_fits true e u ≡ true) (opened_spells ps start q.1)
      (line_at_start bol e (sections_text ps) q.0) in
      let s : starts_line bol (comments_text (e ∷ o.prefix) ++ optional document_text o.document)
      ≡ starts_line start (comments_text o.prefix ++ optional document_text o.document) =
      ap (starts_line bol) (append_assoc (line_end_text e) (comments_text o.prefix) (optional document_text o.document))
      ∙ starts_joined bol (line_end_text e) (comments_text o.prefix ++ optional document_text o.document) in
      record {
        prefix = and_from _ _ here more.prefix;
        document = more.document;
        parts = subst (λ (c : Bool). parts_fit o.parts c [] ≡ true) (sym s) more.parts;
      }
  opened_fits (document d ∷ ps) bol h b =
      let q : (canonical_document d true bol (sections_text ps) ≡ true)
      × (canonical_sections ps false (starts_line bol (document_text d)) ≡ true) = and_parts _ _ h in
      let e : is_empty (document_text d ++ sections_text ps) ≡ false = (section_some (document d) true bol (sections_text ps) q.0).0 in
      let start : bol ≡ true = line_not_end bol (document_text d ++ sections_text ps) b e in
      let fit : document_fits d true (sections_text ps) ≡ true =
      subst (λ (c : Bool). document_fits d c (sections_text ps) ≡ true) start
      (document_fits_too d true bol (sections_text ps) q.0) in
      record {
        prefix = refl;
        document = subst (λ (u : List ℕ). document_fits d true u ≡ true) (closed_spells ps (starts_line bol (document_text d)) q.1) fit;
        parts = closed_fits ps (starts_line bol (document_text d)) q.1;
      }
  opened_fits (suffix comments ∷ ps) bol h b =
      let start : Bool = starts_line bol (suffix_text comments) in
      let q : (bol && ends_word (comments_text comments ++ sections_text ps)
      && canonical_comments false comments (sections_text ps) ≡ true)
      × (canonical_sections ps true start ≡ true) = and_parts _ _ h in
      record {
        prefix = refl;
        document = refl;
        parts = suffix_parts comments (opened_sections ps) bol (sections_text ps) q.0 (opened_spells ps start q.1)
            (opened_fits ps start q.1 (suffix_starts comments bol (sections_text ps) q.0));
      }

  -- and so do sections after a document
  closed_fits : (ps : List Section) (bol : Bool) → canonical_sections ps false bol ≡ true → parts_fit (closed_sections ps) bol [] ≡ true
  closed_fits [] bol h = refl
  closed_fits (line e ∷ ps) bol h =
      let start : Bool = starts_line bol (line_end_text e) in
      let q : (comment_line_fits bol e (sections_text ps) ≡ true) × (canonical_sections ps false start ≡ true) = and_parts _ _ h in
      let t : sections_text ps ≡ parts_text (closed_sections ps) ++ [] = closed_spells ps start q.1
      ∙ sym (append-nil (parts_text (closed_sections ps))) in
      and_from _ _ (subst (λ (u : List ℕ). comment_line_fits bol e u ≡ true) t q.0) (closed_fits ps start q.1)
  closed_fits (document (explicit x) ∷ ps) bol h =
      let start : Bool = starts_line bol (explicit_text x) in
      let q : (canonical_explicit x bol (sections_text ps) ≡ true) × (canonical_sections ps false start ≡ true) = and_parts _ _ h in
      let t : sections_text ps ≡ parts_text (closed_sections ps) ++ [] = closed_spells ps start q.1
      ∙ sym (append-nil (parts_text (closed_sections ps))) in
      and_from _ _ (subst (λ (u : List ℕ). explicit_fits x bol u ≡ true) t
      (explicit_fits_too x bol (sections_text ps) q.0)) (closed_fits ps start q.1)
  closed_fits (document (bare n) ∷ ps) bol h = absurd (false≢true h)
  closed_fits (document (directed blank version comments x) ∷ ps) bol h = absurd (false≢true h)
  closed_fits (suffix comments ∷ ps) bol h =
      let start : Bool = starts_line bol (suffix_text comments) in
      let q : (bol && ends_word (comments_text comments ++ sections_text ps)
      && canonical_comments false comments (sections_text ps) ≡ true)
      × (canonical_sections ps true start ≡ true) = and_parts _ _ h in
      suffix_parts comments (opened_sections ps) bol (sections_text ps) q.0 (opened_spells ps start q.1)
      (opened_fits ps start q.1 (suffix_starts comments bol (sections_text ps) q.0))

-- ---- what it means

-- the events of what comes where a document may
abbrev opened_events : Opened → ℕ → List Event
opened_events o at =
    let after = at + byte_len (comments_text o.prefix) in
    optional_document_events o.document after ++ parts_events o.parts (after + byte_len (optional document_text o.document))

-- a suffix has no events
suffix_events : (comments : List LineEnd) (o : Opened) (at : ℕ)
    → opened_events o (at + byte_len (suffix_text comments))
    ≡ parts_events (suffixes comments [] o.prefix o.document ∷ o.parts) at
suffix_events comments o at =
    let a : ℕ = byte_len (suffix_text comments) in
    let b : ℕ = byte_len (comments_text o.prefix) in
    let c : ℕ = byte_len (optional document_text o.document) in
    let part : byte_len (part_text (suffixes comments [] o.prefix o.document)) ≡ a + (b + c) =
    ap byte_len (suffixes_text comments o.prefix o.document)
    ∙ (byte_len_joined (suffix_text comments) (comments_text o.prefix ++ optional document_text o.document)
    ∙ ap (λ n. a + n) (byte_len_joined (comments_text o.prefix) (optional document_text o.document))) in
    let one : at + a + b ≡ at + a + 0 + b = omega arith in
    let two : at + a + b + c ≡ at + byte_len (part_text (suffixes comments [] o.prefix o.document)) = omega arith in
    ap (λ n. optional_document_events o.document n ++ parts_events o.parts (at + a + b + c)) one
    ∙ ap (λ n. optional_document_events o.document (at + a + 0 + b) ++ parts_events o.parts n) two

mutual
  -- it means what the sections mean
  opened_means : (ps : List Section) (bol : Bool) (at : ℕ) → canonical_sections ps true bol ≡ true
      → sections_events ps at ≡ opened_events (opened_sections ps) at
  opened_means [] bol at h = refl
  opened_means (line e ∷ ps) bol at h =
      let o : Opened = opened_sections ps in
      let l : ℕ = byte_len (line_end_text e) in
      let both : byte_len (comments_text (e ∷ o.prefix)) ≡ l + byte_len (comments_text o.prefix) =
      byte_len_joined (line_end_text e) (comments_text o.prefix) in
      let n : at + l + byte_len (comments_text o.prefix) ≡ at + byte_len (comments_text (e ∷ o.prefix)) = omega arith in
      opened_means ps (starts_line bol (line_end_text e)) (at + l) (and_parts _ _ h).1
      ∙ ap (λ k. optional_document_events o.document k ++ parts_events o.parts (k + byte_len (optional document_text o.document))) n
  opened_means (document d ∷ ps) bol at h =
      let n : at ≡ at + 0 = omega arith in
      ap (λ es. document_events d at ++ es) (closed_means ps (starts_line bol (document_text d))
      (at + byte_len (document_text d)) (and_parts _ _ h).1)
      ∙ ap (λ k. document_events d k ++ parts_events (closed_sections ps) (k + byte_len (document_text d))) n
  opened_means (suffix comments ∷ ps) bol at h =
      let n : at ≡ at + 0 + 0 = omega arith in
      opened_means ps (starts_line bol (suffix_text comments)) (at + byte_len (suffix_text comments)) (and_parts _ _ h).1
      ∙ (suffix_events comments (opened_sections ps) at
      ∙ ap (parts_events (suffixes comments [] (opened_sections ps).prefix (opened_sections ps).document
      ∷ (opened_sections ps).parts)) n)

  -- and so does what comes after a document
  closed_means : (ps : List Section) (bol : Bool) (at : ℕ) → canonical_sections ps false bol ≡ true
      → sections_events ps at ≡ parts_events (closed_sections ps) at
  closed_means [] bol at h = refl
  closed_means (line e ∷ ps) bol at h = closed_means ps (starts_line bol (line_end_text e))
      (at + byte_len (line_end_text e)) (and_parts _ _ h).1
  closed_means (document (explicit x) ∷ ps) bol at h =
      ap (λ es. explicit_events x at ++ es) (closed_means ps (starts_line bol (explicit_text x))
      (at + byte_len (explicit_text x)) (and_parts _ _ h).1)
  closed_means (document (bare n) ∷ ps) bol at h = absurd (false≢true h)
  closed_means (document (directed blank version comments x) ∷ ps) bol at h = absurd (false≢true h)
  closed_means (suffix comments ∷ ps) bol at h =
      opened_means ps (starts_line bol (suffix_text comments)) (at + byte_len (suffix_text comments))
      (and_parts _ _ h).1 ∙ suffix_events comments (opened_sections ps) at

-- ---- together

-- the nested form spells the same
pub nested_spells : (s : FlatStream) → canonical_stream s ≡ true → stream_text (nested_stream s) ≡ flat_text s
nested_spells s h =
    let o : Opened = opened_sections s.sections in
    let regrouped : stream_text (nested_stream s) ≡ mark_text s.mark ++ opened_text o = simp append_assoc in
    regrouped ∙ ap (λ u. mark_text s.mark ++ u) (sym (opened_spells s.sections true h))

-- it fits
pub nested_fits : (s : FlatStream) → canonical_stream s ≡ true → fits (nested_stream s) ≡ true
nested_fits s h = let f = opened_fits s.sections true h refl in and_from _ _ (and_from _ _ f.prefix f.document) f.parts

-- it means the same
pub nested_means : (s : FlatStream) → canonical_stream s ≡ true → stream_events (nested_stream s) ≡ flat_events s
nested_means s h = sym (opened_means s.sections true (if s.mark then 3 else 0) h)

-- so it is a presentation of the text
pub nested_presents : (s : FlatStream) → canonical_stream s ≡ true → Presents (nested_stream s) (flat_text s)
nested_presents s h = record { fits = nested_fits s h; spells = nested_spells s h }

-- so the text can be read as what the flat stream means
pub can_read : (text : List ℕ) (s : FlatStream) → text ≡ flat_text s → canonical_stream s ≡ true → CanRead text (flat_events s)
can_read text s t h =
    record {
      presentation = nested_stream s;
      presents =
          record { fits = nested_fits s h; spells = nested_spells s h ∙ sym t };
      means = nested_means s h;
    }
