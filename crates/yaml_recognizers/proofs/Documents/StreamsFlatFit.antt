-- The sections of a stream that fits fit: each where it is, handed whether a line starts there, as reckoned from the text
-- before it.
use Rattle.std.{proofs.Common.{ap, append_assoc, refl, subst, sym, ◌∙◌, ◌≡◌}, specs.Prelude.{Bool, List, None, Option, Some, [], false}}
use Rattle.std.specs.Prelude.{flat_map, not, true, ℕ, ◌&&◌, ◌++◌, ◌∷◌}
use Rattle.yaml_recognizers.proofs.Prelude.{and_from, and_parts, not_from_false, append-nil, node_fits, node_text, LineEnd}
use Rattle.yaml_recognizers.proofs.Prelude.{comment_line_fits, comments_fit, comments_text, line_end_text, Document, Part, Stream, bare}
use Rattle.yaml_recognizers.proofs.Prelude.{content, directed, document_fits, document_text, explicit, explicit_fits, fits, further}
use Rattle.yaml_recognizers.proofs.Prelude.{nothing, optional_document_fits, part_fits, part_text, parts_fit, parts_text, suffix_fits}
use Rattle.yaml_recognizers.proofs.{Prelude.{suffix_text, suffixes, suffixes_fit, is_empty, optional, starts_line}, Block.BareNodes.Parted}
use Rattle.yaml_recognizers.proofs.{Block.BareNodes.{leading, node_parted, parted_text, unled}, Basics.LineStarts.comments_at}
use Rattle.yaml_recognizers.proofs.Basics.LineStarts.{comments_start, line_not_end, line_or_end, line_starts, starts_joined}
use Rattle.yaml_recognizers.proofs.Documents.StreamsFlat.{document_sections, lines_sections, lines_sections_text, optional_sections}
use Rattle.yaml_recognizers.proofs.Documents.StreamsFlat.{optional_sections_text, part_sections, parts_sections, parts_sections_text}
use Rattle.yaml_recognizers.proofs.Documents.StreamsFlat.{sections_joined, stream_sections, suffixes_sections, suffixes_sections_text}
use Rattle.yaml_recognizers.specs.{CanonicalComments.is_line_end, CanonicalStreams.{Section, document, line, opens, section_text}}
use Rattle.{yaml_recognizers.specs.CanonicalStreams.{sections_text, suffix}, yaml_grammar.specs.Streams.line as part_line}

-- ---- what the sections have to meet: a bare document begins with no line of comments

-- what a document among sections has to meet
abbrev pub flat_document_fits : Document → Bool → Bool → List ℕ → Bool
flat_document_fits (bare n) opened bol after = opened && not (is_line_end (node_text n ++ after)) && node_fits n 0 false bol after
flat_document_fits (explicit x) opened bol after = explicit_fits x bol after
flat_document_fits (directed blank version comments x) opened bol after =
    opened && document_fits (directed blank version comments x) bol after

-- what a section has to meet
abbrev pub section_fits : Section → Bool → Bool → List ℕ → Bool
section_fits (suffix comments) opened bol after = suffix_fits comments bol after
section_fits (line e) opened bol after = comment_line_fits bol e after
section_fits (document d) opened bol after = flat_document_fits d opened bol after

-- what sections have to meet
abbrev pub sections_fit : List Section → Bool → Bool → Bool
sections_fit [] opened bol = true
sections_fit (p ∷ ps) opened bol = section_fits p opened bol (sections_text ps)
    && sections_fit ps (opens opened p) (starts_line bol (section_text p))

-- ---- lines and documents before further sections

-- comment lines before sections fit with them
lines_before : (es : List LineEnd) (rest : List Section) (opened bol : Bool) → comments_fit bol es (sections_text rest) ≡ true
    → sections_fit rest opened (starts_line bol (comments_text es)) ≡ true → sections_fit (lines_sections es ++ rest) opened bol ≡ true
lines_before [] rest opened bol h r = r
lines_before (e ∷ es) rest opened bol h r =
    let after : List ℕ = sections_text rest in
    let p : (comment_line_fits bol e (comments_text es ++ after) ≡ true) × (comments_fit true es after ≡ true) = and_parts _ _ h in
    let text : sections_text (lines_sections es ++ rest) ≡ comments_text es ++ after =
    sections_joined (lines_sections es) rest ∙ rw (lines_sections_text es) in
    let b : Bool = starts_line bol (line_end_text e) in
    let more : sections_fit rest opened (starts_line b (comments_text es)) ≡ true =
    rw (starts_joined bol (line_end_text e) (comments_text es)) at r in
    and_from _ _ (rw text p.0) (lines_before es rest opened b
    (comments_at b es after p.1 (line_starts bol e (comments_text es ++ after) p.0)) more)

-- two texts, joined, aren't empty if the second isn't
append_filled : (xs ys : List ℕ) → is_empty ys ≡ false → is_empty (xs ++ ys) ≡ false
append_filled [] ys h = h
append_filled (x ∷ xs) ys h = refl

-- a document isn't empty
document_filled : (d : Document) (after : List ℕ) → document_fits d true after ≡ true → is_empty (document_text d ++ after) ≡ false
document_filled (bare n) after h =
    let p : Parted n 0 false after = node_parted n 0 false after h in
    let text : node_text n ++ after ≡ comments_text (leading n) ++ (node_text (unled n) ++ after) =
    ap (λ (t : List ℕ). t ++ after) (parted_text n) ∙ append_assoc (comments_text (leading n)) (node_text (unled n)) after in
    rw text (append_filled (comments_text (leading n)) (node_text (unled n) ++ after) p.some)
document_filled (explicit (content n)) after h = refl
document_filled (explicit (nothing comments)) after h = refl
document_filled (directed blank version comments x) after h = refl

-- a document before sections fits with them
document_before : (d : Document) (rest : List Section) → document_fits d true (sections_text rest) ≡ true
    → sections_fit rest false (starts_line true (document_text d)) ≡ true
    → sections_fit (document_sections d ++ rest) true true ≡ true
document_before (bare n) rest h r =
    let after : List ℕ = sections_text rest in
    let p : Parted n 0 false after = node_parted n 0 false after h in
    let b : Bool = starts_line true (comments_text (leading n)) in
    let starts : b ≡ true = line_not_end b (node_text (unled n) ++ after)
    (comments_start true (leading n) (node_text (unled n) ++ after) p.comments) p.some in
    let more : sections_fit rest false (starts_line b (node_text (unled n))) ≡ true =
    subst (λ (x : Bool). sections_fit rest false x ≡ true)
    (ap (starts_line true) (parted_text n) ∙ starts_joined true (comments_text (leading n)) (node_text (unled n))) r in
    let node : node_fits (unled n) 0 false b after ≡ true =
    subst (λ (x : Bool). node_fits (unled n) 0 false x after ≡ true) (sym starts) p.node in
    let regrouped : document_sections (bare n) ++ rest
    ≡ lines_sections (leading n) ++ (document (bare (unled n)) ∷ rest) =
    append_assoc (lines_sections (leading n)) (document (bare (unled n)) ∷ []) rest in
    subst (λ (ps : List Section). sections_fit ps true true ≡ true) (sym regrouped)
    (lines_before (leading n) (document (bare (unled n)) ∷ rest) true true p.comments
    (and_from _ _ (and_from _ _ (not_from_false _ p.begun) node) more))
document_before (explicit x) rest h r = and_from _ _ h r
document_before (directed blank version comments x) rest h r = and_from _ _ h r

-- so does one that may be left out
optional_before : (d : Option Document) (rest : List Section) (bol : Bool) → optional_document_fits d true (sections_text rest) ≡ true
    → line_or_end bol (optional document_text d ++ sections_text rest) ≡ true
    → ((opened : Bool) → sections_fit rest opened (starts_line bol (optional document_text d)) ≡ true)
    → sections_fit (optional_sections d ++ rest) true bol ≡ true
optional_before None rest bol h a r = r true
optional_before (Some d) rest bol h a r =
    let starts : bol ≡ true = line_not_end bol (document_text d ++ sections_text rest) a (document_filled d (sections_text rest) h) in
    subst (λ (b : Bool). sections_fit (document_sections d ++ rest) true b ≡ true) (sym starts)
    (document_before d rest h (subst (λ (b : Bool). sections_fit rest false (starts_line b (document_text d)) ≡ true) starts (r false)))

-- ---- suffixes

-- a line starts after a suffix, or the text ends
suffix_starts : (bol : Bool) (comments : List LineEnd) (after : List ℕ) → comments_fit false comments after ≡ true
    → line_or_end (starts_line bol (suffix_text comments)) after ≡ true
suffix_starts bol comments after h = comments_start false comments after h

-- and after suffixes
suffixes_start : (ss : List (List LineEnd)) (after : List ℕ) (bol : Bool) → suffixes_fit ss after ≡ true
    → line_or_end bol (flat_map suffix_text ss ++ after) ≡ true
    → line_or_end (starts_line bol (flat_map suffix_text ss)) after ≡ true
suffixes_start [] after bol h a = a
suffixes_start (s ∷ ss) after bol h a =
    let p : (suffix_fits s true (flat_map suffix_text ss ++ after) ≡ true) × (suffixes_fit ss after ≡ true) = and_parts _ _ h in
    rw (starts_joined bol (suffix_text s) (flat_map suffix_text ss))
    (suffixes_start ss after (starts_line bol (suffix_text s)) p.1
    (suffix_starts bol s (flat_map suffix_text ss ++ after) (and_parts _ _ p.0).1))

-- suffixes before sections fit with them
suffixes_before : (ss : List (List LineEnd)) (rest : List Section) (bol : Bool)
    → suffixes_fit ss (sections_text rest) ≡ true → line_or_end bol (flat_map suffix_text ss ++ sections_text rest) ≡ true
    → sections_fit rest true (starts_line bol (flat_map suffix_text ss)) ≡ true
    → sections_fit (suffixes_sections ss ++ rest) true bol ≡ true
suffixes_before [] rest bol h a r = r
suffixes_before (s ∷ ss) rest bol h a r =
    let after : List ℕ = flat_map suffix_text ss ++ sections_text rest in
    let p : (suffix_fits s true after ≡ true) × (suffixes_fit ss (sections_text rest) ≡ true) = and_parts _ _ h in
    let starts : bol ≡ true = line_not_end bol (flat_map suffix_text (s ∷ ss) ++ sections_text rest) a refl in
    let text : sections_text (suffixes_sections ss ++ rest) ≡ after = sections_joined (suffixes_sections ss) rest
    ∙ rw (suffixes_sections_text ss) in
    let b : Bool = starts_line bol (suffix_text s) in
    let more : sections_fit rest true (starts_line b (flat_map suffix_text ss)) ≡ true =
    rw (starts_joined bol (suffix_text s) (flat_map suffix_text ss)) at r in
    and_from _ _ (rw text (subst (λ (x : Bool). suffix_fits s x after ≡ true) (sym starts) p.0))
    (suffixes_before ss rest b p.1 (suffix_starts bol s after (and_parts _ _ p.0).1) more)

-- ---- parts and streams

-- a part before sections fits with them
part_before : (p : Part) (rest : List Section) (opened bol : Bool) → part_fits p bol (sections_text rest) ≡ true
    → ((o : Bool) → sections_fit rest o (starts_line bol (part_text p)) ≡ true) → sections_fit (part_sections p ++ rest) opened bol ≡ true
part_before (suffixes one more prefix d) rest opened bol h r =
    let at_end : List ℕ = sections_text rest in
    let at_document : List ℕ = optional document_text d ++ at_end in
    let at_prefix : List ℕ = comments_text prefix ++ at_document in
    let at_more : List ℕ = flat_map suffix_text more ++ at_prefix in
    let p : (suffix_fits one bol at_more && suffixes_fit more at_prefix && comments_fit true prefix at_document
    ≡ true) × (optional_document_fits d true at_end ≡ true) = and_parts _ _ h in
    let q : (suffix_fits one bol at_more && suffixes_fit more at_prefix ≡ true)
    × (comments_fit true prefix at_document ≡ true) = and_parts _ _ p.0 in
    let s : (suffix_fits one bol at_more ≡ true) × (suffixes_fit more at_prefix ≡ true) = and_parts _ _ q.0 in
    let more_bol : Bool = starts_line bol (suffix_text one) in
    let prefix_bol : Bool = starts_line more_bol (flat_map suffix_text more) in
    let document_bol : Bool = starts_line prefix_bol (comments_text prefix) in
    let a1 : line_or_end more_bol at_more ≡ true = suffix_starts bol one at_more (and_parts _ _ s.0).1 in
    let a2 : line_or_end prefix_bol at_prefix ≡ true = suffixes_start more at_prefix more_bol s.1 a1 in
    let prefix_fit : comments_fit prefix_bol prefix at_document ≡ true = comments_at prefix_bol prefix at_document q.1 a2 in
    let a3 : line_or_end document_bol at_document ≡ true = comments_start prefix_bol prefix at_document prefix_fit in
    let document_rest : List Section = optional_sections d ++ rest in
    let prefix_rest : List Section = lines_sections prefix ++ document_rest in
    let document_is : sections_text document_rest ≡ at_document = sections_joined (optional_sections d) rest
    ∙ rw (optional_sections_text d) in
    let prefix_is : sections_text prefix_rest ≡ at_prefix = sections_joined (lines_sections prefix) document_rest
    ∙ rw (lines_sections_text prefix, document_is) in
    let more_is : sections_text (suffixes_sections more ++ prefix_rest) ≡ at_more =
    sections_joined (suffixes_sections more) prefix_rest ∙ rw (suffixes_sections_text more, prefix_is) in
    let after : starts_line bol (part_text (suffixes one more prefix d)) ≡ starts_line document_bol (optional document_text d) =
    simp starts_joined in
    let fit3 : sections_fit document_rest true document_bol ≡ true =
    optional_before d rest document_bol p.1 a3 (λ o. subst (λ (x : Bool). sections_fit rest o x ≡ true) after (r o)) in
    let fit2 : sections_fit prefix_rest true prefix_bol ≡ true =
    lines_before prefix document_rest true prefix_bol (rw document_is prefix_fit) fit3 in
    let fit1 : sections_fit (suffixes_sections more ++ prefix_rest) true more_bol ≡ true =
    suffixes_before more prefix_rest more_bol (rw prefix_is s.1) (rw prefix_is a1) fit2 in
    let regrouped : (suffixes_sections more ++ (lines_sections prefix ++ optional_sections d)) ++ rest
    ≡ suffixes_sections more ++ prefix_rest =
    append_assoc (suffixes_sections more) (lines_sections prefix ++ optional_sections d) rest
    ∙ ap (λ (ps : List Section). suffixes_sections more ++ ps)
    (append_assoc (lines_sections prefix) (optional_sections d) rest) in
    subst (λ (ps : List Section). sections_fit (suffix one ∷ ps) opened bol ≡ true) (sym regrouped) (and_from _ _ (rw more_is s.0) fit1)
part_before (part_line e) rest opened bol h r = and_from _ _ h (r opened)
part_before (further x) rest opened bol h r = and_from _ _ h (r false)

-- the sections of parts fit
parts_sections_fit : (ps : List Part) (opened bol : Bool) → parts_fit ps bol [] ≡ true → sections_fit (parts_sections ps) opened bol ≡ true
parts_sections_fit [] opened bol h = refl
parts_sections_fit (p ∷ ps) opened bol h =
    let q : (part_fits p bol (parts_text ps ++ []) ≡ true) × (parts_fit ps (starts_line bol (part_text p)) [] ≡ true) = and_parts _ _ h in
    let text : sections_text (parts_sections ps) ≡ parts_text ps ++ [] = parts_sections_text ps ∙ sym (append-nil (parts_text ps)) in
    part_before p (parts_sections ps) opened bol (rw text q.0) (λ o. parts_sections_fit ps o (starts_line bol (part_text p)) q.1)

-- the sections of a stream that fits fit
pub stream_sections_fit : (s : Stream) → fits s ≡ true → sections_fit (stream_sections s) true true ≡ true
stream_sections_fit s h =
    let rest : List Section = parts_sections s.parts in
    let after : List ℕ = optional document_text s.document ++ parts_text s.parts in
    let b : Bool = starts_line true (comments_text s.prefix) in
    let p : (comments_fit true s.prefix after && optional_document_fits s.document true (parts_text s.parts) ≡ true)
    × (parts_fit s.parts (starts_line true (comments_text s.prefix ++ optional document_text s.document)) [] ≡ true) = and_parts _ _ h in
    let q : (comments_fit true s.prefix after ≡ true)
    × (optional_document_fits s.document true (parts_text s.parts) ≡ true) = and_parts _ _ p.0 in
    let parts_is : sections_text rest ≡ parts_text s.parts = parts_sections_text s.parts in
    let document_is : sections_text (optional_sections s.document ++ rest) ≡ after =
    sections_joined (optional_sections s.document) rest ∙ rw (optional_sections_text s.document, parts_is) in
    let parts : parts_fit s.parts (starts_line b (optional document_text s.document)) [] ≡ true =
    rw (starts_joined true (comments_text s.prefix) (optional document_text s.document)) at p.1 in
    let document_fit : sections_fit (optional_sections s.document ++ rest) true b ≡ true =
    optional_before s.document rest b (rw parts_is q.1) (rw parts_is (comments_start true s.prefix after q.0))
    (λ o. parts_sections_fit s.parts o (starts_line b (optional document_text s.document)) parts) in
    lines_before s.prefix (optional_sections s.document ++ rest) true true (rw document_is q.0) document_fit
