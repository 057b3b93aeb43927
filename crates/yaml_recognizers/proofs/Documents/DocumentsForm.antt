-- The canonical form of documents: comments in it are canonical, and further lines of comments after it are taken in by
-- its node, or by the comments after its `---` where it has none.
use Rattle.std.{proofs.Common.{ap, append_assoc, refl, sym, ◌≡◌}, specs.Prelude.{Bool, List, None, Option, false, not, true, ℕ, ◌&&◌, ◌++◌}}
use Rattle.std.specs.Prelude.{◌∷◌}
use Rattle.yaml_recognizers.proofs.Prelude.{and_from, and_parts, not_from_false, white, node_fits, node_text, LineEnd, comments_fit}
use Rattle.yaml_recognizers.proofs.Prelude.{comments_text, Document, Explicit, bare, content, directed, directive_text, document_events}
use Rattle.yaml_recognizers.proofs.Prelude.{document_text, explicit, explicit_events, explicit_fits, explicit_text, nothing, list_all}
use Rattle.yaml_recognizers.proofs.{Prelude.{ends_word, is_empty}, BlockScalars.BlockScalarsForm.takes}
use Rattle.yaml_recognizers.proofs.{Documents.StreamsFlatFit.flat_document_fits, Block.BlockNodesForm.{node_before, node_form}}
use Rattle.yaml_recognizers.proofs.Block.BlockNodesForm.{node_form_events, node_form_fits, node_form_text, node_open}
use Rattle.yaml_recognizers.proofs.Separation.CommentsForm.{comments_form_fit, comments_joined, joined_before}
use Rattle.yaml_recognizers.specs.{CanonicalComments.{canonical_comments, is_line_end}, CanonicalStreams.canonical_document}
use Rattle.yaml_recognizers.specs.CanonicalStreams.{canonical_explicit}

-- what follows `---`, in its canonical form, with further comment lines
abbrev pub explicit_form : Explicit → List LineEnd → Explicit
explicit_form (content n) ls = content (node_form n ls)
explicit_form (nothing comments) ls = nothing (comments ++ ls)

-- a document in its canonical form, with further comment lines
abbrev pub document_form : Document → List LineEnd → Document
document_form (bare n) ls = bare (node_form n ls)
document_form (explicit x) ls = explicit (explicit_form x ls)
document_form (directed blank version comments x) ls = directed blank version comments (explicit_form x ls)

-- the indentation of the block scalar that a document ends with, where no comments come after it
abbrev pub explicit_open : Explicit → Option ℕ
explicit_open (content n) = node_open n
explicit_open (nothing comments) = None

-- the indentation of the block scalar that ends the document, if no comments come after it
abbrev pub document_open : Document → Option ℕ
document_open (bare n) = node_open n
document_open (explicit x) = explicit_open x
document_open (directed blank version comments x) = explicit_open x

-- ---- text and meaning

-- what comes after `---` has the same text and the comments taken in
explicit_form_text : (x : Explicit) (ls : List LineEnd) → explicit_text (explicit_form x ls) ≡ explicit_text x ++ comments_text ls
explicit_form_text (content n) ls = ap (λ (t : List ℕ). 45 ∷ (45 ∷ (45 ∷ t))) (node_form_text n ls)
explicit_form_text (nothing comments) ls = ap (λ (t : List ℕ). 45 ∷ (45 ∷ (45 ∷ t))) (comments_joined comments ls)

-- it has the same text, with the comments taken in
pub document_form_text : (d : Document) (ls : List LineEnd) → document_text (document_form d ls) ≡ document_text d ++ comments_text ls
document_form_text (bare n) ls = node_form_text n ls
document_form_text (explicit x) ls = explicit_form_text x ls
document_form_text (directed blank version comments x) ls =
    rw (explicit_form_text x ls) (sym (append_assoc (directive_text blank version comments) (explicit_text x) (comments_text ls)))

-- it means the same
explicit_form_events : (x : Explicit) (ls : List LineEnd) (at : ℕ) → explicit_events (explicit_form x ls) at ≡ explicit_events x at
explicit_form_events (content n) ls at = rw (node_form_events n ls)
explicit_form_events (nothing comments) ls at = refl

-- it means the same
pub document_form_events : (d : Document) (ls : List LineEnd) (at : ℕ) → document_events (document_form d ls) at ≡ document_events d at
document_form_events (bare n) ls at = rw (node_form_events n ls)
document_form_events (explicit x) ls at = explicit_form_events x ls at
document_form_events (directed blank version comments x) ls at = explicit_form_events x ls _

-- ---- it fits

-- it is canonical
explicit_form_fits : (x : Explicit) (ls : List LineEnd) (bol : Bool) (after : List ℕ)
    → explicit_fits x bol (comments_text ls ++ after) ≡ true
    → comments_fit true ls after ≡ true → takes (explicit_open x) ls after ≡ true → canonical_explicit (explicit_form x ls) bol after ≡ true
explicit_form_fits (content n) ls bol after h l t =
    let more : List ℕ = comments_text ls ++ after in
    let p : (bol && ends_word (node_text n ++ more) ≡ true) × (node_fits n 0 false false more ≡ true) = and_parts _ _ h in
    rw (node_before n ls after) (and_from _ _ p.0 (node_form_fits n 0 false false ls after p.1 l t))
explicit_form_fits (nothing comments) ls bol after h l t =
    let more : List ℕ = comments_text ls ++ after in
    let p : (bol && ends_word (comments_text comments ++ more) ≡ true) × (comments_fit false comments more ≡ true) = and_parts _ _ h in
    rw (joined_before comments ls after) (and_from _ _ p.0 (comments_form_fit false comments ls after p.1 l t))

-- the comments taken in come after its text
explicit_before : (x : Explicit) (ls : List LineEnd) (after : List ℕ)
    → explicit_text (explicit_form x ls) ++ after ≡ explicit_text x ++ (comments_text ls ++ after)
explicit_before x ls after = rw (explicit_form_text x ls) (append_assoc (explicit_text x) (comments_text ls) after)

-- no comments begin at a `---`
pub explicit_stop : (x : Explicit) (after : List ℕ) → is_line_end (explicit_text x ++ after) ≡ false
explicit_stop (content n) after = refl
explicit_stop (nothing comments) after = refl

-- it is canonical if the document fits
pub document_form_fits : (d : Document) (ls : List LineEnd) (opened bol : Bool) (after : List ℕ)
    → flat_document_fits d opened bol (comments_text ls ++ after) ≡ true
    → comments_fit true ls after ≡ true → takes (document_open d) ls after ≡ true
    → canonical_document (document_form d ls) opened bol after ≡ true
document_form_fits (bare n) ls opened bol after h l t =
    let more : List ℕ = comments_text ls ++ after in
    let p : (opened && not (is_line_end (node_text n ++ more)) ≡ true) × (node_fits n 0 false bol more ≡ true) = and_parts _ _ h in
    rw (node_before n ls after) (and_from _ _ p.0 (node_form_fits n 0 false bol ls after p.1 l t))
document_form_fits (explicit x) ls opened bol after h l t = explicit_form_fits x ls bol after h l t
document_form_fits (directed blank version comments x) ls opened bol after h l t =
    let more : List ℕ = comments_text ls ++ after in
    let head : Bool = bol && list_all white blank && not (is_empty blank) in
    let p : (opened ≡ true) × (head && comments_fit false comments (explicit_text x ++ more)
    && explicit_fits x true more ≡ true) = and_parts _ _ h in
    let q : (head && comments_fit false comments (explicit_text x ++ more) ≡ true)
    × (explicit_fits x true more ≡ true) = and_parts _ _ p.1 in
    let r : (head ≡ true) × (comments_fit false comments (explicit_text x ++ more) ≡ true) = and_parts _ _ q.0 in
    let s : (bol && list_all white blank ≡ true) × (not (is_empty blank) ≡ true) = and_parts _ _ r.0 in
    let u : (bol ≡ true) × (list_all white blank ≡ true) = and_parts _ _ s.0 in
    let c : canonical_comments false comments (explicit_text x ++ more) ≡ true =
    and_from _ _ r.1 (not_from_false _ (explicit_stop x more)) in
    let e : canonical_explicit (explicit_form x ls) true after ≡ true = explicit_form_fits x ls true after q.1 l t in
    rw (explicit_before x ls after) (and_from _ _ (and_from _ _ (and_from _ _ (and_from _ _ (and_from _ _ p.0 u.0) u.1) s.1) c) e)
