-- What comes after a document ends its node: lines of white or comments, and then the end of the text or a marker.
use Rattle.std.{proofs.Common.{ap, append_assoc, refl, subst, sym, ◌∙◌, ◌≡◌}, specs.Prelude.{Bool, List, [], false, flat_map, true, ℕ}}
use Rattle.std.specs.Prelude.{◌++◌, ◌∷◌}
use Rattle.yaml_recognizers.proofs.Prelude.{and_from, and_parts, append-nil, LineEnd, comment_line_fits, comments_text, line_end_text}
use Rattle.yaml_recognizers.proofs.Prelude.{Explicit, Part, Stream, content, document_text, explicit_fits, explicit_text, fits, further}
use Rattle.yaml_recognizers.proofs.Prelude.{line, nothing, part_fits, part_text, parts_fit, parts_text, suffix_text, suffixes, ends_word}
use Rattle.yaml_recognizers.proofs.{Prelude.{marker, optional, starts_line}, Documents.{StreamsBegin.marked, StreamsForm.line_wider}}
use Rattle.yaml_recognizers.specs.{CanonicalComments.is_line_end, StandingNodes.EndsNode}

-- a marker ends a document's node
at_mark : (text : List ℕ) → is_line_end text ≡ false → marker text ≡ true → EndsNode 0 false text
at_mark text n h = record { lines = []; after = text; is = refl; fit = refl; whole = n; ends = marked 0 false text h }

-- `---` is a marker where an explicit document fits, and `...` where a suffix does
explicit_mark : (x : Explicit) (bol : Bool) (rest : List ℕ) → explicit_fits x bol rest ≡ true → marker (explicit_text x ++ rest) ≡ true
explicit_mark (content n) bol rest h = (and_parts _ _ (and_parts _ _ h).0).1
explicit_mark (nothing comments) bol rest h = (and_parts _ _ (and_parts _ _ h).0).1

-- no comment line starts where `---` does
explicit_no_line : (x : Explicit) (rest : List ℕ) → is_line_end (explicit_text x ++ rest) ≡ false
explicit_no_line (content n) rest = refl
explicit_no_line (nothing comments) rest = refl

-- a line of white or a comment, before what ends a node
line_before : (bol : Bool) (e : LineEnd) (rest : List ℕ) → comment_line_fits bol e rest ≡ true → EndsNode 0 false rest
    → EndsNode 0 false (line_end_text e ++ rest)
line_before bol e rest h r =
    record {
      lines = e ∷ r.lines;
      after = r.after;
      is = ap (λ (t : List ℕ). line_end_text e ++ t) r.is ∙ sym (append_assoc (line_end_text e) (comments_text r.lines) r.after);
      fit = and_from _ _ (subst (λ (t : List ℕ). comment_line_fits true e t ≡ true) r.is (line_wider bol e rest h)) r.fit;
      whole = r.whole;
      ends = r.ends;
    }

-- what follows a document ends its node
pub parts_end : (ps : List Part) (bol : Bool) → parts_fit ps bol [] ≡ true → EndsNode 0 false (parts_text ps)
parts_end [] bol h = record { lines = []; after = []; is = refl; fit = refl; whole = refl; ends = refl }
parts_end (suffixes one more prefix d ∷ ps) bol h =
    let rest : List ℕ = optional document_text d ++ (parts_text ps ++ []) in
    let after : List ℕ = comments_text one ++ (flat_map suffix_text more ++ (comments_text prefix ++ rest)) in
    let p : (part_fits (suffixes one more prefix d) bol (parts_text ps ++ []) ≡ true)
    × (parts_fit ps (starts_line bol (part_text (suffixes one more prefix d))) [] ≡ true) = and_parts _ _ h in
    let mark : ends_word after ≡ true = (and_parts _ _ (and_parts _ _ (and_parts _ _ (and_parts _ _ (and_parts _ _ p.0).0).0).0).0).1 in
    let regrouped : (((comments_text one ++ flat_map suffix_text more) ++ comments_text prefix)
    ++ optional document_text d) ++ parts_text ps ≡ after = simp (append_assoc, append-nil) in
    at_mark (parts_text (suffixes one more prefix d ∷ ps)) refl (rw regrouped mark)
parts_end (line e ∷ ps) bol h =
    let p : (comment_line_fits bol e (parts_text ps ++ []) ≡ true)
    × (parts_fit ps (starts_line bol (line_end_text e)) [] ≡ true) = and_parts _ _ h in
    line_before bol e (parts_text ps) (rw (append-nil (parts_text ps)) at p.0) (parts_end ps (starts_line bol (line_end_text e)) p.1)
parts_end (further x ∷ ps) bol h =
    let p : (explicit_fits x bol (parts_text ps ++ []) ≡ true)
    × (parts_fit ps (starts_line bol (explicit_text x)) [] ≡ true) = and_parts _ _ h in
    at_mark (parts_text (further x ∷ ps)) (explicit_no_line x (parts_text ps))
    (explicit_mark x bol (parts_text ps) (rw (append-nil (parts_text ps)) at p.0))

-- later parts end a document's node
later_end : (before after : List Part) (bol : Bool) → parts_fit (before ++ after) bol [] ≡ true → EndsNode 0 false (parts_text after)
later_end [] after bol h = parts_end after bol h
later_end (p ∷ ps) after bol h = later_end ps after (starts_line bol (part_text p)) (and_parts _ _ h).1

-- the same at each document of a stream
pub document_ends : (s : Stream) (before after : List Part) → fits s ≡ true → s.parts ≡ before ++ after
    → EndsNode 0 false (parts_text after)
document_ends s before after h e =
    let b : Bool = starts_line true (comments_text s.prefix ++ optional document_text s.document) in
    later_end before after b (subst (λ (ps : List Part). parts_fit ps b [] ≡ true) e (and_parts _ _ h).1)
