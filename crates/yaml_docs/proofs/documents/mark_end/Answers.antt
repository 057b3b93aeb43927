use Rattle.std.{proofs.Common.{ap, arith, length, ◌+◌, ◌<◌, ◌∙◌, ◌≡◌}, specs.{Prelude.{ℕ, ◌∷◌}, Char.len_utf8}}
use Rattle.yaml_docs.proofs.{Prelude.{false≢true, IsCharBoundary-start, rest, rest-end}, MarkEnds.{empty_text, mark_there, other_prefix}}
use Rattle.yaml_docs.proofs.documents.mark_end.Goals as goal

pub next_char-requires : goal.next_char-requires
next_char-requires c = IsCharBoundary-start c.args.text.now c.utf8.text

pub returns-in_default : goal.returns-in_default
returns-in_default c =
    let text = c.args.text.now in
    let none : 0 < length text → ⊥ = λ l. false≢true (c.in_default.ensures.found.1 l) in
    empty_text text c.utf8.text (rest-end text 0 (omega arith))

pub returns-then-character-eq65279 : goal.returns-then-character-eq65279
returns-then-character-eq65279 c =
    let text = c.args.text.now in
    let found = c.in-Some in
    let prefix : rest text 0 ≡ 0xfeff ∷ rest text (0 + found.len) = found.ensures.char
    ∙ ap (λ (x : ℕ). x ∷ rest text (0 + found.len)) c.if-character-eq65279.true in
    mark_there text found.len (rest text (0 + found.len)) c.utf8.text prefix (found.ensures.len ∙ ap len_utf8 c.if-character-eq65279.true)

pub returns-else-character-eq65279 : goal.returns-else-character-eq65279
returns-else-character-eq65279 c =
    other_prefix c.args.text.now c.in-Some.character
    (rest c.args.text.now (0 + c.in-Some.len)) c.utf8.text c.in-Some.ensures.char c.if-character-eq65279.false
