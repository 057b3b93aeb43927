use Rattle.std.proofs.Common.{ℕ, ◌-◌, sym, ◌∙◌, ap, List, ◌++◌, take, drop, length, ◌≡◌}
use Rattle.yaml_docs.proofs.{Prelude.{starts_is, Decides-eqb, take_rest}, ClosingLines.closing_line}
use Rattle.yaml_docs.proofs.cutter.completes.Goals as goal

pub returns-then-is_begun-clause-completes : goal.returns-then-is_begun-clause-completes
returns-then-is_begun-clause-completes c e =
    let bytes : List ℕ = c.args.bytes.now in
    let dots : ℕ = c.args.dots in
    let left : List ℕ = take (4 - dots) (drop dots closing_line) in
    let starts : bytes ≡ left ++ drop (length left) bytes =
    (starts_is Decides-eqb bytes left c.starts_with.result c.starts_with.ensures.value).0 e in
    record {
      begun = c.is_begun.ensures.begun c.if-is_begun.true;
      after = drop (length left) bytes;
      is = starts ∙ ap (λ (l : List ℕ). l ++ drop (length left) bytes) (take_rest closing_line dots);
    }

pub returns-then-is_begun-clause-otherwise : goal.returns-then-is_begun-clause-otherwise
returns-then-is_begun-clause-otherwise c b =
    let dots : ℕ = c.args.dots in
    let left : List ℕ = take (4 - dots) (drop dots closing_line) in
    (starts_is Decides-eqb c.args.bytes.now left c.starts_with.result c.starts_with.ensures.value).1 b.after
    (b.is ∙ ap (λ (l : List ℕ). l ++ b.after) (sym (take_rest closing_line dots)))
