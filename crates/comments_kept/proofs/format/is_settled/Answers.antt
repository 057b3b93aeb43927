use Rattle.std.{proofs.Common.{◌≡◌, ap, sym, subst, ◌∙◌, string_bytes}, specs.Prelude.nat_eq}
use lib.Pointwise.{pointwise}
use Rattle.std.specs.Cmp.Lexicographic.{same_text}
use Rattle.{comments_kept.{specs.Keeping.{IsWritten, Writes}, proofs.Keeping.{writes, compared}}, yaml_data.specs.Seen.tree_of}
use Rattle.comments_kept.proofs.format.is_settled.Goals as goal

pub returns-in-Ok-clause-settled : goal.returns-in-Ok-clause-settled
returns-in-Ok-clause-settled c =
    let text = c.args.text.now in
    let t = tree_of c.args.tree.now in
    let again = string_bytes c.in-Ok.again in
    let w = subst (λ bytes. IsWritten bytes t again) c.as_bytes-once.ensures.value c.in-Ok.ensures.written in
    compared t text again c.eq-in-Ok.result (c.eq-in-Ok.ensures ∙ ap (λ bytes. pointwise nat_eq bytes text) c.as_str.ensures.value)
    (writes text t again w)

pub returns-then-eq-clause-settled : goal.returns-then-eq-clause-settled
returns-then-eq-clause-settled c =
    let text = c.args.text.now in
    let bytes = c.args.bytes.now in
    let t = tree_of c.args.tree.now in
    let same : bytes ≡ text = sym (same_text c.as_bytes-once.result.now bytes (sym c.if-eq.true ∙ c.eq.ensures))
    ∙ c.as_bytes-once.ensures.value in
    subst (λ bytes. Writes bytes t text) same c.requires.written
