use Rattle.std.proofs.Common.{sym, ◌∙◌}
use Rattle.tree_edits.proofs.{Prelude.{bytes_eq-dash, chars}, Elements.{place-dash, place-none}}
use Rattle.tree_edits.proofs.index.place_in.Goals as goal

pub returns-then-eq : goal.returns-then-eq
returns-then-eq c =
    place-dash (chars c.args.token.now) c.args.count
    (sym (bytes_eq-dash c.args.token.now c.utf8.token) ∙ sym c.eq.ensures ∙ c.if-eq.true)

pub returns-in_err-index : goal.returns-in_err-index
returns-in_err-index c =
    c.from_residual.ensures
    ∙ place-none (chars c.args.token.now) c.args.count
    (sym (bytes_eq-dash c.args.token.now c.utf8.token) ∙ sym c.eq.ensures ∙ c.if-eq.false) c.in_err-index.ensures
