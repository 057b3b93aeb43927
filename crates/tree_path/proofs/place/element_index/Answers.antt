use Rattle.std.proofs.Common.{sym, ◌∙◌}
use Rattle.tree_path.proofs.{Prelude.chars, Steps.{bytes_eq-dash, index_below-dash, index_below-other}, StepLaws.option_map-None}
use Rattle.tree_path.specs.Steps.{number_of, as_usize}
use Rattle.tree_path.proofs.place.element_index.Goals as goal

pub returns-then-eq : goal.returns-then-eq
returns-then-eq c =
    sym (index_below-dash (chars c.args.token.now) c.args.count
    (sym (bytes_eq-dash c.args.token.now c.utf8.token) ∙ sym c.eq.ensures ∙ c.if-eq.true))

pub returns-in-None : goal.returns-in-None
returns-in-None c =
    sym (index_below-other (chars c.args.token.now) c.args.count
    (sym (bytes_eq-dash c.args.token.now c.utf8.token) ∙ sym c.eq.ensures ∙ c.if-eq.false)
    (option_map-None as_usize (number_of (chars c.args.token.now)) (sym c.in-None.ensures)))
