use Rattle.std.proofs.Common.{sym, ap, ◌∙◌}
use Rattle.conf_session.{proofs.{Prelude.{conditions_of, tree_of}, SaidLemmas.with-change}, specs.Said.{said_of, with_about}}
use Rattle.conf_session.proofs.said.with_about.Goals as goal

pub returns-in-Conditional : goal.returns-in-Conditional
returns-in-Conditional c =
    with-change (conditions_of c.in-Conditional.conditions.items) (tree_of c.args.about) c.in-Conditional.change
    ∙ sym (ap (λ s. with_about (tree_of c.args.about) (said_of s)) c.in-Conditional.is)
