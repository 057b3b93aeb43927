use Rattle.std.proofs.Common.{inl, ap, ◌∙◌}
use Rattle.conf_session.{proofs.Prelude.{IfOk-weaker, tree_of}, specs.Said.said_by}
use Rattle.conf_session.proofs.said.read_any.Goals as goal

pub returns-in-Ok : goal.returns-in-Ok
returns-in-Ok c =
    IfOk-weaker c.said_by.result _ _
    (λ said e. inl (
      tree_of c.in-Ok.config,
      c.in-Ok.ensures.given,
      e
          ∙ ap (λ t. said_by (tree_of t)) c.into_tree.ensures.same,
    )) c.said_by.ensures
