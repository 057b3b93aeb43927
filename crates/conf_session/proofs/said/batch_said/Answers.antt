use Rattle.std.proofs.Common.{subst, sym, ap, ◌∙◌}
use Rattle.conf_session.{proofs.Prelude.{IfOk-weaker, elements_of, AreKept, items_kept}, specs.Said.batch_said}
use Rattle.conf_session.proofs.said.batch_said.Goals as goal

pub elements_said-requires : goal.elements_said-requires
elements_said-requires c = items_kept (elements_of c.in-Some.elements.items) (subst AreKept c.in-Some.ensures c.requires).0

pub returns-in-Some : goal.returns-in-Some
returns-in-Some c = IfOk-weaker c.elements_said.result _ _ (λ said e. e ∙ sym (ap batch_said c.in-Some.ensures)) c.elements_said.ensures
