-- A mapping says what its members say.
use Rattle.std.proofs.Common.{sym, ap, subst, ◌∙◌}
use Rattle.conf_session.proofs.{Prelude.{IfOk-weaker, IsKept, tree_of, members_of, tree_of-Text, tree_of-Seq, tree_of-Map, parts_kept}}
use Rattle.conf_session.{proofs.SaidLemmas.{said-text, said-sequence}, specs.Said.said_by}
use Rattle.conf_session.proofs.said.said_by.Goals as goal

pub returns-in-Text : goal.returns-in-Text
returns-in-Text c = sym (ap said_by (ap tree_of c.in-Text.is ∙ tree_of-Text c.in-Text.field-0) ∙ said-text _)

pub returns-in-Seq : goal.returns-in-Seq
returns-in-Seq c = sym (ap said_by (ap tree_of c.in-Seq.is ∙ tree_of-Seq c.in-Seq.field-0) ∙ said-sequence _)

pub mapping_said-requires : goal.mapping_said-requires
mapping_said-requires c = parts_kept (members_of c.in-Map.pairs.items)
    (subst IsKept (ap tree_of c.in-Map.is ∙ tree_of-Map c.in-Map.pairs) c.requires)

pub returns : goal.returns
returns c =
    IfOk-weaker c.mapping_said.result _ _
    (λ said e. e ∙ sym (ap said_by (ap tree_of c.in-Map.is ∙ tree_of-Map c.in-Map.pairs))) c.mapping_said.ensures
