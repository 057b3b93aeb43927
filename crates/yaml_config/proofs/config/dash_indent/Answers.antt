use Rattle.std.proofs.Common.{◌≡◌, ◌+◌, ◌*◌, ℕ, sym, ap, subst, ◌∙◌, arith}
use Rattle.yaml_config.proofs.Prelude.{lines_after_dash, style_text, byte_len, Tree, tree_of, elements_of, members_of, tree_of-Text}
use Rattle.yaml_config.proofs.Prelude.{tree_of-Seq, tree_of-Map, indented, elements_law, members_law}
use Rattle.yaml_config.proofs.config.dash_indent.Goals as goal

-- the lines after a `- ` are so many spaces deeper
abbrev Deeper : ℕ → Tree → Type 0
Deeper n t = byte_len (lines_after_dash t 0) ≡ byte_len (style_text t) + n * indented t

pub returns-in-Text-clause-length : goal.returns-in-Text-clause-length
returns-in-Text-clause-length c =
    subst (Deeper 0) (sym (ap tree_of c.in-Text.is ∙ tree_of-Text c.in-Text.field-0)) (omega arith)

pub returns-in-Seq-clause-length : goal.returns-in-Seq-clause-length
returns-in-Seq-clause-length c =
    let items = c.in-Seq.field-0 in
    subst (Deeper 2) (sym (ap tree_of c.in-Seq.is ∙ tree_of-Seq items)) (elements_law (elements_of items.items) 2)

pub returns-in-Map-clause-length : goal.returns-in-Map-clause-length
returns-in-Map-clause-length c =
    let pairs = c.in-Map.field-0 in
    subst (Deeper 2) (sym (ap tree_of c.in-Map.is ∙ tree_of-Map pairs)) (members_law (members_of pairs.items) 2)
