use Rattle.std.proofs.Common.{subst, sym, ap, ◌∙◌, arith}
use Rattle.conf_session.proofs.{Prelude.{chars, text, IsKept, tree_of, tree_of-Text}, CommandLineLemmas.short_kept}
use Rattle.conf_session.proofs.part_lines.made_value.Goals as goal

pub part-requires : goal.part-requires
part-requires c =
    subst IsKept (sym (tree_of-Text c.in_ok-value.value ∙ ap (λ bs. text (chars bs)) c.in_ok-value.ensures))
    (short_kept c.args.value.now c.utf8.value (omega arith))

pub returns : goal.returns
returns c = ap tree_of c.part.ensures ∙ tree_of-Text c.in_ok-value.value ∙ ap (λ bs. text (chars bs)) c.in_ok-value.ensures
