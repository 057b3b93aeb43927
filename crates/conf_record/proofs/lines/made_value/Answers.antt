use Rattle.std.proofs.Common.{ap, ◌∙◌}
use Rattle.conf_record.proofs.{Prelude.{chars, tree_of, tree_of-Text, text}, WrittenLemmas.{text_config, value_size}}
use Rattle.conf_record.proofs.lines.made_value.Goals as goal

pub with_size-requires-clause-kept : goal.with_size-requires-clause-kept
with_size-requires-clause-kept c =
    let on = c.requires.1 in
    (text_config c.requires.0 c.args.value.text.now c.in_ok-copy.copy c.in_ok-copy.ensures on.is on.short).0.kept

pub with_size-requires-clause-size : goal.with_size-requires-clause-size
with_size-requires-clause-size c =
    let on = c.requires.1 in
    value_size _ _ _ on.bytes (text_config c.requires.0 c.args.value.text.now c.in_ok-copy.copy c.in_ok-copy.ensures on.is on.short).1

pub returns : goal.returns
returns c =
    ap tree_of c.with_size.ensures ∙ tree_of-Text c.in_ok-copy.copy ∙ ap (λ bs. text (chars bs)) c.in_ok-copy.ensures
