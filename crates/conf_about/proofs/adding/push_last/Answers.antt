use Rattle.std.proofs.Common.{ap, ◌∙◌}
use Rattle.conf_about.proofs.{Prelude.{Pair, chars, members_of, text_bytes, tree_of-Text}, AddLemmas.members-push}
use Rattle.yaml_data.specs.declared.tree.Tree.{Text}
use Rattle.conf_about.proofs.adding.push_last.Goals as goal

pub returns-clause-ok : goal.returns-clause-ok
returns-clause-ok c =
    let pair : Pair = (c.args.key, Text c.args.text) in
    ap members_of c.in_ok-push.ensures.items
    ∙ members-push c.args.pairs.now.items pair (chars (text_bytes c.args.text)) (tree_of-Text c.args.text)
