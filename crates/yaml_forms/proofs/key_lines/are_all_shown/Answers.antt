use Rattle.std.proofs.{Common.rules, lemmas.Iterator.{YieldsList-from_chars, Search.all_from_yields_List}}
use Rattle.yaml_forms.proofs.Prelude.{shown}
use borrow.Author.Tests.{tests}
use Rattle.yaml_forms.proofs.key_lines.are_all_shown.Goals as goal

pub returns : goal.returns
returns c =
    all_from_yields_List shown _ _ _ c.all.ensures.ran (YieldsList-from_chars c.args.text.now c.utf8.text c.chars.ensures.rest)
    (λ x b q k. search (rules, tests))
