use Rattle.std.proofs.{Common.{◌∙◌, rules, sym}, lemmas.Iterator.{Adapters.YieldsList-from_bytes, Search.all_from_yields_List}}
use Rattle.conf_state.proofs.Prelude.{chars, every-IsAscii, every-bytes, chars-same}
use borrow.Author.Tests.{tests}
use Rattle.conf_state.{specs.Names.name_char, proofs.NameLemmas.name_char-below}
use Rattle.conf_state.proofs.name.has_name_bytes.Goals as goal

pub returns-clause-named : goal.returns-clause-named
returns-clause-named c =
    all_from_yields_List name_char _ _ _ c.all.ensures.ran (YieldsList-from_bytes c.args.name.now c.bytes.ensures.rest)
    (λ x b q k. search (rules, tests))
    ∙ every-bytes name_char name_char-below c.args.name.now c.utf8.name

pub returns-clause-ascii : goal.returns-clause-ascii
returns-clause-ascii c = λ all.
    chars-same c.args.name.now c.utf8.name
    (every-IsAscii name_char name_char-below (chars c.args.name.now) (sym (returns-clause-named c) ∙ all))
