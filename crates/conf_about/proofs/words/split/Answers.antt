use Rattle.std.proofs.{Common.{Some, arith, sym, subst}, lemmas.Str.Pattern.split_parts}
use Rattle.conf_about.proofs.{Prelude.IsCharBoundary, WordLemmas.{chars-split, chars-whole}}
use Rattle.conf_about.proofs.words.split.Goals as goal

pub returns-in-Some : goal.returns-in-Some
returns-in-Some c =
    let word = c.args.word.now in
    let cut = c.in-Some.ensures.cases in
    let parts = split_parts 61 word (Some (c.in-Some.key, c.in-Some.text)) cut (omega arith) in
    let at = subst (IsCharBoundary word) (sym cut.2.1.ends) cut.2.1.after in
    chars-split word c.in-Some.key.now c.in-Some.text.now cut.0 cut.1 c.utf8.word at cut.2.0 cut.3 cut.4 cut.6 parts.0

pub returns-in-None : goal.returns-in-None
returns-in-None c = chars-whole c.args.word.now c.utf8.word c.in-None.ensures.cases
