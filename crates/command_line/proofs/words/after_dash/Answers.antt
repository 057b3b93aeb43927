-- What the search for a first `-` says.
use Rattle.std.proofs.{Common.arith, lemmas.Str.Pattern.strip_prefix_char}
use Rattle.command_line.proofs.LookLemmas.{stripped}
use Rattle.command_line.proofs.words.after_dash.Goals as goal

pub returns : goal.returns
returns c =
    stripped c.args.word.now c.strip_prefix.result
    (strip_prefix_char 45 c.args.word.now c.strip_prefix.result c.strip_prefix.ensures.cases (omega arith))
