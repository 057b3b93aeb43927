-- All are sought through.
use Rattle.std.{proofs.Common.rules, specs.Str.bytes_eq}
use Rattle.{command_line.proofs.FindLemmas.passed, conf_words.specs.Subcommands.{all, name_of, named}}
use Rattle.conf_words.specs.declared.subcommand.Subcommand.TheVariants.{Init}
use Rattle.conf_words.proofs.subcommand.Subcommand.named.Goals as goal

pub loop-subcommand-init : goal.loop-subcommand-init
unfolding named
loop-subcommand-init c = search rules

pub loop-subcommand-preserved : goal.loop-subcommand-preserved
loop-subcommand-preserved c =
    passed (λ s. bytes_eq (name_of s) c.args.name.now) all c.loop-subcommand.subcommand-index Init (named c.args.name.now)
    (search rules) (search rules) c.loop-subcommand.invariant
