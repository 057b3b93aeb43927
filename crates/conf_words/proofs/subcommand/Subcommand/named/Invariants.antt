-- The subcommands before have other names.
use Rattle.std.proofs.Common.{◌≡◌, drop}
use Rattle.conf_words.specs.Subcommands.{named, named_among}
use Rattle.conf_words.proofs.subcommand.Subcommand.named.Given as goal

abbrev pub invariant-loop-subcommand : goal.invariant-loop-subcommand
invariant-loop-subcommand l =
    named_among l.name (drop l.subcommand-index l.subcommand-items) ≡ named l.name
