use Rattle.std.proofs.Common.{[]}
use Rattle.conf_diff.proofs.{Joined.AreFree-none, Performing.entry_edits-made}
use Rattle.conf_diff.proofs.laws.undo_gives_what_was.Goals as goal

pub returns : goal.returns
returns c = λ was now commands old new done.
    entry_edits-made now.configs [] was.configs (AreFree-none now.configs) (AreFree-none was.configs)
    new.distinct old.distinct new.configs old.configs
