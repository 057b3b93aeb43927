-- Whatever the names that are left lead to, is what all names lead to; and nothing was told.
use Rattle.std.proofs.Common.{◌≡◌}
use Rattle.conf_tools.{specs.Prelude.names_of, proofs.ConfigFileLemmas.LeadsPut}
use Rattle.conf_tools.proofs.config_files.put_each.Given as goal

abbrev pub invariant-loop-name : goal.invariant-loop-name
invariant-loop-name g l =
    LeadsPut g.A.World.model g.A.File.Read.remaining l.form l.into l.state.configs l.name-iterator l.world
    (names_of l.state.configs) l.fn.world × (l.errors ≡ l.fn.errors)
