-- The names so far and those that are left are all names, and no text of those so far is longer.
use Rattle.std.proofs.Common.{◌≡◌, ◌++◌}
use Rattle.conf_store.{proofs.{Prelude.names_of, PendingLemmas.texts_of}, specs.Parts.{AreWithin, parts_named, texts}}
use Rattle.conf_store.proofs.pending.Pending.of_state.Given as goal

abbrev pub invariant-loop-name : goal.invariant-loop-name
invariant-loop-name l = record {
  all : texts_of l.names.items ++ l.name-iterator ≡ names_of l.state.configs;
  within : AreWithin l.bytes (texts l.state.configs (parts_named (texts_of l.names.items)));
}
