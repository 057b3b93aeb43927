-- The texts stay, and those of the names so far are made.
use Rattle.std.proofs.Common.{◌≡◌, map, take}
use Rattle.conf_store.{proofs.Prelude.{edit_of, name_of}, specs.Parts.{AreMade, texts}}
use Rattle.conf_store.proofs.pending.Pending.keep_each.Given as goal

abbrev pub invariant-loop-edit : goal.invariant-loop-edit
invariant-loop-edit l = record {
  same : texts l.state.configs l.self ≡ texts l.state.configs l.fn.self;
  kept : AreMade (map name_of (map edit_of (take l.edit-index l.edits))) l.self;
}
