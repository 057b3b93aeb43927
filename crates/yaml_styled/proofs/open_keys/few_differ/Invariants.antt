use Rattle.std.proofs.Common.{◌≡◌, drop}
use Rattle.yaml_styled.{proofs.Prelude.keys_differ, specs.Names.named}
use Rattle.yaml_styled.proofs.open_keys.few_differ.Given as goal

-- the keys differ where those that are left do
abbrev pub invariant-loop-place : goal.invariant-loop-place
invariant-loop-place l = keys_differ (named (drop l.place l.keys)) ≡ keys_differ (named l.keys)
