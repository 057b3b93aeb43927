use Rattle.std.proofs.Common.{◌≡◌, ℕ, ◌<◌, ◌≤◌, ◌-◌, length, false, slice_index}
use Rattle.yaml_flow_scalars.proofs.Prelude.{IsCharBoundary, chars, string_bytes, rest, context_of, with_prefix}
use Rattle.yaml_flow_scalars.specs.SingleScalars.{read_inside, is_unchanged}
use Rattle.yaml_flow_scalars.proofs.single_quoted.unquoted.Given as goal

abbrev pub invariant-runs : goal.invariant-runs
invariant-runs l = record {
  above : l.start ≤ l.place;
  boundary : IsCharBoundary l.text l.place;
  reads : read_inside l.n (context_of l.context) (rest l.text l.start)
      ≡ with_prefix (chars (string_bytes l.value)) (read_inside l.n (context_of l.context) (rest l.text l.place));
  changed : l.start < l.place → (k : ℕ) × (l.start ≤ k) × (k < l.place) × (is_unchanged (slice_index l.text k) ≡ false);
}

abbrev pub decreases-runs : goal.decreases-runs
decreases-runs l = length l.text - l.place
