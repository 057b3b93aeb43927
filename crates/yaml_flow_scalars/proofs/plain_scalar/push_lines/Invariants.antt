use Rattle.std.proofs.Common.{◌≡◌, ◌-◌, ◌≤◌, ◌++◌, length}
use Rattle.yaml_flow_scalars.proofs.Prelude.{IsCharBoundary, chars, string_bytes, rest, between, context_of, folded_break, plain_lines_at}
use Rattle.yaml_flow_scalars.specs.PlainPlaces.{lines_value}
use Rattle.yaml_flow_scalars.proofs.plain_scalar.push_lines.Given as goal

abbrev pub invariant-lines : goal.invariant-lines
invariant-lines l = record {
  order : l.line.start ≤ l.line.end;
  start : IsCharBoundary l.text l.line.start;
  end : IsCharBoundary l.text l.line.end;
  above : l.fn.first.end ≤ l.line.end;
  left : (plain_lines_at l.n (context_of l.context) (rest l.text l.fn.first.end)).1
      ≡ (plain_lines_at l.n (context_of l.context) (rest l.text l.line.end)).1;
  means : chars (string_bytes l.initial.value)
      ++ (folded_break l.fn.first.empties ++ between l.text l.fn.first.start l.fn.first.end)
      ++ lines_value l.n (context_of l.context) l.text l.fn.first.end
      ≡ chars (string_bytes l.value) ++ (folded_break l.line.empties ++ between l.text l.line.start l.line.end)
      ++ lines_value l.n (context_of l.context) l.text l.line.end;
}

abbrev pub decreases-lines : goal.decreases-lines
decreases-lines l = length l.text - l.line.end
