use Rattle.std.proofs.Common.{◌≡◌, ◌∙◌, ◌++◌, arith}
use Rattle.yaml_flow_scalars.proofs.Prelude.{chars, string_bytes, IsUtf8-string_bytes, between, context_of, folded_break}
use Rattle.yaml_flow_scalars.{proofs.PlainLines.{line_pushed, lines_step, lines_stop, line_next, line_last}, specs.PlainPlaces.lines_value}
use Rattle.yaml_flow_scalars.proofs.plain_scalar.push_lines.Goals as goal

pub lines-preserved : goal.lines-preserved
lines-preserved c =
    let i = c.lines.invariant in
    let line = c.lines.line in
    let text = c.args.text.now in
    let next = c.in-Some.ensures.found in
    let after = next.after in
    let before = next.before in
    let holds = next.holds in
    let pushed : chars (string_bytes c.push_str.new.self)
    ≡ chars (string_bytes c.lines.value) ++ (folded_break line.empties ++ between text line.start line.end) =
    line_pushed text (string_bytes c.lines.value) (string_bytes c.push_fold.new.value)
    (string_bytes c.push_str.new.self) c.range.result.now line.empties line.start line.end
    (IsUtf8-string_bytes c.lines.value) (IsUtf8-string_bytes c.push_fold.new.value) c.in_ok-push_fold.ensures
    c.in_ok-push_str.ensures.bytes c.range.ensures.value in
    record {
      order = omega arith;
      start = next.prefix;
      end = next.boundary;
      above = omega (arith, i.above);
      left = i.left ∙ (lines_step c.args.n (context_of c.args.context) text line.end c.in-Some.next.empties
          c.in-Some.next.start c.in-Some.next.end next).1;
      means = line_next c.args.n (context_of c.args.context) text
          (chars (string_bytes c.args.value.now) ++ (folded_break c.args.first.empties
          ++ between text c.args.first.start c.args.first.end)
          ++ lines_value c.args.n (context_of c.args.context) text c.args.first.end)
          (chars (string_bytes c.lines.value)) (chars (string_bytes c.push_str.new.self))
          (folded_break line.empties ++ between text line.start line.end)
          line.end c.in-Some.next.empties c.in-Some.next.start c.in-Some.next.end next i.means pushed;
    }

pub returns-in-None : goal.returns-in-None
returns-in-None c =
    let i = c.lines.invariant in
    let line = c.lines.line in
    let text = c.args.text.now in
    let pushed : chars (string_bytes c.push_str.new.self)
    ≡ chars (string_bytes c.lines.value) ++ (folded_break line.empties ++ between text line.start line.end) =
    line_pushed text (string_bytes c.lines.value) (string_bytes c.push_fold.new.value)
    (string_bytes c.push_str.new.self) c.range.result.now line.empties line.start line.end
    (IsUtf8-string_bytes c.lines.value) (IsUtf8-string_bytes c.push_fold.new.value) c.in_ok-push_fold.ensures
    c.in_ok-push_str.ensures.bytes c.range.ensures.value in
    record {
      above = i.above;
      boundary = i.end;
      left = i.left ∙ (lines_stop c.args.n (context_of c.args.context) text line.end c.in-None.ensures.none).1;
      means = line_last c.args.n (context_of c.args.context) text
          (chars (string_bytes c.args.value.now) ++ (folded_break c.args.first.empties
          ++ between text c.args.first.start c.args.first.end)
          ++ lines_value c.args.n (context_of c.args.context) text c.args.first.end)
          (chars (string_bytes c.lines.value)) (chars (string_bytes c.push_str.new.self))
          (folded_break line.empties ++ between text line.start line.end)
          line.end c.in-None.ensures.none i.means pushed;
    }
