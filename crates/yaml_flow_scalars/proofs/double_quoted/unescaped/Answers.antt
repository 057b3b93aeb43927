use Rattle.std.proofs.Common.{◌≡◌, ◌∙◌, ap, subst, arith, ◌++◌, ◌<◌, [], inl, inr, length, get_or}
use Rattle.yaml_flow_scalars.proofs.{Prelude.{cases_lt, string_bytes, IsUtf8-string_bytes, context_of, at_break}, DoublePlaces.stands}
use Rattle.yaml_flow_scalars.proofs.{DoublePlaces.{stands_not, byte_read, after_byte, raw_run}, DoubleAdds.{adds_more, run_adds, closes}}
use Rattle.yaml_flow_scalars.proofs.double_quoted.unescaped.Goals as goal

pub returns-clause-ok : goal.returns-clause-ok
returns-clause-ok c =
    let i = c.runs.invariant in
    let d = context_of c.args.context in
    let text = c.args.text.now in
    let there = stands text c.runs.end 34 c.stands_at.result c.utf8.text i.run.boundary
    (omega arith) c.stands_at.ensures c.runs-test.false in
    let value = string_bytes c.runs.value in
    let whole = string_bytes c.push_str.new.self in
    let run = run_adds c.args.n d text c.utf8.text c.runs.place c.runs.end i.value.boundary i.run value whole
    (IsUtf8-string_bytes c.runs.value)
    (ap at_break (byte_read text c.runs.end 34 c.utf8.text there.0 there.1 (omega arith)))
    (c.in_ok-push_str.ensures.bytes ∙ ap (λ x. value ++ x) c.range.ensures.value) in
    let beyond = i.beyond in
    record {
      above = elim (cases_lt c.args.first c.runs.end) [
        | inl more ↦ omega arith
        | inr past ↦ (let same : c.runs.end ≡ c.args.first = omega arith in
            absurd (c.requires.goes_on (subst (λ k. k < length text) same there.0) (subst (λ k. get_or text k 0 ≡ 34) same there.1)))
      ];
      boundary = after_byte text c.runs.end 34 c.utf8.text there.0 there.1 (omega arith);
      means = closes c.args.n d text c.args.start whole c.runs.end c.utf8.text
          (adds_more c.args.n d text [] c.args.start value c.runs.place whole c.runs.end i.value run) there.0 there.1;
    }

pub push_run-requires-clause-goes_on : goal.push_run-requires-clause-goes_on
push_run-requires-clause-goes_on c = stands_not c.args.text.now c.runs.end 34 c.stands_at.result c.utf8.text
    (omega arith) c.stands_at.ensures c.runs-test.true

pub runs-preserved : goal.runs-preserved
runs-preserved c =
    let i = c.runs.invariant in
    let beyond = i.beyond in
    let further = c.in_ok-place.ensures.further in
    let above = c.run_end-end.ensures.above in
    record {
      beyond = omega arith;
      run = raw_run c.args.text.now c.in_ok-place.place c.run_end-end.result c.run_end-end.ensures;
      value = adds_more c.args.n (context_of c.args.context) c.args.text.now [] c.args.start
          (string_bytes c.runs.value) c.runs.place (string_bytes c.push_run.new.value) c.in_ok-place.place i.value
          c.in_ok-place.ensures.ok;
    }
