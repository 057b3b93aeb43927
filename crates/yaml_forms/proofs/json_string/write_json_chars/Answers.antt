use Rattle.std.proofs.Common.{◌≡◌, ◌++◌, length, take, drop, subst, ap, ap₂, ◌∙◌, sym, arith}
use Rattle.yaml_forms.proofs.Prelude.{chars, boundary_past_char, drop_char, chars_empty, run_boundary, spelled_run, spelled_one}
use Rattle.yaml_forms.{proofs.StringLemmas.json_spells, specs.Json.{json_char, json_chars}}
use Rattle.yaml_forms.proofs.json_string.write_json_chars.Goals as goal

pub range-requires-clause-end_boundary : goal.range-requires-clause-end_boundary
range-requires-clause-end_boundary g c =
    run_boundary c.loop-c.rest.now c.unescaped_len-run.result c.loop-c.invariant.0 c.unescaped_len-run.ensures.within
    c.unescaped_len-run.ensures.alone

pub range_from-rest-requires : goal.range_from-rest-requires
range_from-rest-requires g c = λ _.
    run_boundary c.loop-c.rest.now c.unescaped_len-run.result c.loop-c.invariant.0 c.unescaped_len-run.ensures.within
    c.unescaped_len-run.ensures.alone

pub range_from-rest-requires-else-run-gt0 : goal.range_from-rest-requires-else-run-gt0
range_from-rest-requires-else-run-gt0 g c = λ _.
    rw c.len_utf8.ensures.value
    (boundary_past_char c.loop-c.rest.now _ c.in-Some.c c.loop-c.invariant.0 (sym c.chars.ensures.rest ∙ c.in-Some.ensures.steps.0))

pub loop-c-preserved-then-run-gt0 : goal.loop-c-preserved-then-run-gt0
loop-c-preserved-then-run-gt0 g c =
    let rest = c.loop-c.rest.now in
    let n = c.unescaped_len-run.result in
    let prefix : c.range.result.now ≡ take n rest = grind (arith, c.range.ensures.value) in (
      c.range_from-rest.utf8,
      λ end left. c.loop-c.invariant.1 end
          (subst (λ cs. g.S.Sink.Takes c.loop-c.sink cs end)
          (ap₂ (λ xs ys. chars xs ++ json_chars (chars ys)) prefix c.range_from-rest.ensures.value
          ∙ spelled_run json_spells rest n c.unescaped_len-run.ensures.alone)
          (g.met.S.Sink.takes_both _ _ _ _ _ c.in_ok-put_text.ensures left)),
    )

pub loop-c-preserved : goal.loop-c-preserved
loop-c-preserved g c =
    let rest = c.loop-c.rest.now in
    let split = sym c.chars.ensures.rest ∙ c.in-Some.ensures.steps.0 in
    let after = c.range_from-rest-else-run-gt0.ensures.value ∙ ap (λ n. drop n rest) c.len_utf8.ensures.value
    ∙ drop_char rest _ c.in-Some.c split in (
      c.range_from-rest-else-run-gt0.utf8,
      λ end left. c.loop-c.invariant.1 end
          (subst (λ cs. g.S.Sink.Takes c.loop-c.sink cs end)
          (ap (λ xs. json_char c.in-Some.c ++ json_chars (chars xs)) after
          ∙ spelled_one json_spells rest _ c.in-Some.c c.loop-c.invariant.0 split)
          (g.met.S.Sink.takes_both _ _ _ _ _ c.in_ok-write_json_char.ensures left)),
    )

pub returns : goal.returns
returns g c =
    let sink = c.loop-c.sink in
    let empty = sym (ap length c.chars.ensures.rest) ∙ c.in_default.ensures.steps.0.0 in
    c.loop-c.invariant.1 sink
    (subst (λ cs. g.S.Sink.Takes sink cs sink) (sym (ap json_chars (chars_empty c.loop-c.rest.now empty))) (g.met.S.Sink.takes_none sink))
