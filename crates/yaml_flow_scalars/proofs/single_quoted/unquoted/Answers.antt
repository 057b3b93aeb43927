use Rattle.std.proofs.Common.{sym, ◌≡◌, refl, ◌+◌, ◌-◌, ◌++◌, ◌∙◌, ap, subst, true, false, arith, slice_range}
use Rattle.yaml_flow_scalars.proofs.Prelude.{AllPass, string_bytes, IsUtf8-string_bytes, IsRun, rest, first, quote, context_of, refuses}
use Rattle.yaml_flow_scalars.proofs.SinglePlaces.{quote_at, begun, changed_before, fold_changed, goes_past_fold, goes_past_pair}
use Rattle.yaml_flow_scalars.proofs.SinglePlaces.{quote_changed, reads_at_once, reads_none, reads_to_close, running}
use Rattle.yaml_flow_scalars.{proofs.Unbroken.{content_unbroken, run_closed_unbroken}, specs.SingleScalars.{content, is_unchanged}}
use Rattle.yaml_flow_scalars.proofs.single_quoted.unquoted.Goals as goal

pub runs-init : goal.runs-init
runs-init c = record {
  above = omega arith;
  boundary = c.requires.start;
  reads = begun c.args.n (context_of c.args.context) c.args.text.now c.args.start
      (string_bytes c.new-value.result) c.new-value.ensures.bytes;
  changed = λ l. absurd (omega arith);
}

pub stands_at-requires-then-stands_at-clause-at : goal.stands_at-requires-then-stands_at-clause-at
stands_at-requires-then-stands_at-clause-at c =
    let q : first quote (rest c.args.text.now c.run_end-end.result) ≡ true = sym c.stands_at.ensures ∙ c.if-stands_at.true in
    (quote_at c.args.text.now c.run_end-end.result c.utf8.text c.run_end-end.ensures.boundary q).next

pub range-requires-clause-end_boundary : goal.range-requires-clause-end_boundary
range-requires-clause-end_boundary c =
    let q : first quote (rest c.args.text.now c.run_end-end.result) ≡ true = sym c.stands_at.ensures ∙ c.if-stands_at.true in
    (quote_at c.args.text.now c.run_end-end.result c.utf8.text c.run_end-end.ensures.boundary q).next

pub runs-preserved-then-stands_at-2 : goal.runs-preserved-then-stands_at-2
runs-preserved-then-stands_at-2 c =
    let i = c.runs.invariant in
    let s = running c.args.n (context_of c.args.context) c.args.text.now c.args.start c.runs.place
    c.run_end-end.result (string_bytes c.runs.value)
    c.utf8.text (IsUtf8-string_bytes c.runs.value) i.boundary i.reads c.run_end-end.ensures in
    let q : first quote (rest c.args.text.now c.run_end-end.result) ≡ true = sym c.stands_at.ensures ∙ c.if-stands_at.true in
    let r : first quote (rest c.args.text.now (c.run_end-end.result + 1)) ≡ true =
    sym c.stands_at-then-stands_at.ensures ∙ c.if-stands_at-2.true in
    let above = s.run.above in
    let further = i.above in
    let d = goes_past_pair c.args.n (context_of c.args.context) c.args.text.now c.args.start c.runs.place
    c.run_end-end.result (string_bytes c.runs.value) s (string_bytes c.push_line.new.value) q r
    (c.in_ok-push_line.ensures ∙ ap (λ x. string_bytes c.runs.value ++ x) c.range.ensures.value) in
    record {
      above = omega arith;
      boundary = d.1;
      reads = d.0;
      changed = λ _. quote_changed c.args.text.now c.args.start c.run_end-end.result
          (c.run_end-end.result + 2) c.utf8.text s.run.boundary q (omega arith) (omega arith);
    }

pub returns-then-place-start-clause-found : goal.returns-then-place-start-clause-found
returns-then-place-start-clause-found c =
    let run = subst (λ x. IsRun content c.args.text.now x c.run_end-end.result) c.if-place-start.true c.run_end-end.ensures in
    let q : first quote (rest c.args.text.now c.run_end-end.result) ≡ true = sym c.stands_at.ensures ∙ c.if-stands_at.true in
    let r : first quote (rest c.args.text.now (c.run_end-end.result + 1)) ≡ false =
    sym c.stands_at-then-stands_at.ensures ∙ c.if-stands_at-2.false in
    reads_at_once c.args.n (context_of c.args.context) c.args.text.now c.args.start c.run_end-end.result
    c.range-then-place-start.result.now c.utf8.text c.requires.start run q r c.range-then-place-start.ensures.value

pub returns-then-stands_at-clause-found : goal.returns-then-stands_at-clause-found
returns-then-stands_at-clause-found c =
    let i = c.runs.invariant in
    let s = running c.args.n (context_of c.args.context) c.args.text.now c.args.start c.runs.place
    c.run_end-end.result (string_bytes c.runs.value)
    c.utf8.text (IsUtf8-string_bytes c.runs.value) i.boundary i.reads c.run_end-end.ensures in
    let q : first quote (rest c.args.text.now c.run_end-end.result) ≡ true = sym c.stands_at.ensures ∙ c.if-stands_at.true in
    let r : first quote (rest c.args.text.now (c.run_end-end.result + 1)) ≡ false =
    sym c.stands_at-then-stands_at.ensures ∙ c.if-stands_at-2.false in
    reads_to_close c.args.n (context_of c.args.context) c.args.text.now c.args.start c.runs.place c.run_end-end.result
    (string_bytes c.runs.value) s (string_bytes c.push_str.new.self) i.above q r
    (c.in_ok-push_str.ensures.bytes ∙ ap (λ x. string_bytes c.runs.value ++ x) c.range-then-stands_at.ensures.value)

pub returns-then-stands_at-clause-borrowed : goal.returns-then-stands_at-clause-borrowed
returns-then-stands_at-clause-borrowed c =
    let i = c.runs.invariant in
    let s = running c.args.n (context_of c.args.context) c.args.text.now c.args.start c.runs.place
    c.run_end-end.result (string_bytes c.runs.value)
    c.utf8.text (IsUtf8-string_bytes c.runs.value) i.boundary i.reads c.run_end-end.ensures in
    let above = s.run.above in
    let further = i.above in
    let apart = c.if-place-start.false in
    let size = s.run.boundary.0 in
    let end : c.run_end-end.result + 1 - 1 ≡ c.run_end-end.result = omega arith in
    λ all. absurd (changed_before c.args.text.now c.args.start c.runs.place c.run_end-end.result
    (i.changed (omega arith)) above size (subst
    (λ x. AllPass is_unchanged (slice_range c.args.text.now c.args.start x)) end all))

pub returns-in_default-clause-none : goal.returns-in_default-clause-none
returns-in_default-clause-none c =
    let i = c.runs.invariant in
    let s = running c.args.n (context_of c.args.context) c.args.text.now c.args.start c.runs.place
    c.run_end-end.result (string_bytes c.runs.value)
    c.utf8.text (IsUtf8-string_bytes c.runs.value) i.boundary i.reads c.run_end-end.ensures in
    let q : first quote (rest c.args.text.now c.run_end-end.result) ≡ false = sym c.stands_at.ensures ∙ c.if-stands_at.false in
    let w = c.white_start-white.ensures in
    let none = c.in_default.ensures.none in
    refuses c.fault_at.result _ (reads_none c.args.n
    (context_of c.args.context) c.args.text.now c.args.start c.runs.place c.run_end-end.result
    (string_bytes c.runs.value) s c.white_start-white.result w q none)

pub runs-preserved : goal.runs-preserved
runs-preserved c =
    let i = c.runs.invariant in
    let s = running c.args.n (context_of c.args.context) c.args.text.now c.args.start c.runs.place
    c.run_end-end.result (string_bytes c.runs.value)
    c.utf8.text (IsUtf8-string_bytes c.runs.value) i.boundary i.reads c.run_end-end.ensures in
    let w = c.white_start-white.ensures in
    let f = c.in-Some.ensures.found in
    let above = s.run.above in
    let further = i.above in
    let after = f.above in
    record {
      above = omega arith;
      boundary = f.boundary;
      reads = goes_past_fold c.args.n (context_of c.args.context) c.args.text.now c.args.start c.runs.place
          c.run_end-end.result (string_bytes c.runs.value) s c.white_start-white.result w
          (string_bytes c.push_line-in-runs.new.value)
          (string_bytes c.push_fold.new.value) c.in-Some.fold.empties c.in-Some.fold.next
          (IsUtf8-string_bytes c.push_line-in-runs.new.value) f c.in-Some.ensures.lines
          (c.in_ok-push_line-2.ensures ∙ ap (λ x. string_bytes c.runs.value ++ x)
          c.range-in-runs.ensures.value) c.in_ok-push_fold.ensures;
      changed = λ _. fold_changed c.args.n c.args.text.now c.args.start c.run_end-end.result c.in-Some.fold.empties
          c.in-Some.fold.next c.utf8.text s.run.boundary f (omega arith);
    }

pub returns-then-place-start-clause-unbroken : goal.returns-then-place-start-clause-unbroken
returns-then-place-start-clause-unbroken c = λ _.
    let run = subst (λ x. IsRun content c.args.text.now x c.run_end-end.result) c.if-place-start.true c.run_end-end.ensures in
    let q : first quote (rest c.args.text.now c.run_end-end.result) ≡ true = sym c.stands_at.ensures ∙ c.if-stands_at.true in
    let there = quote_at c.args.text.now c.run_end-end.result c.utf8.text run.boundary q in
    run_closed_unbroken content c.args.text.now c.args.start c.run_end-end.result 39 c.utf8.text c.requires.start
    content_unbroken run there.within there.byte (omega arith) refl
