use Rattle.std.proofs.Common.{◌≡◌, ◌+◌, ◌++◌, ap, ap₂, sym, ◌∙◌, subst, drop, get_or, length, append_assoc, append-nil, arith}
use Rattle.std.proofs.lemmas.List.{drop_all, drop_more}
use Rattle.comments_kept.specs.{Keeping.{AreTexts, texts_at}, Places.{marks_from, marks_of, empties_between, step_of}, Weaving.texts_of}
use Rattle.comments_kept.proofs.plan.plan.Goals as goal

pub push_comment-requires-clause-utf8 : goal.push_comment-requires-clause-utf8
push_comment-requires-clause-utf8 c =
    let l = c.loop-comment in
    (subst (AreTexts c.args.bytes.now) (drop_more c.args.found.now l.comment-index (record { start = 0; end = 0 }) c.loop-comment-test.true)
    l.invariant.0).2

pub loop-comment-preserved : goal.loop-comment-preserved
loop-comment-preserved c =
    let l = c.loop-comment in
    let found = c.args.found.now in
    let bytes = c.args.bytes.now in
    let rest = drop (l.comment-index + 1) found in
    let rows = c.in_ok-layout.layout.rows.items in
    let cs = c.in_ok-layout.layout.collections.items in
    let step = step_of bytes rows cs l.row (get_or found l.comment-index (record { start = 0; end = 0 })) in
    let more = drop_more found l.comment-index (record { start = 0; end = 0 }) c.loop-comment-test.true in (
      (subst (AreTexts bytes) more l.invariant.0).3,
      ap (λ ts. ts ++ texts_at bytes rest) c.in_ok-next.ensures.texts
          ∙ append_assoc (texts_of l.kept.items) _ (texts_at bytes rest)
          ∙ ap (λ cs. texts_of l.kept.items ++ texts_at bytes cs) (sym more) ∙ l.invariant.1,
      λ none. absurd (omega (arith, ap length none, c.loop-comment-test.true)),
      ap (λ n. marks_of c.push_comment.new.kept.items ++ marks_from bytes rows cs n rest) c.in_ok-next.ensures.next
          ∙ ap (λ ms. ms ++ marks_from bytes rows cs step.next rest) c.in_ok-next.ensures.places
          ∙ append_assoc (marks_of l.kept.items) step.marks (marks_from bytes rows cs step.next rest)
          ∙ ap (λ found. marks_of l.kept.items ++ marks_from bytes rows cs l.row found) (sym more)
          ∙ l.invariant.3,
    )

pub returns-clause-places : goal.returns-clause-places
returns-clause-places c =
    let l = c.loop-comment in
    let bytes = c.args.bytes.now in
    let found = c.args.found.now in
    let rows = c.in_ok-layout.layout.rows.items in
    let cs = c.in_ok-layout.layout.collections.items in
    let before = marks_of l.kept.items in
    let len : c.len.result ≡ length rows = omega (arith, c.len.ensures, c.in_ok-layout.layout.rows.ok) in
    c.in_ok-push_empty_lines.ensures.places
    ∙ ap₂ (λ rs n. before ++ empties_between bytes rs l.row n) c.deref.ensures.value len
    ∙ ap (λ found. before ++ marks_from bytes rows cs l.row found) (sym (drop_all l.comment-index found (omega arith)))
    ∙ l.invariant.3
    ∙ ap₂ (λ rs cs. marks_from bytes rs cs 0 found) c.in_ok-layout.ensures.lines c.in_ok-layout.ensures.holders

pub returns-clause-texts : goal.returns-clause-texts
returns-clause-texts c =
    let l = c.loop-comment in
    let bytes = c.args.bytes.now in
    c.in_ok-push_empty_lines.ensures.texts
    ∙ sym (append-nil (texts_of l.kept.items))
    ∙ ap (λ cs. texts_of l.kept.items ++ texts_at bytes cs) (sym (drop_all l.comment-index c.args.found.now (omega arith)))
    ∙ l.invariant.1

pub returns-clause-bare : goal.returns-clause-bare
returns-clause-bare c = λ lines none. c.in_ok-push_empty_lines.ensures.none lines ∙ c.loop-comment.invariant.2 none
