use Rattle.std.{proofs.Common.{ap, subst, ◌∙◌, length}, specs.Str.chars}
use Rattle.comments_kept.{specs.Blanks.IsWhiteRun, proofs.BlankEnds.{before_is, cut_before_white, trim_is}}
use Rattle.comments_kept.proofs.blanks.trim_end.Goals as goal

pub range-requires-clause-end_boundary : goal.range-requires-clause-end_boundary
range-requires-clause-end_boundary c =
    let end = c.blanks_start-end.result in
    let run = subst (λ bs. IsWhiteRun bs end (length bs)) c.as_bytes-bytes.ensures.value c.blanks_start-end.ensures.run in
    cut_before_white c.args.text.now end c.utf8.text run

pub returns : goal.returns
returns c =
    let text = c.args.text.now in
    let end = c.blanks_start-end.result in
    let run = subst (λ bs. IsWhiteRun bs end (length bs)) c.as_bytes-bytes.ensures.value c.blanks_start-end.ensures.run in
    ap chars (c.range.ensures.value ∙ before_is text end) ∙ trim_is text end c.utf8.text run
