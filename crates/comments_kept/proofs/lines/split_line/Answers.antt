use Rattle.std.proofs.Common.{◌≡◌, ◌++◌, ◌∷◌, sym, ap₂, ◌∙◌, subst, arith}
use Rattle.yaml_writer.proofs.{Prelude.{IsCharBoundary-after_ascii, MatchOption, chars, IsUtf8, line_feed}, LineLemmas.first_feed}
use Rattle.yaml_writer.{proofs.LineLemmas.{one_line_from_bytes, cut_at_feed, line_before}, specs.Lines.IsOneLine}
use Rattle.comments_kept.proofs.lines.split_line.Goals as goal

pub range_from-requires : goal.range_from-requires
range_from-requires c =
    let first = first_feed _ _ _ c.as_bytes.ensures.value c.in_ok-at.ensures in
    let after = IsCharBoundary-after_ascii c.args.text.now c.in_ok-at.at c.utf8.text first.within (omega (arith, first.feed)) in
    λ _. after

pub returns-in_err-at : goal.returns-in_err-at
returns-in_err-at c =
    subst (λ r. MatchOption r (IsOneLine (chars c.args.text.now))
    (λ cut. (c.args.text.now ≡ cut.0.now ++ line_feed ∷ cut.1.now) × IsOneLine (chars cut.0.now)))
    (sym c.from_residual.ensures)
    (subst (λ bs. IsOneLine (chars bs)) c.as_bytes.ensures.value
    (one_line_from_bytes c.as_bytes.result.now (subst IsUtf8 (sym c.as_bytes.ensures.value) c.utf8.text) c.in_err-at.ensures))

pub returns : goal.returns
returns c =
    let first = first_feed _ _ _ c.as_bytes.ensures.value c.in_ok-at.ensures in (
      cut_at_feed c.args.text.now c.in_ok-at.at first
          ∙ ap₂ (λ line after. line ++ line_feed ∷ after) (sym c.range.ensures.value) (sym c.range_from.ensures.value),
      subst (λ bs. IsOneLine (chars bs)) (sym c.range.ensures.value) (line_before c.args.text.now c.in_ok-at.at c.utf8.text first),
    )
