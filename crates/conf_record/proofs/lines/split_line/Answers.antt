use Rattle.std.proofs.Common.{◌++◌, ◌∷◌, sym, ap₂, ◌∙◌, arith}
use Rattle.{conf_record.proofs.Prelude.{IsCharBoundary-after_ascii, line_feed}, yaml_writer.proofs.LineLemmas.{first_feed, cut_at_feed}}
use Rattle.conf_record.proofs.lines.split_line.Goals as goal

pub range_from-requires : goal.range_from-requires
range_from-requires c =
    let first = first_feed _ _ _ c.as_bytes.ensures.value c.in_ok-at.ensures in
    let after = IsCharBoundary-after_ascii c.args.text.now c.in_ok-at.at c.utf8.text first.within (omega (arith, first.feed)) in
    λ _. after

pub returns : goal.returns
returns c =
    let first = first_feed _ _ _ c.as_bytes.ensures.value c.in_ok-at.ensures in
    cut_at_feed c.args.text.now c.in_ok-at.at first
    ∙ ap₂ (λ line after. line ++ line_feed ∷ after) (sym c.range.ensures.value) (sym c.range_from.ensures.value)
