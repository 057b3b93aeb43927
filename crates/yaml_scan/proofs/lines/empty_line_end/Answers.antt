use Rattle.std.proofs.Common.{◌∙◌, Bool, true, refl, sym}
use Rattle.yaml_scan.proofs.{Prelude.rest, LineSteps.{comment_missing, content_commented, feed_no_hash, line_feed_taken}, Outcomes.some_so}
use Rattle.yaml_scan.specs.Lines.{IsContentEnd, IsLineEnd}
use Rattle.yaml_scan.proofs.lines.empty_line_end.Goals as goal

pub returns : goal.returns
returns c =
    let text = c.args.text.now in
    let at = c.args.at in
    let feed = sym c.stands_at.ensures ∙ c.if-not-stands_at.false in
    let content : IsContentEnd true text at at =
    content_commented true text at at at c.utf8.text c.requires (line_feed_taken text at c.requires feed)
    (comment_missing text at c.requires (feed_no_hash (rest text at) feed)) refl in
    some_so c.after_content.result (λ end. (bol : Bool) → IsContentEnd bol text at at → IsLineEnd bol text at end)
    (IsLineEnd true text at) (λ end f. f true content) c.after_content.ensures.found
