use Rattle.std.proofs.Common.{◌≡◌, Bool, true, None, refl}
use Rattle.yaml_scan.proofs.{Prelude.{rest, read_line_end}, LineSteps.content_commented, Outcomes.{none_so, some_so}}
use Rattle.yaml_scan.specs.Lines.{IsContentEnd, IsLineEnd}
use Rattle.yaml_scan.proofs.lines.comment_line_end.Goals as goal

content : (c : goal.After-after_content) → IsContentEnd true c.args.text.now c.args.at c.comment_end-content.result
content c = content_commented true c.args.text.now c.args.at c.white_end.result c.comment_end-content.result
    c.utf8.text c.requires c.white_end.ensures.taken c.comment_end-content.ensures refl

pub returns-clause-found : goal.returns-clause-found
returns-clause-found c =
    some_so c.after_content.result (λ end. (bol : Bool)
    → IsContentEnd bol c.args.text.now c.args.at c.comment_end-content.result → IsLineEnd bol c.args.text.now c.args.at end)
    (IsLineEnd true c.args.text.now c.args.at) (λ end f. f true (content c)) c.after_content.ensures.found

pub returns-clause-none : goal.returns-clause-none
returns-clause-none c =
    none_so c.after_content.result ((bol : Bool)
    → IsContentEnd bol c.args.text.now c.args.at c.comment_end-content.result
    → read_line_end bol (rest c.args.text.now c.args.at) ≡ None)
    (read_line_end true (rest c.args.text.now c.args.at) ≡ None) (λ f. f true (content c)) c.after_content.ensures.none
