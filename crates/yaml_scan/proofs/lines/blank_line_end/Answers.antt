use Rattle.std.proofs.Common.{◌≡◌, Bool, false, None, subst, sym}
use Rattle.yaml_scan.proofs.{Prelude.{rest, read_line_end}, LineSteps.{content_bare, content_commented, white_filled}, Outcomes.none_so}
use Rattle.yaml_scan.{proofs.{Outcomes.some_so, lines.blank_line_end.Goals.{then-white-at, else-white-at}}, specs.Lines.IsContentEnd}
use Rattle.yaml_scan.specs.Lines.{IsLineEnd}
use Rattle.yaml_scan.proofs.lines.blank_line_end.Goals as goal

content : (c : goal.After-after_content) → IsContentEnd false c.args.text.now c.args.at c.if-white-at.content
content c = elim c.if-white-at.branch [
  | then-white-at w ↦ subst (IsContentEnd false c.args.text.now c.args.at) (sym w.content-is)
      (content_commented false c.args.text.now c.args.at c.white_end-white.result w.comment_end-content.result
      c.utf8.text c.requires c.white_end-white.ensures.taken w.comment_end-content.ensures
      (white_filled c.args.text.now c.args.at c.white_end-white.result c.utf8.text w.if-white-at.true c.requires
      c.white_end-white.ensures.taken.boundary))
  | else-white-at w ↦ subst (IsContentEnd false c.args.text.now c.args.at) (sym w.content-is)
      (content_bare c.args.text.now c.args.at c.white_end-white.result c.utf8.text c.requires w.if-white-at.false
      c.white_end-white.ensures.taken)
]

pub returns-clause-found : goal.returns-clause-found
returns-clause-found c =
    some_so c.after_content.result (λ end. (bol : Bool)
    → IsContentEnd bol c.args.text.now c.args.at c.if-white-at.content → IsLineEnd bol c.args.text.now c.args.at end)
    (IsLineEnd false c.args.text.now c.args.at) (λ end f. f false (content c)) c.after_content.ensures.found

pub returns-clause-none : goal.returns-clause-none
returns-clause-none c =
    none_so c.after_content.result ((bol : Bool) → IsContentEnd bol c.args.text.now c.args.at c.if-white-at.content
    → read_line_end bol (rest c.args.text.now c.args.at) ≡ None)
    (read_line_end false (rest c.args.text.now c.args.at) ≡ None) (λ f. f false (content c)) c.after_content.ensures.none
