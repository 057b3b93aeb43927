use Rattle.std.proofs.Common.{◌≡◌, ◌∙◌, Bool, false, None, arith, sym}
use Rattle.yaml_scan.proofs.{Prelude.{rest, read_line_end}, LineSteps.{content_bare, line_feed_taken}, Outcomes.{none_so, some_so}}
use Rattle.yaml_scan.specs.Lines.{IsContentEnd, IsLineEnd}
use Rattle.yaml_scan.proofs.lines.rest_of_line_end.Goals as goal

pub returns-then-stands_at-clause-found : goal.returns-then-stands_at-clause-found
returns-then-stands_at-clause-found c =
    let content : IsContentEnd false c.args.text.now c.args.at c.args.at =
    content_bare c.args.text.now c.args.at c.args.at c.utf8.text c.requires (omega arith)
    (line_feed_taken c.args.text.now c.args.at c.requires (sym c.stands_at.ensures ∙ c.if-stands_at.true)) in
    some_so c.after_content.result (λ end. (bol : Bool) → IsContentEnd bol c.args.text.now c.args.at c.args.at
    → IsLineEnd bol c.args.text.now c.args.at end)
    (IsLineEnd false c.args.text.now c.args.at) (λ end f. f false content) c.after_content.ensures.found

pub returns-then-stands_at-clause-none : goal.returns-then-stands_at-clause-none
returns-then-stands_at-clause-none c =
    let content : IsContentEnd false c.args.text.now c.args.at c.args.at =
    content_bare c.args.text.now c.args.at c.args.at c.utf8.text c.requires (omega arith)
    (line_feed_taken c.args.text.now c.args.at c.requires (sym c.stands_at.ensures ∙ c.if-stands_at.true)) in
    none_so c.after_content.result ((bol : Bool) → IsContentEnd bol c.args.text.now c.args.at c.args.at
    → read_line_end bol (rest c.args.text.now c.args.at) ≡ None)
    (read_line_end false (rest c.args.text.now c.args.at) ≡ None) (λ f. f false content) c.after_content.ensures.none
