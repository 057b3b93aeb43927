use Rattle.std.proofs.Common.{ap, refl, subst, sym}
use Rattle.yaml_block.proofs.{Prelude.{chars, ScalarAt, plain_style, scalar_read}, PlainStarts.plain_start}
use Rattle.yaml_flow.proofs.ScalarSteps.{scalar_node_read}
use Rattle.yaml_block.proofs.reader.Reader.put_plain.Goals as goal

pub returns-clause-read : goal.returns-clause-read
returns-clause-read c = λ n d plain.
    let text = c.args.text.now in
    let start = c.args.start in
    let end = c.args.end in
    let events = c.args.self.now.events in
    let begins = plain_start n d text start end _ plain.scalar in
    scalar_node_read n d text start end _ events c.put_borrowed.new.self.events c.utf8.text c.requires.start begins.no_seq
    begins.no_map
    (scalar_read n d text start plain_style _ refl
    (subst (λ t. ScalarAt plain_style n d text start t end) (ap chars (sym c.range.ensures.value)) plain.scalar)
    plain.inside_line (λ _. (tt, c.range.ensures.value)) (λ _. plain.unbroken))
    refl c.in_ok-put_borrowed.ensures.events
