use Rattle.std.proofs.Common.{refl}
use Rattle.yaml_block.proofs.Prelude.{cow_str_bytes, err_from_is_err_and, rest, NoBody, NoHeader, Scalar, fault_passed}
use Rattle.yaml_block.proofs.BlockScalarSteps.{block_scalar_read, no_body_there, no_header_there, scalar_borrows, scalar_event_is}
use Rattle.yaml_block.{proofs.{BlockScalarSteps.scalar_onward, Stacks.grown_same}, specs.States.{BeforeLeaf, Fails}}
use Rattle.yaml_block.proofs.reader.Reader.block_scalar.Goals as goal

pub returns-in_err-head-clause-none : goal.returns-in_err-head-clause-none
returns-in_err-head-clause-none c =
    let text = c.args.text.now in
    let leaf = c.args.leaf in
    fault_passed c.from_residual.result c.in_err-head.field-0.0 (NoHeader (rest text leaf.at))
    (Fails text (BeforeLeaf text leaf) c.args.self.now)
    (no_header_there text c.utf8.text leaf c.args.self.now c.requires.begins) (c.in_err-head.ensures).none
    (err_from_is_err_and c.from_residual.result c.from_residual.ensures.1)

pub returns-in_err-body-clause-none : goal.returns-in_err-body-clause-none
returns-in_err-body-clause-none c =
    let text = c.args.text.now in
    let leaf = c.args.leaf in
    let head = c.in_ok-head.head in
    let lines = c.in_ok-head.lines in
    fault_passed c.from_residual-in_err-body.result c.in_err-body.field-0.0
    (NoBody head.digit leaf.least (rest text lines)) (Fails text (BeforeLeaf text leaf) c.args.self.now)
    (no_body_there text c.utf8.text leaf head lines c.args.self.now c.requires.begins (c.in_ok-head.ensures).found)
    (c.in_err-body.ensures).none
    (err_from_is_err_and c.from_residual-in_err-body.result c.from_residual-in_err-body.ensures.1)

pub returns-in_err-head-clause-grown : goal.returns-in_err-head-clause-grown
returns-in_err-head-clause-grown c = grown_same c.args.self.now.events c.args.self.now.events refl

pub returns-in_err-body-clause-grown : goal.returns-in_err-body-clause-grown
returns-in_err-body-clause-grown c = grown_same c.args.self.now.events c.args.self.now.events refl

pub returns-in_err-put-clause-none : goal.returns-in_err-put-clause-none
returns-in_err-put-clause-none c =
    let text = c.args.text.now in
    fault_passed c.from_residual-in_err-put.result c.in_err-put.field-0.0 ⊥
    (Fails text (BeforeLeaf text c.args.leaf) c.args.self.now) (λ x. absurd x) (c.in_err-put.ensures).none
    (err_from_is_err_and c.from_residual-in_err-put.result c.from_residual-in_err-put.ensures.1)

pub line_after_scalar-requires-clause-starts : goal.line_after_scalar-requires-clause-starts
line_after_scalar-requires-clause-starts c = (c.in_ok-body.ensures).line

pub returns-clause-onward : goal.returns-clause-onward
returns-clause-onward c =
    let body = c.in_ok-body.body in
    scalar_onward c.args.text.now c.args.leaf.at c.in_ok-head.lines body.end c.args.leaf.least c.in_ok-head.head
    (cow_str_bytes body.value) c.line_after_scalar.result c.utf8.text c.requires.at
    (c.in_ok-head.ensures).found (c.in_ok-body.ensures).found c.line_after_scalar.ensures

pub returns-clause-leads : goal.returns-clause-leads
returns-clause-leads c =
    let text = c.args.text.now in
    let leaf = c.args.leaf in
    let head = c.in_ok-head.head in
    let body = c.in_ok-body.body in
    block_scalar_read text c.utf8.text leaf head c.in_ok-head.lines body.end (cow_str_bytes body.value)
    c.line_after_scalar.result
    (Scalar body.style (record { start = leaf.at; end = body.end }) body.value) c.args.self.now _ c.requires.at
    c.requires.begins (c.in_ok-head.ensures).found (c.in_ok-body.ensures).found
    c.line_after_scalar.ensures (scalar_event_is head.folded body.style leaf.at body.end body.value
    (c.in_ok-body.ensures).style)
    (scalar_borrows text head.folded body.style (record { start = leaf.at; end = body.end }) body.value
    (c.in_ok-body.ensures).style) (c.in_ok-put.ensures).collections (c.in_ok-put.ensures).events refl
