-- One byte more, and the end of the gap.
use Rattle.std.proofs.Common.{subst, sym, ◌∙◌, ap}
use Rattle.yaml_comments.{specs.Found.places_of, proofs.Gaps.{Led, places_joined, led_byte, led_mark, led_end}}
use Rattle.yaml_comments.proofs.find.push_gap.Goals as goal

pub loop-at-preserved : goal.loop-at-preserved
loop-at-preserved c =
    led_byte c.args.bytes.now c.args.from c.args.to c.loop-at.at (places_of c.args.found.now.items)
    (places_of c.loop-at.found.items) c.loop-at.invariant c.loop-at-test.true c.if-bytes-at-eq35.false

pub loop-at-preserved-then-bytes-at-eq35 : goal.loop-at-preserved-then-bytes-at-eq35
loop-at-preserved-then-bytes-at-eq35 c =
    let end = c.line_end-end.result in
    let more = led_mark c.args.bytes.now c.args.from c.args.to c.loop-at.at end (places_of c.args.found.now.items)
    (places_of c.loop-at.found.items) c.loop-at.invariant c.loop-at-test.true c.if-bytes-at-eq35.true c.line_end-end.ensures in
    subst (λ ps. Led c.args.bytes.now c.args.from c.args.to end (places_of c.args.found.now.items) ps)
    (sym (ap places_of c.in_ok-push.ensures.items ∙ places_joined c.loop-at.found.items (record { start = c.loop-at.at; end = end }))) more

pub returns : goal.returns
returns c =
    led_end c.args.bytes.now c.args.from c.args.to c.loop-at.at (places_of c.args.found.now.items)
    (places_of c.loop-at.found.items) c.loop-at.invariant c.loop-at-test.false
