use Rattle.std.proofs.Common.{refl, true, ◌+◌}
use Rattle.yaml_block.proofs.{Prelude.outer, LineValueSteps.{further, line_onward, value_ends, value_goes_on}}
use Rattle.yaml_block.proofs.reader.Reader.line_pair.Goals as goal

pub returns-in-Some-clause-leads : goal.returns-in-Some-clause-leads
returns-in-Some-clause-leads c =
    let value = c.args.value in
    let put = c.in_ok-put_plain.ensures in
    value_goes_on c.args.text.now c.utf8.text c.args.indent value (record { line = value.after; is_solid = true })
    c.args.self.now c.put_plain.new.self c.after_pair.new.self _ c.in-Some.next refl c.requires.value
    (put.read (c.args.indent + 1) outer c.requires.value.plain) put.collections put.end
    c.in_ok-next.ensures.turn.turns c.in-Some.is

pub returns-in-None-clause-leads : goal.returns-in-None-clause-leads
returns-in-None-clause-leads c =
    let value = c.args.value in
    let put = c.in_ok-put_plain.ensures in
    value_ends c.args.text.now c.utf8.text c.args.indent value (record { line = value.after; is_solid = true })
    c.args.self.now c.put_plain.new.self c.after_pair.new.self _ refl c.requires.value
    (put.read (c.args.indent + 1) outer c.requires.value.plain) put.collections put.end
    c.in_ok-next.ensures.turn.turns c.in-None.is

pub returns-in-Some-clause-onward : goal.returns-in-Some-clause-onward
returns-in-Some-clause-onward c =
    further c.args.text.now c.args.value (record { line = (c.args.value).after; is_solid = true }) c.args.indent _
    c.in-Some.next c.requires.value refl c.in_ok-next.ensures.turn.onward c.in-Some.is

pub returns-in-None-clause-onward : goal.returns-in-None-clause-onward
returns-in-None-clause-onward c =
    line_onward c.args.text.now c.args.value (c.args.indent + 1) c.requires.value
