use Rattle.std.proofs.Common.{arith, length, refl, ◌*◌, ◌-◌}
use Rattle.yaml_block.proofs.{Prelude.{err_from_is_err_and, FlowNodeRead, outer, fault_passed, faults_so, ok_so}, KeysAndPairs.after_onward}
use Rattle.yaml_block.proofs.{SignsAndLines.onward_so, Stacks.grown_grown, TextPlaces.past_sign}
use Rattle.yaml_block.proofs.{reader.Reader.first_key.Goals.In_ok-put_plain, LineValueSteps.{first_key_value, first_key_waits}}
use Rattle.yaml_block.{proofs.LineValueSteps.plain_before_colon, specs.States.{BeforeLeaf, Fails}}
use Rattle.yaml_block.specs.declared.line_sign.Sign.TheVariants.{Colon}
use Rattle.yaml_block.proofs.reader.Reader.first_key.Goals as goal

-- the key is read
read : (c : In_ok-put_plain) → FlowNodeRead (c.args.leaf).least outer c.args.text.now (c.args.leaf).at c.args.end
    c.put.new.self.events c.put_plain.new.self.events
read c =
    c.in_ok-put_plain.ensures.read (c.args.leaf).least outer
    (plain_before_colon c.args.text.now c.utf8.text (c.args.leaf).least (c.args.leaf).at c.args.end c.requires.at
    (c.requires.key).line (c.requires.key).colon)

pub returns-in-Some-clause-leads : goal.returns-in-Some-clause-leads
unfolding read
returns-in-Some-clause-leads c =
    let value = c.in-Some.value in
    ok_so c.line_pair.result _ _
    (λ to l. first_key_value c.args.text.now c.utf8.text c.args.leaf c.args.indent c.args.end c.args.self.now
    c.put.new.self c.put_plain.new.self c.requires.pairs c.requires.at c.requires.key c.in_ok-put.ensures.collections
    c.in_ok-put.ensures.events c.in_ok-put_plain.ensures.collections
    (read (goal.at.returns-in-Some-clause-leads c).In_ok-put_plain) value.start c.line_pair.new.self to c.requires.deep
    c.in-Some.ensures.lead l) c.line_pair.ensures.leads

pub returns-in-Some-clause-onward : goal.returns-in-Some-clause-onward
returns-in-Some-clause-onward c =
    let text = c.args.text.now in
    let at = c.args.leaf.at in
    let start = c.in-Some.value.start in
    let key = (c.requires.key).line.above in
    let lead = (c.in-Some.ensures.lead).above in
    onward_so text at start (3 * (length text - start)) (3 * (length text - at)) c.line_pair.result
    (omega (arith, key, lead)) (omega (arith, key, lead)) c.line_pair.ensures.onward

pub returns-in-Some-clause-none : goal.returns-in-Some-clause-none
returns-in-Some-clause-none c =
    faults_so c.line_pair.result ⊥ (Fails c.args.text.now (BeforeLeaf c.args.text.now c.args.leaf) c.args.self.now)
    (λ x. absurd x) c.line_pair.ensures.none

pub returns-in-Some-clause-grown : goal.returns-in-Some-clause-grown
returns-in-Some-clause-grown c =
    grown_grown c.args.self.now.events c.put.new.self.events c.line_pair.new.self.events c.in_ok-put.ensures.grown
    (grown_grown c.put.new.self.events c.put_plain.new.self.events c.line_pair.new.self.events
    c.in_ok-put_plain.ensures.grown c.line_pair.ensures.grown)

pub returns-in_err-put-clause-none : goal.returns-in_err-put-clause-none
returns-in_err-put-clause-none c =
    fault_passed c.from_residual.result c.in_err-put.field-0.0 ⊥
    (Fails c.args.text.now (BeforeLeaf c.args.text.now c.args.leaf) c.args.self.now) (λ x. absurd x)
    c.in_err-put.ensures.none (err_from_is_err_and c.from_residual.result c.from_residual.ensures.1)

pub returns-in_err-put_plain-clause-none : goal.returns-in_err-put_plain-clause-none
returns-in_err-put_plain-clause-none c =
    fault_passed c.from_residual-in_err-put_plain.result c.in_err-put_plain.field-0.0 ⊥
    (Fails c.args.text.now (BeforeLeaf c.args.text.now c.args.leaf) c.args.self.now) (λ x. absurd x)
    c.in_err-put_plain.ensures.none
    (err_from_is_err_and c.from_residual-in_err-put_plain.result c.from_residual-in_err-put_plain.ensures.1)

pub returns-in_err-put_plain-clause-grown : goal.returns-in_err-put_plain-clause-grown
returns-in_err-put_plain-clause-grown c =
    grown_grown c.args.self.now.events c.put.new.self.events c.put_plain.new.self.events c.in_ok-put.ensures.grown
    c.in_err-put_plain.ensures.grown

pub returns-clause-leads : goal.returns-clause-leads
unfolding read
returns-clause-leads c =
    first_key_waits c.args.text.now c.utf8.text c.args.leaf c.args.indent c.args.end c.args.self.now c.put.new.self
    c.put_plain.new.self c.requires.pairs c.requires.at c.requires.key c.in_ok-put.ensures.collections
    c.in_ok-put.ensures.events c.in_ok-put_plain.ensures.collections
    (read (goal.at.returns-clause-leads c).In_ok-put_plain) c.wait.new.self c.in_ok-wait.ensures.collections
    c.in_ok-wait.ensures.events

pub returns-clause-onward : goal.returns-clause-onward
returns-clause-onward c =
    let text = c.args.text.now in
    let at = c.args.leaf.at in
    let end = c.args.end in
    let key = (c.requires.key).line.above in
    let s = past_sign text end 58 c.utf8.text (c.requires.key).line.boundary (omega arith) refl (c.requires.key).colon in
    after_onward text at _ end c.args.indent Colon s (omega (arith, key)) (omega (arith, key, c.requires.deep))
    (omega (arith, s.below, key))
