use Rattle.std.proofs.Common.{refl, ◌∙◌, arith, sym}
use Rattle.yaml_block.proofs.{Prelude.{block_key, fault_kept, faults_so, ok_so, NoFlowNodeFound}, TextPlaces.past_sign}
use Rattle.yaml_block.proofs.{Stacks.{grown_appended, grown_grown, grown_same}, KeysAndPairs.{after_onward, key_fails, key_leads}}
use Rattle.yaml_block.{proofs.KeysAndPairs.{pair_asked, pair_missing}, specs.States.{BeforeColon, BeforePair, Fails}}
use Rattle.yaml_block.specs.declared.line_sign.Sign.TheVariants.{Asked}
use Rattle.yaml_block.proofs.reader.Reader.any_pair.Goals as goal

pub returns-in-Err-clause-none : goal.returns-in-Err-clause-none
returns-in-Err-clause-none c =
    let text = c.args.text.now in
    let at = c.args.at in
    let k = c.args.indent in
    fault_kept c.in-Err.fault c.no_node.result (NoFlowNodeFound 0 block_key text at)
    (Fails text (BeforePair text k at) c.args.self.now) c.no_node.ensures
    (pair_missing text c.utf8.text at k c.args.self.now (sym c.sign_at.ensures ∙ c.if-sign_at.false))
    (c.in-Err.ensures).missing

pub returns-in-Err-clause-grown : goal.returns-in-Err-clause-grown
returns-in-Err-clause-grown c = grown_same c.args.self.now.events c.flow_node.new.events
    (c.in-Err.ensures).unchanged

pub returns-in-Ok-clause-leads : goal.returns-in-Ok-clause-leads
returns-in-Ok-clause-leads c =
    let mid = record c.args.self.now { events = c.flow_node.new.events } in
    ok_so c.after_key.result _ _
    (λ to l. key_leads c.args.text.now c.utf8.text c.args.indent c.args.at c.in-Ok.end c.args.self.now mid
    c.after_key.new.self to (c.in-Ok.ensures).reads refl l) c.after_key.ensures.leads

pub returns-in-Ok-clause-none : goal.returns-in-Ok-clause-none
returns-in-Ok-clause-none c =
    let text = c.args.text.now in
    let mid = record c.args.self.now { events = c.flow_node.new.events } in
    faults_so c.after_key.result (Fails text (BeforeColon text c.args.indent c.args.at c.in-Ok.end) mid)
    (Fails text (BeforePair text c.args.indent c.args.at) c.args.self.now)
    (key_fails text c.utf8.text c.args.indent c.args.at c.in-Ok.end c.args.self.now mid (c.in-Ok.ensures).reads refl)
    c.after_key.ensures.none

pub returns-in-Ok-clause-grown : goal.returns-in-Ok-clause-grown
returns-in-Ok-clause-grown c =
    grown_grown c.args.self.now.events c.flow_node.new.events c.after_key.new.self.events
    (grown_appended c.args.text.now c.args.self.now.events c.flow_node.new.events _
    ((c.in-Ok.ensures).reads).appended) c.after_key.ensures.grown

pub returns-then-sign_at-clause-onward : goal.returns-then-sign_at-clause-onward
returns-then-sign_at-clause-onward c =
    let text = c.args.text.now in
    let at = c.args.at in
    let s = past_sign text at 63 c.utf8.text (c.requires.placed).boundary (omega arith) refl (sym c.sign_at.ensures
    ∙ c.if-sign_at.true) in
    after_onward text at _ at c.args.indent Asked s (omega arith) (c.requires.placed).deep (omega (arith, s.below))

pub returns-then-sign_at-clause-leads : goal.returns-then-sign_at-clause-leads
returns-then-sign_at-clause-leads c =
    pair_asked c.args.text.now c.utf8.text c.args.at c.args.indent c.args.self.now c.wait.new.self
    (c.requires.placed).boundary (sym c.sign_at.ensures ∙ c.if-sign_at.true)
    (c.in_ok-wait.ensures).collections (c.in_ok-wait.ensures).events

pub returns-then-sign_at-clause-grown : goal.returns-then-sign_at-clause-grown
returns-then-sign_at-clause-grown c = grown_same c.args.self.now.events c.wait.new.self.events
    (c.in_ok-wait.ensures).events

pub returns-in_err-wait-clause-grown : goal.returns-in_err-wait-clause-grown
returns-in_err-wait-clause-grown c = grown_same c.args.self.now.events c.wait.new.self.events
    (c.in_err-wait.ensures).events
