use Rattle.std.{proofs.Common.{arith, length, refl, sym, ◌*◌, ◌-◌, ◌∙◌, ap, subst, ◌≤◌}, specs.Prelude.{ℕ, [], ◌∷◌, ◌++◌, Option, IfSome}}
use Rattle.std.specs.Prelude.{insert}
use Rattle.yaml_block.proofs.Prelude.{err_from_is_err_and, outer, sign, MapStart, fault_kept, fault_passed, faults_so, ok_so, refuses}
use Rattle.yaml_block.proofs.{Prelude.NoFlowNodeFound, LineValueSteps.leaf_value, SignsAndLines.onward_so, TextPlaces.past_sign}
use Rattle.yaml_block.proofs.KeysAndPairs.{after_onward, leaf_key, leaf_line, leaf_nothing, leaf_unclosed, leaf_unkeyed}
use Rattle.yaml_block.proofs.Stacks.{grown_appended, grown_before, grown_grown, grown_same}
use Rattle.yaml_block.specs.{declared.{line_sign.Sign.TheVariants.Colon, frame.Waits.TheVariants.Value}, States.{BeforeLeaf, Fails}}
use Rattle.yaml_block.proofs.reader.Reader.flow_leaf.Goals as goal

pub returns-in-Err-clause-none : goal.returns-in-Err-clause-none
returns-in-Err-clause-none c =
    let text = c.args.text.now in
    let leaf = c.args.leaf in
    fault_kept c.in-Err.fault c.no_node.result (NoFlowNodeFound leaf.least outer text leaf.at)
    (Fails text (BeforeLeaf text leaf) c.args.self.now) c.no_node.ensures
    (leaf_nothing text c.utf8.text leaf c.args.self.now c.requires.no_bar c.requires.not_asked)
    (c.in-Err.ensures).missing

pub returns-in_err-indent-clause-none : goal.returns-in_err-indent-clause-none
returns-in_err-indent-clause-none c =
    let text = c.args.text.now in
    let leaf = c.args.leaf in
    let fails = leaf_unkeyed text c.utf8.text leaf c.in-Ok.end c.white_end-colon.result c.args.self.now
    c.flow_node.new.events c.requires.at (c.in-Ok.ensures).reads (c.white_end-colon.ensures).taken
    (sym c.sign_at.ensures ∙ c.if-sign_at.true) (c.in_err-indent.ensures).none in
    fault_passed c.from_residual.result c.in_err-indent.field-0.0 (Fails text (BeforeLeaf text leaf) c.args.self.now)
    (Fails text (BeforeLeaf text leaf) c.args.self.now) (λ x. x)
    (refuses c.in_err-indent.field-0.0 (Fails text (BeforeLeaf text leaf) c.args.self.now) fails)
    (err_from_is_err_and c.from_residual.result c.from_residual.ensures.1)

pub returns-then-sign_at-clause-onward : goal.returns-then-sign_at-clause-onward
returns-then-sign_at-clause-onward c =
    let text = c.args.text.now in
    let at = c.args.leaf.at in
    let colon = c.white_end-colon.result in
    let s = past_sign text colon 58 c.utf8.text ((c.white_end-colon.ensures).taken).boundary (omega arith) refl
    (sym c.sign_at.ensures ∙ c.if-sign_at.true) in
    let above = ((c.in-Ok.ensures).reads).above in
    let gap = ((c.white_end-colon.ensures).taken).above in
    let deep : c.in_ok-indent.indent ≤ at = subst (λ (x : Option ℕ). IfSome x (λ i. i ≤ at))
    (c.in_ok-indent.ensures).pairs c.requires.pairs in
    after_onward text at _ colon c.in_ok-indent.indent Colon s (omega (arith, above, gap))
    (omega (arith, above, gap, deep)) (omega (arith, s.below, above, gap))

pub returns-then-sign_at-clause-leads : goal.returns-then-sign_at-clause-leads
returns-then-sign_at-clause-leads c =
    let k = c.in_ok-indent.indent in
    leaf_key c.args.text.now c.utf8.text c.args.leaf k c.in-Ok.end c.white_end-colon.result c.args.self.now
    c.wait.new.self c.flow_node.new.events (c.in_ok-indent.ensures).pairs c.requires.at
    (c.in-Ok.ensures).reads (c.white_end-colon.ensures).taken (sym c.sign_at.ensures ∙ c.if-sign_at.true)
    (c.in_ok-indent.ensures).fits
    ((c.in_ok-wait.ensures).collections ∙ ap (λ v. v.items ++ (record { waits = Value; indent = k }) ∷ [])
    (c.in_ok-start_map_before.ensures).collections)
    ((c.in_ok-wait.ensures).events ∙ ((c.in_ok-start_map_before.ensures).events
    ∙ ap (λ n. insert c.flow_node.new.events n MapStart) c.len-before.ensures))

pub returns-in-Some-line_after-clause-leads : goal.returns-in-Some-line_after-clause-leads
returns-in-Some-line_after-clause-leads c =
    leaf_line c.args.text.now c.utf8.text c.args.leaf c.in-Ok.end c.in-Some-line_after.line c.args.self.now _
    c.flow_node.new.events c.requires.at (c.in-Ok.ensures).reads
    (ap (sign 58) (c.white_end-colon.ensures).taken.leaves ∙ (sym c.sign_at.ensures ∙ c.if-sign_at.false))
    (c.in-Some-line_after.ensures).found (c.in-Some-line_after.ensures).closes refl refl refl

pub returns-in-None-clause-none : goal.returns-in-None-clause-none
returns-in-None-clause-none c =
    let text = c.args.text.now in
    let leaf = c.args.leaf in
    refuses c.line_goes_on.result (Fails text (BeforeLeaf text leaf) c.args.self.now)
    (leaf_unclosed text c.utf8.text leaf c.in-Ok.end c.white_end-colon.result c.args.self.now c.flow_node.new.events
    (c.in-Ok.ensures).reads (c.white_end-colon.ensures).taken
    (sym c.sign_at.ensures ∙ c.if-sign_at.false) (c.in-None.ensures).none)

pub returns-in-Some-line_after-clause-onward : goal.returns-in-Some-line_after-clause-onward
returns-in-Some-line_after-clause-onward c =
    let read = (c.in-Ok.ensures).reads in
    let found = (c.in-Some-line_after.ensures).found in
    let above = read.above in
    let within = read.within in
    let further = found.above in
    record {
      above = omega (arith, above, further);
      less = omega (arith, above, within, further);
      placed = record {
        line = record {
          boundary = found.boundary;
          spaces = found.spaces;
          starts = (c.in-Some-line_after.ensures).starts;
        };
        solid = found.solid;
      };
    }

pub returns-in-Err-clause-grown : goal.returns-in-Err-clause-grown
returns-in-Err-clause-grown c = grown_same c.args.self.now.events c.flow_node.new.events
    (c.in-Err.ensures).unchanged

pub returns-in_err-indent-clause-grown : goal.returns-in_err-indent-clause-grown
returns-in_err-indent-clause-grown c = grown_appended c.args.text.now c.args.self.now.events c.flow_node.new.events _
    ((c.in-Ok.ensures).reads).appended

pub returns-in_err-start_map_before-clause-grown : goal.returns-in_err-start_map_before-clause-grown
returns-in_err-start_map_before-clause-grown c =
    grown_grown c.args.self.now.events c.flow_node.new.events c.start_map_before.new.self.events
    (grown_appended c.args.text.now c.args.self.now.events c.flow_node.new.events _
    ((c.in-Ok.ensures).reads).appended)
    (grown_same c.flow_node.new.events c.start_map_before.new.self.events (c.in_err-start_map_before.ensures).back)

pub returns-in_err-start_map_before-clause-none : goal.returns-in_err-start_map_before-clause-none
returns-in_err-start_map_before-clause-none c =
    fault_passed c.from_residual-in_err-start_map_before.result c.in_err-start_map_before.field-0.0 ⊥
    (Fails c.args.text.now (BeforeLeaf c.args.text.now c.args.leaf) c.args.self.now) (λ x. absurd x)
    (c.in_err-start_map_before.ensures).none
    (err_from_is_err_and c.from_residual-in_err-start_map_before.result
    c.from_residual-in_err-start_map_before.ensures.1)

pub returns-in_err-wait-clause-grown : goal.returns-in_err-wait-clause-grown
returns-in_err-wait-clause-grown c =
    grown_before c.args.text.now c.args.self.now.events c.flow_node.new.events c.wait.new.self.events _
    ((c.in-Ok.ensures).reads).appended
    ((c.in_err-wait.ensures).events ∙ ((c.in_ok-start_map_before.ensures).events
    ∙ ap (λ n. insert c.flow_node.new.events n MapStart) c.len-before.ensures))

pub returns-in_err-wait-clause-none : goal.returns-in_err-wait-clause-none
returns-in_err-wait-clause-none c =
    fault_passed c.from_residual-in_err-wait.result c.in_err-wait.field-0.0 ⊥
    (Fails c.args.text.now (BeforeLeaf c.args.text.now c.args.leaf) c.args.self.now) (λ x. absurd x)
    (c.in_err-wait.ensures).none
    (err_from_is_err_and c.from_residual-in_err-wait.result c.from_residual-in_err-wait.ensures.1)

pub returns-then-sign_at-clause-grown : goal.returns-then-sign_at-clause-grown
returns-then-sign_at-clause-grown c =
    grown_before c.args.text.now c.args.self.now.events c.flow_node.new.events c.wait.new.self.events _
    ((c.in-Ok.ensures).reads).appended
    ((c.in_ok-wait.ensures).events ∙ ((c.in_ok-start_map_before.ensures).events
    ∙ ap (λ n. insert c.flow_node.new.events n MapStart) c.len-before.ensures))

pub returns-in-Some-line_after-clause-grown : goal.returns-in-Some-line_after-clause-grown
returns-in-Some-line_after-clause-grown c =
    grown_appended c.args.text.now c.args.self.now.events c.flow_node.new.events _
    ((c.in-Ok.ensures).reads).appended

pub returns-in-None-clause-grown : goal.returns-in-None-clause-grown
returns-in-None-clause-grown c = grown_appended c.args.text.now c.args.self.now.events c.flow_node.new.events _
    ((c.in-Ok.ensures).reads).appended

pub line_value-requires : goal.line_value-requires
line_value-requires c =
    let above = ((c.in-Ok.ensures).reads).above in
    let gap = ((c.white_end-colon.ensures).taken).above in
    let deep : c.in_ok-indent.indent ≤ c.args.leaf.at = subst (λ (x : Option ℕ). IfSome x (λ i. i ≤ c.args.leaf.at))
    (c.in_ok-indent.ensures).pairs c.requires.pairs in
    record { at = ((c.white_end-colon.ensures).taken).boundary; deep = omega (arith, deep, above, gap) }

pub returns-in-Some-clause-onward : goal.returns-in-Some-clause-onward
returns-in-Some-clause-onward c =
    let text = c.args.text.now in
    let at = c.args.leaf.at in
    let start = c.in-Some.value.start in
    let above = ((c.in-Ok.ensures).reads).above in
    let gap = ((c.white_end-colon.ensures).taken).above in
    let lead = ((c.in-Some.ensures).lead).above in
    onward_so text at start (3 * (length text - start)) (3 * (length text - at)) c.line_pair.result
    (omega (arith, above, gap, lead)) (omega (arith, above, gap, lead)) c.line_pair.ensures.onward

pub returns-in-Some-clause-leads : goal.returns-in-Some-clause-leads
returns-in-Some-clause-leads c =
    let deep : c.in_ok-indent.indent ≤ c.args.leaf.at = subst (λ (x : Option ℕ). IfSome x (λ i. i ≤ c.args.leaf.at))
    (c.in_ok-indent.ensures).pairs c.requires.pairs in
    ok_so c.line_pair.result _ _
    (λ to l. leaf_value c.args.text.now c.utf8.text c.args.leaf c.in_ok-indent.indent c.in-Ok.end
    c.white_end-colon.result c.in-Some.value.start c.args.self.now c.start_map_before.new.self
    c.line_pair.new.self c.flow_node.new.events to (c.in_ok-indent.ensures).pairs deep c.requires.at
    (c.in-Ok.ensures).reads (c.white_end-colon.ensures).taken (sym c.sign_at.ensures ∙ c.if-sign_at.true)
    (c.in_ok-indent.ensures).fits (c.in_ok-start_map_before.ensures).collections
    ((c.in_ok-start_map_before.ensures).events
    ∙ ap (λ n. insert c.flow_node.new.events n MapStart) c.len-before.ensures)
    (c.in-Some.ensures).lead l) c.line_pair.ensures.leads

pub returns-in-Some-clause-none : goal.returns-in-Some-clause-none
returns-in-Some-clause-none c =
    faults_so c.line_pair.result ⊥ (Fails c.args.text.now (BeforeLeaf c.args.text.now c.args.leaf) c.args.self.now)
    (λ x. absurd x) c.line_pair.ensures.none

pub returns-in-Some-clause-grown : goal.returns-in-Some-clause-grown
returns-in-Some-clause-grown c =
    grown_grown c.args.self.now.events c.start_map_before.new.self.events c.line_pair.new.self.events
    (grown_before c.args.text.now c.args.self.now.events c.flow_node.new.events c.start_map_before.new.self.events _
    ((c.in-Ok.ensures).reads).appended
    ((c.in_ok-start_map_before.ensures).events
    ∙ ap (λ n. insert c.flow_node.new.events n MapStart) c.len-before.ensures)) c.line_pair.ensures.grown
