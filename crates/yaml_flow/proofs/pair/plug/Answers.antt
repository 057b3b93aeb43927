use Rattle.std.proofs.Common.{◌≡◌, true, false, sym, subst, ◌∙◌, arith, length, ◌-◌, ◌*◌, ◌≤◌}
use Rattle.yaml_flow.proofs.Prelude.{err_from_is_err_and, rest, context_of, is_colon, NoGap, fault_passed, faults_so, ok_so}
use Rattle.yaml_flow.proofs.{Results.ok_two, Stacks.{in_flow_widens, kept_then}, ColonSteps.{colon_read, colon_refused, node_dead}}
use Rattle.yaml_flow.{proofs.NodeSteps.{entry_alone, not_value, the_value, value_read}, specs.declared.collection.Part.TheVariants.Value}
use Rattle.yaml_flow.specs.Frames.{AtColon, Collection, LineMoves, NodeRead, NoPair, Onward, SameLine, Stands, ends_plain, in_sequence}
use Rattle.yaml_flow.specs.Frames.{place_of, steps_left}
use Rattle.yaml_flow.proofs.pair.plug.Goals as goal

pub returns-in_err-after-clause-none : goal.returns-in_err-after-clause-none
returns-in_err-after-clause-none c =
    let n = c.args.setting.n in
    let d = context_of c.args.setting.context in
    let text = c.args.text.now in
    fault_passed c.from_residual.result c.in_err-after.field-0.0 (NoGap n d (rest text c.args.end)) _
    (λ stop. λ w here. node_dead n d text w c.args.top.now c.args.node_end c.args.end c.args.events.now stop here)
    c.in_err-after.ensures.none
    (err_from_is_err_and c.from_residual.result c.from_residual.ensures.1)

pub returns-then-is_value-clause-stands : goal.returns-then-is_value-clause-stands
returns-then-is_value-clause-stands c =
    let n = c.args.setting.n in
    let d = context_of c.args.setting.context in
    let text = c.args.text.now in
    let top = c.args.top.now in
    let p : top.part ≡ Value = the_value top.part (sym c.is_value.ensures ∙ c.if-is_value.true) in
    ok_two c.close_pair.result _ _ _
    (λ next e h. λ w here. subst (λ x. Stands n d text w top x c.close_pair.new.events) (sym e)
    (value_read n d text w top c.args.node_end c.args.end c.in_ok-after.after c.args.events.now
    c.close_pair.new.events c.utf8.text c.requires.start c.requires.end p
    c.in_ok-after.ensures.found (h text) here)) c.close_pair.ensures.next c.close_pair.ensures.written

pub returns-then-not-colon_at-clause-stands : goal.returns-then-not-colon_at-clause-stands
returns-then-not-colon_at-clause-stands c =
    let n = c.args.setting.n in
    let d = context_of c.args.setting.context in
    let text = c.args.text.now in
    let top = c.args.top.now in
    let p : top.part ≡ Value → ⊥ = not_value top.part (sym c.is_value.ensures ∙ c.if-is_value.false) in
    let sign : is_colon d (ends_plain c.args.node_end) (rest text c.in_ok-after.after) ≡ false =
    sym c.colon_at.ensures ∙ c.if-not-colon_at.true in
    ok_two c.without_value.result _ _ _
    (λ next e h. λ w here. subst (λ x. Stands n d text w top x c.without_value.new.events) (sym e)
    (entry_alone n d text w top c.args.node_end c.args.end c.in_ok-after.after c.args.events.now
    c.without_value.new.events c.utf8.text c.requires.start c.requires.end p
    c.in_ok-after.ensures.found sign (h text) here)) c.without_value.ensures.next c.without_value.ensures.written

pub returns-in_err-begin_pair-clause-none : goal.returns-in_err-begin_pair-clause-none
returns-in_err-begin_pair-clause-none c =
    let n = c.args.setting.n in
    let d = context_of c.args.setting.context in
    let text = c.args.text.now in
    let top = c.args.top.now in
    let colon = c.in_ok-after.after in
    let line = c.pass_gap.new.line in
    let sign : is_colon d (ends_plain c.args.node_end) (rest text colon) ≡ true = sym c.colon_at.ensures ∙ c.if-not-colon_at.false in
    let same : SameLine text line top.start colon =
    c.in_ok-after.ensures.line.tells top.start c.requires.start c.requires.order c.requires.line in
    fault_passed c.from_residual-in_err-begin_pair.result c.in_err-begin_pair.field-0.0 (NoPair text top line colon) _
    (λ stop. λ w here. colon_refused n d text w top c.args.node_end line c.args.end colon c.args.events.now
    c.utf8.text c.requires.start c.requires.order
    (in_flow_widens d c.requires.inside) c.in_ok-after.ensures.found sign same stop here) c.in_err-begin_pair.ensures.none
    (err_from_is_err_and c.from_residual-in_err-begin_pair.result c.from_residual-in_err-begin_pair.ensures.1)

-- with its key read, the pair is at its `:`
pair_begun : (c : goal.After-value) → (w : Collection)
    → NodeRead c.args.setting.n (context_of c.args.setting.context) c.args.text.now w c.args.top.now c.args.node_end
    c.args.end c.args.events.now
    → AtColon c.args.setting.n (context_of c.args.setting.context) c.args.text.now w (in_sequence c.args.top.now.kind)
    c.args.node_end c.in_ok-after.after c.begin_pair.new.events
pair_begun c =
    let text = c.args.text.now in
    let top = c.args.top.now in
    let colon = c.in_ok-after.after in
    let line = c.pass_gap.new.line in
    let p : top.part ≡ Value → ⊥ = not_value top.part (sym c.is_value.ensures ∙ c.if-is_value.false) in
    let sign : is_colon (context_of c.args.setting.context) (ends_plain c.args.node_end) (rest text colon) ≡ true =
    sym c.colon_at.ensures ∙ c.if-not-colon_at.false in
    let same : SameLine text line top.start colon =
    c.in_ok-after.ensures.line.tells top.start c.requires.start c.requires.order c.requires.line in
    λ w. colon_read c.args.setting.n (context_of c.args.setting.context) text w top c.args.node_end line c.args.end
    colon c.args.events.now c.begin_pair.new.events c.utf8.text c.requires.start c.requires.end c.requires.order
    (in_flow_widens (context_of c.args.setting.context) c.requires.inside) p c.in_ok-after.ensures.found sign same
    c.in_ok-begin_pair.ensures.begun

pub returns-clause-stands : goal.returns-clause-stands
returns-clause-stands c = ok_so c.value.result _ _ (λ next h w here. h w (pair_begun c w here)) c.value.ensures.stands

pub returns-clause-none : goal.returns-clause-none
returns-clause-none c = faults_so c.value.result _ _ (λ h w here. h w (pair_begun c w here)) c.value.ensures.none

pub returns-then-is_value-clause-onward : goal.returns-then-is_value-clause-onward
returns-then-is_value-clause-onward c =
    let gap = c.in_ok-after.ensures.found in
    ok_so c.close_pair.result _ _
    (λ next e. subst (Onward c.args.text.now c.args.end) (sym e)
    (record { boundary = gap.boundary; above = gap.above; within = gap.boundary.0 })) c.close_pair.ensures.next

pub returns-then-is_value-clause-less : goal.returns-then-is_value-clause-less
returns-then-is_value-clause-less c =
    let text = c.args.text.now in
    let above = (c.in_ok-after.ensures.found).above in
    ok_so c.close_pair.result _ _
    (λ next e. subst (λ x. steps_left text x ≤ 2 * (length text - c.args.end)) (sym e) (omega (arith, above)))
    c.close_pair.ensures.next

pub returns-then-is_value-clause-line : goal.returns-then-is_value-clause-line
returns-then-is_value-clause-line c =
    ok_so c.close_pair.result _ _
    (λ next e. subst (λ x. LineMoves c.args.text.now c.args.line.now c.args.end c.pass_gap.new.line (place_of x))
    (sym e) c.in_ok-after.ensures.line) c.close_pair.ensures.next

pub returns-then-is_value-clause-kept : goal.returns-then-is_value-clause-kept
returns-then-is_value-clause-kept c = λ k l. c.close_pair.ensures.kept k

pub returns-then-not-colon_at-clause-onward : goal.returns-then-not-colon_at-clause-onward
returns-then-not-colon_at-clause-onward c =
    let gap = c.in_ok-after.ensures.found in
    ok_so c.without_value.result _ _
    (λ next e. subst (Onward c.args.text.now c.args.end) (sym e)
    (record { boundary = gap.boundary; above = gap.above; within = gap.boundary.0 })) c.without_value.ensures.next

pub returns-then-not-colon_at-clause-less : goal.returns-then-not-colon_at-clause-less
returns-then-not-colon_at-clause-less c =
    let text = c.args.text.now in
    let above = (c.in_ok-after.ensures.found).above in
    ok_so c.without_value.result _ _
    (λ next e. subst (λ x. steps_left text x ≤ 2 * (length text - c.args.end)) (sym e) (omega (arith, above)))
    c.without_value.ensures.next

pub returns-then-not-colon_at-clause-line : goal.returns-then-not-colon_at-clause-line
returns-then-not-colon_at-clause-line c =
    ok_so c.without_value.result _ _
    (λ next e. subst (λ x. LineMoves c.args.text.now c.args.line.now c.args.end c.pass_gap.new.line (place_of x))
    (sym e) c.in_ok-after.ensures.line) c.without_value.ensures.next

pub returns-then-not-colon_at-clause-kept : goal.returns-then-not-colon_at-clause-kept
returns-then-not-colon_at-clause-kept c = λ k l. c.without_value.ensures.kept k

pub returns-clause-onward : goal.returns-clause-onward
returns-clause-onward c =
    let above = (c.in_ok-after.ensures.found).above in
    ok_so c.value.result _ _
    (λ next o. let further = o.above in
    record { boundary = o.boundary; above = omega (arith, above, further); within = o.within }) c.value.ensures.onward

pub returns-clause-less : goal.returns-clause-less
returns-clause-less c =
    let above = (c.in_ok-after.ensures.found).above in
    ok_so c.value.result _ _ (λ next l. omega (arith, above, l)) c.value.ensures.less

pub returns-clause-line : goal.returns-clause-line
returns-clause-line c =
    let above = (c.in_ok-after.ensures.found).above in
    let gap = c.in_ok-after.ensures.line in
    ok_so c.value.result _ _
    (λ next l. record {
      within = λ w. l.within (gap.within w);
      tells = λ from b f s. l.tells from b (omega (arith, above, f)) (gap.tells from b f s);
    }) c.value.ensures.line

pub returns-clause-kept : goal.returns-clause-kept
returns-clause-kept c = λ k l.
    kept_then k c.args.events.now c.begin_pair.new.events c.value.new.events (c.begin_pair.ensures.kept k l)
    (c.value.ensures.kept k)
