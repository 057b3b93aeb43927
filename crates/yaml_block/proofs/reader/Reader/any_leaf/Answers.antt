use Rattle.std.{proofs.Common.{refl, sym, ◌∙◌, subst, arith, ℕ, ◌+◌, ◌-◌, ◌*◌, ◌≤◌, length}, specs.Prelude.{Option, IfSome}}
use Rattle.yaml_block.proofs.{Prelude.{faults_so, ok_so}, TextPlaces.{IsPastSign, past_sign}, SignsAndLines.{ok_opens, asked_onward}}
use Rattle.yaml_block.{proofs.SignsAndLines.asked_first, specs.declared.{frame.Next.Next, line_sign.Sign.TheVariants.Asked}}
use Rattle.yaml_block.specs.States.{BeforeLeaf, Fails, Onward, Leads}
use Rattle.yaml_block.specs.declared.frame.Next.TheVariants as next
use Rattle.yaml_block.proofs.reader.Reader.any_leaf.Goals as goal

pub returns-then-sign_at-clause-onward : goal.returns-then-sign_at-clause-onward
returns-then-sign_at-clause-onward c =
    let text = c.args.text.now in
    let leaf = c.args.leaf in
    let k = c.in-Some.indent in
    let past : IsPastSign text leaf.at = past_sign text leaf.at 63 c.utf8.text c.requires.at (omega arith) refl
    (sym c.sign_at.ensures ∙ c.if-sign_at.true) in
    let deep : k ≤ leaf.at = subst (λ (ps : Option ℕ). IfSome ps (λ i. i ≤ leaf.at)) c.in-Some.is c.requires.pairs in
    ok_so c.first_asked.result _ _
    (λ to e. subst (λ (n : Next). Onward text leaf.at (3 * (length text - leaf.at)) n) (sym e)
    (asked_onward text leaf.at k deep past)) c.first_asked.ensures.next

pub returns-then-sign_at-clause-leads : goal.returns-then-sign_at-clause-leads
returns-then-sign_at-clause-leads c =
    let text = c.args.text.now in
    let leaf = c.args.leaf in
    let k = c.in-Some.indent in
    let past : IsPastSign text leaf.at = past_sign text leaf.at 63 c.utf8.text c.requires.at (omega arith) refl
    (sym c.sign_at.ensures ∙ c.if-sign_at.true) in
    ok_opens c.first_asked.result (next.After (leaf.at + 1) k Asked) _ _
    (Leads text (BeforeLeaf text leaf) c.args.self.now c.first_asked.new.self)
    c.first_asked.ensures.next c.first_asked.ensures.collections c.first_asked.ensures.events
    (λ p e. asked_first text leaf k c.in-Some.is (sym c.sign_at.ensures ∙ c.if-sign_at.true) past c.args.self.now
    c.first_asked.new.self p e)

pub returns-then-sign_at-clause-none : goal.returns-then-sign_at-clause-none
returns-then-sign_at-clause-none c =
    faults_so c.first_asked.result ⊥ (Fails c.args.text.now (BeforeLeaf c.args.text.now c.args.leaf) c.args.self.now)
    (λ x. absurd x) c.first_asked.ensures.none
