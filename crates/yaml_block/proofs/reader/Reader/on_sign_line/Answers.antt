use Rattle.std.{proofs.Common.{◌≡◌, refl, sym, ◌∙◌, ap, subst, arith, ◌+◌, ◌-◌, ◌*◌, ◌<◌, ◌≤◌, length, inl, inr}, specs.Prelude.true}
use Rattle.std.specs.Prelude.{false, ◌⊎◌, Some, None}
use Rattle.yaml_block.proofs.{Prelude.{rest, faults_so, ok_so, refuses, white, first, past_spaces}, TextPlaces.{IsPastSign, past_sign}}
use Rattle.yaml_block.proofs.{PlaceSteps.tab, Stacks.grown_same}
use Rattle.yaml_block.proofs.reader.Reader.on_sign_line.Goals.{then-not-allows_compact-via-then-not-allows_compact}
use Rattle.yaml_block.proofs.reader.Reader.on_sign_line.Goals.{then-not-allows_compact-via-else-not-allows_compact+then-spaces_end-first}
use Rattle.yaml_block.proofs.SignsAndLines.{ok_opens, Becomes, leads_so, fails_so, onward_from, onward_so, dash_onward, nothing_there}
use Rattle.yaml_block.proofs.SignsAndLines.{leaf_there, compact_leaf_there, compact_sequence_there, spaces_below, allowed, not_allowed}
use Rattle.yaml_block.specs.{Signs.is_colon, declared.{frame.{Leaf.Leaf, Next.Next}, line_sign.Sign.TheVariants.Dash}, States.BeforePart}
use Rattle.yaml_block.specs.States.{BeforeLeaf, Fails, Onward, Leads}
use Rattle.yaml_block.specs.declared.frame.Next.TheVariants as next
use Rattle.yaml_block.proofs.reader.Reader.on_sign_line.Goals as goal

pub returns-then-first-at-clause-none : goal.returns-then-first-at-clause-none
returns-then-first-at-clause-none c =
    refuses c.no_white.result _
    (nothing_there c.args.text.now c.args.sign c.args.indent c.args.at c.utf8.text c.requires.placed
    c.requires.goes_on c.white_end-first.result c.white_end-first.ensures.taken c.if-first-at.true
    c.args.self.now)

-- before a leaf that is no pair
alone : goal.After-leaf → Leaf
alone c = record { at = c.white_end-first.result; least = c.args.indent + 1; pairs = None }

leaf_alone : (c : goal.After-leaf)
    → Becomes (BeforePart c.args.text.now c.args.sign c.args.indent c.args.at) (BeforeLeaf c.args.text.now (alone c))
unfolding alone
leaf_alone c =
    let text = c.args.text.now in
    let at = c.args.at in
    let lead = c.white_end-first.result in
    let above : at ≤ lead = c.white_end-first.ensures.taken.above in
    let far : at < lead = omega (arith, above, c.if-first-at.false) in
    let why : (is_colon c.args.sign ≡ true) ⊎ (first white (past_spaces (rest text at)) ≡ true) =
    elim c.then-not-allows_compact.branch [
      | then-not-allows_compact-via-then-not-allows_compact
          w ↦ inl (not_allowed c.allows_compact.result (is_colon c.args.sign) c.allows_compact.ensures
          w.if-not-allows_compact.true)
      | then-not-allows_compact-via-else-not-allows_compact+then-spaces_end-first
          w ↦ inr (ap (first white) (w.spaces_end.ensures).leaves
          ∙ tab text at w.spaces_end.result lead c.utf8.text (c.requires.placed).boundary w.spaces_end.ensures
          c.white_end-first.ensures.taken w.if-spaces_end-first.true)
    ] in
    leaf_there text c.args.sign c.args.indent at c.utf8.text c.requires.placed c.requires.goes_on lead
    c.white_end-first.ensures.taken far why

pub returns-then-not-allows_compact-clause-leads : goal.returns-then-not-allows_compact-clause-leads
unfolding alone
returns-then-not-allows_compact-clause-leads c =
    leads_so c.args.text.now c.leaf.result (BeforeLeaf c.args.text.now (alone c)) _ c.args.self.now c.leaf.new.self
    (leaf_alone c) c.leaf.ensures.leads

pub returns-then-not-allows_compact-clause-none : goal.returns-then-not-allows_compact-clause-none
unfolding alone
returns-then-not-allows_compact-clause-none c =
    fails_so c.args.text.now c.leaf.result (BeforeLeaf c.args.text.now (alone c)) _ c.args.self.now (leaf_alone c)
    c.leaf.ensures.none

pub returns-then-sign_at-clause-onward : goal.returns-then-sign_at-clause-onward
returns-then-sign_at-clause-onward c =
    let text = c.args.text.now in
    let at = c.args.at in
    let k = c.args.indent in
    let lead = c.white_end-first.result in
    let above : at ≤ lead = c.white_end-first.ensures.taken.above in
    let deeper : k < at = (c.requires.placed).deeper in
    let deep : k + 1 + (lead - at) ≤ lead = omega arith in
    let past : IsPastSign text lead = past_sign text lead 45 c.utf8.text c.white_end-first.ensures.taken.boundary
    (omega arith) refl (sym c.sign_at.ensures ∙ c.if-sign_at.true) in
    ok_so c.open_items.result _ _
    (λ to e. subst (λ (n : Next). Onward text at (3 * (length text - at) + 2) n) (sym e)
    (onward_from text at at (3 * (length text - at)) (3 * (length text - at) + 2)
    (next.After (lead + 1) (k + 1 + (lead - at)) Dash) (omega arith) (omega arith)
    (dash_onward text at lead (k + 1 + (lead - at)) above deep past)))
    c.open_items.ensures.next

pub returns-then-sign_at-clause-leads : goal.returns-then-sign_at-clause-leads
returns-then-sign_at-clause-leads c =
    let text = c.args.text.now in
    let at = c.args.at in
    let k = c.args.indent in
    let lead = c.white_end-first.result in
    let above : at ≤ lead = c.white_end-first.ensures.taken.above in
    let far : at < lead = omega (arith, above, c.if-first-at.false) in
    let below : c.spaces_end.result ≤ lead = spaces_below text at c.spaces_end.result lead c.spaces_end.ensures
    c.white_end-first.ensures.run in
    let same : c.spaces_end.result ≡ lead = omega (arith, below, c.if-spaces_end-first.false) in
    let colon : is_colon c.args.sign ≡ false = allowed c.allows_compact.result (is_colon c.args.sign)
    c.allows_compact.ensures c.if-not-allows_compact.false in
    let past : IsPastSign text lead = past_sign text lead 45 c.utf8.text c.white_end-first.ensures.taken.boundary
    (omega arith) refl (sym c.sign_at.ensures ∙ c.if-sign_at.true) in
    ok_opens c.open_items.result (next.After (lead + 1) (k + 1 + (lead - at)) Dash) _ _
    (Leads text (BeforePart text c.args.sign k at) c.args.self.now c.open_items.new.self)
    c.open_items.ensures.next c.open_items.ensures.collections c.open_items.ensures.events
    (λ p e. compact_sequence_there text c.args.sign k at c.utf8.text c.requires.placed c.requires.goes_on lead
    c.white_end-first.ensures.taken c.spaces_end.result c.spaces_end.ensures same colon far
    (sym c.sign_at.ensures ∙ c.if-sign_at.true) past c.args.self.now c.open_items.new.self p e)

pub returns-then-sign_at-clause-none : goal.returns-then-sign_at-clause-none
returns-then-sign_at-clause-none c =
    faults_so c.open_items.result ⊥
    (Fails c.args.text.now (BeforePart c.args.text.now c.args.sign c.args.indent c.args.at) c.args.self.now)
    (λ x. absurd x) c.open_items.ensures.none

-- before a leaf that may be the first key of a compact mapping
compact : goal.After-leaf-2 → Leaf
compact c =
    let lead = c.white_end-first.result in
    let k = c.args.indent in
    record { at = lead; least = k + 1; pairs = Some (k + 1 + (lead - c.args.at)) }

leaf_compact : (c : goal.After-leaf-2)
    → Becomes (BeforePart c.args.text.now c.args.sign c.args.indent c.args.at) (BeforeLeaf c.args.text.now (compact c))
unfolding compact
leaf_compact c =
    let text = c.args.text.now in
    let at = c.args.at in
    let lead = c.white_end-first.result in
    let above : at ≤ lead = c.white_end-first.ensures.taken.above in
    let far : at < lead = omega (arith, above, c.if-first-at.false) in
    let below : c.spaces_end.result ≤ lead = spaces_below text at c.spaces_end.result lead c.spaces_end.ensures
    c.white_end-first.ensures.run in
    let same : c.spaces_end.result ≡ lead = omega (arith, below, c.if-spaces_end-first.false) in
    let colon : is_colon c.args.sign ≡ false = allowed c.allows_compact.result (is_colon c.args.sign)
    c.allows_compact.ensures c.if-not-allows_compact.false in
    compact_leaf_there text c.args.sign c.args.indent at c.utf8.text c.requires.placed c.requires.goes_on lead
    c.white_end-first.ensures.taken c.spaces_end.result c.spaces_end.ensures same colon far
    (sym c.sign_at.ensures ∙ c.if-sign_at.false)

pub returns-clause-leads : goal.returns-clause-leads
unfolding compact
returns-clause-leads c =
    leads_so c.args.text.now c.leaf-2.result (BeforeLeaf c.args.text.now (compact c)) _ c.args.self.now
    c.leaf-2.new.self (leaf_compact c) c.leaf-2.ensures.leads

pub returns-clause-none : goal.returns-clause-none
unfolding compact
returns-clause-none c =
    fails_so c.args.text.now c.leaf-2.result (BeforeLeaf c.args.text.now (compact c)) _ c.args.self.now (leaf_compact c)
    c.leaf-2.ensures.none

pub returns-then-not-allows_compact-clause-onward : goal.returns-then-not-allows_compact-clause-onward
returns-then-not-allows_compact-clause-onward c =
    let text = c.args.text.now in
    let at = c.args.at in
    let lead = c.white_end-first.result in
    let above : at ≤ lead = c.white_end-first.ensures.taken.above in
    onward_so text at lead (3 * (length text - lead)) (3 * (length text - at) + 2) c.leaf.result above
    (omega (arith, above)) c.leaf.ensures.onward

pub returns-clause-onward : goal.returns-clause-onward
returns-clause-onward c =
    let text = c.args.text.now in
    let at = c.args.at in
    let lead = c.white_end-first.result in
    let above : at ≤ lead = c.white_end-first.ensures.taken.above in
    onward_so text at lead (3 * (length text - lead)) (3 * (length text - at) + 2) c.leaf-2.result above
    (omega (arith, above)) c.leaf-2.ensures.onward

pub returns-then-first-at-clause-grown : goal.returns-then-first-at-clause-grown
returns-then-first-at-clause-grown c = grown_same c.args.self.now.events c.args.self.now.events refl
