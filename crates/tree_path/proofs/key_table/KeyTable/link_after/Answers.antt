use Rattle.std.proofs.Common.{◌-◌, inl, inr, ◌∙◌, subst, ◌≤◌, arith}
use Rattle.tree_path.proofs.{Prelude.{get_or_default_zero, get_or_past}, TableLemmas.{chain-ends, chain-step}}
use Rattle.tree_path.proofs.key_table.KeyTable.link_after.Goals as goal

pub returns-then-number-len-clause-kept : goal.returns-then-number-len-clause-kept
returns-then-number-len-clause-kept c = λ n on other.
    let links = c.args.self.now.before.items in
    let long = c.len.ensures ∙ c.args.self.now.before.ok.0 in
    absurd (chain-ends links c.args.link n c.requires other
    (inl (get_or_past links (c.args.link - 1) 0 (omega (arith, long, c.if-number-len.true)))) on)

pub returns-then-next-link-clause-kept : goal.returns-then-next-link-clause-kept
returns-then-next-link-clause-kept c = λ n on other.
    let links = c.args.self.now.before.items in
    let long = c.len.ensures ∙ c.args.self.now.before.ok.0 in
    let is = c.index-next.ensures ∙ get_or_default_zero links (c.args.link - 1) c.index-next.result.now
    (omega (arith, long, c.if-number-len.false)) in
    absurd (chain-ends links c.args.link n c.requires other (inr (subst (λ m. c.args.link ≤ m) is c.if-next-link.true)) on)

pub returns-clause-kept : goal.returns-clause-kept
returns-clause-kept c = λ n on other.
    let links = c.args.self.now.before.items in
    let long = c.len.ensures ∙ c.args.self.now.before.ok.0 in
    let is = c.index-next.ensures ∙ get_or_default_zero links (c.args.link - 1) c.index-next.result.now
    (omega (arith, long, c.if-number-len.false)) in
    chain-step links c.args.link c.index-next.result.now n c.requires is other on
