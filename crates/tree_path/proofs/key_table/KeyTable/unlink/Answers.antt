use Rattle.std.proofs.Common.{◌≡◌, ◌+◌, ◌<◌, suc, length, get_or, set, refl, ap, subst, ◌∙◌, arith}
use Rattle.tree_path.{proofs.{Prelude.get_or_default_zero, TableLemmas.{head-unlinked, newer-unlinked}}, specs.Chains.LeadsTo}
use Rattle.tree_path.proofs.key_table.KeyTable.unlink.Goals as goal

pub returns-then-index-number-clause-chains : goal.returns-then-index-number-clause-chains
returns-then-index-number-clause-chains c =
    let heads = c.args.self.now.newest.items in
    let links = c.args.self.now.before.items in
    let long = c.len.ensures ∙ c.args.self.now.before.ok.0 in
    let within : c.args.number < length links = omega (arith, long, c.if-number-len.false) in
    let next = c.index-next.ensures ∙ get_or_default_zero links c.args.number c.index-next.result.now within in
    let head = c.index.ensures ∙ get_or_default_zero heads c.args.bucket c.index.result.now c.requires in
    let first : get_or heads c.args.bucket 0 ≡ suc c.args.number = omega (arith, head, c.if-index-number.true) in
    head-unlinked c.args.self.now _ c.args.bucket c.args.number c.requires within first (ap (set heads c.args.bucket) next) refl

pub returns-in-Some-clause-chains : goal.returns-in-Some-clause-chains
returns-in-Some-clause-chains c =
    let links = c.args.self.now.before.items in
    let long = c.len.ensures ∙ c.args.self.now.before.ok.0 in
    let within : c.args.number < length links = omega (arith, long, c.if-number-len.false) in
    let next = c.index-next.ensures ∙ get_or_default_zero links c.args.number c.index-next.result.now within in
    let after : c.args.number + 1 ≡ suc c.args.number = omega arith in
    newer-unlinked c.args.self.now _ c.in-Some.newer c.args.number
    (subst (LeadsTo links c.in-Some.newer) after c.in-Some.ensures) refl (ap (set links c.in-Some.newer) next)
