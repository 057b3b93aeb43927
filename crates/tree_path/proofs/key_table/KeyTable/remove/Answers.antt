use Rattle.std.proofs.Common.{◌≡◌, ◌+◌, ap, subst, ◌∙◌, arith}
use Rattle.tree_path.{proofs.{Prelude.insert, TableLemmas.lists-removed}, specs.Chains.KeepsOthers}
use Rattle.tree_path.proofs.key_table.KeyTable.remove.Goals as goal

pub returns : goal.returns
returns c = λ keys lists within.
    let table = c.args.self.now in
    let before = c.removed_before-before.result in
    let number : c.in-Ok.number ≡ c.args.place + before = omega (arith, c.in-Ok.ensures, c.saturating_add.ensures) in
    let chains = c.unlink.ensures.chains in
    let kept : KeepsOthers c.in-Ok.number table c.unlink.new.self =
    record { buckets = chains.buckets; numbers = chains.numbers; others = chains.others } in
    lists-removed table _ keys c.args.place before lists within c.removed_before-before.ensures.inside
    c.removed_before-before.ensures.stands
    (subst (λ n. KeepsOthers n table c.unlink.new.self) number kept)
    (ap (λ v. v.items) c.unlink.ensures.removed ∙ c.in_ok-insert.ensures.items ∙ ap (insert table.removed.items before) number)
