use Rattle.std.proofs.Common.{◌≡◌, true, length, get_or, Some, sym, ap, subst, ◌∙◌, arith}
use Rattle.tree_path.proofs.{Prelude.{get_or_default_zero, chars}, IndexLemmas.key-listed, StepLaws.none-other, TableLemmas.chain-start}
use Rattle.tree_path.specs.{Steps.key_place, Tables.{chain_of, on_chain, place_at}}
use Rattle.tree_path.proofs.key_table.KeyTable.find.Goals as goal

pub loop-link-init : goal.loop-link-init
loop-link-init c = λ n on is.
    let table = c.args.self.now in
    let heads = table.newest.items in
    let links = table.before.items in
    let key = chars c.args.key.now in
    let head : c.index-link.result.now ≡ chain_of heads key =
    c.index-link.ensures ∙ get_or_default_zero heads c.bucket.result c.index-link.result.now c.bucket.ensures.inside
    ∙ ap (λ b. get_or heads b 0) c.bucket.ensures.bucket in
    subst (λ l. on_chain links l l n ≡ true) (sym head) (chain-start links (length links) (chain_of heads key) n on)

pub loop-link-preserved : goal.loop-link-preserved
loop-link-preserved c = λ n on is.
    let table = c.args.self.now in
    let placed = c.place_of-place.ensures (length table.before.items) c.requires.lists.rise in
    c.link_after-link.ensures.kept n (c.loop-link.invariant n on is)
    (λ same. let there = c.is_at.ensures.other (is ∙ ap Some (ap (place_at table.removed.items) same ∙ sym placed)) in
    let not_there = c.if-is_at.false in cc)

pub returns : goal.returns
returns c =
    let table = c.args.self.now in
    let key = chars c.args.key.now in
    sym (none-other (key_place key c.args.pairs.now) (λ i is.
    let h = key-listed table c.args.pairs.now key i c.requires.lists is in
    let old = c.loop-link.invariant h.0 h.1 (is ∙ ap Some (sym h.2)) in
    let zero : c.loop-link.link ≡ 0 = omega (arith, c.loop-link-test.false) in
    let none = subst (λ l. on_chain table.before.items l l h.0 ≡ true) zero old in cc))
