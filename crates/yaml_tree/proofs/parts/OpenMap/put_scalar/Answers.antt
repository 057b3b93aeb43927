use Rattle.std.proofs.Common.{[], Some, sym, ap, ap₂, ◌∙◌}
use Rattle.yaml_tree.{proofs.{Prelude.{cow_str_bytes, chars}, PartLemmas.members_by-and}, specs.Kept.{scalar_placed, with_last, members_by}}
use Rattle.yaml_tree.specs.{OpenParts.frame_by_next, Frames.{at_key, at_value, members_and}}
use Rattle.yaml_tree.proofs.parts.OpenMap.put_scalar.Goals as goal

pub returns-then-self : goal.returns-then-self
returns-then-self g c =
    let tree = g.V.Kept.tree in
    let ms = members_by tree c.args.self.now.pairs.items in
    ap (λ b. scalar_placed g.V.Kept.keep (chars (cow_str_bytes c.args.value)) (frame_by_next ms b)) c.if-self.true
    ∙ ap (λ t. Some (at_key (with_last ms t))) (sym c.in_ok-value.ensures)
    ∙ ap (λ ns. Some (at_key ns)) (sym c.put_value.ensures.pairs)
    ∙ ap (λ b. Some (frame_by_next (members_by tree c.put_value.new.self.pairs.items) b)) (sym c.put_value.ensures.then)

pub returns : goal.returns
returns g c =
    let tree = g.V.Kept.tree in
    let pairs = c.args.self.now.pairs.items in
    ap (λ b. scalar_placed g.V.Kept.keep (chars (cow_str_bytes c.args.value)) (frame_by_next (members_by tree pairs) b)) c.if-self.false
    ∙ ap (λ ms. Some (at_value ms []))
    (ap₂ (λ key t. members_and (members_by tree pairs) (chars key) t) (sym c.in_ok-key.ensures) (sym c.placeholder.ensures)
    ∙ sym (members_by-and tree pairs (c.in_ok-key.key, c.placeholder.result)) ∙ ap (members_by tree) (sym c.in_ok-push.ensures.items))
