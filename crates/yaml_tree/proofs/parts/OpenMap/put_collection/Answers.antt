use Rattle.std.proofs.Common.{Some, sym, ap, ◌∙◌}
use Rattle.yaml_tree.specs.{Kept.value_placed, Kept.members_by, OpenParts.frame_by_next, Frames.at_key}
use Rattle.yaml_tree.proofs.parts.OpenMap.put_collection.Goals as goal

pub returns-then-not-self : goal.returns-then-not-self
returns-then-not-self g c =
    ap (λ b. value_placed g.V.Kept.keep (g.V.Kept.tree c.args.value)
    (frame_by_next (members_by g.V.Kept.tree c.args.self.now.pairs.items) b)) c.if-not-self.true

pub returns : goal.returns
returns g c =
    let tree = g.V.Kept.tree in
    let ms = members_by tree c.args.self.now.pairs.items in
    ap (λ b. value_placed g.V.Kept.keep (tree c.args.value) (frame_by_next ms b)) c.if-not-self.false
    ∙ ap (λ ns. Some (at_key ns)) (sym c.put_value.ensures.pairs)
    ∙ ap (λ b. Some (frame_by_next (members_by tree c.put_value.new.self.pairs.items) b)) (sym c.put_value.ensures.then)
