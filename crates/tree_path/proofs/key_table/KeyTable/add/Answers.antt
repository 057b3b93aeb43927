use Rattle.std.proofs.Common.{◌≡◌, [], ◌∷◌, ◌++◌, suc, length, set, refl, ap, ◌∙◌, arith}
use Rattle.tree_path.proofs.{Prelude.{get_or_default_zero, chars}, TableLemmas.lists-added}
use Rattle.tree_path.proofs.key_table.KeyTable.add.Goals as goal

pub returns : goal.returns
returns c = λ keys lists.
    let heads = c.args.self.now.newest.items in
    let bucket = c.bucket-bucket.result in
    let inside = c.bucket-bucket.ensures.inside in
    let long = c.len.ensures ∙ c.args.self.now.before.ok.0 in
    let number : c.in-Ok.link ≡ suc (length c.args.self.now.before.items) = omega (arith, c.in-Ok.ensures, long) in
    let head = c.index.ensures ∙ get_or_default_zero heads bucket c.index.result.now inside in
    lists-added c.args.self.now _ keys (chars c.args.key.now) bucket lists c.bucket-bucket.ensures.bucket inside
    (ap (set heads bucket) number)
    (c.in_ok-push.ensures.items ∙ ap (λ n. c.args.self.now.before.items ++ n ∷ []) head) refl
