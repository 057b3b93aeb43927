-- The two edits, of which the first deletes at the empty path.
use Rattle.std.{proofs.Common.{[], ◌∷◌, ◌∙◌, ap}, specs.Prelude.map}
use Rattle.conf_tools.proofs.Prelude.{chars, tree_of, batch, delete_at, edit_of, import_as, text_of}
use Rattle.conf_tools.proofs.changes.rename_batch.Goals as goal

pub returns : goal.returns
unfolding chars
returns c =
    ap (λ edits. batch (map edit_of edits)) c.in_ok-edits.ensures.items
    ∙ ap (λ path. batch (delete_at (text_of c.args.name) path ∷ import_as (text_of c.args.to) (tree_of c.args.tree)
    ∷ [])) (ap chars c.new.ensures.bytes)
