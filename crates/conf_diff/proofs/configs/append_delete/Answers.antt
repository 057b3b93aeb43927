use Rattle.std.proofs.Common.{◌∷◌, ◌++◌, [], map, ap, ap₂, ◌∙◌}
use Rattle.conf_diff.proofs.Prelude.{chars, chars-nil, delete_at, edit_of, map-append}
use Rattle.conf_diff.proofs.configs.append_delete.Goals as goal

pub returns : goal.returns
returns c =
    let old = c.args.edits.now.items in
    ap (map edit_of) c.in_ok-push.ensures.items ∙ map-append edit_of old _
    ∙ ap₂ (λ name path. map edit_of old ++ delete_at name path ∷ []) (ap chars c.in_ok-name.ensures.ok)
    (ap chars c.new-path.ensures.bytes ∙ chars-nil)
