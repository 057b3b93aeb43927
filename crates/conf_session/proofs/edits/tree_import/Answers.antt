-- The edit of the mapping.
use Rattle.std.proofs.Common.{codes, refl, ap, Some, None, ◌∙◌}
use Rattle.conf_session.proofs.{Prelude.{IfOk-weaker, members_of, ascii, edit_under, edit_seen}, EditLemmas.import_read}
use Rattle.conf_session.proofs.edits.tree_import.Goals as goal

pub members_from-requires : goal.members_from-requires
members_from-requires c = record { kept = c.requires }

pub returns-in-Some : goal.returns-in-Some
returns-in-Some c =
    let ms = members_of c.args.pairs.items in
    let read = c.in-Some.ensures.read ∙ ap (λ key. edit_under key ms) (ascii (codes "tree") refl) in
    IfOk-weaker c.import_with.result _ _
    (λ made is. is ∙ import_read ms (Some (edit_seen c.in-Some.members)) read) c.import_with.ensures

pub returns-in-None : goal.returns-in-None
returns-in-None c =
    let ms = members_of c.args.pairs.items in
    import_read ms None (c.in-None.ensures.read ∙ ap (λ key. edit_under key ms) (ascii (codes "tree") refl))
