use Rattle.std.proofs.Common.{codes, refl, ap, Some, None, ◌∙◌}
use Rattle.conf_session.proofs.{Prelude.{IfOk-weaker, members_of, ascii, edit_under, edit_seen}, SaidLemmas.part_read}
use Rattle.conf_session.proofs.parts.part_from.Goals as goal

pub members_from-requires : goal.members_from-requires
members_from-requires c = record { kept = c.requires }

pub returns-in-Some : goal.returns-in-Some
returns-in-Some c =
    let ms = members_of c.args.pairs.items in
    let read = c.in-Some.ensures.read ∙ ap (λ key. edit_under key ms) (ascii (codes "text") refl) in
    IfOk-weaker c.part_with.result _ _ (λ made is. is ∙ part_read ms (Some (edit_seen c.in-Some.members)) read) c.part_with.ensures

pub returns-in-None : goal.returns-in-None
returns-in-None c =
    let ms = members_of c.args.pairs.items in
    part_read ms None (c.in-None.ensures.read ∙ ap (λ key. edit_under key ms) (ascii (codes "text") refl))
