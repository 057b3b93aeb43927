use Rattle.std.proofs.Common.{codes, refl, ap, ◌∙◌}
use Rattle.conf_record.{proofs.Prelude.{IfOk-weaker, members_of, ascii}, specs.RecordsRead.{if_good, edit_under}}
use Rattle.conf_record.proofs.command_reader.edit_from.Goals as goal

pub returns-in-Some : goal.returns-in-Some
returns-in-Some c =
    let read = c.in-Some.ensures.read ∙ ap (λ key. edit_under key (members_of c.args.pairs.items)) (ascii (codes "tree") refl) in
    IfOk-weaker c.good_edit.result _ _ (λ edit e. e ∙ ap if_good read) c.good_edit.ensures

pub returns-in-None : goal.returns-in-None
returns-in-None c = ap if_good (c.in-None.ensures.read
    ∙ ap (λ key. edit_under key (members_of c.args.pairs.items)) (ascii (codes "tree") refl))
