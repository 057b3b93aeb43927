use Rattle.std.{proofs.Common.{◌≡◌, sym, ap, ◌∙◌, subst}, specs.Prelude.{IfErr, IfOk}}
use Rattle.conf_session.proofs.{Prelude.{chars, text_bytes, command_of, IsImportOf, RefusesText}, ConditionalLemmas.reads-import}
use Rattle.conf_session.specs.{Requests.{MeansRequest, changing}, ReadChanges.ReadsAsked, Said.{import_text, single_part, part_seen}}
use Rattle.conf_session.proofs.reading.read_single.Goals as goal

pub returns-in-Import : goal.returns-in-Import
returns-in-Import c =
    let name = chars c.deref.result.now in
    let source = c.deref-in-Import.result.now in
    let same : single_part (import_text name (chars source)) ≡ single_part (part_seen c.args.part) =
    ap (λ b. single_part (import_text (chars b) (chars source))) c.deref.ensures
    ∙ ap (λ b. single_part (import_text (chars (text_bytes c.in-Import.name)) (chars b))) c.deref-in-Import.ensures
    ∙ sym (ap (λ p. single_part (part_seen p)) c.in-Import.is) in
    subst (λ s. ReadsAsked (MeansRequest s) c.import_command.result) same
    (reads-import name source c.deref-in-Import.utf8 c.import_command.result
    (subst (λ b. IfOk c.import_command.result (λ command. IsImportOf name b (command_of command)))
    c.as_bytes.ensures.value c.import_command.ensures.ok)
    (subst (λ b. IfErr c.import_command.result (RefusesText name b)) c.as_bytes.ensures.value c.import_command.ensures.refused))

pub returns-in-Plain : goal.returns-in-Plain
returns-in-Plain c = record {
  asked = λ request is. subst (λ p. MeansRequest (single_part (part_seen p)) request) (sym c.in-Plain.is) (is ∙ ap changing c.from.ensures);
  memory = tt;
}
