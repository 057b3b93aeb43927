-- No file that is replaced is standard input.
use Rattle.std.{proofs.Common.{map, sym, ap, ◌∙◌}, specs.Prelude.is_some}
use Rattle.conf_words.{specs.Invocations.files_are_wrong, proofs.NameLemmas.wrong_if_found}
use Rattle.conf_words.proofs.text_words.why_not.Goals as goal

pub returns-in-InPlace-2 : goal.returns-in-InPlace-2
returns-in-InPlace-2 c =
    ap (λ o. is_some o) c.then_some-in-InPlace-2.ensures
    ∙ wrong_if_found c.in-InPlace-2.comments c.contains.result _ c.args.files.now c.contains.ensures.value
    c.if-is_empty.ensures
    ∙ sym (ap (λ f. files_are_wrong f (map (λ file. file.now) c.args.files.now)) c.in-InPlace-2.is)
