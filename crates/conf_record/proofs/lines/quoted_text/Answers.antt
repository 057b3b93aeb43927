use Rattle.std.proofs.Common.{Some, sym, ap, ◌∙◌, lit<}
use Rattle.conf_record.proofs.{Prelude.{strip_suffix_char, list_all, stands_alone}, WrittenLemmas.quoted_line}
use Rattle.conf_record.proofs.lines.quoted_text.Goals as goal

pub returns-in-Double : goal.returns-in-Double
returns-in-Double c =
    quoted_line c.args.quoted.now c.in_ok-text.text.now
    (strip_suffix_char 34 c.args.quoted.now (Some c.in_ok-text.text) c.in_ok-text.ensures.cases (lit< tt))
    (ap (list_all stands_alone) (sym c.as_bytes.ensures.value) ∙ sym c.stand_alone.ensures ∙ c.if-not-stand_alone.false)
    c.in-Double.ensures
