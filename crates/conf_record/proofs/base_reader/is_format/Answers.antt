use Rattle.std.proofs.Common.{◌≡◌, ◌||◌, true, false, codes, refl, ap, sym, ◌∙◌}
use Rattle.conf_record.{proofs.Prelude.{chars, same_text, ascii}, specs.RecordsRead.is_written_format}
use Rattle.conf_record.proofs.base_reader.is_format.Goals as goal

pub returns-then-is_same : goal.returns-then-is_same
returns-then-is_same c =
    let mark = chars c.args.text.now in
    let first : same_text mark (codes "confstore-1") ≡ true =
    ap (same_text mark) (sym (ascii (codes "confstore-1") refl)) ∙ sym c.is_same.ensures ∙ c.if-is_same.true in
    c.if-is_same.true ∙ sym (ap (λ b. b || is_written_format mark) first)

pub returns-else-is_same : goal.returns-else-is_same
returns-else-is_same c =
    let mark = chars c.args.text.now in
    let first : same_text mark (codes "confstore-1") ≡ false =
    ap (same_text mark) (sym (ascii (codes "confstore-1") refl)) ∙ sym c.is_same.ensures ∙ c.if-is_same.false in
    c.is_written_format.ensures ∙ sym (ap (λ b. b || is_written_format mark) first)
