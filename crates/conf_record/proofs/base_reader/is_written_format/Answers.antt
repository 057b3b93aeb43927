use Rattle.std.proofs.Common.{◌≡◌, ◌||◌, true, false, codes, refl, ap, sym, ◌∙◌}
use Rattle.conf_record.proofs.Prelude.{chars, same_text, ascii}
use Rattle.conf_record.proofs.base_reader.is_written_format.Goals as goal

pub returns-then-is_same : goal.returns-then-is_same
returns-then-is_same c =
    let mark = chars c.args.text.now in
    let first : same_text mark (codes "confstore-2") ≡ true =
    ap (same_text mark) (sym (ascii (codes "confstore-2") refl)) ∙ sym c.is_same.ensures ∙ c.if-is_same.true in
    c.if-is_same.true ∙ sym (ap (λ b. b || same_text mark (codes "confstore-3")) first)

pub returns-else-is_same : goal.returns-else-is_same
returns-else-is_same c =
    let mark = chars c.args.text.now in
    let first : same_text mark (codes "confstore-2") ≡ false =
    ap (same_text mark) (sym (ascii (codes "confstore-2") refl)) ∙ sym c.is_same.ensures ∙ c.if-is_same.false in
    c.is_same-else-is_same.ensures ∙ ap (same_text mark) (ascii (codes "confstore-3") refl)
    ∙ sym (ap (λ b. b || same_text mark (codes "confstore-3")) first)
