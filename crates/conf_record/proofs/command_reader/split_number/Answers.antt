use Rattle.std.proofs.Common.{codes, refl, sym, ap, ◌∙◌}
use Rattle.conf_record.proofs.Prelude.{chars, same_text, mapping, member, tree_of, members_of, text_bytes, ascii}
use Rattle.conf_record.proofs.TreeLemmas.{record_numbered, record_other, record_textless, record_numberless}
use Rattle.conf_record.specs.RecordsRead.{number_from_digits, record_of}
use Rattle.conf_record.proofs.command_reader.split_number.Goals as goal

pub returns-in_err-key-clause-read : goal.returns-in_err-key-clause-read
unfolding record_of
returns-in_err-key-clause-read c =
    rw c.from_residual.ensures (ap (λ ps. record_of (mapping (members_of ps))) c.in_err-key.ensures)

pub returns-then-not-is_same-clause-read : goal.returns-then-not-is_same-clause-read
returns-then-not-is_same-clause-read c =
    let other = ap (λ bs. same_text (chars bs) (codes "at")) (sym c.deref.ensures)
    ∙ ap (same_text (chars c.deref.result.now)) (sym (ascii (codes "at") refl))
    ∙ sym c.is_same.ensures ∙ c.if-not-is_same.true in
    ap (λ ps. record_of (mapping (members_of ps))) c.in_ok-key.ensures
    ∙ record_other (chars (text_bytes c.in_ok-key.key)) (tree_of c.in_ok-key.value) (members_of c.in_ok-key.rest.items) other

pub returns-in_err-digits-clause-read : goal.returns-in_err-digits-clause-read
returns-in_err-digits-clause-read c =
    rw c.from_residual-in_err-digits.ensures
    (ap (λ ps. record_of (mapping (members_of ps))) c.in_ok-key.ensures
    ∙ record_textless (chars (text_bytes c.in_ok-key.key)) (tree_of c.in_ok-key.value)
    (members_of c.in_ok-key.rest.items) c.in_err-digits.ensures)

pub returns-in_err-number-clause-read : goal.returns-in_err-number-clause-read
returns-in_err-number-clause-read c =
    let key = chars (text_bytes c.in_ok-key.key) in
    let ms = members_of c.in_ok-key.rest.items in
    let digits = text_bytes c.in_ok-digits.digits in
    rw c.from_residual-in_err-number.ensures
    (ap (λ ps. record_of (mapping (members_of ps))) c.in_ok-key.ensures
    ∙ ap (λ t. record_of (mapping (member key t ms))) c.in_ok-digits.ensures
    ∙ record_numberless key (chars digits) ms (ap (λ bs. number_from_digits (chars bs)) (sym c.deref-2.ensures)
    ∙ sym c.in_err-number.ensures.read))

pub returns-clause-read : goal.returns-clause-read
returns-clause-read c =
    let key = chars (text_bytes c.in_ok-key.key) in
    let ms = members_of c.in_ok-key.rest.items in
    let digits = text_bytes c.in_ok-digits.digits in
    let same = ap (λ bs. same_text (chars bs) (codes "at")) (sym c.deref.ensures)
    ∙ ap (same_text (chars c.deref.result.now)) (sym (ascii (codes "at") refl))
    ∙ sym c.is_same.ensures ∙ c.if-not-is_same.false in
    ap (λ ps. record_of (mapping (members_of ps))) c.in_ok-key.ensures
    ∙ ap (λ t. record_of (mapping (member key t ms))) c.in_ok-digits.ensures
    ∙ record_numbered key (chars digits) ms c.in_ok-number.number same
    (ap (λ bs. number_from_digits (chars bs)) (sym c.deref-2.ensures) ∙ sym c.in_ok-number.ensures.read)
