use Rattle.std.proofs.Common.{◌≡◌, ap}
use Rattle.conf_session.{proofs.Prelude.{chars, text_bytes}, specs.Said.import_text}
use Rattle.conf_session.proofs.part_lines.made_import.Goals as goal

pub returns : goal.returns
returns c =
    let name_is : chars (text_bytes c.in_ok-name.name) ≡ chars c.args.name.now = ap chars c.in_ok-name.ensures in
    let text_is : chars (text_bytes c.in_ok-text.text) ≡ chars c.args.text.now = ap chars c.in_ok-text.ensures in
    λ i. import_text (name_is i) (text_is i)
