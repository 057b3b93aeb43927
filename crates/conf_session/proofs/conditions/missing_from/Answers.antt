use Rattle.std.proofs.Common.{rules, ◌≡◌, [], ◌∷◌, Some, ap, sym, ◌∙◌}
use Rattle.conf_session.proofs.Prelude.{chars-nil, chars, text, members_of, text_bytes, values, absent_at}
use Rattle.conf_session.specs.SaidConditions.{missing_in}
use Rattle.conf_session.proofs.conditions.missing_from.Goals as goal

pub returns-clause-read : goal.returns-clause-read
returns-clause-read c =
    let name = chars (text_bytes c.in_ok-name.name) in
    let all : values (members_of c.args.pairs.items) ≡ text (chars (text_bytes c.in_ok-name.name)) ∷ [] = search rules in
    ap (λ b. Some (absent_at name (chars b))) c.empty-path.ensures ∙ ap (λ p. Some (absent_at name p)) chars-nil ∙ sym (ap missing_in all)
