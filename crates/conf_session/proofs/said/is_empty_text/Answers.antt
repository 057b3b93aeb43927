use Rattle.std.proofs.Common.{rules, ◌≡◌, [], ◌∷◌, ap, sym, ◌∙◌}
use Rattle.conf_session.{proofs.Prelude.{chars-nil, chars, same_text, text, members_of, text_bytes, values}, specs.Said.is_empty_text}
use Rattle.conf_session.proofs.said.is_empty_text.Goals as goal

pub returns-in-Some : goal.returns-in-Some
returns-in-Some c =
    let all : values (members_of c.args.pairs.items) ≡ text (chars (text_bytes c.in-Some.text)) ∷ [] = search rules in
    c.is_same.ensures ∙ ap (λ b. same_text (chars b) (chars [])) c.deref.ensures
    ∙ ap (same_text (chars (text_bytes c.in-Some.text))) chars-nil
    ∙ sym (ap is_empty_text all)
