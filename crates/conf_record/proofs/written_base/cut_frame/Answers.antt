use Rattle.std.proofs.Common.{◌≡◌, ◌++◌, ◌∷◌, [], codes, decimal, encode_utf8_all, Some, append_assoc, ap, ◌∙◌, lit<, rules}
use Rattle.conf_record.{proofs.Prelude.strip_suffix_char, specs.Formats.format_start}
use Rattle.conf_record.proofs.written_base.cut_frame.Goals as goal

pub returns : goal.returns
returns c =
    let start = format_start c.in_ok-format.format in
    let after = c.in_ok-line.after.now in
    let lines = c.in_ok-lines.lines.now in
    let digits = c.in_ok-digits.digits in
    let quoted = strip_suffix_char 34 c.in_ok-line.line.now (Some digits) c.in_ok-digits.ensures.cases (lit< tt) in
    let cut : after ≡ codes "configs:\n" ++ lines = search rules in
    c.in_ok-format.ensures
    ∙ ap (λ bs. start ++ bs) (c.in_ok-line.ensures
    ∙ ap (λ bs. codes "at: \"" ++ (bs ++ 10 ∷ after)) quoted
    ∙ ap (λ bs. codes "at: \"" ++ bs) (append_assoc digits.now (34 ∷ []) (10 ∷ after))
    ∙ ap (λ bs. codes "at: \"" ++ (bs ++ 34 ∷ 10 ∷ after)) c.in_ok-count.ensures.spelled
    ∙ ap (λ bs. codes "at: \"" ++ (encode_utf8_all (decimal c.in_ok-count.count) ++ 34 ∷ 10 ∷ bs)) cut)
