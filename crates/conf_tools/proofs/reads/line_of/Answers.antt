-- The text and its line feed are put one after the other.
use Rattle.std.proofs.Common.{[], ◌∷◌, ◌++◌, ap, ◌∙◌, string_bytes, encode_utf8_all}
use Rattle.conf_tools.proofs.Prelude.{chars, encoded_both}
use Rattle.conf_tools.proofs.reads.line_of.Goals as goal

pub returns : goal.returns
returns c =
    encoded_both (string_bytes c.new-line.result) (string_bytes c.put_text.new.self)
    (string_bytes c.put_char.new.self) (chars c.args.text.now) (10 ∷ [])
    c.in_ok-put_text.ensures c.in_ok-put_char.ensures
    ∙ ap (λ bytes. bytes ++ encode_utf8_all (chars c.args.text.now ++ 10 ∷ [])) c.new-line.ensures.bytes
