use Rattle.std.proofs.Common.{◌++◌, string_bytes, ap, sym, ◌∙◌}
use Rattle.yaml_writer.proofs.Prelude.{encodes-chars}
use Rattle.yaml_writer.proofs.text_sink.StringSink.put_text.Goals as goal

pub returns : goal.returns
returns c =
    c.in_ok-push_str.ensures.bytes
    ∙ ap (λ bytes. string_bytes c.args.self.now ++ bytes) (sym (encodes-chars c.args.text.now c.utf8.text))
