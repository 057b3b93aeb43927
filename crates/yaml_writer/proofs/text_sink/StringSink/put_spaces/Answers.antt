use Rattle.std.proofs.Common.{◌++◌, string_bytes, ap, sym, ◌∙◌}
use Rattle.yaml_writer.proofs.{Prelude.on_ok_weaker, SpacesLemmas.encoded_spaces}
use Rattle.yaml_writer.proofs.text_sink.StringSink.put_spaces.Goals as goal

pub returns : goal.returns
returns c =
    on_ok_weaker c.push_spaces.result
    (λ pushed. pushed ∙ ap (λ bytes. string_bytes c.args.self.now ++ bytes) (sym (encoded_spaces c.args.count)))
    c.push_spaces.ensures
