use Rattle.std.proofs.Common.{◌++◌, encode_utf8_all, ap, ◌∙◌}
use Rattle.conf_record.specs.BaseStart.{base_start}
use Rattle.conf_record.proofs.base_writer.base_start.Goals as goal

pub returns : goal.returns
returns c =
    let start = base_start c.args.format c.args.state.now in
    c.in_ok-write_start.ensures ∙ ap (λ prefix. prefix ++ encode_utf8_all start) c.new-text.ensures.bytes
