-- The parts of the path, one after the other.
use Rattle.std.specs.Prelude.{string_bytes}
use Rattle.conf_tools.proofs.ConfigFileLemmas.{path-made}
use Rattle.conf_tools.proofs.config_files.file_path.Goals as goal

pub returns : goal.returns
unfolding lib.Utf8.encode
returns c =
    path-made c.args.form c.args.into.now c.args.name.now (string_bytes c.in_ok-path.path) (string_bytes c.push.new.self)
    (string_bytes c.push_str.new.self) (string_bytes c.push_str-2.new.self) c.file_ending.result.now c.utf8.name
    c.in_ok-path.ensures.ok c.in_ok-push.ensures.bytes c.in_ok-push_str.ensures.bytes c.in_ok-push_str-2.ensures.bytes
    c.file_ending.ensures
