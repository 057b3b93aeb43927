-- The array and its line feed are put one after the other.
use Rattle.std.{proofs.Common.{[], codes, string_bytes}, specs.Prelude.map}
use Rattle.conf_tools.proofs.Prelude.{text_of, json_texts, encoded_both}
use Rattle.conf_tools.proofs.reads.name_array.Goals as goal

pub returns : goal.returns
returns c =
    encoded_both [] _ (string_bytes c.put_char.new.self) (json_texts (map text_of c.args.names.now))
    (codes "\n") c.in_ok-array.ensures c.in_ok-put_char.ensures
