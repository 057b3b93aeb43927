use Rattle.yaml_data.proofs.Prelude.{IsUtf8-had}
use Rattle.yaml_data.proofs.short.Short.as_str.Goals as goal

pub from_utf8_unchecked-requires : goal.from_utf8_unchecked-requires
from_utf8_unchecked-requires c = IsUtf8-had _ c.args.self.now.utf8
