use Rattle.std.proofs.Common.{rules}
use Rattle.yaml_scan.proofs.Prelude.{chars_from_encodes}
use Rattle.yaml_scan.proofs.breaks.count_chars.Goals as goal

pub returns : goal.returns
returns c = search (rules, chars_from_encodes)
