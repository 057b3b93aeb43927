use Rattle.yaml_docs.proofs.CutLines.{last_ends}
use Rattle.yaml_docs.proofs.cutter.ends_line.Goals as goal

pub returns-in-Some : goal.returns-in-Some
returns-in-Some c = last_ends c.args.bytes.now c.in-Some.byte.now c.in-Some.ensures.value
