use Rattle.yaml_writer.proofs.ByteTable.{marked_is}
use Rattle.yaml_writer.proofs.bytes.WordBytesByteClass.has.Goals as goal

pub returns : goal.returns
returns c = marked_is c.args.byte c.ranges.byte.fits
