use Rattle.std.proofs.Common.{arith}
use Rattle.conf_diff.proofs.{Prelude.{byte_len-chars, chars}, Lengths.head-most}
use Rattle.conf_diff.proofs.text.head_length.Goals as goal

pub returns-clause-length : goal.returns-clause-length
returns-clause-length c =
    let name = chars c.args.name.now in
    let own = byte_len-chars c.args.name.now c.utf8.name in
    omega (arith, c.total.ensures, c.new-bytes.ensures, c.in-Ok.ensures, head-most name, own)

pub returns-clause-small : goal.returns-clause-small
returns-clause-small c =
    let name = chars c.args.name.now in
    let own = byte_len-chars c.args.name.now c.utf8.name in
    omega (arith, c.total.ensures, c.new-bytes.ensures, c.in-Ok.ensures, head-most name, own)
