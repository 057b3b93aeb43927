use Rattle.std.proofs.Common.{◌<◌, ◌∙◌, ap, arith, get_or, length, sym}
use Rattle.yaml_scan.proofs.Prelude.{ns, rest-ascii, first}
use Rattle.yaml_scan.proofs.signs.ns_at.Goals as goal

pub returns-then-bytes-at-lt128 : goal.returns-then-bytes-at-lt128
returns-then-bytes-at-lt128 c =
    let l : c.args.at < length c.args.text.now = omega (arith, c.as_bytes-bytes.ensures.len, c.if-at-bytes.true) in
    let byte = ap (λ t. get_or t c.args.at 0) c.as_bytes-bytes.ensures.value in
    c.is_ns_byte.ensures ∙ ap ns byte ∙ sym (ap (first ns)
    (rest-ascii c.args.text.now c.args.at c.utf8.text l (omega (arith, byte, c.if-bytes-at-lt128.true))))
