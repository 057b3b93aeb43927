use Rattle.std.proofs.Common.{◌<◌, arith, ap, sym, ◌∙◌, get_or, length, nat_lt}
use Rattle.yaml_scan.{specs.ScanPlaces.is_sign, proofs.{ByteRuns.first_there, ByteSigns.{blind-is_sign, past_end}}}
use Rattle.yaml_scan.proofs.signs.stands_at.Goals as goal

pub returns-then-at-bytes : goal.returns-then-at-bytes
returns-then-at-bytes c =
    let l : c.args.at < length c.args.text.now = omega (arith, c.as_bytes-bytes.ensures.len, c.if-at-bytes.true) in
    ap (λ x. is_sign c.args.character (get_or x c.args.at 0)) c.as_bytes-bytes.ensures.value
    ∙ sym (first_there (is_sign c.args.character) c.args.text.now c.args.at
    (blind-is_sign c.args.character c.requires.ascii) c.utf8.text c.requires.at l)

pub returns-else-at-bytes : goal.returns-else-at-bytes
returns-else-at-bytes c =
    ap (λ x. nat_lt c.args.at x) c.as_bytes-bytes.ensures.len
    ∙ past_end (is_sign c.args.character) c.args.text.now c.args.at (omega (arith, c.as_bytes-bytes.ensures.len, c.if-at-bytes.false))
