use Rattle.std.proofs.Common.{◌<◌, arith, ap, sym, ◌∙◌, get_or, length, nat_lt}
use Rattle.yaml_scan.proofs.{Prelude.{white, blind-white}, ByteSigns.past_end, ByteRuns.first_there}
use Rattle.yaml_scan.proofs.signs.white_at.Goals as goal

pub returns-then-at-bytes : goal.returns-then-at-bytes
returns-then-at-bytes c =
    let l : c.args.at < length c.args.text.now = omega (arith, c.as_bytes-bytes.ensures.len, c.if-at-bytes.true) in
    c.is_white.ensures ∙ ap (λ x. white (get_or x c.args.at 0)) c.as_bytes-bytes.ensures.value
    ∙ sym (first_there white c.args.text.now c.args.at blind-white c.utf8.text c.requires l)

pub returns-else-at-bytes : goal.returns-else-at-bytes
returns-else-at-bytes c =
    ap (λ x. nat_lt c.args.at x) c.as_bytes-bytes.ensures.len
    ∙ past_end white c.args.text.now c.args.at (omega (arith, c.as_bytes-bytes.ensures.len, c.if-at-bytes.false))
