use Rattle.std.proofs.Common.{◌∙◌, ap, arith, get_or, ◌≡◌, ◌<◌, ◌≤◌, ℕ, false, length, sym}
use Rattle.yaml_scan.proofs.Prelude.{context_of, FlowContext, outer, inner, block_key, flow_key, safe, first, nat_tests, rest-ascii}
use Rattle.yaml_scan.proofs.signs.safe_at.Goals as goal

no_control : (c : FlowContext) (x : ℕ) → x ≤ 32 → safe c x ≡ false
no_control outer x h = grind (arith, nat_tests)
no_control inner x h = grind (arith, nat_tests)
no_control block_key x h = grind (arith, nat_tests)
no_control flow_key x h = grind (arith, nat_tests)

pub returns-then-bytes-at-le32 : goal.returns-then-bytes-at-le32
returns-then-bytes-at-le32 c =
    let l : c.args.at < length c.args.text.now = omega (arith, c.as_bytes-bytes.ensures.len, c.if-at-bytes.true) in
    let byte = ap (λ t. get_or t c.args.at 0) c.as_bytes-bytes.ensures.value in
    let low : get_or c.args.text.now c.args.at 0 ≤ 32 = omega (arith, byte, c.if-bytes-at-le32.true) in
    sym (ap (first (safe (context_of c.args.context)))
    (rest-ascii c.args.text.now c.args.at c.utf8.text l (omega arith))
    ∙ no_control (context_of c.args.context) (get_or c.args.text.now c.args.at 0) low)
