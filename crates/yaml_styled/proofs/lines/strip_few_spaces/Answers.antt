use Rattle.std.proofs.Common.{◌≡◌, ◌<◌, ◌≤◌, ℕ, true, get_or, length, ap, ap₂, sym, ◌++◌, ◌∙◌, arith, take-append-drop}
use Rattle.yaml_styled.proofs.{Prelude.{space, encoded_spaces}, RunLemmas.run_spaces}
use Rattle.yaml_styled.proofs.lines.strip_few_spaces.Goals as goal

pub returns : goal.returns
returns c =
    let text = c.args.text.now in
    let count = c.args.count in
    let same = c.as_bytes-bytes.ensures.value in
    let run = c.run_in_block.ensures in
    let long = ap length same in
    let within : count ≤ length text = omega (arith, run.within, c.if-run_in_block-count.false, c.as_bytes-bytes.ensures.len, long) in
    let passes : (k : ℕ) → k < count → space (get_or text k 0) ≡ true =
    λ k below. ap (λ bytes. space (get_or bytes k 0)) (sym same)
    ∙ run.passes k (omega arith) (omega (arith, below, c.if-run_in_block-count.false)) in
    sym (take-append-drop count text)
    ∙ ap₂ (λ first rest. first ++ rest) (run_spaces text count within passes ∙ sym (encoded_spaces count))
    (sym c.in_ok-rest.ensures.back)
