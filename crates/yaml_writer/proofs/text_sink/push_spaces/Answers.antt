use Rattle.std.proofs.Common.{◌≡◌, ℕ, ◌+◌, ◌-◌, ◌++◌, take, string_bytes, append_assoc, ap, ◌∙◌, arith}
use Rattle.yaml_writer.proofs.Prelude.{replicate-append-replicate, take-replicate, get_or-replicate, space_char, spaces}
use Rattle.yaml_writer.proofs.text_sink.push_spaces.Goals as goal

pub loop-left-preserved : goal.loop-left-preserved
loop-left-preserved c =
    let left = c.loop-left.left in
    let old = string_bytes c.loop-left.text in
    let split : 64 + (left - 64) ≡ left = omega arith in
    ap (λ bytes. bytes ++ spaces (left - 64)) c.in_ok-push_str.ensures.bytes
    ∙ append_assoc old (spaces 64) (spaces (left - 64))
    ∙ ap (λ bytes. old ++ bytes) (replicate-append-replicate 64 (left - 64) space_char ∙ ap spaces split)
    ∙ c.loop-left.invariant

pub range-requires-clause-end_boundary : goal.range-requires-clause-end_boundary
range-requires-clause-end_boundary c = (
  omega arith,
  λ within wide.
      let space = get_or-replicate {A = ℕ} 64 c.loop-left.left space_char 0 within in absurd (omega (arith, space, wide)),
)

pub returns : goal.returns
returns c =
    let left = c.loop-left.left in
    let same : left - 0 ≡ left = omega arith in
    let prefix : c.range.result.now ≡ spaces left =
    c.range.ensures.value ∙ ap (λ n. take n (spaces 64)) same ∙ take-replicate left 64 space_char (omega arith) in
    c.in_ok-push_str-2.ensures.bytes ∙ ap (λ bytes. string_bytes c.loop-left.text ++ bytes) prefix ∙ c.loop-left.invariant
