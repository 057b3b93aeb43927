use Rattle.std.proofs.Common.{◌≡◌, ◌<◌, ◌⊎◌, ap, arith, get_or, inl, inr, length, sym}
use Rattle.yaml_block_scalars.proofs.Prelude.{IsCharBoundary-after_ascii}
use Rattle.yaml_block_scalars.specs.{Meant.chomping_of, HeaderPlaces.IsHeaderEnd}
use Rattle.yaml_block_scalars.proofs.FirstLines.{header_at_end, header_open, header_there, header_unsigned}
use Rattle.yaml_block_scalars.proofs.first_line.header.Goals.{else-sign-ne124-via-then-sign-ne124+else-sign-ne62}
use Rattle.yaml_block_scalars.proofs.first_line.header.Goals.{else-sign-ne124-via-else-sign-ne124}
use Rattle.yaml_block_scalars.proofs.first_line.header.Goals as goal

pub returns-then-at-bytes-clause-none : goal.returns-then-at-bytes-clause-none
returns-then-at-bytes-clause-none c = header_at_end c.args.text.now c.args.at (omega (arith, c.as_bytes-bytes.ensures.len))

pub returns-then-sign-ne62-clause-none : goal.returns-then-sign-ne62-clause-none
returns-then-sign-ne62-clause-none c =
    let within = c.requires.0 in
    let l : c.args.at < length c.args.text.now = omega (arith, c.as_bytes-bytes.ensures.len, c.if-at-bytes.false) in
    header_unsigned c.args.text.now c.args.at c.utf8.text c.requires l
    (rw c.as_bytes-bytes.ensures.value at c.if-sign-ne124.true) (rw c.as_bytes-bytes.ensures.value at c.if-sign-ne62.true)

pub signs_at-digit-requires : goal.signs_at-digit-requires
signs_at-digit-requires c =
    let within = c.requires.0 in
    let l : c.args.at < length c.args.text.now = omega (arith, c.as_bytes-bytes.ensures.len, c.if-at-bytes.false) in
    let sign : (get_or c.as_bytes-bytes.result.now c.args.at 0 ≡ 124)
    ⊎ (get_or c.as_bytes-bytes.result.now c.args.at 0 ≡ 62) = elim c.else-sign-ne124.branch [
      | else-sign-ne124-via-then-sign-ne124+else-sign-ne62 w ↦ inr w.if-sign-ne62.false
      | else-sign-ne124-via-else-sign-ne124 w ↦ inl w.if-sign-ne124.false
    ] in
    let low : get_or c.args.text.now c.args.at 0 < 128 = elim sign [
      | inl e ↦ omega (arith, ap (λ x. get_or x c.args.at 0) c.as_bytes-bytes.ensures.value)
      | inr e ↦ omega (arith, ap (λ x. get_or x c.args.at 0) c.as_bytes-bytes.ensures.value)
    ] in
    IsCharBoundary-after_ascii c.args.text.now c.args.at c.utf8.text l low

pub returns-in_default-clause-none : goal.returns-in_default-clause-none
returns-in_default-clause-none c =
    let within = c.requires.0 in
    let l : c.args.at < length c.args.text.now = omega (arith, c.as_bytes-bytes.ensures.len, c.if-at-bytes.false) in
    let sign : (get_or c.as_bytes-bytes.result.now c.args.at 0 ≡ 124)
    ⊎ (get_or c.as_bytes-bytes.result.now c.args.at 0 ≡ 62) = elim c.else-sign-ne124.branch [
      | else-sign-ne124-via-then-sign-ne124+else-sign-ne62 w ↦ inr w.if-sign-ne62.false
      | else-sign-ne124-via-else-sign-ne124 w ↦ inl w.if-sign-ne124.false
    ] in
    let byte = ap (λ x. get_or x c.args.at 0) (sym c.as_bytes-bytes.ensures.value) in
    header_open c.args.text.now c.args.at c.signs_at-digit.result.2
    (get_or c.as_bytes-bytes.result.now c.args.at 0) c.signs_at-digit.result.0 (chomping_of c.signs_at-digit.result.1)
    c.utf8.text l byte sign c.signs_at-digit.ensures c.in_default.ensures.none

pub returns-clause-found : goal.returns-clause-found
returns-clause-found c =
    let within = c.requires.0 in
    let l : c.args.at < length c.args.text.now = omega (arith, c.as_bytes-bytes.ensures.len, c.if-at-bytes.false) in
    let sign : (get_or c.as_bytes-bytes.result.now c.args.at 0 ≡ 124)
    ⊎ (get_or c.as_bytes-bytes.result.now c.args.at 0 ≡ 62) = elim c.else-sign-ne124.branch [
      | else-sign-ne124-via-then-sign-ne124+else-sign-ne62 w ↦ inr w.if-sign-ne62.false
      | else-sign-ne124-via-else-sign-ne124 w ↦ inl w.if-sign-ne124.false
    ] in
    let byte = ap (λ x. get_or x c.args.at 0) (sym c.as_bytes-bytes.ensures.value) in
    let signs = c.signs_at-digit.ensures.above in
    let end : IsHeaderEnd c.args.text.now c.signs_at-digit.result.2 c.in-Some.end = c.in-Some.ensures.found in
    let further = end.above in
    record {
      above = omega arith;
      boundary = end.boundary;
      says = header_there c.args.text.now c.args.at c.signs_at-digit.result.2 c.in-Some.end
          (get_or c.as_bytes-bytes.result.now c.args.at 0) c.signs_at-digit.result.0 (chomping_of c.signs_at-digit.result.1)
          c.utf8.text l byte sign c.signs_at-digit.ensures c.in-Some.ensures.found;
    }

pub returns-clause-line : goal.returns-clause-line
returns-clause-line c =
    let end : IsHeaderEnd c.args.text.now c.signs_at-digit.result.2 c.in-Some.end = c.in-Some.ensures.found in
    end.starts
