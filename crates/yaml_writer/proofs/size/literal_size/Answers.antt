use Rattle.std.proofs.Common.{true, sym, ap, arith}
use Rattle.yaml_writer.proofs.Prelude.{eqb-true, eqb-false, chars, chars_empty, chars_filled, literal_lines, byte_len}
use Rattle.yaml_writer.proofs.{LiteralLemmas.literal_last, LiteralLemmas.after_IsUtf8, SizeLaws.literal_law, SizeSums.literal_step}
use Rattle.yaml_writer.proofs.size.literal_size.Goals as goal

pub plus-size-requires-clause-lines : goal.plus-size-requires-clause-lines
plus-size-requires-clause-lines c =
    let l = c.loop-line in
    omega (
      arith,
      l.invariant.1,
      l.invariant.2,
      literal_law 2 true (chars l.rest.now),
      c.requires.short,
      c.requires.header,
      c.line_size.ensures.small.1,
    )

pub loop-line-preserved : goal.loop-line-preserved
loop-line-preserved c =
    let l = c.loop-line in
    let rest = l.rest.now in
    let line = c.in-Some.line.now in
    let after = c.in-Some.after.now in
    let utf8 = l.invariant.0 in
    let cut = c.in-Some.ensures.0 in
    let one = c.in-Some.ensures.1 in
    let bytes = c.plus-size.ensures.bytes in
    let lines = c.plus-size.ensures.lines in (
      after_IsUtf8 rest line after utf8 cut,
      omega (arith, l.invariant.1, bytes, c.line_size.ensures.bytes, literal_step 2 rest line after utf8 cut one),
      omega (arith, l.invariant.2, bytes, lines, c.line_size.ensures.lines, literal_step 0 rest line after utf8 cut one),
    )

pub returns-then-is_empty-clause-bytes : goal.returns-then-is_empty-clause-bytes
returns-then-is_empty-clause-bytes c =
    let l = c.loop-line in
    let empty = chars_empty l.rest.now (eqb-true _ _ (sym c.if-is_empty.ensures)) in
    omega (arith, l.invariant.1, ap (λ cs. byte_len (literal_lines 2 true cs)) empty)

pub returns-then-is_empty-clause-lines : goal.returns-then-is_empty-clause-lines
returns-then-is_empty-clause-lines c =
    let l = c.loop-line in
    let empty = chars_empty l.rest.now (eqb-true _ _ (sym c.if-is_empty.ensures)) in
    omega (
      arith,
      l.invariant.1,
      l.invariant.2,
      ap (λ cs. byte_len (literal_lines 2 true cs)) empty,
      ap (λ cs. byte_len (literal_lines 0 true cs)) empty,
      literal_law 2 true (chars c.args.text.now),
    )

pub plus-requires-clause-lines : goal.plus-requires-clause-lines
plus-requires-clause-lines c =
    let l = c.loop-line in
    omega (
      arith,
      l.invariant.1,
      l.invariant.2,
      literal_law 2 true (chars l.rest.now),
      c.requires.short,
      c.requires.header,
      c.line_size-2.ensures.small.1,
    )

pub returns-clause-bytes : goal.returns-clause-bytes
returns-clause-bytes c =
    let l = c.loop-line in
    let rest = l.rest.now in
    let filled = chars_filled rest l.invariant.0 (eqb-false _ _ (sym c.if-is_empty.ensures)) in
    let last = ap byte_len (literal_last 2 (chars rest) c.in_default.ensures filled) in
    omega (arith, l.invariant.1, c.plus.ensures.bytes, c.line_size-2.ensures.bytes, last)

pub returns-clause-lines : goal.returns-clause-lines
returns-clause-lines c =
    let l = c.loop-line in
    let rest = l.rest.now in
    let filled = chars_filled rest l.invariant.0 (eqb-false _ _ (sym c.if-is_empty.ensures)) in
    omega (
      arith,
      l.invariant.1,
      l.invariant.2,
      c.plus.ensures.bytes,
      c.plus.ensures.lines,
      c.line_size-2.ensures.bytes,
      c.line_size-2.ensures.lines,
      ap byte_len (literal_last 2 (chars rest) c.in_default.ensures filled),
      ap byte_len (literal_last 0 (chars rest) c.in_default.ensures filled),
      literal_law 2 true (chars c.args.text.now),
    )
