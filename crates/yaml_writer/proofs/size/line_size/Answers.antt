use Rattle.std.proofs.Common.{◌+◌, sym, ap, arith}
use Rattle.yaml_writer.proofs.{Prelude.{eqb-true, eqb-false, chars, chars_empty, chars_filled, byte_len}, ByteLemmas.byte_len-chars}
use Rattle.yaml_writer.{proofs.SizeSums.line_bytes, specs.Lines.line_text}
use Rattle.yaml_writer.proofs.size.line_size.Goals as goal

pub returns-then-is_empty-clause-bytes : goal.returns-then-is_empty-clause-bytes
returns-then-is_empty-clause-bytes c =
    sym (ap (λ cs. byte_len (line_text 2 cs)) (chars_empty c.args.line.now (eqb-true _ _ (sym c.if-is_empty.ensures))))

pub returns-then-is_empty-clause-lines : goal.returns-then-is_empty-clause-lines
returns-then-is_empty-clause-lines c =
    sym (ap (λ cs. byte_len (line_text 0 cs) + 0) (chars_empty c.args.line.now (eqb-true _ _ (sym c.if-is_empty.ensures))))

pub returns-clause-bytes : goal.returns-clause-bytes
returns-clause-bytes c =
    let line = c.args.line.now in
    let filled = chars_filled line c.utf8.line (eqb-false _ _ (sym c.if-is_empty.ensures)) in
    omega (arith, line_bytes 2 (chars line) filled, byte_len-chars line c.utf8.line)

pub returns-clause-lines : goal.returns-clause-lines
returns-clause-lines c =
    let line = c.args.line.now in
    let filled = chars_filled line c.utf8.line (eqb-false _ _ (sym c.if-is_empty.ensures)) in
    omega (arith, line_bytes 0 (chars line) filled, byte_len-chars line c.utf8.line)
