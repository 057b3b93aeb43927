use Rattle.std.proofs.Common.{◌<◌, arith, ap, sym, ◌∙◌, get_or, length}
use Rattle.yaml_scan.{proofs.{Prelude.nb, ByteRuns.{first_at_end, nb_by_byte}, LineRuns.no_nb_by_byte}, specs.Classes.line_ascii}
use Rattle.yaml_scan.proofs.runs.nb_at.Goals as goal

pub returns-then-at-bytes-clause-none : goal.returns-then-at-bytes-clause-none
returns-then-at-bytes-clause-none c = first_at_end nb c.args.text.now c.args.at (omega (arith, c.as_bytes-bytes.ensures.len))

pub returns-then-is_line_byte-clause-found : goal.returns-then-is_line_byte-clause-found
returns-then-is_line_byte-clause-found c =
    let within = c.requires.0 in
    let l : c.args.at < length c.args.text.now = omega (arith, c.as_bytes-bytes.ensures.len, c.if-at-bytes.false) in
    nb_by_byte c.args.text.now c.args.at c.utf8.text l
    (ap (λ x. line_ascii (get_or x c.args.at 0)) (sym c.as_bytes-bytes.ensures.value) ∙ sym c.is_line_byte.ensures
    ∙ c.if-is_line_byte.true)

pub returns-else-is_line_byte-clause-none : goal.returns-else-is_line_byte-clause-none
returns-else-is_line_byte-clause-none c =
    let within = c.requires.0 in
    let l : c.args.at < length c.args.text.now = omega (arith, c.as_bytes-bytes.ensures.len, c.if-at-bytes.false) in
    let byte = ap (λ x. get_or x c.args.at 0) c.as_bytes-bytes.ensures.value in
    no_nb_by_byte c.args.text.now c.args.at c.utf8.text l (omega (arith, byte, c.if-bytes-at-lt128.true))
    (ap line_ascii (sym byte) ∙ (sym c.is_line_byte.ensures ∙ c.if-is_line_byte.false))
