use Rattle.std.proofs.Common.{codes, true, subst, sym, ap, ◌∙◌, arith}
use Rattle.yaml_writer.proofs.{Prelude.{chars, literal_lines, in_double_quotes, byte_len}, ByteLemmas.byte_len-chars, SizeLaws.sized}
use Rattle.yaml_writer.proofs.{SizeSums.{IsLiteral, one_line, literal_lines_of}, StyleLemmas.{value_plain, value_double, value_strip}}
use Rattle.yaml_writer.{proofs.StyleLemmas.{value_clip, value_keep}, specs.BudgetLaws.byte_len-append}
use Rattle.yaml_writer.proofs.size.scalar_size.Goals as goal

pub quoted_length-requires : goal.quoted_length-requires
quoted_length-requires c =
    let value = chars c.args.text.now in
    let whole = ap byte_len (value_double 2 value (sym c.in-Double.ensures)) in
    omega (arith, whole, byte_len-append (in_double_quotes value) (codes "\n"), c.requires)

pub overflow_add-result-in-Double : goal.overflow_add-result-in-Double
overflow_add-result-in-Double c =
    let value = chars c.args.text.now in
    let whole = ap byte_len (value_double 2 value (sym c.in-Double.ensures)) in
    omega (arith, whole, byte_len-append (in_double_quotes value) (codes "\n"), c.quoted_length.ensures, c.requires)

pub literal_size-requires-clause-short : goal.literal_size-requires-clause-short
literal_size-requires-clause-short c =
    let value = chars c.args.text.now in
    let whole = ap byte_len (value_strip 2 value (sym c.in-LiteralStrip.ensures)) in
    omega (arith, whole, byte_len-append (codes "|-\n") (literal_lines 2 true value), c.requires)

pub literal_size-requires-in-LiteralClip-clause-short : goal.literal_size-requires-in-LiteralClip-clause-short
literal_size-requires-in-LiteralClip-clause-short c =
    let value = chars c.args.text.now in
    let whole = ap byte_len (value_clip 2 value (sym c.in-LiteralClip.ensures)) in
    omega (arith, whole, byte_len-append (codes "|\n") (literal_lines 2 true value), c.requires)

pub literal_size-requires-in-LiteralKeep-clause-short : goal.literal_size-requires-in-LiteralKeep-clause-short
literal_size-requires-in-LiteralKeep-clause-short c =
    let value = chars c.args.text.now in
    let whole = ap byte_len (value_keep 2 value (sym c.in-LiteralKeep.ensures)) in
    omega (arith, whole, byte_len-append (codes "|+\n") (literal_lines 2 true value), c.requires)

pub returns-in-Plain : goal.returns-in-Plain
returns-in-Plain c =
    let value = chars c.args.text.now in
    let whole = ap byte_len (value_plain 2 value (sym c.in-Plain.ensures)) in
    let own = byte_len-chars c.args.text.now c.utf8.text in
    sized (omega (arith, whole, byte_len-append value (codes "\n"), own))
    (sym (one_line value (λ is. subst IsLiteral (sym c.in-Plain.ensures) is)))

pub returns-in-Double : goal.returns-in-Double
returns-in-Double c =
    let value = chars c.args.text.now in
    let whole = ap byte_len (value_double 2 value (sym c.in-Double.ensures)) in
    sized (omega (arith, whole, byte_len-append (in_double_quotes value) (codes "\n"), c.quoted_length.ensures))
    (sym (one_line value (λ is. subst IsLiteral (sym c.in-Double.ensures) is)))

pub returns-in-LiteralStrip : goal.returns-in-LiteralStrip
returns-in-LiteralStrip c =
    let value = chars c.args.text.now in
    let whole = ap byte_len (value_strip 2 value (sym c.in-LiteralStrip.ensures)) in
    sized (omega (arith, whole, byte_len-append (codes "|-\n") (literal_lines 2 true value), c.literal_size.ensures.bytes))
    (c.literal_size.ensures.lines ∙ sym (literal_lines_of value (subst IsLiteral c.in-LiteralStrip.ensures tt)))

pub returns-in-LiteralClip : goal.returns-in-LiteralClip
returns-in-LiteralClip c =
    let value = chars c.args.text.now in
    let size = c.literal_size-in-LiteralClip in
    let whole = ap byte_len (value_clip 2 value (sym c.in-LiteralClip.ensures)) in
    sized (omega (arith, whole, byte_len-append (codes "|\n") (literal_lines 2 true value), size.ensures.bytes))
    (size.ensures.lines ∙ sym (literal_lines_of value (subst IsLiteral c.in-LiteralClip.ensures tt)))

pub returns-in-LiteralKeep : goal.returns-in-LiteralKeep
returns-in-LiteralKeep c =
    let value = chars c.args.text.now in
    let size = c.literal_size-in-LiteralKeep in
    let whole = ap byte_len (value_keep 2 value (sym c.in-LiteralKeep.ensures)) in
    sized (omega (arith, whole, byte_len-append (codes "|+\n") (literal_lines 2 true value), size.ensures.bytes))
    (size.ensures.lines ∙ sym (literal_lines_of value (subst IsLiteral c.in-LiteralKeep.ensures tt)))
