use Rattle.std.proofs.Common.{codes, sym, ap, subst, arith}
use Rattle.yaml_config.proofs.{Prelude.{chars, byte_len, tree_of}, TallyLemmas.{text_on_line, text_bound}}
use Rattle.{yaml_grammar.specs.Style.in_double_quotes, yaml_writer.proofs.{ByteLemmas.byte_len-chars, SizeSums.{IsLiteral, one_line}}}
use Rattle.yaml_writer.{proofs.StyleLemmas.{value_plain, value_double}, specs.BudgetLaws.byte_len-append}
use Rattle.yaml_config.proofs.tally.text_tally.Goals as goal

pub returns-in-Plain : goal.returns-in-Plain
returns-in-Plain c =
    let value = chars c.args.text.now in
    let own = byte_len-chars c.args.text.now c.utf8.text in
    text_on_line (tree_of c.args.tree.now) value value _ c.requires (value_plain 2 value (sym c.in-Plain.ensures))
    (one_line value (λ is. subst IsLiteral (sym c.in-Plain.ensures) is)) (omega (arith, own)) (omega (arith, own))

pub quoted_length-requires : goal.quoted_length-requires
quoted_length-requires c =
    let value = chars c.args.text.now in
    let own = byte_len-chars c.args.text.now c.utf8.text in
    let whole = ap byte_len (value_double 2 value (sym c.in-Double.ensures)) in
    omega (arith, own, whole, byte_len-append (in_double_quotes value) (codes "\n"), text_bound value)

pub overflow_add-result-in-Double : goal.overflow_add-result-in-Double
overflow_add-result-in-Double c =
    let value = chars c.args.text.now in
    let own = byte_len-chars c.args.text.now c.utf8.text in
    let whole = ap byte_len (value_double 2 value (sym c.in-Double.ensures)) in
    omega (arith, c.quoted_length.ensures, own, whole, byte_len-append (in_double_quotes value) (codes "\n"), text_bound value)

pub returns-in-Double : goal.returns-in-Double
returns-in-Double c =
    let value = chars c.args.text.now in
    let own = byte_len-chars c.args.text.now c.utf8.text in
    let whole = ap byte_len (value_double 2 value (sym c.in-Double.ensures)) in
    let length = c.quoted_length.ensures in
    text_on_line (tree_of c.args.tree.now) value (in_double_quotes value) _ c.requires (value_double 2 value (sym c.in-Double.ensures))
    (one_line value (λ is. subst IsLiteral (sym c.in-Double.ensures) is)) (omega (arith, length))
    (omega (arith, length, own, whole, byte_len-append (in_double_quotes value) (codes "\n"), text_bound value))
