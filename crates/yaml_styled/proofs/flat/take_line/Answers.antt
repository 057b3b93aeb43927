use Rattle.std.proofs.Common.{sym, subst}
use Rattle.yaml_styled.{proofs.{Prelude.{on_ok_weaker, chars, one_line, IsLiteral}, TakingLemmas.took_as}, specs.Taking.took_both}
use Rattle.yaml_writer.proofs.StyleLemmas.{value_plain, value_double}
use Rattle.yaml_styled.proofs.flat.take_line.Goals as goal

pub returns-in_ok-put_text-in-Plain : goal.returns-in_ok-put_text-in-Plain
returns-in_ok-put_text-in-Plain c =
    let value = chars c.args.text.now in
    let style = sym c.in-Plain.ensures in
    let flat = one_line value (λ literal. subst IsLiteral style literal) in
    on_ok_weaker c.put_char.result
    (λ feed i. took_as (value_plain i value style) (sym flat) (took_both c.in_ok-put_text-in-Plain.ensures feed))
    c.put_char.ensures

pub returns-in_ok-write_quoted-in-Double : goal.returns-in_ok-write_quoted-in-Double
returns-in_ok-write_quoted-in-Double c =
    let value = chars c.args.text.now in
    let style = sym c.in-Double.ensures in
    let flat = one_line value (λ literal. subst IsLiteral style literal) in
    on_ok_weaker c.put_char-in-Double.result
    (λ feed i. took_as (value_double i value style) (sym flat) (took_both c.in_ok-write_quoted-in-Double.ensures feed))
    c.put_char-in-Double.ensures
