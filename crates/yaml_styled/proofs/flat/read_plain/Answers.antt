use Rattle.std.proofs.Common.{refl, sym, ◌∙◌}
use Rattle.yaml_styled.proofs.{Prelude.{chars, text}, WordLemmas.{took_plain_value, plain_sound}}
use Rattle.yaml_styled.proofs.flat.read_plain.Goals as goal

pub returns : goal.returns
returns g c =
    let word = c.in-Some.text.now in
    let a = c.args.lines.now in
    let b = c.go_on.new.self in
    record {
      tree = text (chars word);
      is = (c.in_ok-made.ensures, refl);
      took = took_plain_value word c.in-Some.ensures.plain c.in-Some.ensures.ascii a.rest.now c.in-Some.rest.now b.rest.now
          a.counted b.counted c.args.indent
          (sym c.rest.ensures ∙ c.in-Some.ensures.cut) c.go_on.ensures.rest c.go_on.ensures.counted;
      sound = plain_sound word c.in-Some.ensures.plain c.in-Some.ensures.ascii;
    }
