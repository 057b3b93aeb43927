use Rattle.std.proofs.Common.{refl, sym, ◌∙◌}
use Rattle.yaml_styled.proofs.{Prelude.{chars, text}, WordLemmas.{took_quoted_value, quoted_sound}}
use Rattle.yaml_styled.proofs.flat.read_quoted.Goals as goal

pub returns-in_ok-made-in-Some : goal.returns-in_ok-made-in-Some
returns-in_ok-made-in-Some g c =
    let word = c.in-Some.text.now in
    let a = c.args.lines.now in
    let b = c.go_on.new.self in
    record {
      tree = text (chars word);
      is = (c.in_ok-made-in-Some.ensures, refl);
      took = took_quoted_value word c.in-Some.ensures.alone a.rest.now c.in-Some.rest.now b.rest.now a.counted b.counted
          c.args.indent c.in-Some.ensures.quoted
          (sym c.rest.ensures ∙ c.in-Some.ensures.cut) c.go_on.ensures.rest c.go_on.ensures.counted;
      sound = quoted_sound word c.in-Some.ensures.alone;
    }
