use Rattle.std.proofs.Common.{◌≡◌, Bool, true, false, if◌then◌else◌, refl, ap, ◌∙◌}
use Rattle.{yaml_config.proofs.Prelude.chars, yaml_grammar.specs.Style.plain_in_style}
use denote.Enum.Bare.{sameb}
use Rattle.yaml_writer.specs.{contracts.scalar_style.ScalarStyle.the_type, declared.scalar_style.ScalarStyle.TheVariants.{Plain, Double}}
use Rattle.yaml_config.proofs.tally.is_plain.Goals as goal

same : (plain : Bool) → sameb the_type (if plain then Plain else Double) Plain ≡ plain
same true = refl
same false = refl

pub returns : goal.returns
returns c = c.eq.ensures ∙ ap (λ style. sameb the_type style Plain) c.key_style.ensures
    ∙ same (plain_in_style (chars c.args.text.now))
