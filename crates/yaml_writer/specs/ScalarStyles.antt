-- Which style a scalar has in the one style, as a key and as a value.
use Rattle.std.specs.Prelude.{ℕ, zero, suc, List, codes, if◌then◌else◌}
use Rattle.yaml_writer.specs.{Prelude.{plain_in_style, literal_in_style, feeds_at_end}, declared.scalar_style.ScalarStyle.ScalarStyle}
use Rattle.yaml_writer.specs.declared.scalar_style.ScalarStyle.TheVariants.{Plain, Double, LiteralStrip, LiteralClip, LiteralKeep}

-- of a literal, by the number of line feeds that end the text
abbrev pub literal_style : ℕ → ScalarStyle
literal_style zero = LiteralStrip
literal_style (suc zero) = LiteralClip
literal_style (suc (suc n)) = LiteralKeep

-- of a key
abbrev pub key_style : List ℕ → ScalarStyle
key_style key = if plain_in_style key then Plain else Double

-- of a value
abbrev pub value_style : List ℕ → ScalarStyle
value_style value =
    if plain_in_style value then Plain
    else if literal_in_style value then literal_style (feeds_at_end value)
    else Double

-- the letters, small and capital, with which special words start
abbrev pub special_initials : List ℕ
special_initials = codes "FNOTYfnoty"
