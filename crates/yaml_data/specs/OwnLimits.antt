-- The limits that every Config of yaml_tree keeps.
use Rattle.yaml_grammar.specs.Reads.{Limits}

-- of depth, of bytes in the one style, and of bytes of the text that it is read from
abbrev pub own_limits : Limits
own_limits = record { bytes = 67108864; depth = 131; style = 67108864 }
