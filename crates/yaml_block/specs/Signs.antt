-- What may come after a sign of a collection (YAML 1.2.2, 8.2.1 and 8.2.2).
use Rattle.std.specs.Prelude.{Bool, true, false}
use Rattle.yaml_block.specs.declared.line_sign.Sign.{Sign, TheVariants.{Dash, Asked, Colon}}

-- the sign is `:`
abbrev pub is_colon : Sign → Bool
is_colon Dash = false
is_colon Asked = false
is_colon Colon = true

-- after this sign a sequence may be as deep as the sign
abbrev pub is_shallow : Sign → Bool
is_shallow Dash = false
is_shallow Asked = true
is_shallow Colon = true
