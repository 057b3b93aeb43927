-- What the types of src/ mean in the grammar.
use Rattle.std.specs.Prelude.{ℕ, ◌+◌, ℤ, pos, negsuc, Bool, true, false}
use Rattle.yaml_block_scalars.specs.declared.{parts.Chomping.{Chomping, TheVariants.{Strip, Clip, Keep}}, scalar.Form.Form}
use Rattle.yaml_block_scalars.specs.declared.scalar.Form.TheVariants.{Literal, Folded}
use Rattle.yaml_grammar.specs.BlockScalars as grammar

-- the chomping that the code's value means
abbrev pub chomping_of : Chomping → grammar.Chomping
chomping_of Strip = grammar.strip
chomping_of Clip = grammar.clip
chomping_of Keep = grammar.keep

-- the least indentation of a block scalar below one of n, which is -1 at a document's top
abbrev pub least_indent : ℤ → ℕ
least_indent (pos n) = n + 1
least_indent (negsuc n) = 0

-- the form is folded
abbrev pub is_folded : Form → Bool
is_folded Literal = false
is_folded Folded = true
