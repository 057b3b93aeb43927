-- What the recognizers read at the places where the scanner of block nodes looks for a part (YAML 1.2.2, 8.2).
use Rattle.std.specs.Prelude.{◌≡◌, ℕ, suc, Bool, true, false, List, [], ◌∷◌, Option, Some, None, if◌then◌else◌}
use Rattle.yaml_block.specs.Prelude.{first, is_empty, LineEnd, Sep, inline, lines, Node, block, Indented, node, Read, on, all_comments}
use Rattle.yaml_block.specs.Prelude.{read_block, bar, flow_with, indented_node, opens_pair, Sits, close_pairs, block_indented_at}
use Rattle.yaml_block.specs.Prelude.{block_key_in, block_node_at, block_pairs_at, flow_leaf_at}

-- a node, as a part
abbrev pub as_part : Read Node → Read Indented
as_part r = on r (λ n rest. Some (node n, rest))

-- a flow node or a block scalar after its separation; bol says whether it is at the start of a line
abbrev pub leaf_part : ℕ → Bool → Sep → List ℕ → Read Indented
leaf_part m bol sep text =
    as_part (if first bar text then on (read_block m text) (λ b rest. Some (block sep b, rest))
    else on (flow_leaf_at m bol text) (λ f rest. flow_with sep f (all_comments false rest)))

-- Where a mapping may begin, at an indentation, it does where a `?` or a key is found; else a leaf is there.
abbrev pub part_at : Option (Sits × ℕ) → ℕ → Bool → Sep → List ℕ → Read Indented
part_at None m bol sep text = leaf_part m bol sep text
part_at (Some mapping) m bol sep text =
    if opens_pair block_key_in flow_leaf_at read_block bol text
    then close_pairs mapping.0 [] (block_pairs_at mapping.1 bol text)
    else leaf_part m bol sep text

-- After a sign at k. Compact says whether a collection may be on the line of the sign: it may after `-`, after `?` and
-- after the `:` of its value. Shallow says whether a sequence may be as deep as the sign: it may not after `-`.
abbrev pub part_after_sign : Bool → Bool → ℕ → List ℕ → Read Indented
part_after_sign true shallow k text = block_indented_at k shallow text
part_after_sign false shallow k text = indented_node k shallow (λ t. block_node_at (suc k) shallow false t) text
    (all_comments false text)

-- the separation after lines of comments
abbrev pub sep_after : List LineEnd → List ℕ → Sep
sep_after [] lead = inline lead
sep_after (e ∷ es) lead = lines (e ∷ es) lead

-- Here is neither a comment nor the end of the text: the line goes on.
pub record LineGoesOn (text : List ℕ) : Type 0 where
  pub none : all_comments false text ≡ ([], text)
  pub some : is_empty text ≡ false
