-- Whether two trees are equal, as it is computed.
use Rattle.std.specs.Prelude.{Bool, true, false, ◌&&◌}
use Rattle.yaml_grammar.specs.{Texts.same_text, Trees.{Tree, text, sequence, mapping, Elements, no_element, element, Members, no_member}}
use Rattle.yaml_grammar.specs.Trees.{member}

abbrev mutual
  -- the two trees are equal
  pub same_tree : Tree → Tree → Bool
  same_tree (text value) (text other) = same_text value other
  same_tree (text value) (sequence us) = false
  same_tree (text value) (mapping ns) = false
  same_tree (sequence ts) (text other) = false
  same_tree (sequence ts) (sequence us) = same_elements ts us
  same_tree (sequence ts) (mapping ns) = false
  same_tree (mapping ms) (text other) = false
  same_tree (mapping ms) (sequence us) = false
  same_tree (mapping ms) (mapping ns) = same_members ms ns

  -- the elements are equal, and in the same order
  pub same_elements : Elements → Elements → Bool
  same_elements no_element no_element = true
  same_elements no_element (element u us) = false
  same_elements (element t ts) no_element = false
  same_elements (element t ts) (element u us) = same_tree t u && same_elements ts us

  -- the keys and their values are equal, and in the same order
  pub same_members : Members → Members → Bool
  same_members no_member no_member = true
  same_members no_member (member other u ns) = false
  same_members (member key t ms) no_member = false
  same_members (member key t ms) (member other u ns) = same_text key other && same_tree t u && same_members ms ns
