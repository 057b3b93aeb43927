-- The text of an about in the one style is read back, as a statement.
use Rattle.std.specs.Prelude.{◌≡◌, ◌≤◌, encode_utf8_all}
use Rattle.{conf_about.specs.{Prelude.{style_text, Tree, Limits}, Abouts.{IsAbout, style_limit}}, yaml_tree.specs.Reading.IsRead}

-- limits that every about keeps, as those of a configuration are
pub record AdmitsAbouts (limits : Limits) : Type 0 where
  pub bytes : style_limit ≤ limits.bytes
  pub depth : 2 ≤ limits.depth
  pub style : style_limit ≤ limits.style

-- the bytes of the tree's text in the one style are read as the tree, and as no other
pub record IsReadBack (t : Tree) (limits : Limits) : Type 0 where
  pub reads : IsRead (encode_utf8_all (style_text t)) limits t
  pub once : (other : Tree) → IsRead (encode_utf8_all (style_text t)) limits other → other ≡ t

-- each about is read back, and what is read is an about
abbrev pub AboutsAreRead : Type 0
AboutsAreRead = (t : Tree) (limits : Limits) → IsAbout t → AdmitsAbouts limits → IsReadBack t limits
