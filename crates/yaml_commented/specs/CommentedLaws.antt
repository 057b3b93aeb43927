-- The laws of commented trees, as statements.
use Rattle.std.specs.{Prelude.{◌≡◌, ◌≤◌, List, []}, List.AllByRecursion}
use Rattle.yaml_grammar.specs.{Texts.byte_len, Trees.{Tree, IsTextTree}, Style.style_text, Reads.{Limits, Good, Gives}}
use Rattle.{yaml_recognizers.specs.StyleLaws.CanReadAs, yaml_commented.specs.{Trails.{Extra, Trail, IsBare}, Commented.tree_with}}
use Rattle.yaml_commented.specs.{Commented.commented_text, StyleRows.{tree_rows, woven}, TrailsFit.Fits}

-- each tree of texts can be read from its text with comments that fit
abbrev pub CommentedPresents : Type 0
CommentedPresents = (lead : List Extra) (t : Tree) (ws : List Trail) → IsTextTree t → Fits lead t ws
    → CanReadAs (commented_text lead t ws) t

-- a good tree's text with comments that fit gives that tree
abbrev pub CommentedReads : Type 0
CommentedReads = (lead : List Extra) (t : Tree) (ws : List Trail) (limits : Limits) → Good t limits → Fits lead t ws
    → byte_len (commented_text lead t ws) ≤ limits.bytes → Gives (commented_text lead t ws) limits t

-- without comments and empty lines it is the one style's text
abbrev pub BareIsStyle : Type 0
BareIsStyle = (t : Tree) (ws : List Trail) → AllByRecursion IsBare ws → commented_text [] t ws ≡ style_text t

-- it is the rows of the tree, with a trail behind each
abbrev pub RowsWoven : Type 0
RowsWoven = (t : Tree) (ws : List Trail) → tree_with t ws ≡ woven (tree_rows t) ws
