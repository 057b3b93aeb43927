-- The laws of the plain form, as statements.
use Rattle.std.specs.Prelude.{◌≤◌}
use Rattle.yaml_forms.specs.{Prelude.{byte_len, Tree, IsTextTree, Limits, Good, Gives, CanReadAs}, PlainForm.plain_text}

-- each tree of texts can be read from its text in the plain form
abbrev pub PlainPresents : Type 0
PlainPresents = (t : Tree) → IsTextTree t → CanReadAs (plain_text t) t

-- a good tree's text in the plain form gives that tree
abbrev pub PlainReads : Type 0
PlainReads = (t : Tree) (limits : Limits) → Good t limits → byte_len (plain_text t) ≤ limits.bytes
    → Gives (plain_text t) limits t
