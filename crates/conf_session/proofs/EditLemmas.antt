-- What an element of a list of edits is, case by case.
use Rattle.std.{proofs.Common.{◌≡◌, false, true, refl, ap}, specs.Prelude.{[], ◌∷◌, codes, Option, option_and_then}}
use Rattle.conf_session.{proofs.Prelude.{Members, Edit, keys_are, edit_under, ascii, texts}, specs.Edits.{as_import, listed_from}}
use Rattle.conf_session.specs.{Edits.tree_keys, Said.part_from}

-- a mapping with the keys of an import that has its tree
pub listed-tree : (ms : Members) → keys_are tree_keys ms ≡ true
    → listed_from ms ≡ option_and_then as_import (edit_under (codes "tree") ms)
unfolding listed_from
listed-tree ms e = rw e refl

-- any other
pub listed-part : (ms : Members) → keys_are tree_keys ms ≡ false → listed_from ms ≡ part_from ms
unfolding listed_from
listed-part ms e = rw e refl

-- an import is what its edit is
pub import_read : (ms : Members) (read : Option Edit) → read ≡ edit_under (codes "tree") ms
    → option_and_then as_import read ≡ option_and_then as_import (edit_under (codes "tree") ms)
import_read ms read is = ap (option_and_then as_import) is

-- the keys as texts
pub tree_texts : texts tree_keys ≡ tree_keys
tree_texts = λ i. ascii (codes "import") refl i ∷ ascii (codes "tree") refl i ∷ []
