-- What a read says of a missing file.
use Rattle.std.proofs.Common.{◌≡◌, refl, ℕ, List, Option, Some, None}
use Rattle.conf_disk.specs.{Folder.Tells, declared.disk.Content.TheVariants.Missing}

pub missing : (bytes : Option (List ℕ)) (max : ℕ) → Tells bytes max Missing → bytes ≡ None
missing None max tells = refl
missing (Some bytes) max tells = absurd tells
