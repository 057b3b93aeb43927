-- What a text that was read and one that was written say of the writer.
use Rattle.std.{proofs.Common.{ℕ, List, ◌∙◌}, specs.Prelude.{Option, Some, None}}
use Rattle.conf_tools.proofs.Prelude.{Keeps, Appends}

-- what was written stays written by a flush
pub then_kept : (held written flushed : Option (List ℕ)) (text : List ℕ) → Appends held written text
    → Keeps written flushed → Appends held flushed text
then_kept None written flushed text a k = tt
then_kept (Some xs) None flushed text a k = absurd a
then_kept (Some xs) (Some ys) None text a k = absurd k
then_kept (Some xs) (Some ys) (Some zs) text a k = k ∙ a
