-- The search finds a 0 exactly where there is one.
use Rattle.std.{proofs.Common.{◌∙◌, sym, ap}, specs.Prelude.not}
use Rattle.conf_store.proofs.KeptLemmas.{any-zero}
use Rattle.conf_store.proofs.holes.has_zero.Goals as goal

pub returns : goal.returns
returns c = any-zero c.args.bytes.now ∙ ap not (sym c.contains.ensures.value)
