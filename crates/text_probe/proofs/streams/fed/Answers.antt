use Rattle.std.proofs.Common.{sym, subst}
use Rattle.{yaml_docs.specs.Cutting.{Held, Unclosed}, text_probe.proofs.CutLemmas.unclosed_after}
use Rattle.text_probe.proofs.streams.fed.Goals as goal

-- a cutter that takes nothing holds what it held
pub returns-in_err-fed : goal.returns-in_err-fed
returns-in_err-fed c = subst (λ (held : Held). Unclosed held.bytes) (sym c.in_err-fed.ensures.unchanged) c.requires

pub returns-else-fed : goal.returns-else-fed
returns-else-fed c = unclosed_after _ _ _ _ c.in_ok-fed.ensures.ok c.if-fed.false
