-- The findings are those beside the style that was asked for.
use Rattle.std.{proofs.Common.ℕ, specs.Prelude.Vec}
use Rattle.{conf_words.specs.declared.invocation.Style.TheVariants.Bare, conf_tools.specs.Prelude.{Finding, Global}}
use Rattle.conf_tools.proofs.StyleLemmas.{findings_give}
use Rattle.conf_tools.proofs.styles.findings_in.Goals as goal

pub returns-in-Bare-clause-found : goal.returns-in-Bare-clause-found
returns-in-Bare-clause-found c = rw (c.in-Bare.is) c.check_bare.ensures.found

pub returns-in-Bare-clause-gives : goal.returns-in-Bare-clause-gives
returns-in-Bare-clause-gives c =
    findings_give (λ (found : Vec Finding Global). found.items) Bare c.args.text.now c.check_bare.result c.check_bare.ensures.found

pub returns-in-WithComments-clause-found : goal.returns-in-WithComments-clause-found
returns-in-WithComments-clause-found c = rw (c.in-WithComments.is) c.check_keeping.ensures.found
