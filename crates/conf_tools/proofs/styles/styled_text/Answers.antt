-- The text is in the style that was asked for.
use Rattle.std.specs.Prelude.{string_bytes}
use Rattle.{conf_words.specs.declared.invocation.Style.TheVariants.{Bare, WithComments}, conf_tools.proofs.StyleLemmas.styled_gives}
use Rattle.conf_tools.proofs.styles.styled_text.Goals as goal

pub returns-in-Bare-clause-ok : goal.returns-in-Bare-clause-ok
returns-in-Bare-clause-ok c = rw (c.in-Bare.is) c.bare_text.ensures.ok

pub returns-in-Bare-clause-gives : goal.returns-in-Bare-clause-gives
returns-in-Bare-clause-gives c =
    styled_gives string_bytes Bare c.args.text.now c.bare_text.result c.bare_text.ensures.ok

pub returns-in-WithComments-clause-ok : goal.returns-in-WithComments-clause-ok
returns-in-WithComments-clause-ok c = rw (c.in-WithComments.is) c.kept_text.ensures.ok

pub returns-in-WithComments-clause-gives : goal.returns-in-WithComments-clause-gives
returns-in-WithComments-clause-gives c =
    styled_gives string_bytes WithComments c.args.text.now c.kept_text.result c.kept_text.ensures.ok
