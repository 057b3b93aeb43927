use Rattle.std.proofs.Common.{◌∙◌, sym}
use Rattle.yaml_flow_scalars.proofs.{Prelude.context_of, PlainWords.{colon_goes_on, colon_splits, colon_stops}}
use Rattle.yaml_flow_scalars.proofs.plain_scalar.colon_end.Goals as goal

pub safe_at-requires : goal.safe_at-requires
safe_at-requires c = (colon_splits c.args.text.now c.args.at c.utf8.text c.requires.within c.requires.colon).1

pub returns-then-safe_at-clause-found : goal.returns-then-safe_at-clause-found
returns-then-safe_at-clause-found c = λ black.
    colon_goes_on (context_of c.args.context) black c.args.text.now c.args.at c.utf8.text c.requires.within
    c.requires.colon (sym c.safe_at.ensures ∙ c.if-safe_at.true)

pub returns-else-safe_at-clause-none : goal.returns-else-safe_at-clause-none
returns-else-safe_at-clause-none c = λ black.
    colon_stops (context_of c.args.context) black c.args.text.now c.args.at c.utf8.text c.requires.within
    c.requires.colon (sym c.safe_at.ensures ∙ c.if-safe_at.false)
