-- The text is given a tree, or refused.
use Rattle.std.proofs.Common.{ap, sym, subst, ◌∙◌}
use Rattle.{conf_session.proofs.Prelude.{encodes-chars, chars, Gives, tree_of, config_limits, import_as}, yaml_tree.specs.Reading.Refuses}
use Rattle.conf_session.proofs.parts.read_import.Goals as goal

pub returns-in_ok-name-in-Ok-clause-ok : goal.returns-in_ok-name-in-Ok-clause-ok
returns-in_ok-name-in-Ok-clause-ok c = (
  tree_of c.in-Ok.tree,
  subst (λ b. Gives (chars b) config_limits (tree_of c.in-Ok.tree)) c.as_bytes.ensures.value c.in-Ok.ensures.given.gives,
  ap (λ b. import_as (chars b) (tree_of c.in-Ok.tree)) c.in_ok-name-in-Ok.ensures,
)

pub returns-in-Err-clause-refused : goal.returns-in-Err-clause-refused
returns-in-Err-clause-refused c some = (
  some,
  subst (λ b. Refuses b config_limits c.in-Err.fault)
      (c.as_bytes.ensures.value ∙ sym (encodes-chars c.args.source.now c.utf8.source)) c.in-Err.ensures.refused,
)
