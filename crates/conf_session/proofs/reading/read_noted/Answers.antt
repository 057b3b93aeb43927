-- The command that is read gets the about.
use Rattle.std.proofs.Common.{refl, ap, ◌∙◌}
use Rattle.conf_session.{proofs.{Prelude.command_of, ConditionalLemmas.plain-asked}, specs.Requests.{changing, unread}}
use Rattle.conf_session.proofs.reading.read_noted.Goals as goal

pub noted-requires : goal.noted-requires
noted-requires c =
    plain-asked c.args.change (command_of c.in-Ok.command)
    (c.in-Ok.ensures.asked (changing (command_of c.in-Ok.command)) refl)

pub returns-in-Ok : goal.returns-in-Ok
returns-in-Ok c = record {
  asked = λ request is. (
    changing (command_of c.in-Ok.command),
    c.in-Ok.ensures.asked (changing (command_of c.in-Ok.command)) refl,
    is ∙ ap changing c.noted.ensures,
  );
  memory = tt;
}

pub returns-in-Err : goal.returns-in-Err
returns-in-Err c = record {
  asked = λ request is. (unread c.in-Err.fault, c.in-Err.ensures.asked (unread c.in-Err.fault) (refl, is.1), is.0);
  memory = c.in-Err.ensures.memory;
}
