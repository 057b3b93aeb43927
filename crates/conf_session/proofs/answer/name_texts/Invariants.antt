-- The names so far and those that are left are all names.
use Rattle.std.proofs.Common.{◌≡◌}
use Rattle.conf_session.{proofs.Prelude.{names_of, elements_of, join_elements}, specs.Answers.text_elements}
use Rattle.conf_session.proofs.answer.name_texts.Given as goal

abbrev pub invariant-loop-name : goal.invariant-loop-name
invariant-loop-name g l =
    join_elements (elements_of l.names.items) (text_elements l.name-iterator)
    ≡ text_elements (names_of l.store.state.configs)
