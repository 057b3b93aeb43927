-- Each turn moves one name from those that are left into the list.
use Rattle.std.proofs.Common.{◌∙◌}
use Rattle.conf_session.proofs.{Prelude.names_of, AnswerLemmas.{names-more, names-all}}
use Rattle.conf_session.proofs.answer.name_texts.Goals as goal

pub loop-name-preserved : goal.loop-name-preserved
loop-name-preserved g c =
    let pushed = c.in_ok-push_name.ensures in
    names-more c.loop-name.names.items c.push_name.new.names.items c.loop-name.name-iterator c.next.new.self pushed.0 c.in-Some.name.now
    pushed.1 c.in-Some.ensures.steps pushed.2
    ∙ c.loop-name.invariant

pub returns-clause-names : goal.returns-clause-names
returns-clause-names g c =
    names-all c.loop-name.names.items c.loop-name.name-iterator
    (names_of c.args.store.now.state.configs) c.loop-name.invariant c.in-None.ensures.steps.0
