use Rattle.conf_state.proofs.{RefusalLemmas.accepted-room, RefusalLemmas.step-refusal, RunLaws.step-one}
use Rattle.conf_state.proofs.laws.steps_are_counted_or_refused.Goals as goal

pub returns-clause-room : goal.returns-clause-room
returns-clause-room c = accepted-room

pub returns-clause-count : goal.returns-clause-count
returns-clause-count c = step-one

pub returns-clause-refused : goal.returns-clause-refused
returns-clause-refused c = step-refusal
