-- The process ends with the number of the status.
use Rattle.std.proofs.Common.{◌∙◌}
use Rattle.conf_tools.proofs.program.run_program.Goals as goal

pub returns-clause-ends : goal.returns-clause-ends
returns-clause-ends g c = record {
  status = c.do_words-status.result;
  does = c.do_words-status.ensures.does;
  exits = c.from.ensures ∙ c.code.ensures;
}

pub returns-clause-tells : goal.returns-clause-tells
returns-clause-tells g c = rw (c.from.ensures ∙ c.code.ensures) c.do_words-status.ensures.tells
