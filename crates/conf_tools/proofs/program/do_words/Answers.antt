-- The invocation was performed, or there is none.
use Rattle.std.proofs.Common.{refl}
use Rattle.conf_tools.proofs.program.do_words.Goals as goal

pub returns-in-Ok-clause-does : goal.returns-in-Ok-clause-does
returns-in-Ok-clause-does g c = rw (c.in-Ok.is) c.perform.ensures.runs

pub returns-in-Ok-clause-tells : goal.returns-in-Ok-clause-tells
returns-in-Ok-clause-tells g c = rw (c.in-Ok.is) c.perform.ensures.tells

pub returns-in-Err-clause-does : goal.returns-in-Err-clause-does
returns-in-Err-clause-does g c = rw (c.in-Err.is) (c.show_unparsed.ensures.shows, c.show_unparsed.ensures.tells, refl, refl)

pub returns-in-Err-clause-tells : goal.returns-in-Err-clause-tells
returns-in-Err-clause-tells g c = rw (c.in-Err.is) tt
