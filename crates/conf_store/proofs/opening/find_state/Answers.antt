-- What is found in the file is what the read tells of it.
use Rattle.std.proofs.Common.{subst}
use Rattle.conf_store.proofs.{Prelude.{Tells, store_limit}, GrownLemmas.missing-base, OpenLemmas.{too-long, missing-format}}
use Rattle.conf_store.specs.Holes.{is_several}
use Rattle.conf_store.proofs.opening.find_state.Goals as goal

pub returns-in-TooLong-clause-refused : goal.returns-in-TooLong-clause-refused
returns-in-TooLong-clause-refused c file tells = too-long (is_several c.args.waiting) file
    (subst (Tells file store_limit) c.in-TooLong.is tells)

pub returns-in-Missing-clause-base : goal.returns-in-Missing-clause-base
returns-in-Missing-clause-base c file tells = missing-base file (subst (Tells file store_limit) c.in-Missing.is tells)

pub returns-in-Missing-clause-format : goal.returns-in-Missing-clause-format
returns-in-Missing-clause-format c file tells = missing-format file (subst (Tells file store_limit) c.in-Missing.is tells)
