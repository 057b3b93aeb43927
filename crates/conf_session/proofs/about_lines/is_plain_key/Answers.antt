use Rattle.std.proofs.Common.{sym}
use Rattle.conf_session.proofs.AboutLineLemmas.{key_plain, key_short}
use Rattle.conf_session.proofs.about_lines.is_plain_key.Goals as goal

pub returns-in-Plain-clause-plain : goal.returns-in-Plain-clause-plain
returns-in-Plain-clause-plain c = λ _. key_plain c.args.key.now c.utf8.key (sym c.in-Plain.ensures)

pub returns-in-Plain-clause-short : goal.returns-in-Plain-clause-short
returns-in-Plain-clause-short c =
    λ _. key_short c.args.key.now (key_plain c.args.key.now c.utf8.key (sym c.in-Plain.ensures))
