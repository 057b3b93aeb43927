-- What was found, and the status of that.
use Rattle.conf_tools.proofs.file_words.report_under.Goals as goal

pub returns-in-Ok : goal.returns-in-Ok
returns-in-Ok g c = rw (c.in-Findings.is) (c.in-Ok.count, c.in-Ok.ensures.ok, c.status_of_count.ensures)

pub returns-in-Ok-list_changed : goal.returns-in-Ok-list_changed
returns-in-Ok-list_changed g c = rw (c.in-Name.is)
    (c.in-Ok-list_changed.is_other, c.in-Ok-list_changed.ensures.ok, c.status_of_change.ensures)
