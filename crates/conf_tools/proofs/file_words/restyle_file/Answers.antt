-- What was told of the file, and then perhaps the cause.
use Rattle.conf_tools.proofs.file_words.restyle_file.Goals as goal

pub returns : goal.returns
returns g c = record {
  told = c.restyle_opened-status.new.errors;
  tells = c.restyle_opened-status.ensures;
  cause = c.tell_cause_at.ensures;
}
