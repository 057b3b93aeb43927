-- Of the input nothing is told but its fault.
use Rattle.conf_tools.proofs.OutcomeLemmas.{input_told}
use Rattle.conf_tools.proofs.file_words.format_input.Goals as goal

pub returns-clause-told : goal.returns-clause-told
returns-clause-told g c = input_told g.E.Listener.hears c.args.style c.read_text-read.result c.format_read.result
    c.args.errors.now c.format_read.new.errors c.format_read.ensures.told
