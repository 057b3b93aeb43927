-- A text that is no stream is refused.
use Rattle.conf_tools.proofs.FileLemmas.{refused_stream}
use Rattle.conf_tools.proofs.file_texts.refuse_comments.Goals as goal

pub returns-in-Err-clause-stops : goal.returns-in-Err-clause-stops
returns-in-Err-clause-stops c = refused_stream c.args.text.now c.in-Err.fault c.in-Err.ensures.refused
