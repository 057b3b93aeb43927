-- A text that is nothing in the style has no other one in its place.
use Rattle.conf_tools.proofs.FileLemmas.{no_style_to_take}
use Rattle.conf_tools.proofs.file_texts.restyle.Goals as goal

pub returns-in-Err-clause-stops : goal.returns-in-Err-clause-stops
returns-in-Err-clause-stops c =
    no_style_to_take c.args.comments c.args.text.now c.in-Err.fault c.in-Err.ensures.refused
