use Rattle.yaml_recognizers.proofs.Separation.GapsSound.{gap_sound}
use Rattle.yaml_recognizers.proofs.comments.gap_fits.Goals as goal

pub returns-clause-spells : goal.returns-clause-spells
returns-clause-spells c = λ n key text. (gap_sound n key text).0

pub returns-clause-fits : goal.returns-clause-fits
returns-clause-fits c = λ n key text. (gap_sound n key text).1
