use Rattle.yaml_writer.proofs.{Prelude.{same_from_decides, same_text-Decides}, ScalarLemmas.map-lower}
use Rattle.yaml_writer.proofs.scalar_style.is_same_word.Goals as goal

pub returns : goal.returns
returns c =
    rw (c.requires, ← map-lower c.args.text.now, ← map-lower c.args.word.now)
    (same_from_decides _ _ c.eq_ignore_ascii_case.ensures.test (same_text-Decides _ _))
