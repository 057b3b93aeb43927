use Rattle.yaml_config.proofs.TextTreeLemmas.{chars-IsText}
use Rattle.yaml_tree.proofs.open_text.write_scalar_in.Goals as goal

pub returns-in_err-write_dash-in-Seq-clause-text : goal.returns-in_err-write_dash-in-Seq-clause-text
returns-in_err-write_dash-in-Seq-clause-text g c = chars-IsText c.args.text.now c.utf8.text

pub returns-in-Document-clause-text : goal.returns-in-Document-clause-text
returns-in-Document-clause-text g c = chars-IsText c.args.text.now c.utf8.text

pub returns-in_ok-write_dash-in-Seq-clause-text : goal.returns-in_ok-write_dash-in-Seq-clause-text
returns-in_ok-write_dash-in-Seq-clause-text g c = chars-IsText c.args.text.now c.utf8.text

pub returns-in-Map-clause-text : goal.returns-in-Map-clause-text
returns-in-Map-clause-text g c = chars-IsText c.args.text.now c.utf8.text

pub returns-in-Root-clause-text : goal.returns-in-Root-clause-text
returns-in-Root-clause-text g c = chars-IsText c.args.text.now c.utf8.text
