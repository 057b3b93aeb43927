use Rattle.yaml_writer.proofs.SizeLaws.{key_law, element_law, value_law}
use Rattle.yaml_writer.proofs.laws.lengths_follow_indentation.Goals as goal

pub returns-clause-key : goal.returns-clause-key
returns-clause-key c = λ key i. key_law i key

pub returns-clause-element : goal.returns-clause-element
returns-clause-element c = λ t i. element_law t i

pub returns-clause-value : goal.returns-clause-value
returns-clause-value c = λ t i. value_law t i
