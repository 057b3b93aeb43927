use Rattle.yaml_recognizers.proofs.Meanings.Steps.{stream_steps, sections_steps}
use Rattle.yaml_recognizers.proofs.streams.stream_steps.Goals as goal

pub returns-clause-stream : goal.returns-clause-stream
returns-clause-stream c = stream_steps

pub returns-clause-sections : goal.returns-clause-sections
returns-clause-sections c = sections_steps
