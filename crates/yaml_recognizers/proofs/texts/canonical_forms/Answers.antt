use Rattle.yaml_recognizers.proofs.Documents.StreamsForm.{stream_form, stream_form_is}
use Rattle.yaml_recognizers.proofs.texts.canonical_forms.Goals as goal

pub returns : goal.returns
returns c = λ s h. (stream_form s, stream_form_is s h)
