use Rattle.std.proofs.Common.{take, ap, sym, ◌∙◌}
use Rattle.yaml_styled.proofs.{Prelude.{list_all, stands_alone}, RunLemmas.run_passes}
use Rattle.yaml_styled.proofs.words.split_quoted.Goals as goal

pub returns-clause-alone : goal.returns-clause-alone
returns-clause-alone c =
    ap (list_all stands_alone) (c.in_ok-text.ensures.front ∙ ap (take c.run_len-len.result) (sym c.as_bytes.ensures.value))
    ∙ run_passes stands_alone c.as_bytes.result.now c.run_len-len.result c.run_len-len.ensures
