use Rattle.std.proofs.Common.{take, ap, sym, ◌∙◌}
use Rattle.yaml_styled.proofs.{Prelude.{list_all, word_char}, RunLemmas.run_passes, WordLemmas.word_same}
use Rattle.yaml_styled.proofs.words.split_plain.Goals as goal

pub is_plain_word-requires : goal.is_plain_word-requires
is_plain_word-requires c =
    ap (list_all word_char) (c.in_ok-word.ensures.front ∙ ap (take c.run_len-len.result) (sym c.as_bytes-bytes.ensures.value))
    ∙ run_passes word_char c.as_bytes-bytes.result.now c.run_len-len.result c.run_len-len.ensures

pub returns-clause-ascii : goal.returns-clause-ascii
returns-clause-ascii c =
    word_same c.in_ok-word.word.now
    (ap (list_all word_char) (c.in_ok-word.ensures.front ∙ ap (take c.run_len-len.result) (sym c.as_bytes-bytes.ensures.value))
    ∙ run_passes word_char c.as_bytes-bytes.result.now c.run_len-len.result c.run_len-len.ensures)
