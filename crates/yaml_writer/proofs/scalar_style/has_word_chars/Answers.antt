use Rattle.std.proofs.Common.{sym, ap, ◌∙◌}
use Rattle.yaml_writer.proofs.{Prelude.{list_all, chars, word_char, every-IsAscii, chars-same, every-bytes}, ScalarLemmas.word_char-below}
use Rattle.yaml_writer.proofs.scalar_style.has_word_chars.Goals as goal

pub returns-clause-word : goal.returns-clause-word
returns-clause-word c =
    c.are_all.ensures ∙ ap (list_all word_char) c.as_bytes.ensures.value
    ∙ every-bytes word_char word_char-below c.args.text.now c.utf8.text

pub returns-clause-ascii : goal.returns-clause-ascii
returns-clause-ascii c = λ all.
    chars-same c.args.text.now c.utf8.text
    (every-IsAscii word_char word_char-below (chars c.args.text.now) (sym (returns-clause-word c) ∙ all))
