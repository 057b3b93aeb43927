use Rattle.std.proofs.Common.{sym, ◌∙◌}
use Rattle.conf_session.{specs.Answers.word, proofs.WordLemmas.{word_lines, word_plain}}
use Rattle.conf_session.proofs.words.Refusal.answer.Goals as goal

pub returns : goal.returns
returns c = c.as_bytes.ensures.value ∙ c.text.ensures ∙ sym (word_lines (word c.args.self) (word_plain c.args.self))
