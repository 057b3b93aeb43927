use Rattle.std.proofs.Common.{◌∙◌, sym, ap, ◌&&◌, not, nat_le, length}
use Rattle.yaml_writer.proofs.{Prelude.{chars, special_words, lower, is_among}, ScalarLemmas.long-not-plain}
use Rattle.yaml_writer.proofs.scalar_style.is_plain_in_style.Goals.{then-text-le128, else-text-le128}
use Rattle.yaml_writer.proofs.scalar_style.is_plain_in_style.Goals as goal

pub returns-else-is_word : goal.returns-else-is_word
returns-else-is_word c = elim c.if-text-le128.branch [
  | then-text-le128 w ↦ let cs = chars c.args.text.now in
      c.if-is_word.false ∙ sym (ap (λ b. b && nat_le (length cs) 128 && not (is_among (lower cs) special_words))
      (sym w.is_word.ensures.word ∙ sym w.value-is ∙ c.if-is_word.false))
  | else-text-le128 w ↦ c.if-is_word.false ∙ sym (long-not-plain c.args.text.now c.utf8.text w.if-text-le128.false)
]
