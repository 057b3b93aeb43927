use Rattle.std.proofs.Common.{◌≡◌, true, ap, sym, subst, ◌∙◌}
use Rattle.yaml_styled.proofs.{Prelude.{list_all, chars, plain_in_style, word_char}, WordLemmas.{plain_long, plain_begins}}
use Rattle.yaml_styled.proofs.words.is_plain_word.Goals.{then-bytes-gt-LONGEST-via-then-bytes-gt-LONGEST}
use Rattle.yaml_styled.proofs.words.is_plain_word.Goals.{then-bytes-gt-LONGEST-via-else-bytes-gt-LONGEST+then-not-is_special_initial}
use Rattle.yaml_styled.proofs.words.is_plain_word.Goals as goal

pub returns-then-bytes-gt-LONGEST : goal.returns-then-bytes-gt-LONGEST
returns-then-bytes-gt-LONGEST c = λ _.
    let bytes = c.as_bytes-bytes.result.now in
    let same = c.as_bytes-bytes.ensures.value in
    let all = ap (list_all word_char) same ∙ c.requires in
    let begins = sym c.is_letter.ensures ∙ c.if-not-is_letter.false in
    let short = c.if-bytes-gt-LONGEST_PLAIN.false in
    subst (λ word. plain_in_style (chars word) ≡ true) same
    (elim c.then-bytes-gt-LONGEST.branch [
      | then-bytes-gt-LONGEST-via-then-bytes-gt-LONGEST w ↦
          plain_long bytes all begins short w.if-bytes-gt-LONGEST.true
      | then-bytes-gt-LONGEST-via-else-bytes-gt-LONGEST+then-not-is_special_initial w ↦
          plain_begins bytes all begins short (sym w.is_special_initial.ensures ∙ w.if-not-is_special_initial.true)
    ])
