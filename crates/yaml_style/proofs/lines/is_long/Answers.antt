-- A line of no more than 120 bytes has no more code points; of a longer one they are counted.
use Rattle.std.proofs.{Common.{nat_lt, ap, sym, ◌∙◌}, lemmas.Iterator.{YieldsList-from_chars, Consumers.count_from_yields_List}}
use Rattle.yaml_style.proofs.{Prelude.le-ltb, RuleLemmas.short_line}
use Rattle.yaml_style.proofs.lines.is_long.Goals as goal

pub returns-then-content-gt-LONGEST_LINE : goal.returns-then-content-gt-LONGEST_LINE
returns-then-content-gt-LONGEST_LINE c =
    ap (λ n. nat_lt 120 n) (count_from_yields_List _ _ c.count.ensures.ran
    (YieldsList-from_chars c.args.content.now c.utf8.content c.chars.ensures.rest))

pub returns-else-content-gt-LONGEST_LINE : goal.returns-else-content-gt-LONGEST_LINE
returns-else-content-gt-LONGEST_LINE c =
    let short = c.if-content-gt-LONGEST_LINE.false in le-ltb 120 _ short ∙ sym (short_line c.args.content.now c.utf8.content short)
