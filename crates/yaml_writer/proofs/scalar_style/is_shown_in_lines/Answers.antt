use Rattle.std.proofs.{Common.{rules, ap, sym, ◌∙◌}, lemmas.Iterator.Search.all_from_yields_List}
use Rattle.yaml_writer.proofs.Prelude.{list_all, YieldsList-from_chars, shown_or_feed}
use borrow.Author.Tests.{tests}
use Rattle.yaml_writer.{specs.Runs.ascii_in_lines, proofs.ScalarLemmas.shown-lines}
use Rattle.yaml_writer.proofs.scalar_style.is_shown_in_lines.Goals as goal

pub returns-then-are_all : goal.returns-then-are_all
returns-then-are_all c =
    let same = ap (list_all ascii_in_lines) (sym c.as_bytes.ensures.value) in
    c.if-are_all.true ∙ sym (shown-lines c.args.text.now c.utf8.text (same ∙ sym c.are_all.ensures ∙ c.if-are_all.true))

pub returns-else-are_all : goal.returns-else-are_all
returns-else-are_all c =
    all_from_yields_List shown_or_feed _ _ _ c.all.ensures.ran (YieldsList-from_chars c.args.text.now c.utf8.text c.chars.ensures.rest)
    (λ x b q k. search (rules, tests))
