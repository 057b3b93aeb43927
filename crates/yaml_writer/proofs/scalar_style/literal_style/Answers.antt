use Rattle.std.proofs.{Common.{suc, None, Some, ap, sym, ◌∙◌, lit<}, lemmas.Str.Pattern.{strip_suffix_char, ends_char}}
use Rattle.yaml_writer.proofs.{Prelude.{true≢false, line_feed}, ScalarLemmas.{no_feed_at_end, feed_at_end, prefix_IsUtf8}}
use Rattle.yaml_writer.specs.ScalarStyles.{literal_style}
use Rattle.yaml_writer.proofs.scalar_style.literal_style.Goals as goal

pub returns-in-None : goal.returns-in-None
returns-in-None c =
    let text = c.args.text.now in
    let none = strip_suffix_char line_feed text None c.in-None.ensures.cases (lit< tt) in
    sym (ap literal_style (no_feed_at_end text c.utf8.text none))

pub returns-then-ends_with : goal.returns-then-ends_with
returns-then-ends_with c =
    let text = c.args.text.now in
    let prefix = c.in-Some.prefix in
    let first = strip_suffix_char line_feed text (Some prefix) c.in-Some.ensures.cases (lit< tt) in
    let second = (ends_char line_feed prefix.now _ c.ends_with.ensures.cases (lit< tt)).0 c.if-ends_with.true in
    sym (ap literal_style (feed_at_end text prefix.now c.utf8.text first
    ∙ ap suc (feed_at_end prefix.now _ (prefix_IsUtf8 text prefix.now c.utf8.text first) second)))

pub returns-else-ends_with : goal.returns-else-ends_with
returns-else-ends_with c =
    let text = c.args.text.now in
    let prefix = c.in-Some.prefix in
    let first = strip_suffix_char line_feed text (Some prefix) c.in-Some.ensures.cases (lit< tt) in
    let test = (ends_char line_feed prefix.now _ c.ends_with.ensures.cases (lit< tt)).1 in
    sym (ap literal_style (feed_at_end text prefix.now c.utf8.text first
    ∙ ap suc (no_feed_at_end prefix.now (prefix_IsUtf8 text prefix.now c.utf8.text first)
    (λ before e. true≢false (sym (test before e) ∙ c.if-ends_with.false)))))
