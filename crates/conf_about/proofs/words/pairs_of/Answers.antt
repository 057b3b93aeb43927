use Rattle.std.proofs.Common.{ap, ◌∙◌, arith}
use Rattle.conf_about.proofs.{Prelude.{Pair, chars, text, tree_of-Text}, WordLemmas.{words-end, words-turn}}
use Rattle.yaml_data.specs.declared.tree.Tree.{Text}
use Rattle.conf_about.proofs.words.pairs_of.Goals as goal

pub loop-word-preserved : goal.loop-word-preserved
loop-word-preserved c =
    let l = c.loop-word in
    let pair : Pair = (c.in_ok-key.key, Text c.in_ok-text.text) in
    let key = c.in-Some.key.now in
    let value = c.in-Some.text.now in
    l.invariant
    ∙ words-turn l.pairs.items c.args.words.now l.word-index (omega arith) c.push.new.self.items pair (chars key) (chars value)
    c.in-Some.ensures c.in_ok-push.ensures.items (ap chars c.in_ok-key.ensures)
    (tree_of-Text c.in_ok-text.text ∙ ap (λ bytes. text (chars bytes)) c.in_ok-text.ensures)

pub returns-clause-ok : goal.returns-clause-ok
returns-clause-ok c =
    c.loop-word.invariant ∙ words-end c.loop-word.pairs.items c.args.words.now c.loop-word.word-index c.loop-word-test.false
