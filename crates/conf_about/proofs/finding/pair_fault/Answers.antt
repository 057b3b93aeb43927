use Rattle.std.{proofs.Common.{true, false, length, refl, sym, ◌∙◌}, specs.Prelude.nat_lt}
use Rattle.conf_about.{proofs.{Prelude.{chars, tree_of}, FaultLemmas.pair-is, PairLemmas.bytes-empty}, specs.Abouts.{is_text, key_limit}}
use Rattle.conf_about.proofs.finding.pair_fault.Goals as goal

pub returns-then-is_empty : goal.returns-then-is_empty
returns-then-is_empty c =
    let key = chars c.args.key.now in
    let t = tree_of c.args.value.now in
    sym (pair-is key t true (nat_lt key_limit (length key)) (is_text t)
    (sym (bytes-empty c.args.key.now c.utf8.key) ∙ sym c.if-is_empty.ensures) refl refl)

pub returns-then-is_text : goal.returns-then-is_text
returns-then-is_text c =
    sym (pair-is (chars c.args.key.now) (tree_of c.args.value.now) false false true
    (sym (bytes-empty c.args.key.now c.utf8.key) ∙ sym c.if-is_empty.ensures) (sym c.if-is_long.ensures) (sym c.if-is_text.ensures))

pub returns-else-is_text : goal.returns-else-is_text
returns-else-is_text c =
    sym (pair-is (chars c.args.key.now) (tree_of c.args.value.now) false false false
    (sym (bytes-empty c.args.key.now c.utf8.key) ∙ sym c.if-is_empty.ensures) (sym c.if-is_long.ensures) (sym c.if-is_text.ensures))
