use Rattle.std.proofs.Common.{get_or, sym, ◌∙◌, ap, arith}
use Rattle.conf_record.proofs.{Prelude.{chars, same_text}, FieldLemmas.{Key, blank, keys_are-lengths, keys_are-more, keys_are-other}}
use Rattle.conf_record.proofs.fields.keys_are.Goals as goal

pub returns-then-keys-pairs : goal.returns-then-keys-pairs
returns-then-keys-pairs c = sym (keys_are-lengths (λ (k : Key). k.now) c.args.keys.now c.args.pairs.now c.if-keys-pairs.true)

pub returns-then-not-is_same : goal.returns-then-not-is_same
returns-then-not-is_same c =
    sym (keys_are-other (λ (k : Key). k.now) c.args.keys.now c.args.pairs.now c.loop-i.i blank c.index-pairs-i.result
    c.loop-i-test.true (omega arith)
    (ap (λ bs. same_text (chars bs) (chars (get_or c.args.keys.now c.loop-i.i blank).now)) (sym c.deref.ensures)
    ∙ sym c.is_same.ensures ∙ c.if-not-is_same.true))
    ∙ c.loop-i.invariant

pub loop-i-preserved : goal.loop-i-preserved
loop-i-preserved c =
    keys_are-more (λ (k : Key). k.now) c.args.keys.now c.args.pairs.now c.loop-i.i blank c.index-pairs-i.result
    c.loop-i-test.true (omega arith)
    (ap (λ bs. same_text (chars bs) (chars (get_or c.args.keys.now c.loop-i.i blank).now)) (sym c.deref.ensures)
    ∙ sym c.is_same.ensures ∙ c.if-not-is_same.false)
    ∙ c.loop-i.invariant
