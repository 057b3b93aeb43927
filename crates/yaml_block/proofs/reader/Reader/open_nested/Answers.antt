use Rattle.std.specs.Prelude.{OnOk, Result, Ok, Err}
use Rattle.yaml_block.proofs.{NestedKeys.nested_leads}
use Rattle.yaml_block.proofs.reader.Reader.open_nested.Goals as goal

-- what two facts of a success give
on_both : {A : Type 0} {E : Type 0} (r : Result A E) (P Q R : Type 0) → OnOk r P → OnOk r Q → (P → Q → R) → OnOk r R
on_both (Ok x) P Q R p q f = f p q
on_both (Err y) P Q R p q f = p

pub returns-clause-leads : goal.returns-clause-leads
returns-clause-leads c =
    on_both c.put.result _ _ _ c.put.ensures.events c.put.ensures.events
    (λ e _. nested_leads c.args.text.now c.utf8.text c.args.at c.args.indent c.args.end c.args.nested c.args.self.now
    c.wait.new.self c.put.new.self (c.requires.placed).boundary c.requires.end (c.requires.placed).deep c.requires.above
    c.requires.colon c.requires.short c.requires.nested c.in_ok-wait.ensures.collections c.in_ok-wait.ensures.events
    c.put.ensures.collections e)
