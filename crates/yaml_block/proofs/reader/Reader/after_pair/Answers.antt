use Rattle.std.proofs.Common.{sym, ◌∙◌, ap}
use Rattle.yaml_block.proofs.UnwindSteps.{pair_here, pair_onward, pair_next, pair_ends}
use Rattle.yaml_block.proofs.reader.Reader.after_pair.Goals as goal

pub returns-then-goes_on_with_pair-clause-turn : goal.returns-then-goes_on_with_pair-clause-turn
returns-then-goes_on_with_pair-clause-turn c =
    let text = c.args.text.now in
    let line = c.args.after.line in
    let t = sym c.goes_on_with_pair.ensures ∙ c.if-goes_on_with_pair.true in
    let here = pair_here text line c.args.indent c.utf8.text (c.requires.line).line t in
    record {
      onward = pair_onward text line c.args.indent (c.requires.line).line here;
      turns = λ W from base fs evs h p. pair_next W text from base fs evs c.args.self.now c.args.indent line
          c.args.self.now.end h p t here;
      ended = tt;
    }

pub returns-clause-turn : goal.returns-clause-turn
returns-clause-turn c = record {
  onward = tt;
  turns = λ W from base fs evs h p.
      pair_ends W c.args.text.now from base fs evs c.args.self.now c.put.new.self h c.args.indent
      c.args.after.line.start c.args.self.now.end p
      (sym c.goes_on_with_pair.ensures ∙ c.if-goes_on_with_pair.false) c.in_ok-put.ensures.collections
      c.in_ok-put.ensures.events c.in_ok-put.ensures.end;
  ended = ap (λ v. v.items) c.in_ok-put.ensures.collections;
}
