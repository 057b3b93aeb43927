use Rattle.std.{proofs.Common.{◌≡◌, refl, sym, ◌∙◌, ap, subst, arith}, specs.Prelude.{◌++◌, MatchOption}}
use Rattle.yaml_block.proofs.{Prelude.{omitted_at, ok_so}, Stacks.{grown_grown, grown_same}, UnwindSteps.{SignHere, alone_key, item_ends}}
use Rattle.yaml_block.proofs.UnwindSteps.{item_next, item_of, key_of, left_out, pair_of, sign_here, sign_onward, value_next}
use Rattle.yaml_block.specs.{Frames.AfterPair, declared.line_sign.Sign.TheVariants.{Asked, Dash}}
use Rattle.yaml_block.proofs.reader.Reader.after_part.Goals as goal

pub returns-then-goes_on_with-clause-turn : goal.returns-then-goes_on_with-clause-turn
returns-then-goes_on_with-clause-turn c =
    let text = c.args.text.now in
    let line = c.args.after.line in
    let k = c.args.collection.indent in
    let here : SignHere text line k 45 = sign_here text line k 45 c.utf8.text (c.requires.line).line (omega arith) refl
    (sym c.goes_on_with.ensures ∙ c.if-goes_on_with.true) in
    record {
      onward = sign_onward text line k 45 Dash here;
      turns = λ W from base fs evs h p.
          item_next W text from base fs evs c.args.self.now c.wait.new.self h k line c.args.self.now.end
          (item_of W text from fs evs c.args.collection line.start c.args.self.now.end c.in-Item.is p) here
          c.in_ok-wait-in-Item.ensures.collections c.in_ok-wait-in-Item.ensures.events;
      ended = tt;
    }

pub returns-in_ok-put-in-Item-clause-turn : goal.returns-in_ok-put-in-Item-clause-turn
returns-in_ok-put-in-Item-clause-turn c =
    let text = c.args.text.now in
    let start = c.args.after.line.start in
    let put = c.in_ok-put-in-Item.ensures in
    record {
      onward = tt;
      turns = λ W from base fs evs h p.
          item_ends W text from base fs evs c.args.self.now c.put.new.self h c.args.collection.indent start
          c.args.self.now.end
          (item_of W text from fs evs c.args.collection start c.args.self.now.end c.in-Item.is p)
          (sym c.goes_on_with.ensures ∙ c.if-goes_on_with.false) put.collections put.events put.end;
      ended = ap (λ v. v.items) put.collections;
    }

pub returns-then-goes_on_with-2-clause-turn : goal.returns-then-goes_on_with-2-clause-turn
returns-then-goes_on_with-2-clause-turn c =
    let text = c.args.text.now in
    let line = c.args.after.line in
    let k = c.args.collection.indent in
    let here : SignHere text line k 58 = sign_here text line k 58 c.utf8.text (c.requires.line).line (omega arith) refl
    (sym c.goes_on_with-in-Key.ensures ∙ c.if-goes_on_with-2.true) in
    record {
      onward = sign_onward text line k 58 Asked here;
      turns = λ W from base fs evs h p.
          value_next W text from base fs evs c.args.self.now c.wait-then-goes_on_with-2.new.self h k line
          c.args.self.now.end
          (key_of W text from fs evs c.args.collection line.start c.args.self.now.end c.in-Key.is p) here
          c.in_ok-wait-in-Key.ensures.collections c.in_ok-wait-in-Key.ensures.events;
      ended = tt;
    }

pub returns-in_ok-put_omitted-in-Key-clause-turn : goal.returns-in_ok-put_omitted-in-Key-clause-turn
returns-in_ok-put_omitted-in-Key-clause-turn c =
    let text = c.args.text.now in
    let start = c.args.after.line.start in
    let k = c.args.collection.indent in
    let end = c.args.self.now.end in
    let put = c.in_ok-put_omitted-in-Key.ensures in
    ok_so c.after_pair.result _ _
    (λ next t. record {
      onward = t.onward;
      turns = λ W from base fs evs h p.
          t.turns W from base fs (evs ++ omitted_at end)
          (left_out text base fs evs c.args.self.now c.put_omitted.new.self put.events.event end h put.collections
          put.events.is put.events.means (put.events.borrows text))
          (subst (λ e. AfterPair W text from fs (evs ++ omitted_at end) k start e) (sym put.end)
          (alone_key W text from fs evs k start end
          (key_of W text from fs evs c.args.collection start end c.in-Key.is p)
          (sym c.goes_on_with-in-Key.ensures ∙ c.if-goes_on_with-2.false)));
      ended = subst (λ v. MatchOption next (c.after_pair.new.self.collections.items ≡ v.items) (λ _. Unit {0}))
          put.collections t.ended;
    })
    c.after_pair.ensures.turn

pub returns-in-Value-clause-turn : goal.returns-in-Value-clause-turn
returns-in-Value-clause-turn c =
    ok_so c.after_pair-in-Value.result _ _
    (λ next t. record {
      onward = t.onward;
      turns = λ W from base fs evs h p.
          t.turns W from base fs evs h
          (pair_of W c.args.text.now from fs evs c.args.collection c.args.after.line.start c.args.self.now.end
          c.in-Value.is p);
      ended = t.ended;
    })
    c.after_pair-in-Value.ensures.turn

pub returns-in_err-wait-in-Item-clause-grown : goal.returns-in_err-wait-in-Item-clause-grown
returns-in_err-wait-in-Item-clause-grown c = grown_same c.args.self.now.events c.wait.new.self.events
    c.in_err-wait-in-Item.ensures.events

pub returns-then-goes_on_with-clause-grown : goal.returns-then-goes_on_with-clause-grown
returns-then-goes_on_with-clause-grown c = grown_same c.args.self.now.events c.wait.new.self.events
    c.in_ok-wait-in-Item.ensures.events

pub returns-in_err-wait-in-Key-clause-grown : goal.returns-in_err-wait-in-Key-clause-grown
returns-in_err-wait-in-Key-clause-grown c =
    grown_same c.args.self.now.events c.wait-then-goes_on_with-2.new.self.events
    c.in_err-wait-in-Key.ensures.events

pub returns-then-goes_on_with-2-clause-grown : goal.returns-then-goes_on_with-2-clause-grown
returns-then-goes_on_with-2-clause-grown c =
    grown_same c.args.self.now.events c.wait-then-goes_on_with-2.new.self.events
    c.in_ok-wait-in-Key.ensures.events

pub returns-in_ok-put_omitted-in-Key-clause-grown : goal.returns-in_ok-put_omitted-in-Key-clause-grown
returns-in_ok-put_omitted-in-Key-clause-grown c =
    grown_grown c.args.self.now.events c.put_omitted.new.self.events c.after_pair.new.self.events
    c.in_ok-put_omitted-in-Key.ensures.grown c.after_pair.ensures.grown
