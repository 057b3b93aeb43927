use Rattle.std.proofs.Common.{arith, inl, inr, refl, sym, ◌∙◌}
use Rattle.yaml_block.proofs.{Prelude.{err_from_is_err_and, fault_passed, refuses}, Stacks.grown_same, TextPlaces.past_sign}
use Rattle.yaml_block.{proofs.KeysAndPairs.{after_onward, pair_key, pair_unkeyed}, specs.States.{BeforeColon, Fails}}
use Rattle.yaml_block.specs.declared.line_sign.Sign.TheVariants.{Colon}
use Rattle.yaml_block.proofs.reader.Reader.after_key.Goals as goal

pub returns-then-not-sign_at-clause-none : goal.returns-then-not-sign_at-clause-none
returns-then-not-sign_at-clause-none c =
    let text = c.args.text.now in
    refuses c.refusal.result (Fails text (BeforeColon text c.args.indent c.args.at c.args.end) c.args.self.now)
    (pair_unkeyed text c.utf8.text c.args.at c.args.indent c.args.end c.white_end-colon.result
    (c.requires.placed).boundary c.requires.end (c.white_end-colon.ensures).taken c.args.self.now
    (inl (sym c.sign_at.ensures ∙ c.if-not-sign_at.true)))

pub returns-then-not-at_most_chars-clause-none : goal.returns-then-not-at_most_chars-clause-none
returns-then-not-at_most_chars-clause-none c =
    let text = c.args.text.now in
    refuses c.refusal-then-not-at_most_chars.result
    (Fails text (BeforeColon text c.args.indent c.args.at c.args.end) c.args.self.now)
    (pair_unkeyed text c.utf8.text c.args.at c.args.indent c.args.end c.white_end-colon.result
    (c.requires.placed).boundary c.requires.end (c.white_end-colon.ensures).taken c.args.self.now
    (inr (sym c.at_most_chars.ensures ∙ c.if-not-at_most_chars.true)))

pub returns-clause-onward : goal.returns-clause-onward
returns-clause-onward c =
    let text = c.args.text.now in
    let at = c.args.at in
    let colon = c.white_end-colon.result in
    let white = (c.white_end-colon.ensures).taken in
    let s = past_sign text colon 58 c.utf8.text white.boundary (omega arith) refl
    (sym c.sign_at.ensures ∙ c.if-not-sign_at.false) in
    after_onward text at _ colon c.args.indent Colon s (omega (arith, c.requires.above, white.above))
    (omega (arith, (c.requires.placed).deep, c.requires.above, white.above))
    (omega (arith, s.below, c.requires.above, white.above))

pub returns-clause-leads : goal.returns-clause-leads
returns-clause-leads c =
    pair_key c.args.text.now c.utf8.text c.args.at c.args.indent c.args.end c.white_end-colon.result
    (c.requires.placed).boundary c.requires.end (c.white_end-colon.ensures).taken c.args.self.now c.wait.new.self
    (sym c.sign_at.ensures ∙ c.if-not-sign_at.false) (sym c.at_most_chars.ensures ∙ c.if-not-at_most_chars.false)
    (c.in_ok-wait.ensures).collections (c.in_ok-wait.ensures).events

pub returns-clause-grown : goal.returns-clause-grown
returns-clause-grown c = grown_same c.args.self.now.events c.wait.new.self.events (c.in_ok-wait.ensures).events

pub returns-in_err-wait-clause-grown : goal.returns-in_err-wait-clause-grown
returns-in_err-wait-clause-grown c = grown_same c.args.self.now.events c.wait.new.self.events
    (c.in_err-wait.ensures).events

pub returns-in_err-wait-clause-none : goal.returns-in_err-wait-clause-none
returns-in_err-wait-clause-none c =
    let text = c.args.text.now in
    fault_passed c.from_residual.result c.in_err-wait.field-0.0 ⊥
    (Fails text (BeforeColon text c.args.indent c.args.at c.args.end) c.args.self.now) (λ x. absurd x)
    (c.in_err-wait.ensures).none (err_from_is_err_and c.from_residual.result c.from_residual.ensures.1)
