use Rattle.std.{proofs.Common.{◌≡◌, sym, ap, subst, ◌∙◌}, specs.Str.chars}
use Rattle.{yaml_data.specs.Seen.tree_of, conf_state.specs.Commands.text_of, conf_conditions.specs.Conditions.{Judges, condition_of}}
use Rattle.conf_conditions.specs.Conditions.{fault_of, test_at}
use Rattle.conf_conditions.proofs.checking.judge.Goals as goal

pub returns-in-Test : goal.returns-in-Test
returns-in-Test g c =
    let seen : test_at (chars c.deref.result.now) (chars c.deref-in-Test.result.now) (tree_of c.tree.result.now)
    ≡ condition_of c.args.condition.now =
    ap (λ n. test_at (chars n) (chars c.deref-in-Test.result.now) (tree_of c.tree.result.now)) c.deref.ensures
    ∙ ap (λ p. test_at (text_of c.in-Test.name) (chars p) (tree_of c.tree.result.now)) c.deref-in-Test.ensures
    ∙ ap (λ t. test_at (text_of c.in-Test.name) (text_of c.in-Test.path) (tree_of t)) c.tree.ensures.same
    ∙ sym (ap condition_of c.in-Test.is) in
    subst (λ q. Judges (fault_of c.args.store.now.state q) c.test.result) seen c.test.ensures
