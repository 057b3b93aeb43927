use Rattle.std.proofs.Common.{inl, inr, ◌≡◌, Bool, true, false, not, refl, sym, ◌∙◌}
use Rattle.conf_state.{proofs.{Prelude.{chars, tree_of}, PartLemmas.{is_none, on_ok_from, refused_over}}, specs.Kept.entries_of}
use Rattle.conf_state.specs.States.{config_named}
use Rattle.conf_state.proofs.state.is_fit.Goals as goal

not_true : (b : Bool) → not b ≡ true → b ≡ false
not_true true e = cc
not_true false e = refl

not_false : (b : Bool) → not b ≡ false → b ≡ true
not_false true e = refl
not_false false e = cc

pub returns-then-not-good_name-clause-unfit : goal.returns-then-not-good_name-clause-unfit
returns-then-not-good_name-clause-unfit c = λ e. inl (sym c.good_name.ensures.named ∙ c.if-not-good_name.true)

pub returns-then-is_err-clause-unfit : goal.returns-then-is_err-clause-unfit
returns-then-is_err-clause-unfit c = λ e.
    inr (inl (refused_over (tree_of c.args.config.now) c.check_limits.result
    (sym c.is_err.ensures.value ∙ c.if-is_err.true) c.check_limits.ensures.refused))

pub returns-clause-fit : goal.returns-clause-fit
returns-clause-fit c = λ e. record {
  named = sym c.good_name.ensures.named ∙ c.if-not-good_name.false;
  within = on_ok_from c.check_limits.result _ (sym c.is_err.ensures.value ∙ c.if-is_err.false) c.check_limits.ensures.within;
  absent = is_none (config_named (entries_of c.args.configs.now) (chars c.args.name.now)) (sym c.has.ensures ∙ not_true c.has.result e);
}

pub returns-clause-unfit : goal.returns-clause-unfit
returns-clause-unfit c = λ e. inr (inr (sym c.has.ensures ∙ not_false c.has.result e))
