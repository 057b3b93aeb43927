-- By what `ends_with` found.
use Rattle.std.proofs.Common.{sym, ◌∙◌, lit<, refl, inl, inr}
use Rattle.yaml_style.proofs.{Prelude.{cases_Bool, MatchBool-at_true, MatchBool-at_false, tab, space_char}, RuleLemmas.white_at_end}
use Rattle.yaml_style.proofs.RuleLemmas.{no_white_at_end}
use Rattle.yaml_style.proofs.lines.ends_in_white.Goals as goal

pub returns-then-ends_with : goal.returns-then-ends_with
returns-then-ends_with c =
    let has = MatchBool-at_true _ _ c.if-ends_with.true c.ends_with.ensures.cases in
    c.if-ends_with.true ∙ sym (white_at_end c.args.content.now has.0 space_char c.utf8.content (lit< tt) refl has.3 has.1.1.split)

pub returns-else-ends_with : goal.returns-else-ends_with
returns-else-ends_with c = elim (cases_Bool c.ends_with-else-ends_with.result) [
  | inl is ↦ (let has = MatchBool-at_true _ _ is c.ends_with-else-ends_with.ensures.cases in
      is ∙ sym (white_at_end c.args.content.now has.0 tab c.utf8.content (lit< tt) refl has.3 has.1.1.split))
  | inr is_not ↦ is_not ∙ sym (no_white_at_end c.args.content.now c.utf8.content
      (MatchBool-at_false _ _ c.if-ends_with.false c.ends_with.ensures.cases)
      (MatchBool-at_false _ _ is_not c.ends_with-else-ends_with.ensures.cases))
]
