use Rattle.std.proofs.Common.{rules, ◌≡◌, List, length, min, [], ◌∷◌, MatchOption, ap, sym, subst, ◌∙◌, refl, arith}
use Rattle.conf_state.proofs.Prelude.{into_iter_items, tree_of}
use Rattle.conf_state.specs.{BaseTexts.framed_length, Commands.text_of, Kept.entries_of, Kept.Appended, Kept.IsUnfit}
use Rattle.conf_state.proofs.PartLemmas.{SoFar, so_far_first, so_far_more, unfit_none, parts_kept, parts_long, parts_state}
use Rattle.conf_state.proofs.state.State.from_parts.Goals as goal

pub append-requires : goal.append-requires
append-requires c = c.loop-name.invariant.0.plain

pub loop-name-init : goal.loop-name-init
loop-name-init c =
    let all = entries_of c.args.parts.items in (
      subst (λ es. SoFar all es (entries_of (into_iter_items c.into_iter-name-iterator.result)) 0) (sym c.new-configs.ensures)
          (subst (λ xs. SoFar all [] (entries_of xs) 0) (sym c.into_iter-name-iterator.ensures.into_iter_gives.0) (so_far_first all)),
      search rules,
    )

pub loop-name-preserved : goal.loop-name-preserved
loop-name-preserved c =
    let all = entries_of c.args.parts.items in
    let old = c.loop-name.configs in
    let new = c.append.new.configs in
    let name = text_of c.in-Some.name in
    let t = tree_of c.in-Some.config in
    let left = entries_of (into_iter_items c.next.new.self) in
    let gone = c.in-Some.ensures.steps.1 in
    let one = ap length c.in-Some.ensures.steps.0 in
    let was = c.loop-name.invariant.1 in (
      so_far_more all old new name t left c.loop-name.entries c.in-Some-2.length c.saturating_add-entries.result
          (subst (λ xs. SoFar all old (entries_of xs) c.loop-name.entries) c.in-Some.ensures.steps.0 c.loop-name.invariant.0)
          (subst (λ o. MatchOption o (IsUnfit (entries_of old) name t) (Appended old new name t)) c.in-Some-2.is c.in_ok-length.ensures)
          c.saturating_add-entries.ensures,
      omega arith,
    )

pub returns-in-None-2-clause-none : goal.returns-in-None-2-clause-none
returns-in-None-2-clause-none c =
    let all = entries_of c.args.parts.items in
    let old = c.loop-name.configs in
    let new = c.append.new.configs in
    let name = text_of c.in-Some.name in
    let t = tree_of c.in-Some.config in
    let left = entries_of (into_iter_items c.next.new.self) in
    unfit_none all old name t left c.loop-name.entries c.args.count
    (subst (λ xs. SoFar all old (entries_of xs) c.loop-name.entries) c.in-Some.ensures.steps.0 c.loop-name.invariant.0)
    (subst (λ o. MatchOption o (IsUnfit (entries_of old) name t) (Appended old new name t)) c.in-None-2.is c.in_ok-length.ensures)

nothing_left : {X : Type 0} (l : List X) → length l ≡ 0 → l ≡ []
nothing_left [] h = refl
nothing_left (x ∷ xs) h = absurd (omega arith)

pub returns-then-base_length-gt-BASE_LIMIT-clause-none : goal.returns-then-base_length-gt-BASE_LIMIT-clause-none
returns-then-base_length-gt-BASE_LIMIT-clause-none c =
    let all = entries_of c.args.parts.items in
    let done = c.loop-name.configs in
    let empty = nothing_left (into_iter_items c.loop-name.name-iterator) (c.loop-name.invariant.1 ∙ c.in-None.ensures.steps.0) in
    let so = subst (λ xs. SoFar all done (entries_of xs) c.loop-name.entries) empty c.loop-name.invariant.0 in
    parts_long all done c.loop-name.entries c.args.count c.base_length.result so (omega arith)
    (c.base_length.ensures ∙ ap (λ n. min (framed_length n c.loop-name.entries) 18446744073709551615) c.from.ensures)
    c.if-base_length-gt-BASE_LIMIT.true

pub invariant_of-result : goal.invariant_of-result
invariant_of-result c =
    let all = entries_of c.args.parts.items in
    let done = c.loop-name.configs in
    let empty = nothing_left (into_iter_items c.loop-name.name-iterator) (c.loop-name.invariant.1 ∙ c.in-None.ensures.steps.0) in
    let so = subst (λ xs. SoFar all done (entries_of xs) c.loop-name.entries) empty c.loop-name.invariant.0 in
    parts_kept all done c.loop-name.entries c.args.count c.base_length.result so (omega arith)
    (c.base_length.ensures ∙ ap (λ n. min (framed_length n c.loop-name.entries) 18446744073709551615) c.from.ensures)
    c.if-base_length-gt-BASE_LIMIT.false

pub returns-clause-some : goal.returns-clause-some
returns-clause-some c =
    let all = entries_of c.args.parts.items in
    let done = c.loop-name.configs in
    let empty = nothing_left (into_iter_items c.loop-name.name-iterator) (c.loop-name.invariant.1 ∙ c.in-None.ensures.steps.0) in
    let so = subst (λ xs. SoFar all done (entries_of xs) c.loop-name.entries) empty c.loop-name.invariant.0 in
    let is = c.base_length.ensures ∙ ap (λ n. min (framed_length n c.loop-name.entries) 18446744073709551615) c.from.ensures in (
      parts_state all done c.loop-name.entries c.args.count c.base_length.result so (omega arith) is,
      (parts_kept all done c.loop-name.entries c.args.count c.base_length.result so
          (omega arith) is c.if-base_length-gt-BASE_LIMIT.false).state,
    )
