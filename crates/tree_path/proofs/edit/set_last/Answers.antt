use Rattle.std.proofs.Common.{◌≡◌, Ok, [], ◌∷◌, ◌+◌, length, Global, inl, inr, sym, ap, subst, ◌∙◌, arith}
use Rattle.tree_path.proofs.Prelude.{cow_str_bytes, CowStr, chars, length-map, on_ok_weaker, on_err_weaker, IfErr-weaker, IfOk-weaker}
use Rattle.tree_path.proofs.{Prelude.{tree_of, texts}, Descents.{texts-append, Rebuilt-same, at_from-Lowered}, Ways.{knows-way, knows-last}}
use Rattle.tree_path.{proofs.{Ways.parents-split, Edits.{IfOk-default, set-Rebuilt, set-missed, set-refused}}, specs.Paths.{put, at}}
use Rattle.tree_path.specs.{Paths.{at_step, key_in}, Steps.{KnowsLast, Rebuilt}}
use Rattle.tree_path.proofs.edit.set_last.Goals as goal

pub returns-in-Err-clause-refused : goal.returns-in-Err-clause-refused
returns-in-Err-clause-refused c =
    let cases = rw c.unwrap.ensures at c.split_last.ensures.cases in
    let parents = texts c.unwrap.result.1.now in
    let last = chars (cow_str_bytes c.unwrap.result.0.now) in
    let split = ap texts cases.0 ∙ texts-append c.unwrap.result.1.now (c.unwrap.result.0.now ∷ []) in
    inr (set-refused (texts c.args.tokens.now) parents last (tree_of c.args.tree.now)
    (tree_of c.args.value) c.in-Err.fault split c.in-Err.ensures.refused)

pub returns-clause-ok : goal.returns-clause-ok
returns-clause-ok c =
    let cases = rw c.unwrap.ensures at c.split_last.ensures.cases in
    let parents = texts c.unwrap.result.1.now in
    let last = chars (cow_str_bytes c.unwrap.result.0.now) in
    let split = ap texts cases.0 ∙ texts-append c.unwrap.result.1.now (c.unwrap.result.0.now ∷ []) in
    let same : c.as_str-token.result.now ≡ cow_str_bytes c.unwrap.result.0.now = c.as_str-token.ensures.value in
    let t = tree_of c.args.tree.now in
    let u = tree_of c.descend.new.tree in
    let low = IfOk-default c.descend.result c.descend.ensures.ok c.in_default.not-Err in
    on_ok_weaker c.put-outcome.result
    (λ is. set-Rebuilt (texts c.args.tokens.now) parents last t _ u (tree_of c.descend.new.above)
    (tree_of c.args.value) (tree_of c.put-outcome.new.tree) (tree_of c.ascend.new.tree)
    split low (ap (λ b. put u (chars b) (tree_of c.args.value)) (sym same) ∙ is) (c.ascend.ensures t _ u low).0)
    c.put-outcome.ensures.ok

-- what was displaced goes back
pub returns-clause-back : goal.returns-clause-back
returns-clause-back c =
    let cases = rw c.unwrap.ensures at c.split_last.ensures.cases in
    let parents = texts c.unwrap.result.1.now in
    let last = chars (cow_str_bytes c.unwrap.result.0.now) in
    let split = ap texts cases.0 ∙ texts-append c.unwrap.result.1.now (c.unwrap.result.0.now ∷ []) in
    let steps = sym (parents-split (texts c.args.tokens.now) parents last split) in
    let t = tree_of c.args.tree.now in
    let u = tree_of c.descend.new.tree in
    let r = tree_of c.ascend.new.tree in
    let w = tree_of c.put-outcome.new.tree in
    let low = IfOk-default c.descend.result c.descend.ensures.ok c.in_default.not-Err in
    IfOk-weaker c.put-outcome.result _ _
    (λ d h. record {
      here = w;
      there = u;
      found = subst (λ ts. at t ts ≡ Ok u) steps (at_from-Lowered parents 1 t _ u (tree_of c.descend.new.above) low);
      made = subst (λ ts. Rebuilt ts t w r) steps (c.ascend.ensures t _ u low).0;
      puts = h;
    })
    c.put-outcome.ensures.back

pub returns-clause-refused : goal.returns-clause-refused
returns-clause-refused c =
    let cases = rw c.unwrap.ensures at c.split_last.ensures.cases in
    let parents = texts c.unwrap.result.1.now in
    let last = chars (cow_str_bytes c.unwrap.result.0.now) in
    let split = ap texts cases.0 ∙ texts-append c.unwrap.result.1.now (c.unwrap.result.0.now ∷ []) in
    let same : c.as_str-token.result.now ≡ cow_str_bytes c.unwrap.result.0.now = c.as_str-token.ensures.value in
    let t = tree_of c.args.tree.now in
    let u = tree_of c.descend.new.tree in
    let low = IfOk-default c.descend.result c.descend.ensures.ok c.in_default.not-Err in
    let n : length c.args.tokens.now ≡ length parents + 1 =
    omega (arith, cases.1, length-map c.unwrap.result.1.now (λ (x : CowStr Global). chars (cow_str_bytes x))) in
    IfErr-weaker c.put-outcome.result _ _
    (λ e missed. elim missed [
      | inl memory ↦ inl memory
      | inr is ↦ inr (set-missed (texts c.args.tokens.now) parents last (length c.args.tokens.now) t _ u
          (tree_of c.descend.new.above) (tree_of c.args.value) e.1
          split n low (ap (λ b. at_step (length c.args.tokens.now) (put u (chars b) (tree_of c.args.value)) Ok) (sym same) ∙ is))
    ])
    c.put-outcome.ensures.refused

pub returns-clause-unchanged : goal.returns-clause-unchanged
returns-clause-unchanged c =
    let parents = texts c.unwrap.result.1.now in
    let t = tree_of c.args.tree.now in
    let u = tree_of c.descend.new.tree in
    let low = IfOk-default c.descend.result c.descend.ensures.ok c.in_default.not-Err in
    on_err_weaker c.put-outcome.result
    (λ same. Rebuilt-same parents t _ u (tree_of c.descend.new.above) (tree_of c.ascend.new.tree) low
    (subst (λ x. Rebuilt parents t x (tree_of c.ascend.new.tree)) same (c.ascend.ensures t _ u low).0))
    c.put-outcome.ensures.unchanged

pub descend-requires : goal.descend-requires
descend-requires c =
    let cases = rw c.unwrap.ensures at c.split_last.ensures.cases in
    let parents = texts c.unwrap.result.1.now in
    let last = chars (cow_str_bytes c.unwrap.result.0.now) in
    let split = ap texts cases.0 ∙ texts-append c.unwrap.result.1.now (c.unwrap.result.0.now ∷ []) in
    knows-way c.args.known (tree_of c.args.tree.now) (texts c.args.tokens.now) parents last split c.requires.known

pub key_place-place-requires : goal.key_place-place-requires
key_place-place-requires c =
    let cases = rw c.unwrap.ensures at c.split_last.ensures.cases in
    let parents = texts c.unwrap.result.1.now in
    let last = chars (cow_str_bytes c.unwrap.result.0.now) in
    let split = ap texts cases.0 ∙ texts-append c.unwrap.result.1.now (c.unwrap.result.0.now ∷ []) in
    let t = tree_of c.args.tree.now in
    let u = tree_of c.descend.new.tree in
    let low = IfOk-default c.descend.result c.descend.ensures.ok c.in_default.not-Err in
    subst (λ b. KnowsLast c.args.known (key_in u (chars b))) (sym c.as_str-token.ensures.value)
    (knows-last c.args.known t u (texts c.args.tokens.now) parents last split
    (at_from-Lowered parents 1 t _ u (tree_of c.descend.new.above) low) c.requires.known)

pub ascend-requires : goal.ascend-requires
ascend-requires c =
    let cases = rw c.unwrap.ensures at c.split_last.ensures.cases in
    let parents = texts c.unwrap.result.1.now in
    let last = chars (cow_str_bytes c.unwrap.result.0.now) in
    let split = ap texts cases.0 ∙ texts-append c.unwrap.result.1.now (c.unwrap.result.0.now ∷ []) in
    let t = tree_of c.args.tree.now in
    let low = IfOk-default c.descend.result c.descend.ensures.ok c.in_default.not-Err in
    (t, _, tree_of c.descend.new.tree, low, knows-way c.args.known t (texts c.args.tokens.now) parents last split c.requires.known)
