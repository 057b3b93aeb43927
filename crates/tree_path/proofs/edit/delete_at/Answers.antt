use Rattle.std.proofs.Common.{◌≡◌, Err, [], ◌∷◌, ◌+◌, length, Global, sym, ap, subst, ◌∙◌, arith}
use Rattle.tree_path.proofs.{Prelude.{cow_str_bytes, CowStr, chars, length-map, err_from_is_err_and, tree_of, texts}, Descents.texts-append}
use Rattle.tree_path.proofs.{Descents.{Rebuilt-same, at_from-Lowered}, Ways.{knows-way, knows-last}, Edits.{delete-Rebuilt, delete-missed}}
use Rattle.tree_path.{proofs.Edits.{delete-refused, at-last}, specs.{Paths.{child, cut, key_in}, Steps.{KnowsLast, Rebuilt}}}
use Rattle.tree_path.proofs.edit.delete_at.Goals as goal

pub returns-in_err-descend-clause-refused : goal.returns-in_err-descend-clause-refused
returns-in_err-descend-clause-refused c =
    let cases = rw c.unwrap.ensures at c.split_last.ensures.cases in
    let last = c.unwrap.result.0.now in
    let parents = c.unwrap.result.1.now in
    let p = err_from_is_err_and c.from_residual.result c.from_residual.ensures.1 in
    rw (p.1, p.2)
    (delete-refused (texts c.args.tokens.now) (texts parents) (chars (cow_str_bytes last))
    (tree_of c.args.tree.now) c.in_err-descend.field-0.0
    (ap texts cases.0 ∙ texts-append parents (last ∷ [])) c.in_err-descend.ensures.refused)

pub returns-in-Ok-clause-ok : goal.returns-in-Ok-clause-ok
returns-in-Ok-clause-ok c =
    let cases = rw c.unwrap.ensures at c.split_last.ensures.cases in
    let last = c.unwrap.result.0.now in
    let parents = c.unwrap.result.1.now in
    let t = tree_of c.args.tree.now in
    let u = tree_of c.descend.new.tree in
    let low = c.in_ok-descend.ensures.ok in
    delete-Rebuilt (texts c.args.tokens.now) (texts parents) (chars (cow_str_bytes last)) t _ u
    (tree_of c.descend.new.above) (tree_of c.cut-outcome.new.tree) (tree_of c.ascend.new.tree)
    (ap texts cases.0 ∙ texts-append parents (last ∷ [])) low
    (ap (λ b. cut u (chars b)) (sym c.as_str-token.ensures.value) ∙ c.in-Ok.ensures.ok) (c.ascend.ensures t _ u low).0

pub returns-in-Ok-clause-removed : goal.returns-in-Ok-clause-removed
returns-in-Ok-clause-removed c =
    let cases = rw c.unwrap.ensures at c.split_last.ensures.cases in
    let last = c.unwrap.result.0.now in
    let parents = c.unwrap.result.1.now in
    let u = tree_of c.descend.new.tree in
    at-last (texts c.args.tokens.now) (texts parents) (chars (cow_str_bytes last)) (tree_of c.args.tree.now) _ u
    (tree_of c.descend.new.above) (tree_of c.in-Ok.removed)
    (ap texts cases.0 ∙ texts-append parents (last ∷ [])) c.in_ok-descend.ensures.ok
    (ap (λ b. child u (chars b)) (sym c.as_str-token.ensures.value) ∙ c.in-Ok.ensures.removed)

pub returns-clause-refused : goal.returns-clause-refused
returns-clause-refused c =
    let cases = rw c.unwrap.ensures at c.split_last.ensures.cases in
    let last = c.unwrap.result.0.now in
    let parents = c.unwrap.result.1.now in
    let u = tree_of c.descend.new.tree in
    let n : length c.args.tokens.now ≡ length (texts parents) + 1 =
    omega (arith, cases.1, length-map parents (λ (x : CowStr Global). chars (cow_str_bytes x))) in
    delete-missed (texts c.args.tokens.now) (texts parents) (chars (cow_str_bytes last)) (length c.args.tokens.now)
    (tree_of c.args.tree.now) _ u (tree_of c.descend.new.above) c.in-Err.miss
    (ap texts cases.0 ∙ texts-append parents (last ∷ [])) n c.in_ok-descend.ensures.ok
    (ap (λ b. cut u (chars b)) (sym c.as_str-token.ensures.value) ∙ c.in-Err.ensures.missed)
    ∙ ap Err (sym c.at_step.ensures)

pub returns-clause-unchanged : goal.returns-clause-unchanged
returns-clause-unchanged c =
    let parents = texts c.unwrap.result.1.now in
    let t = tree_of c.args.tree.now in
    let u = tree_of c.descend.new.tree in
    let low = c.in_ok-descend.ensures.ok in
    Rebuilt-same parents t _ u (tree_of c.descend.new.above) (tree_of c.ascend.new.tree) low
    (subst (λ x. Rebuilt parents t (tree_of x) (tree_of c.ascend.new.tree)) c.in-Err.ensures.unchanged (c.ascend.ensures t _ u low).0)

pub descend-requires : goal.descend-requires
descend-requires c =
    let cases = rw c.unwrap.ensures at c.split_last.ensures.cases in
    let last = c.unwrap.result.0.now in
    let parents = c.unwrap.result.1.now in
    knows-way c.args.known (tree_of c.args.tree.now) (texts c.args.tokens.now) (texts parents) (chars (cow_str_bytes last))
    (ap texts cases.0 ∙ texts-append parents (last ∷ [])) c.requires.known

pub key_place-place-requires : goal.key_place-place-requires
key_place-place-requires c =
    let cases = rw c.unwrap.ensures at c.split_last.ensures.cases in
    let last = c.unwrap.result.0.now in
    let parents = c.unwrap.result.1.now in
    let t = tree_of c.args.tree.now in
    let u = tree_of c.descend.new.tree in
    subst (λ b. KnowsLast c.args.known (key_in u (chars b))) (sym c.as_str-token.ensures.value)
    (knows-last c.args.known t u (texts c.args.tokens.now) (texts parents) (chars (cow_str_bytes last))
    (ap texts cases.0 ∙ texts-append parents (last ∷ []))
    (at_from-Lowered (texts parents) 1 t _ u (tree_of c.descend.new.above) c.in_ok-descend.ensures.ok) c.requires.known)

pub ascend-requires : goal.ascend-requires
ascend-requires c =
    let cases = rw c.unwrap.ensures at c.split_last.ensures.cases in
    let last = c.unwrap.result.0.now in
    let parents = c.unwrap.result.1.now in
    let t = tree_of c.args.tree.now in (
      t,
      _,
      tree_of c.descend.new.tree,
      c.in_ok-descend.ensures.ok,
      knows-way c.args.known t (texts c.args.tokens.now) (texts parents) (chars (cow_str_bytes last))
          (ap texts cases.0 ∙ texts-append parents (last ∷ [])) c.requires.known,
    )
