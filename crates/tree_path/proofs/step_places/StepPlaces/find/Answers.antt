use Rattle.std.proofs.Common.{◌≡◌, Ok, Err, [], ◌∷◌, ◌++◌, ◌+◌, length, take, Global, inr, sym, ap, subst, ◌∙◌, arith, length-append}
use Rattle.tree_path.proofs.Prelude.{cow_str_bytes, CowStr, chars, length-map, length-take-le, take_all, tree_of, texts}
use Rattle.tree_path.specs.{Paths.at, Paths.key_in, Paths.last_key, Steps.step_place, Steps.Leads}
use Rattle.tree_path.proofs.{EditLaws.child-distinct, IndexLemmas.table-known, Ways.place-missed, Ways.Leads-push, Ways.parents-split}
use Rattle.tree_path.proofs.Descents.{texts-append, texts-turn, at_from-turn, at_from-missed, last_key-parent}
use Rattle.tree_path.proofs.step_places.StepPlaces.find.Goals as goal

pub returns-in-Err-clause-refused : goal.returns-in-Err-clause-refused
returns-in-Err-clause-refused c =
    let l = c.loop-passed in
    let tokens = c.in-Some.tokens.now in
    let token = c.index-tokens-passed.result in
    let last = c.in-Some.last.now in
    let t = tree_of c.args.tree.now in
    let node = tree_of l.node.now in
    let split = sym c.tokens.ensures ∙ ap texts c.in-Some.ensures.cases.0 ∙ texts-append tokens (last ∷ []) in
    inr
    (ap (at t) (parents-split c.args.path.now (texts tokens) (chars (cow_str_bytes last)) split)
    ∙ at_from-missed tokens l.passed token t node c.in-Err.miss c.loop-passed-test.true c.index-tokens-passed.is l.invariant.0
    (place-missed node (chars (cow_str_bytes token)) c.in-Err.miss
    (ap (λ b. step_place node (chars b)) (sym c.as_str.ensures.value) ∙ sym c.in-Err.ensures))
    ∙ ap Err (sym c.at_step.ensures))

pub loop-passed-preserved : goal.loop-passed-preserved
loop-passed-preserved c =
    let l = c.loop-passed in
    let tokens = c.in-Some.tokens.now in
    let token = c.index-tokens-passed.result in
    let text = chars (cow_str_bytes token) in
    let t = tree_of c.args.tree.now in
    let node = tree_of l.node.now in
    let place = ap (λ b. step_place node (chars b)) (sym c.as_str.ensures.value) ∙ sym c.in-Ok.ensures in
    let found = c.child_in-node.ensures text place in
    let items = c.in_ok-push.ensures.items in
    let within = c.loop-passed-test.true in
    let before = length-map (take l.passed tokens) (λ (x : CowStr Global). chars (cow_str_bytes x))
    ∙ length-take-le l.passed tokens (omega (arith, within)) in
    let long = length-append l.parents.items (c.in-Ok.place ∷ []) in
    let more = ap length items in
    let count = l.invariant.2 in (
      at_from-turn tokens l.passed token t node (tree_of c.child_in-node.result.now) within c.index-tokens-passed.is l.invariant.0 found,
      subst (λ ps. Leads (texts (take (l.passed + 1) tokens)) t ps) (sym items)
          (subst (λ ts. Leads ts t (l.parents.items ++ c.in-Ok.place ∷ []))
          (sym (texts-turn tokens l.passed token within c.index-tokens-passed.is))
          (Leads-push (texts (take l.passed tokens)) text 1 t node
          (tree_of c.child_in-node.result.now) l.parents.items c.in-Ok.place l.invariant.1
          (l.invariant.2 ∙ sym before) l.invariant.0 place found)),
      omega (arith, more, long, count),
      child-distinct node (tree_of c.child_in-node.result.now) text l.invariant.3 found,
    )

pub returns-clause-ok : goal.returns-clause-ok
returns-clause-ok c =
    let l = c.loop-passed in
    let tokens = c.in-Some.tokens.now in
    let last = c.in-Some.last.now in
    let name = chars (cow_str_bytes last) in
    let t = tree_of c.args.tree.now in
    let node = tree_of l.node.now in
    let split = sym c.tokens.ensures ∙ ap texts c.in-Some.ensures.cases.0 ∙ texts-append tokens (last ∷ []) in
    let all = take_all l.passed tokens c.loop-passed-test.false in
    let there = subst (λ xs. at t (texts xs) ≡ Ok node) all l.invariant.0 in record {
      parents =
          subst (λ xs. Leads xs t l.parents.items) (sym (parents-split c.args.path.now (texts tokens) name split))
          (subst (λ xs. Leads (texts xs) t l.parents.items) all l.invariant.1);
      last =
          c.key_in_by-last.ensures ∙ ap (λ b. key_in node (chars b)) c.as_str-2.ensures.value
          ∙ sym (ap (last_key t) split ∙ last_key-parent (texts tokens) name 1 t node there);
    }

pub step_place_by-requires-clause-table : goal.step_place_by-requires-clause-table
step_place_by-requires-clause-table c =
    let l = c.loop-passed in
    table-known c.table_at-table.result c.args.index (tree_of c.args.tree.now) (tree_of l.node.now)
    (texts (take l.passed c.in-Some.tokens.now)) c.table_at-table.ensures c.requires.index l.invariant.0

pub key_in_by-last-requires-clause-table : goal.key_in_by-last-requires-clause-table
key_in_by-last-requires-clause-table c =
    let l = c.loop-passed in
    let tokens = c.in-Some.tokens.now in
    let t = tree_of c.args.tree.now in
    let all = take_all l.passed tokens c.loop-passed-test.false in
    table-known c.table_at-table-2.result c.args.index t (tree_of l.node.now) (texts tokens) c.table_at-table-2.ensures c.requires.index
    (subst (λ xs. at t (texts xs) ≡ Ok (tree_of l.node.now)) all l.invariant.0)
