use Rattle.std.proofs.Common.{Ok, Err, [], ◌∷◌, ◌++◌, length, set, ap, ◌∙◌, sym, inr}
use Rattle.tree_path.proofs.{Prelude.{chars, sequence, tree_of, elements_of}, Steps.{put-Seq-last, put-Seq-missed, bytes_eq-dash, put-Seq}}
use Rattle.tree_path.proofs.{Steps.{index-counted, child-Seq, child-Seq-missed, index_below-dash}, Ways.step_place-Seq}
use Rattle.tree_path.{proofs.UndoLemmas.puts-back, specs.{Paths.at_step, declared.place.Miss.TheVariants.Absent}}
use Rattle.tree_path.proofs.edit.put_element.Goals as goal

pub returns-then-eq-clause-ok : goal.returns-then-eq-clause-ok
returns-then-eq-clause-ok c =
    let v = c.args.items.now in
    put-Seq-last v.items (chars c.args.token.now) c.args.value
    (sym (bytes_eq-dash c.args.token.now c.utf8.token) ∙ sym c.eq.ensures ∙ c.if-eq.true)
    ∙ ap (λ xs. Ok (sequence (elements_of xs)))
    (ap (λ xs. xs ++ c.args.value ∷ []) (sym c.in-Ok.ensures.items) ∙ sym c.push_reserved.ensures.items)

pub returns-in-Ok-element_index-clause-ok : goal.returns-in-Ok-element_index-clause-ok
returns-in-Ok-element_index-clause-ok c =
    let v = c.args.items.now in
    let token = chars c.args.token.now in
    put-Seq v.items token c.in-Ok-element_index.index c.args.value
    (index-counted v token c.len.result _ c.len.ensures c.in-Ok-element_index.ensures)
    ∙ ap (λ x. Ok (sequence (elements_of (set v.items c.in-Ok-element_index.index x)))) (sym c.replace-old.ensures.after)

-- an element that was replaced goes back
pub returns-in-Ok-element_index-clause-back : goal.returns-in-Ok-element_index-clause-back
returns-in-Ok-element_index-clause-back c =
    let v = c.args.items.now in
    let token = chars c.args.token.now in
    let i = c.in-Ok-element_index.index in
    let is = index-counted v token c.len.result _ c.len.ensures c.in-Ok-element_index.ensures in
    let made = put-Seq v.items token i c.args.value is
    ∙ ap (λ x. Ok (sequence (elements_of (set v.items i x)))) (sym c.replace-old.ensures.after) in
    let found = (child-Seq v.items token i c.index_mut.result.now is).1
    ∙ ap (λ x. Ok (tree_of x)) (sym c.index_mut.ensures.value ∙ sym c.replace-old.ensures.value) in
    puts-back (sequence (elements_of v.items)) _ token (tree_of c.replace-old.result) (tree_of c.args.value) i found made
    (step_place-Seq v.items token ∙ is)

-- one that was added goes away
pub returns-then-eq-clause-back : goal.returns-then-eq-clause-back
returns-then-eq-clause-back c =
    let v = c.args.items.now in
    let token = chars c.args.token.now in
    let dash = sym (bytes_eq-dash c.args.token.now c.utf8.token) ∙ sym c.eq.ensures ∙ c.if-eq.true in (
      token,
      tree_of c.args.value,
      child-Seq-missed v.items token Absent (index_below-dash token (length v.items) dash),
      put-Seq-last v.items token c.args.value dash
          ∙ ap (λ xs. Ok (sequence (elements_of xs)))
          (ap (λ xs. xs ++ c.args.value ∷ []) (sym c.in-Ok.ensures.items) ∙ sym c.push_reserved.ensures.items),
    )

pub returns-in-Err-clause-refused : goal.returns-in-Err-clause-refused
returns-in-Err-clause-refused c =
    let v = c.args.items.now in
    let token = chars c.args.token.now in
    inr (ap (λ r. at_step c.args.step r Ok)
    (put-Seq-missed v.items token (tree_of c.args.value) c.in-Err.miss
    (sym (bytes_eq-dash c.args.token.now c.utf8.token) ∙ sym c.eq.ensures ∙ c.if-eq.false)
    (index-counted v token c.len.result _ c.len.ensures c.in-Err.ensures))
    ∙ ap Err (sym c.at_step.ensures))
