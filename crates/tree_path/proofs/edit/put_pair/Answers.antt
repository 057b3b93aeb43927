use Rattle.std.proofs.Common.{Ok, [], ◌∷◌, ◌++◌, set, ap, ap₂, ◌∙◌, sym, rules}
use Rattle.tree_path.proofs.{Prelude.{chars, mapping, members_of, tree_of}, Steps.{put-Map-last, put-Map, place-within, child-Map}}
use Rattle.tree_path.{proofs.{Steps.child-Map-missed, StepLaws.none-other, Ways.step_place-Map, UndoLemmas.puts-back}, specs.Paths.present}
use Rattle.tree_path.proofs.edit.put_pair.Goals as goal

pub index_mut-requires : goal.index_mut-requires
index_mut-requires c =
    let h = place-within c.args.pairs.now.items (chars c.args.key.now) c.in-Some.place
    (sym c.requires ∙ c.in-Some.is) in
    search rules

pub returns-in-Some-clause-ok : goal.returns-in-Some-clause-ok
returns-in-Some-clause-ok c =
    let v = c.args.pairs.now in
    put-Map v.items (chars c.args.key.now) c.in-Some.place c.args.value c.index_mut.result.now
    (sym c.requires ∙ c.in-Some.is)
    ∙ ap (λ x. Ok (mapping (members_of (set v.items c.in-Some.place x))))
    (ap₂ (λ k t. (k, t)) (ap (λ q. q.0) (sym c.index_mut.ensures.value)) (sym c.replace-old.ensures.after))

-- a value that was replaced goes back
pub returns-in-Some-clause-back : goal.returns-in-Some-clause-back
returns-in-Some-clause-back c =
    let v = c.args.pairs.now in
    let key = chars c.args.key.now in
    let i = c.in-Some.place in
    let is = sym c.requires ∙ c.in-Some.is in
    let made = put-Map v.items key i c.args.value c.index_mut.result.now is
    ∙ ap (λ x. Ok (mapping (members_of (set v.items i x))))
    (ap₂ (λ k t. (k, t)) (ap (λ q. q.0) (sym c.index_mut.ensures.value)) (sym c.replace-old.ensures.after)) in
    let found = child-Map v.items key i c.index_mut.result.now is
    ∙ ap (λ x. Ok (tree_of x.1)) (sym c.index_mut.ensures.value) ∙ ap (λ x. Ok (tree_of x)) (sym c.replace-old.ensures.value) in
    puts-back (mapping (members_of v.items)) _ key (tree_of c.replace-old.result) (tree_of c.args.value) i found made
    (step_place-Map v.items key ∙ ap present is)

-- a pair that was added goes away
pub returns-clause-back : goal.returns-clause-back
returns-clause-back c =
    let v = c.args.pairs.now in
    let key = chars c.args.key.now in
    let none = sym c.requires ∙ none-other c.args.place c.in_default.not-Some in (
      key,
      tree_of c.args.value,
      child-Map-missed v.items key none,
      put-Map-last v.items key c.in-Ok.key c.args.value none (ap chars c.in-Ok.ensures)
          ∙ ap (λ xs. Ok (mapping (members_of xs))) (ap (λ xs. xs ++ (c.in-Ok.key, c.args.value) ∷ [])
          (sym c.in-Ok-make_room.ensures.items) ∙ sym c.push_reserved.ensures.items),
    )

pub returns-clause-ok : goal.returns-clause-ok
returns-clause-ok c =
    let v = c.args.pairs.now in
    put-Map-last v.items (chars c.args.key.now) c.in-Ok.key c.args.value
    (sym c.requires ∙ none-other c.args.place c.in_default.not-Some) (ap chars c.in-Ok.ensures)
    ∙ ap (λ xs. Ok (mapping (members_of xs))) (ap (λ xs. xs ++ (c.in-Ok.key, c.args.value) ∷ [])
    (sym c.in-Ok-make_room.ensures.items) ∙ sym c.push_reserved.ensures.items)
