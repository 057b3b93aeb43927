-- Each turn takes a name that is held, if it isn't left in the origin.
use Rattle.std.proofs.Common.{◌≡◌, ◌++◌, ◌∷◌, [], true, false, map, is_some, append-nil, sym, ap, ◌∙◌}
use Rattle.conf_state.proofs.{Prelude.chars, DraftLemmas.has_name-named, ListedNames.{outside, outside-step, names-put_all, mapped-more}}
use Rattle.conf_state.specs.{Commands.text_of, Drafts.{cut_all, texts_of}, Kept.entries_of, States.{config_named, names_of}}
use Rattle.conf_state.proofs.draft.Draft.names.Goals as goal

pub loop-name-init : goal.loop-name-init
loop-name-init g c =
    let cut = cut_all (g.O.Origin.configs c.args.origin.now) (texts_of c.args.self.now.removed.keys) in
    let touched = c.args.self.now.touched in
    ap (λ xs. xs ++ outside (names_of cut) (names_of (entries_of c.into_iter-name-iterator.result))) c.in_ok-names.ensures
    ∙ ap (λ xs. names_of cut ++ outside (names_of cut) (names_of (entries_of xs)))
    (c.into_iter-name-iterator.ensures.into_iter_gives ∙ c.iter-name-items.ensures)
    ∙ sym (names-put_all (entries_of touched) cut c.requires.good.distinct)

pub loop-name-preserved : goal.loop-name-preserved
loop-name-preserved g c =
    let cut = cut_all (g.O.Origin.configs c.args.origin.now) (texts_of c.args.self.now.removed.keys) in
    let name = text_of c.in-Some.name.now in
    let so_far = map text_of c.loop-name.names.items in
    let among = has_name-named cut name ∙ ap (λ bs. is_some (config_named cut (chars bs))) (sym c.deref.ensures)
    ∙ sym c.leaves.ensures ∙ c.if-not-leaves.false in
    outside-step (names_of cut) so_far name (names_of (entries_of c.next.new.self)) true among
    ∙ ap (λ xs. so_far ++ outside (names_of cut) (names_of (entries_of xs))) (sym c.in-Some.ensures.steps) ∙ c.loop-name.invariant

pub loop-name-preserved-in_ok-push : goal.loop-name-preserved-in_ok-push
loop-name-preserved-in_ok-push g c =
    let cut = cut_all (g.O.Origin.configs c.args.origin.now) (texts_of c.args.self.now.removed.keys) in
    let name = text_of c.in-Some.name.now in
    let so_far = map text_of c.loop-name.names.items in
    let copy = c.in_ok-from_str.field-0 in
    let same : text_of copy ≡ name = ap chars (c.in_ok-from_str.ensures.ok ∙ c.deref-then-not-leaves.ensures) in
    let other = has_name-named cut name ∙ ap (λ bs. is_some (config_named cut (chars bs))) (sym c.deref.ensures)
    ∙ sym c.leaves.ensures ∙ c.if-not-leaves.true in
    ap (λ xs. xs ++ outside (names_of cut) (names_of (entries_of c.next.new.self)))
    (ap (map text_of) c.in_ok-push.ensures.items ∙ mapped-more c.loop-name.names.items copy ∙ ap (λ n. so_far ++ n ∷ []) same)
    ∙ outside-step (names_of cut) so_far name (names_of (entries_of c.next.new.self)) false other
    ∙ ap (λ xs. so_far ++ outside (names_of cut) (names_of (entries_of xs))) (sym c.in-Some.ensures.steps) ∙ c.loop-name.invariant

pub returns : goal.returns
returns g c =
    let cut = cut_all (g.O.Origin.configs c.args.origin.now) (texts_of c.args.self.now.removed.keys) in
    let so_far = map text_of c.loop-name.names.items in
    sym (append-nil so_far)
    ∙ ap (λ xs. so_far ++ outside (names_of cut) (names_of (entries_of xs))) (sym c.in-None.ensures.steps.0) ∙ c.loop-name.invariant
