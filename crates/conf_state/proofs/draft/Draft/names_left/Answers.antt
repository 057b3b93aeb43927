-- Each turn leaves out a name that is removed, or takes another one.
use Rattle.std.proofs.Common.{rules, ◌++◌, true, false, map, length, append-nil, string_bytes, sym, ap, ◌∙◌, arith}
use Rattle.conf_state.proofs.{Prelude.{IsUtf8-string_bytes, into_iter_items, into_iter_len}, DraftSteps.listed, ListedNames.outside}
use Rattle.conf_state.{proofs.ListedNames.{outside-step, names-cut_all, mapped-more, nothing-left}, specs.Commands.text_of}
use Rattle.conf_state.specs.Drafts.{texts_of}
use Rattle.conf_state.proofs.draft.Draft.names_left.Goals as goal

pub loop-name-init : goal.loop-name-init
loop-name-init g c =
    let es = g.O.Origin.configs c.args.origin.now in
    let keys = texts_of c.args.self.now.removed.keys in (
      ap (λ xs. map text_of xs ++ outside keys (map text_of (into_iter_items c.into_iter-name-iterator.result))) c.new-left.ensures.items
          ∙ ap (λ xs. outside keys (map text_of xs)) c.into_iter-name-iterator.ensures.into_iter_gives.0
          ∙ ap (outside keys) c.in_ok-name-items.ensures ∙ sym (names-cut_all keys es c.requires.within.distinct),
      search rules,
    )

pub loop-name-preserved : goal.loop-name-preserved
loop-name-preserved g c =
    let keys = c.args.self.now.removed.keys in
    let name = c.in-Some.name in
    let so_far = map text_of c.loop-name.left.items in
    let among = sym (listed (string_bytes name) (IsUtf8-string_bytes name) keys) ∙ sym c.contains.ensures ∙ c.if-not-contains.false in
    let one = ap length c.in-Some.ensures.steps.0 in
    let was = c.loop-name.invariant.1 in (
      outside-step (texts_of keys) so_far (text_of name) (map text_of (into_iter_items c.next.new.self)) true among
          ∙ ap (λ xs. so_far ++ outside (texts_of keys) (map text_of xs)) (sym c.in-Some.ensures.steps.0) ∙ c.loop-name.invariant.0,
      omega arith,
    )

pub loop-name-preserved-in-Continue-branch-2 : goal.loop-name-preserved-in-Continue-branch-2
loop-name-preserved-in-Continue-branch-2 g c =
    let keys = c.args.self.now.removed.keys in
    let name = c.in-Some.name in
    let so_far = map text_of c.loop-name.left.items in
    let other = sym (listed (string_bytes name) (IsUtf8-string_bytes name) keys) ∙ sym c.contains.ensures ∙ c.if-not-contains.true in
    let one = ap length c.in-Some.ensures.steps.0 in
    let was = c.loop-name.invariant.1 in (
      ap (λ xs. xs ++ outside (texts_of keys) (map text_of (into_iter_items c.next.new.self)))
          (ap (map text_of) c.in_ok-push.ensures.items ∙ mapped-more c.loop-name.left.items name)
          ∙ outside-step (texts_of keys) so_far (text_of name) (map text_of (into_iter_items c.next.new.self)) false other
          ∙ ap (λ xs. so_far ++ outside (texts_of keys) (map text_of xs)) (sym c.in-Some.ensures.steps.0) ∙ c.loop-name.invariant.0,
      omega arith,
    )

pub returns : goal.returns
returns g c =
    let keys = texts_of c.args.self.now.removed.keys in
    let so_far = map text_of c.loop-name.left.items in
    let none = nothing-left (into_iter_items c.loop-name.name-iterator) (into_iter_len c.loop-name.name-iterator) c.loop-name.invariant.1
    c.in-None.ensures.steps.0 in
    sym (append-nil so_far) ∙ ap (λ xs. so_far ++ outside keys (map text_of xs)) (sym none) ∙ c.loop-name.invariant.0
