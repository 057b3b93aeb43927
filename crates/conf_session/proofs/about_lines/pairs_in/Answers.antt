use Rattle.std.proofs.Common.{◌≡◌, rules, [], ◌∷◌, ap, sym, subst, ◌∙◌}
use Rattle.conf_session.proofs.Prelude.{chars, text, tree_of-Text, no_member, member, members_of, pairs-last, text_bytes, Pair, Text}
use Rattle.conf_session.{proofs.AboutLineLemmas.{no_pairs, pair_added, pair_taken}, specs.CommandLines.ArePairLines}
use Rattle.conf_session.proofs.about_lines.pairs_in.Goals as goal

pub loop-left-init : goal.loop-left-init
loop-left-init c =
    let lines = c.args.lines.now in (
      subst (λ ps. ArePairLines lines (members_of ps) lines) (sym c.in_ok-pairs.ensures.items) (no_pairs lines),
      search rules,
    )

pub loop-left-preserved : goal.loop-left-preserved
loop-left-preserved c =
    let l = c.loop-left in
    let lines = c.args.lines.now in
    let after = c.in-Some.after.now in
    let key = chars c.in-Some.key.now in
    let value = chars c.in-Some.text.now in
    let pair : Pair = (c.in_ok-key.key, Text c.in_ok-text.text) in
    let key_is : chars (text_bytes c.in_ok-key.key) ≡ key = ap chars c.in_ok-key.ensures in
    let value_is = tree_of-Text c.in_ok-text.text ∙ ap (λ bytes. text (chars bytes)) c.in_ok-text.ensures in
    let one : members_of (pair ∷ []) ≡ member key (text value) no_member = λ i. member (key_is i) (value_is i) no_member in
    let all = ap members_of c.in_ok-push.ensures.items ∙ pairs-last l.pairs.items pair key (text value) one in (
      subst (λ ms. ArePairLines lines ms after) (sym all)
          (pair_added lines l.left.now after c.in-Some.key.now c.in-Some.text.now (members_of l.pairs.items)
          l.invariant.0 c.in-Some.ensures),
      search rules,
    )

pub loop-left-smaller : goal.loop-left-smaller
loop-left-smaller c = pair_taken c.loop-left.left.now c.in-Some.key.now c.in-Some.text.now c.in-Some.after.now c.in-Some.ensures
