use Rattle.std.proofs.{Common.{◌+◌, ◌&&◌, drop, sym, ap, ◌∙◌, arith}, lemmas.Bool.{not-false, not-true}}
use Rattle.yaml_data.{specs.Keys.{key_members, keys_differ}, proofs.KeyLemmas.{none_seen, contains-is_seen, clear_seen, clear_new}}
use Rattle.yaml_data.proofs.{KeyLemmas.none_seen-nil, ListLemmas.drop_item}
use Rattle.yaml_data.proofs.keys.many_keys_differ.Goals as goal

pub loop-key-init : goal.loop-key-init
loop-key-init g c =
    ap (λ ks. none_seen ks c.args.pairs.now && keys_differ (key_members c.args.pairs.now)) c.new-seen.ensures.empty
    ∙ ap (λ b. b && keys_differ (key_members c.args.pairs.now)) (none_seen-nil c.args.pairs.now)

pub returns-then-not-branch : goal.returns-then-not-branch
returns-then-not-branch g c =
    let l = c.loop-key in
    let pairs = c.args.pairs.now in
    let ks = l.seen.keys in
    let k = c.as_str.result in
    let x = c.loop-key-item.result in
    let rest = drop (l.key-index + 1) pairs in
    let here = drop_item pairs l.key-index x (omega arith) c.loop-key-item.is in
    let seen = sym (contains-is_seen k ks) ∙ not-false _ (sym c.in_ok-insert.ensures.added ∙ c.if-not-branch.true) in
    sym (clear_seen k ks x rest c.as_str.ensures seen)
    ∙ sym (ap (λ ms. none_seen ks ms && keys_differ (key_members ms)) here) ∙ l.invariant

pub loop-key-preserved : goal.loop-key-preserved
loop-key-preserved g c =
    let l = c.loop-key in
    let pairs = c.args.pairs.now in
    let ks = l.seen.keys in
    let k = c.as_str.result in
    let x = c.loop-key-item.result in
    let rest = drop (l.key-index + 1) pairs in
    let here = drop_item pairs l.key-index x (omega arith) c.loop-key-item.is in
    let new = sym (contains-is_seen k ks) ∙ not-true _ (sym c.in_ok-insert.ensures.added ∙ c.if-not-branch.false) in
    ap (λ ys. none_seen ys rest && keys_differ (key_members rest)) c.in_ok-insert.ensures.keys
    ∙ clear_new k ks x rest c.as_str.utf8 c.as_str.ensures new
    ∙ sym (ap (λ ms. none_seen ks ms && keys_differ (key_members ms)) here) ∙ l.invariant
