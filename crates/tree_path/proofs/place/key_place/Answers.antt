use Rattle.std.proofs.Common.{◌≡◌, suc, ◌+◌, Some, cond, option_map, drop, sym, ap, ◌∙◌, arith}
use Rattle.tree_path.proofs.{Prelude.{chars, bytes_eq, same_text, text_bytes, IsUtf8-text_bytes}, Places.{bytes_eq-chars, key_place-start}}
use Rattle.tree_path.{proofs.Places.{key_place-turn, key_place-next, key_place-end}, specs.Steps.key_place}
use Rattle.tree_path.proofs.place.key_place.Goals as goal

pub loop-place-init : goal.loop-place-init
loop-place-init c = key_place-start (key_place (chars c.args.key.now) c.args.pairs.now)

pub returns-then-eq : goal.returns-then-eq
returns-then-eq c =
    let key = c.args.key.now in
    let pair = c.index-pairs-place.result in
    let same : same_text (chars key) (chars (text_bytes pair.0)) ≡ c.eq.result =
    sym (c.eq.ensures ∙ ap (λ bytes. bytes_eq bytes key) c.as_str.ensures
    ∙ bytes_eq-chars key (text_bytes pair.0) c.utf8.key (IsUtf8-text_bytes pair.0)) in
    sym (c.loop-place.invariant
    ∙ ap (option_map (λ i. c.loop-place.place + i))
    (key_place-turn (chars key) c.args.pairs.now c.loop-place.place pair c.loop-place-test.true c.index-pairs-place.is
    ∙ ap (λ b. cond b (Some 0) (option_map suc (key_place (chars key)
    (drop (c.loop-place.place + 1) c.args.pairs.now)))) (same ∙ c.if-eq.true))
    ∙ ap Some (omega arith))

pub loop-place-preserved : goal.loop-place-preserved
loop-place-preserved c =
    let key = c.args.key.now in
    let pair = c.index-pairs-place.result in
    let same : same_text (chars key) (chars (text_bytes pair.0)) ≡ c.eq.result =
    sym (c.eq.ensures ∙ ap (λ bytes. bytes_eq bytes key) c.as_str.ensures
    ∙ bytes_eq-chars key (text_bytes pair.0) c.utf8.key (IsUtf8-text_bytes pair.0)) in
    let left = key_place (chars key) (drop (c.loop-place.place + 1) c.args.pairs.now) in
    c.loop-place.invariant
    ∙ ap (option_map (λ i. c.loop-place.place + i))
    (key_place-turn (chars key) c.args.pairs.now c.loop-place.place pair c.loop-place-test.true c.index-pairs-place.is
    ∙ ap (λ b. cond b (Some 0) (option_map suc left)) (same ∙ c.if-eq.false))
    ∙ key_place-next c.loop-place.place left

pub returns : goal.returns
returns c =
    sym (c.loop-place.invariant
    ∙ ap (option_map (λ i. c.loop-place.place + i))
    (key_place-end (chars c.args.key.now) c.args.pairs.now c.loop-place.place c.loop-place-test.false))
