use Rattle.std.proofs.Common.{◌≡◌, ◌<◌, length, get_or, sym, ap, ◌∙◌, arith}
use Rattle.tree_path.proofs.Prelude.{chars, bytes_eq, same_text, text_bytes, IsUtf8-text_bytes}
use Rattle.tree_path.proofs.{IndexLemmas.keys-place, KeyLemmas.key_place-at, KeyLemmas.key_place-same, Places.bytes_eq-chars}
use Rattle.tree_path.proofs.key_table.is_at.Goals as goal

pub returns-clause-found : goal.returns-clause-found
returns-clause-found c = λ yes.
    let key = c.args.key.now in
    let pair = get_or c.args.pairs.now c.args.place c.index-pairs-place.result in
    let within : c.args.place < length c.args.pairs.now = omega arith in
    let same : same_text (chars key) (chars (text_bytes pair.0)) ≡ c.eq.result =
    sym (c.eq.ensures ∙ ap (λ bytes. bytes_eq bytes key) c.as_str.ensures
    ∙ bytes_eq-chars key (text_bytes pair.0) c.utf8.key (IsUtf8-text_bytes pair.0)) in
    key_place-at (chars key) c.args.pairs.now c.args.place c.index-pairs-place.result c.requires within (same ∙ yes)

pub returns-clause-other : goal.returns-clause-other
returns-clause-other c = λ there.
    let key = c.args.key.now in
    let pair = get_or c.args.pairs.now c.args.place c.index-pairs-place.result in
    let same : same_text (chars key) (chars (text_bytes pair.0)) ≡ c.eq.result =
    sym (c.eq.ensures ∙ ap (λ bytes. bytes_eq bytes key) c.as_str.ensures
    ∙ bytes_eq-chars key (text_bytes pair.0) c.utf8.key (IsUtf8-text_bytes pair.0)) in
    sym same ∙ key_place-same (chars key) c.args.pairs.now c.args.place c.index-pairs-place.result there

pub returns-then-place-pairs-clause-other : goal.returns-then-place-pairs-clause-other
returns-then-place-pairs-clause-other c = λ there.
    let within = (keys-place (chars c.args.key.now) c.args.pairs.now c.args.place there).0 in
    absurd (omega (arith, within))
