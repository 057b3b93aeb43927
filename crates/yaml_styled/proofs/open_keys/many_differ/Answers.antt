use Rattle.std.proofs.Common.{take, get_or, sym, ap, ap₂, ◌∙◌, arith}
use Rattle.yaml_styled.proofs.{Prelude.{take_more, chars, nothing, key_members}, NameLemmas.{no_key, key_members-and, named-and}}
use Rattle.yaml_styled.specs.{Parts.members_and, Names.named}
use Rattle.yaml_styled.proofs.open_keys.many_differ.Goals as goal

pub loop-key-preserved : goal.loop-key-preserved
loop-key-preserved c =
    let keys = c.args.keys.now in
    let i = c.loop-key.key-index in
    let key = get_or keys i no_key in
    ap key_members c.in_ok-push.ensures.items
    ∙ key_members-and c.loop-key.pairs.items (c.in_ok-text.text, tt)
    ∙ ap₂ (λ ms bytes. members_and ms (chars bytes) nothing) c.loop-key.invariant c.in_ok-text.ensures
    ∙ sym (named-and (take i keys) key)
    ∙ sym (ap named (take_more keys i no_key (omega arith)))
