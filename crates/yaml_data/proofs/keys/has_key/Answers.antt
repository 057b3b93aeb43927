use Rattle.std.proofs.Common.{◌≡◌, ℕ, ◌+◌, ◌<◌, ◌||◌, Bool, true, false, List, length, get_or, drop, IsUtf8, sym, ap, ◌∙◌, arith}
use Rattle.yaml_data.proofs.{Prelude.{chars, bytes_eq, has_key}, KeyLemmas.same_key, ListLemmas.drop_item, TextLemmas.IsUtf8-text_bytes}
use Rattle.yaml_data.specs.{Keys.key_members, TextBytes.text_bytes, declared.text.Text.Text}
use Rattle.yaml_data.proofs.keys.has_key.Goals as goal

-- the key is among the pairs that are left where the first of them has it, or one after it
one_more : {A : Type 0} (key : List ℕ) (pairs : List (Text × A)) (i : ℕ) (x : Text × A) (found : Bool) → IsUtf8 key
    → i < length pairs → x ≡ get_or pairs i x → found ≡ bytes_eq (text_bytes x.0) key
    → (found || has_key (chars key) (key_members (drop (i + 1) pairs))) ≡ has_key (chars key) (key_members (drop i pairs))
one_more key pairs i x found utf8 within is compared =
    let same = same_key key (text_bytes x.0) utf8 (IsUtf8-text_bytes x.0) in
    ap (λ b. b || has_key (chars key) (key_members (drop (i + 1) pairs))) (compared ∙ same)
    ∙ sym (ap (λ ms. has_key (chars key) (key_members ms)) (drop_item pairs i x within is))

pub returns-then-eq : goal.returns-then-eq
returns-then-eq g c =
    let compared = sym c.if-eq.true ∙ c.eq.ensures ∙ ap (λ bytes. bytes_eq bytes c.args.key.now) c.as_str.ensures in
    let l = c.loop-other in
    let x = c.loop-other-item in
    one_more c.args.key.now c.args.pairs.now l.other-index x.result true c.utf8.key (omega arith) x.is compared
    ∙ l.invariant

pub loop-other-preserved : goal.loop-other-preserved
loop-other-preserved g c =
    let compared = sym c.if-eq.false ∙ c.eq.ensures ∙ ap (λ bytes. bytes_eq bytes c.args.key.now) c.as_str.ensures in
    let l = c.loop-other in
    let x = c.loop-other-item in
    one_more c.args.key.now c.args.pairs.now l.other-index x.result false c.utf8.key (omega arith) x.is compared
    ∙ l.invariant
