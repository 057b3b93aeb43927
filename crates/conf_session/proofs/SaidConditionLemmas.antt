-- The conditions of a command, as its document has them.
use Rattle.std.{proofs.Common.{◌≡◌, refl, arith}, specs.Prelude.{Bool, if◌then◌else◌, List, [], ◌∷◌, codes, length, None}}
use Rattle.conf_session.{proofs.Prelude.{Members, sequence, elements_of, ascii, keys_are, values, texts}, specs.SaidConditions.test_keys}
use Rattle.conf_session.specs.SaidConditions.{absent_keys, missing_keys, count_keys, test_in, absent_in, missing_in, count_in}
use Rattle.conf_session.specs.SaidConditions.{condition_from, all_conditions_in, conditions_in}
use Rattle.yaml_data.specs.declared.tree.Tree as code_tree

-- ---- one condition, by its keys

-- a mapping is the condition that its keys are those of
pub condition-mapping : (ms : Members) {b0 b1 b2 b3 : Bool} → keys_are test_keys ms ≡ b0 → keys_are absent_keys ms ≡ b1
    → keys_are missing_keys ms ≡ b2 → keys_are count_keys ms ≡ b3
    → condition_from ms
    ≡ (if b0 then test_in (values ms) else if b1 then absent_in (values ms) else if b2 then missing_in (values ms)
    else if b3 then count_in (values ms) else None)
unfolding condition_from
condition-mapping ms e0 e1 e2 e3 = rw (e0, e1, e2, e3) refl

-- the keys of a test as texts
pub test_texts : texts test_keys ≡ test_keys
test_texts = λ i. ascii (codes "test") refl i ∷ ascii (codes "path") refl i ∷ ascii (codes "value") refl i ∷ []

-- the keys of an `absent` as texts
pub absent_texts : texts absent_keys ≡ absent_keys
absent_texts = λ i. ascii (codes "absent") refl i ∷ ascii (codes "path") refl i ∷ []

-- the one key of an `absent` as a text
pub missing_texts : texts missing_keys ≡ missing_keys
missing_texts = λ i. ascii (codes "absent") refl i ∷ []

-- the key of a `count` as a text
pub count_texts : texts count_keys ≡ count_keys
count_texts = λ i. ascii (codes "count") refl i ∷ []

-- ---- at least one

-- a sequence without elements holds none
pub none-in : (ts : List code_tree.Tree) → length ts ≡ 0 → conditions_in (sequence (elements_of ts)) ≡ None
none-in [] none = refl
none-in (t ∷ ts) none = absurd (omega arith)

-- any other holds those of its elements
pub some-in : (ts : List code_tree.Tree) → (length ts ≡ 0 → ⊥)
    → conditions_in (sequence (elements_of ts)) ≡ all_conditions_in (elements_of ts)
some-in [] some = absurd (some refl)
some-in (t ∷ ts) some = refl
