-- What is left of a collection while its JSON text is written: here `lead` comes before the first part that is left.
use Rattle.std.proofs.Common.{◌≡◌, ℕ, List, [], ◌∷◌, ◌++◌, length, codes, refl, sym, subst, arith}
use Rattle.yaml_forms.proofs.Prelude.{sequence, mapping, Elements, no_element, element, Members, no_member, member, elements_of, members_of}
use Rattle.{yaml_forms.specs.Json.{json_member, json_text, more_elements, more_members}, yaml_data.specs.Seen.Pair}
use Rattle.yaml_data.specs.declared.tree.Tree.{Tree}

-- elements with this character before the first, and a comma before each further one
abbrev pub elements_led : ℕ → Elements → List ℕ
elements_led lead no_element = []
elements_led lead (element t ts) = (lead ∷ []) ++ json_text t ++ more_elements ts

-- members with this character before the first, and a comma before each further one
abbrev pub members_led : ℕ → Members → List ℕ
members_led lead no_member = []
members_led lead (member key t ms) = (lead ∷ []) ++ json_member key (json_text t) ++ more_members ms

-- after the first, each element comes after a comma
pub elements_led-same : (ts : Elements) → elements_led 44 ts ≡ more_elements ts
elements_led-same no_element = refl
elements_led-same (element t ts) = refl

-- after the first, each member comes after a comma
pub members_led-same : (ms : Members) → members_led 44 ms ≡ more_members ms
members_led-same no_member = refl
members_led-same (member key t ms) = refl

-- a sequence that is empty
pub sequence-empty : (ts : List Tree) → length ts ≡ 0 → json_text (sequence (elements_of ts)) ≡ codes "[]"
sequence-empty [] e = refl
sequence-empty (t ∷ ts) e = absurd (omega arith)

-- a mapping that is empty
pub mapping-empty : (ms : List Pair) → length ms ≡ 0 → json_text (mapping (members_of ms)) ≡ codes "{}"
mapping-empty [] e = refl
mapping-empty (m ∷ ms) e = absurd (omega arith)

-- all elements, led by the opening bracket, and the closing one
pub sequence-led : (ts : List Tree) → (length ts ≡ 0 → ⊥)
    → elements_led 91 (elements_of ts) ++ codes "]" ≡ json_text (sequence (elements_of ts))
sequence-led [] some = absurd (some refl)
sequence-led (t ∷ ts) some = refl

-- all members, led by the opening brace, and the closing one
pub mapping-led : (ms : List Pair) → (length ms ≡ 0 → ⊥)
    → members_led 123 (members_of ms) ++ codes "}" ≡ json_text (mapping (members_of ms))
mapping-led [] some = absurd (some refl)
mapping-led (m ∷ ms) some = refl

-- ---- parts taken by a sink

-- a part of two, and then the parts after it
pub part_taken : {S : Type 0} (Takes : S → List ℕ → S → Type 0)
    → ((a b c : S) (xs ys : List ℕ) → Takes a xs b → Takes b ys c → Takes a (xs ++ ys) c)
    → {a b c : S} {lead part after left all : List ℕ} → all ≡ lead ++ part ++ after → left ≡ after
    → Takes a lead b → Takes b part c → (e : S) → Takes c left e → Takes a all e
part_taken Takes both {a = a} {c = c} whole same led begun e others =
    subst (λ cs. Takes a cs e) (sym whole)
    (both _ _ _ _ _ (both _ _ _ _ _ led begun) (subst (λ cs. Takes c cs e) same others))
