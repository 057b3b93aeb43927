-- The lines of a collection, written from its start: here `lead` spaces come before the first line that is left.
use Rattle.std.proofs.Common.{◌≡◌, ℕ, ◌+◌, List, [], ◌∷◌, ◌++◌, length, codes, refl, sym, subst, arith}
use Rattle.yaml_writer.proofs.Prelude.{spaces, sequence, mapping, Elements, no_element, element, Members, no_member, member, key_lines}
use Rattle.yaml_writer.proofs.Prelude.{elements_at, elements_after, lines_after_dash, members_at, members_after, value_at, Pair}
use Rattle.{yaml_writer.proofs.Prelude.{elements_of, members_of}, yaml_data.specs.declared.tree.Tree.Tree}

-- elements with this many spaces before the first; each further line has its indentation
abbrev pub elements_led : ℕ → Elements → ℕ → List ℕ
elements_led lead no_element i = []
elements_led lead (element t ts) i = spaces lead ++ codes "- " ++ lines_after_dash t i ++ elements_after ts i

-- members with this many spaces before the first; each further line has its indentation
abbrev pub members_led : ℕ → Members → ℕ → List ℕ
members_led lead no_member i = []
members_led lead (member key t ms) i = spaces lead ++ key_lines i key ++ value_at t i ++ members_after ms i

-- after the first, each line has its indentation
pub elements_led-same : (ts : Elements) (i : ℕ) → elements_led i ts i ≡ elements_after ts i
elements_led-same no_element i = refl
elements_led-same (element t ts) i = refl

-- where the lead is the indentation, each member has a line of its own
pub members_led-same : (ms : Members) (i : ℕ) → members_led i ms i ≡ members_after ms i
members_led-same no_member i = refl
members_led-same (member key t ms) i = refl

-- the first has none
pub elements_led-first : (ts : List Tree) (i : ℕ) → (length ts ≡ 0 → ⊥) → elements_led 0 (elements_of ts) i ≡ elements_at (elements_of ts) i
elements_led-first [] i some = absurd (some refl)
elements_led-first (t ∷ ts) i some = refl

-- where the lead is 0, the first member has no indentation
pub members_led-first : (ms : List Pair) (i : ℕ) → (length ms ≡ 0 → ⊥) → members_led 0 (members_of ms) i ≡ members_at (members_of ms) i
members_led-first [] i some = absurd (some refl)
members_led-first (m ∷ ms) i some = refl

-- a collection that is empty
pub elements_at-empty : (ts : List Tree) (i : ℕ) → length ts ≡ 0 → elements_at (elements_of ts) i ≡ codes "[]\n"
elements_at-empty [] i e = refl
elements_at-empty (t ∷ ts) i e = absurd (omega arith)

-- no members are `{}`
pub members_at-empty : (ms : List Pair) (i : ℕ) → length ms ≡ 0 → members_at (members_of ms) i ≡ codes "{}\n"
members_at-empty [] i e = refl
members_at-empty (m ∷ ms) i e = absurd (omega arith)

-- a collection as a value
pub sequence_value-empty : (ts : List Tree) (i : ℕ) → length ts ≡ 0 → value_at (sequence (elements_of ts)) i ≡ codes " []\n"
sequence_value-empty [] i e = refl
sequence_value-empty (t ∷ ts) i e = absurd (omega arith)

-- a mapping without members is `{}` after its key
pub mapping_value-empty : (ms : List Pair) (i : ℕ) → length ms ≡ 0 → value_at (mapping (members_of ms)) i ≡ codes " {}\n"
mapping_value-empty [] i e = refl
mapping_value-empty (m ∷ ms) i e = absurd (omega arith)

-- a sequence with elements begins on the line after its key
pub sequence_value : (ts : List Tree) (i : ℕ) → (length ts ≡ 0 → ⊥)
    → codes "\n" ++ spaces (i + 2) ++ elements_at (elements_of ts) (i + 2) ≡ value_at (sequence (elements_of ts)) i
sequence_value [] i some = absurd (some refl)
sequence_value (t ∷ ts) i some = refl

-- a mapping with members begins on the line after its key
pub mapping_value : (ms : List Pair) (i : ℕ) → (length ms ≡ 0 → ⊥)
    → codes "\n" ++ spaces (i + 2) ++ members_at (members_of ms) (i + 2) ≡ value_at (mapping (members_of ms)) i
mapping_value [] i some = absurd (some refl)
mapping_value (m ∷ ms) i some = refl

-- ---- lines taken by a sink

-- a line of three parts, and then the lines after it
pub line_taken : {S : Type 0} (Takes : S → List ℕ → S → Type 0)
    → ((a b c : S) (xs ys : List ℕ) → Takes a xs b → Takes b ys c → Takes a (xs ++ ys) c)
    → {a b c d : S} {lead first last after left all : List ℕ} → all ≡ lead ++ first ++ last ++ after → left ≡ after
    → Takes a lead b → Takes b first c → Takes c last d → (e : S) → Takes d left e → Takes a all e
line_taken Takes both {a = a} {d = d} whole same led begun ended e others =
    subst (λ cs. Takes a cs e) (sym whole)
    (both _ _ _ _ _ (both _ _ _ _ _ (both _ _ _ _ _ led begun) ended) (subst (λ cs. Takes d cs e) same others))

-- no line is left
pub none_taken : {S : Type 0} (Takes : S → List ℕ → S → Type 0) → ((s : S) → Takes s [] s)
    → {a b : S} {left first all : List ℕ} → left ≡ [] → first ≡ all → (Takes b left b → Takes a first b) → Takes a all b
none_taken Takes none {a = a} {b = b} empty whole before =
    subst (λ cs. Takes a cs b) whole (before (subst (λ cs. Takes b cs b) (sym empty) (none b)))
