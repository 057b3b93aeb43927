-- A tree of texts, in the plain form, is a text.
use Rattle.std.{proofs.Common.{◌≡◌, refl, arith, ◌<◌, ◌≤◌}, specs.Prelude.{ℕ, zero, suc, ◌+◌, Bool, true, false, nat_lt, ◌==◌, List, []}}
use Rattle.std.specs.Prelude.{◌∷◌, ◌++◌, codes}
use Rattle.yaml_forms.proofs.Prelude.{cond_both, and_parts, and_from, or_left, le-leb, in_range, code_point, list_all, IsText, spaces, Tree}
use Rattle.yaml_forms.proofs.Prelude.{text, sequence, mapping, Elements, no_element, element, Members, no_member, member, IsTextTree}
use Rattle.yaml_forms.proofs.Prelude.{AreTextElements, AreTextMembers, hex, quoted_chars, in_double_quotes, plain_in_style}
use Rattle.yaml_forms.proofs.Prelude.{literal_in_style, literal_mark, literal_lines, feeds_at_end, scalar_lines, key_text, long_key}
use Rattle.yaml_forms.proofs.{Prelude.{key_lines, code_point_high, Writes, quoted_chars_all}, JsonCharacters.joined}
use Rattle.yaml_forms.specs.{CoreScalars.is_typed, PlainForm.{value_lines, elements_at, elements_after, lines_after_dash, members_at}}
use Rattle.yaml_forms.specs.PlainForm.{members_after, value_at, plain_text}

-- spaces are a text
spaces_text : (n : ℕ) → IsText (spaces n)
spaces_text zero = refl
spaces_text (suc n) = spaces_text n

-- ---- scalars

-- a number below 1,000 is a code point
low_code_point : (c : ℕ) → c < 1000 → code_point c ≡ true
low_code_point c h = or_left (in_range 0 0xd7ff c) _ (and_from _ _ (le-leb 0 c (omega arith)) (le-leb c 0xd7ff (omega arith)))

-- a hexadecimal digit is a code point
hex_text : (d : ℕ) → d < 300 → code_point (hex d) ≡ true
hex_text d h = cond_both (nat_lt d 10) (48 + d) (55 + d) (λ x. code_point x ≡ true)
    (λ e. low_code_point (48 + d) (omega arith)) (λ e. low_code_point (55 + d) (omega arith))

-- a text between double quotes is a text
pub quoted_text : (value : List ℕ) → IsText value → IsText (in_double_quotes value)
quoted_text value t = joined (quoted_chars value) (34 ∷ []) (quoted_chars_all code_point code_point value writes t) refl
  where
    writes : (c : ℕ) → code_point c ≡ true → Writes code_point c
    writes c h =
        let high : c ≤ 0x10ffff = code_point_high c h in
        record { signs = refl; letters = refl; shown = λ s. h; digits = λ d l. hex_text d (omega (arith, high, l)) }

-- the lines of a literal are a text
lines_are_text : (j : ℕ) (fresh : Bool) (cs : List ℕ) → IsText cs → IsText (literal_lines j fresh cs)
lines_are_text j true [] t = refl
lines_are_text j false [] t = refl
lines_are_text j fresh (c ∷ cs) t =
    let p : (code_point c ≡ true) × (list_all code_point cs ≡ true) = and_parts _ _ t in
    cond_both (c == 10) _ _ IsText (λ e. lines_are_text j true cs p.1)
    (λ e. cond_both fresh _ _ (λ lead. IsText (lead ++ c ∷ literal_lines j false cs))
    (λ f. joined (spaces j) (c ∷ literal_lines j false cs) (spaces_text j) (and_from _ _ p.0 (lines_are_text j false cs p.1)))
    (λ f. and_from _ _ p.0 (lines_are_text j false cs p.1)))

-- the header of a literal is a text
mark_is_text : (n : ℕ) → IsText (literal_mark n ++ codes "\n")
mark_is_text zero = refl
mark_is_text (suc zero) = refl
mark_is_text (suc (suc n)) = refl

-- a scalar as it is written is a text
scalar_text : (j : ℕ) (value : List ℕ) → IsText value → IsText (scalar_lines j value)
scalar_text j value t =
    cond_both (plain_in_style value) _ _ IsText (λ e. joined value (10 ∷ []) t refl)
    (λ e. cond_both (literal_in_style value) _ _ IsText
    (λ l. joined (literal_mark (feeds_at_end value) ++ codes "\n") (literal_lines j true value)
    (mark_is_text (feeds_at_end value)) (lines_are_text j true value t))
    (λ l. joined (in_double_quotes value) (10 ∷ []) (quoted_text value t) refl))

-- a key as it is written is a text
key_is_text : (key : List ℕ) → IsText key → IsText (key_text key)
key_is_text key t = cond_both (plain_in_style key) _ _ IsText (λ e. t) (λ e. quoted_text key t)

-- a key with its `:` is a text
key_lines_text : (i : ℕ) (key : List ℕ) → IsText key → IsText (key_lines i key)
key_lines_text i key t =
    cond_both (long_key key) _ _ IsText
    (λ e. joined (codes "? " ++ key_text key ++ codes "\n" ++ spaces i) (58 ∷ [])
    (joined (codes "? " ++ key_text key ++ codes "\n") (spaces i)
    (joined (codes "? " ++ key_text key) (10 ∷ []) (key_is_text key t) refl) (spaces_text i)) refl)
    (λ e. joined (key_text key) (58 ∷ []) (key_is_text key t) refl)

-- a value as it is written is a text
value_is_text : (j : ℕ) (value : List ℕ) → IsText value → IsText (value_lines j value)
value_is_text j value t = cond_both (is_typed value) _ _ IsText (λ e. joined value (10 ∷ []) t refl) (λ e. scalar_text j value t)

-- ---- trees

mutual
  -- an element as it is written is a text
  element_text : (t : Tree) (i : ℕ) → IsTextTree t → IsText (lines_after_dash t i)
  element_text (text value) i h = value_is_text (i + 2) value h
  element_text (sequence no_element) i h = refl
  element_text (sequence (element t ts)) i h =
      joined (codes "- " ++ lines_after_dash t (i + 2)) (elements_after ts (i + 2)) (element_text t (i + 2) h.0)
      (elements_text ts (i + 2) h.1)
  element_text (mapping no_member) i h = refl
  element_text (mapping (member key t ms)) i h =
      joined (key_lines (i + 2) key ++ value_at t (i + 2)) (members_after ms (i + 2))
      (joined (key_lines (i + 2) key) (value_at t (i + 2)) (key_lines_text (i + 2) key h.0)
      (value_text t (i + 2) h.1)) (members_text ms (i + 2) h.2)

  -- a value as it is written is a text
  value_text : (t : Tree) (i : ℕ) → IsTextTree t → IsText (value_at t i)
  value_text (text value) i h = value_is_text (i + 2) value h
  value_text (sequence no_element) i h = refl
  value_text (sequence (element t ts)) i h =
      joined (codes "\n" ++ spaces (i + 2)) (elements_at (element t ts) (i + 2)) (spaces_text (i + 2))
      (joined (codes "- " ++ lines_after_dash t (i + 2)) (elements_after ts (i + 2)) (element_text t (i + 2) h.0)
      (elements_text ts (i + 2) h.1))
  value_text (mapping no_member) i h = refl
  value_text (mapping (member key t ms)) i h =
      joined (codes "\n" ++ spaces (i + 2)) (members_at (member key t ms) (i + 2)) (spaces_text (i + 2))
      (joined (key_lines (i + 2) key ++ value_at t (i + 2)) (members_after ms (i + 2))
      (joined (key_lines (i + 2) key) (value_at t (i + 2)) (key_lines_text (i + 2) key h.0)
      (value_text t (i + 2) h.1)) (members_text ms (i + 2) h.2))

  -- further elements as they are written are a text
  elements_text : (ts : Elements) (i : ℕ) → AreTextElements ts → IsText (elements_after ts i)
  elements_text no_element i h = refl
  elements_text (element t ts) i h =
      joined (spaces i ++ codes "- " ++ lines_after_dash t i) (elements_after ts i)
      (joined (spaces i ++ codes "- ") (lines_after_dash t i) (joined (spaces i) (codes "- ") (spaces_text i) refl)
      (element_text t i h.0)) (elements_text ts i h.1)

  -- further members as they are written are a text
  members_text : (ms : Members) (i : ℕ) → AreTextMembers ms → IsText (members_after ms i)
  members_text no_member i h = refl
  members_text (member key t ms) i h =
      joined (spaces i ++ key_lines i key ++ value_at t i) (members_after ms i)
      (joined (spaces i ++ key_lines i key) (value_at t i)
      (joined (spaces i) (key_lines i key) (spaces_text i) (key_lines_text i key h.0)) (value_text t i h.1))
      (members_text ms i h.2)

-- the text of a tree of texts is a text
pub plain_is_text : (t : Tree) → IsTextTree t → IsText (plain_text t)
plain_is_text (text value) h = value_is_text 2 value h
plain_is_text (sequence no_element) h = refl
plain_is_text (sequence (element t ts)) h = joined (codes "- " ++ lines_after_dash t 0) (elements_after ts 0)
    (element_text t 0 h.0) (elements_text ts 0 h.1)
plain_is_text (mapping no_member) h = refl
plain_is_text (mapping (member key t ms)) h =
    joined (key_lines 0 key ++ value_at t 0) (members_after ms 0)
    (joined (key_lines 0 key) (value_at t 0) (key_lines_text 0 key h.0) (value_text t 0 h.1)) (members_text ms 0 h.2)
