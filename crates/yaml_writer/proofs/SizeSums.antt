-- The size of a tree as the sum of its parts' sizes.
use Rattle.std.proofs.Common.{◌≡◌, ℕ, ◌+◌, ◌*◌, ◌<◌, ◌≤◌, ◌==◌, Bool, true, false, not, if◌then◌else◌, List, [], ◌∷◌, ◌++◌, zero, suc}
use Rattle.std.proofs.Common.{length, codes, IsUtf8, refl, sym, ap, ◌∙◌, arith}
use Rattle.yaml_writer.proofs.Prelude.{nat_tests, chars, line_feed, byte_len, spaces, Tree, text, sequence, mapping, Elements, no_element}
use Rattle.yaml_writer.proofs.Prelude.{element, Members, no_member, member, literal_lines, plain_in_style, literal_in_style, feeds_at_end}
use Rattle.yaml_writer.proofs.Prelude.{scalar_lines, key_text, long_key, key_lines, elements_at, elements_after, lines_after_dash}
use Rattle.yaml_writer.proofs.{Prelude.{members_at, members_after, value_at, Pair, elements_of, members_of}, LiteralLemmas.line_filled}
use Rattle.yaml_writer.proofs.{LiteralLemmas.{literal_line, chars-lines}, SizeLaws.{three, four, spaces_bytes, made, sized, elements_law}}
use Rattle.yaml_writer.{proofs.{SizeLaws.members_law, SizeBounds.{elements_after_bound, members_after_bound}}, specs.Lines.IsOneLine}
use Rattle.yaml_writer.specs.{Lines.line_text, ScalarStyles.{literal_style, value_style}, BudgetLaws.byte_len-append}
use Rattle.yaml_writer.specs.declared.scalar_style.ScalarStyle.{ScalarStyle, TheVariants.{Plain, Double, LiteralStrip, LiteralClip}}
use Rattle.yaml_writer.specs.{declared.{scalar_style.ScalarStyle.TheVariants.LiteralKeep, size.Size.Size}, Sizes.indented_literal_lines}
use Rattle.yaml_writer.specs.Sizes.{indented_scalar_lines, indented_key_lines, indented, elements_indented, elements_after_indented}
use Rattle.yaml_writer.specs.Sizes.{members_indented, members_after_indented, is_filled, value_size}
use Rattle.yaml_data.specs.declared.tree.Tree as code

-- ---- scalars and keys

-- sizes of the same bytes and lines
pub same_size : (one other : Size) → one.bytes ≡ other.bytes → one.lines ≡ other.lines → one ≡ other
same_size one other p q = sized p q

-- a line of a literal that holds something, at the indentation j
pub line_bytes : (j : ℕ) (cs : List ℕ) → (length cs ≡ 0 → ⊥) → byte_len (line_text j cs) ≡ j + byte_len cs + 1
line_bytes j cs some = omega (arith, ap byte_len (line_filled j cs some), three (spaces j) cs (codes "\n"), spaces_bytes j)

-- what is left of a literal's lines after its first one, at the indentation j
pub literal_step : (j : ℕ) (rest line after : List ℕ) → IsUtf8 rest → rest ≡ line ++ line_feed ∷ after → IsOneLine (chars line)
    → byte_len (literal_lines j true (chars rest)) ≡ byte_len (line_text j (chars line)) + byte_len (literal_lines j true (chars after))
literal_step j rest line after utf8 cut one =
    ap byte_len (ap (literal_lines j true) (chars-lines rest line after utf8 cut) ∙ sym (literal_line j (chars line) (chars after) one))
    ∙ byte_len-append (line_text j (chars line)) (literal_lines j true (chars after))

-- the styles of literals
abbrev pub IsLiteral : ScalarStyle → Type 0
IsLiteral Plain = ⊥
IsLiteral Double = ⊥
IsLiteral LiteralStrip = Unit {0}
IsLiteral LiteralClip = Unit {0}
IsLiteral LiteralKeep = Unit {0}

-- no line of a scalar is indented, if it is no literal
pub one_line : (value : List ℕ) → (IsLiteral (value_style value) → ⊥) → indented_scalar_lines value ≡ 0
one_line value other = by (plain_in_style value) (literal_in_style value) (feeds_at_end value) other
  where
    is_literal : (n : ℕ) → IsLiteral (literal_style n)
    is_literal zero = tt
    is_literal (suc zero) = tt
    is_literal (suc (suc n)) = tt

    by : (p l : Bool) (n : ℕ) → (IsLiteral (if p then Plain else if l then literal_style n else Double) → ⊥)
        → (if p then 0 else if l then indented_literal_lines true value else 0) ≡ 0
    by true l n refused = refl
    by false true n refused = absurd (refused (is_literal n))
    by false false n refused = refl

-- in a literal its lines are
pub literal_lines_of : (value : List ℕ) → IsLiteral (value_style value) → indented_scalar_lines value ≡ indented_literal_lines true value
literal_lines_of value is = by (plain_in_style value) (literal_in_style value) (feeds_at_end value) is
  where
    by : (p l : Bool) (n : ℕ) → IsLiteral (if p then Plain else if l then literal_style n else Double)
        → (if p then 0 else if l then indented_literal_lines true value else 0) ≡ indented_literal_lines true value
    by true l n literal = absurd literal
    by false true n literal = refl
    by false false n literal = absurd literal

-- a key through its `:`, by its text
pub key_bytes : (key : List ℕ) → byte_len (key_lines 0 key) ≡ 1 + 3 * indented_key_lines key + byte_len (key_text key)
key_bytes key = by (long_key key) (key_text key)
  where
    by : (long : Bool) (shown : List ℕ)
        → byte_len (if long then codes "? " ++ shown ++ codes "\n" ++ spaces 0 ++ codes ":" else shown ++ codes ":")
        ≡ 1 + 3 * (if long then 1 else 0) + byte_len shown
    by true shown =
        omega (
          arith,
          byte_len-append (codes "? " ++ shown ++ codes "\n" ++ spaces 0) (codes ":"),
          four (codes "? ") shown (codes "\n") (spaces 0),
        )
    by false shown = omega (arith, byte_len-append shown (codes ":"))

-- ---- collections

-- whether elements are there
pub filled_elements : (ts : List code.Tree) {n : ℕ} → n ≡ length ts → not (n == 0) ≡ is_filled (sequence (elements_of ts))
filled_elements [] e = rw e refl
filled_elements (t ∷ ts) e = grind (arith, nat_tests, e)

-- whether members are there
pub filled_members : (ms : List Pair) {n : ℕ} → n ≡ length ms → not (n == 0) ≡ is_filled (mapping (members_of ms))
filled_members [] e = rw e refl
filled_members (m ∷ ms) e = grind (arith, nat_tests, e)

-- a collection that holds something begins a line after the `:` of a key
pub filled_value : (t : Tree) → true ≡ is_filled t → made (3 + byte_len (lines_after_dash t 0)) (1 + indented t) ≡ value_size t
filled_value (text value) e = absurd cc
filled_value (sequence no_element) e = absurd cc
filled_value (sequence (element t ts)) e =
    sized (omega (arith, three (codes "\n") (spaces 2) (elements_at (element t ts) 2), spaces_bytes 2)) refl
filled_value (mapping no_member) e = absurd cc
filled_value (mapping (member key t ms)) e =
    sized (omega (arith, three (codes "\n") (spaces 2) (members_at (member key t ms) 2), spaces_bytes 2)) refl

-- any other value comes after a space
pub other_value : (t : Tree) → false ≡ is_filled t → made (1 + byte_len (lines_after_dash t 0)) (indented t) ≡ value_size t
other_value (text value) e = sized (omega (arith, byte_len-append (codes " ") (scalar_lines 2 value))) refl
other_value (sequence no_element) e = refl
other_value (sequence (element t ts)) e = absurd cc
other_value (mapping no_member) e = refl
other_value (mapping (member key t ms)) e = absurd cc

-- as a value a tree is longer than as an element
pub value_longer : (t : Tree) → byte_len (lines_after_dash t 0) < byte_len (value_at t 0)
value_longer (text value) = omega (arith, byte_len-append (codes " ") (scalar_lines 2 value))
value_longer (sequence no_element) = omega arith
value_longer (sequence (element t ts)) = omega (arith, three (codes "\n") (spaces 2) (elements_at (element t ts) 2))
value_longer (mapping no_member) = omega arith
value_longer (mapping (member key t ms)) = omega (arith, three (codes "\n") (spaces 2) (members_at (member key t ms) 2))

-- elements that begin with one
pub first_element : (t : Tree) (ts : Elements)
    → byte_len (elements_after (element t ts) 0) ≡ 2 + byte_len (lines_after_dash t 0) + byte_len (elements_after ts 0)
first_element t ts = omega (arith, three (codes "- ") (lines_after_dash t 0) (elements_after ts 0))

-- members that begin with one
pub first_member : (key : List ℕ) (t : Tree) (ms : Members)
    → byte_len (members_after (member key t ms) 0)
    ≡ byte_len (key_lines 0 key) + byte_len (value_at t 0) + byte_len (members_after ms 0)
first_member key t ms = omega (arith, three (key_lines 0 key) (value_at t 0) (members_after ms 0))

-- the rows of a sequence that holds something, and the sequence two deeper
pub record Rows (bytes lines whole own : ℕ) : Type 0 where
  pub first : lines ≡ 1 + own
  pub deeper : whole ≡ bytes + 2 * own
  pub within : lines ≤ bytes

-- of elements
pub element_rows : (ts : List code.Tree) → (length ts ≡ 0 → ⊥)
    → Rows (byte_len (elements_after (elements_of ts) 0)) (elements_after_indented (elements_of ts))
    (byte_len (elements_at (elements_of ts) 2)) (elements_indented (elements_of ts))
element_rows [] some = absurd (some refl)
element_rows (t ∷ ts) some = record {
  first = omega arith;
  deeper = elements_law (elements_of (t ∷ ts)) 2;
  within = elements_after_bound (elements_of (t ∷ ts));
}

-- of members
pub member_rows : (ms : List Pair) → (length ms ≡ 0 → ⊥)
    → Rows (byte_len (members_after (members_of ms) 0)) (members_after_indented (members_of ms))
    (byte_len (members_at (members_of ms) 2)) (members_indented (members_of ms))
member_rows [] some = absurd (some refl)
member_rows (m ∷ ms) some = record {
  first = omega arith;
  deeper = members_law (members_of (m ∷ ms)) 2;
  within = members_after_bound (members_of (m ∷ ms));
}
