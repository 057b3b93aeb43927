-- The length of a part at any indentation, by its size.
use Rattle.std.proofs.Common.{◌≡◌, ℕ, zero, suc, ◌+◌, ◌-◌, ◌*◌, ◌==◌, Bool, true, false, if◌then◌else◌, List, [], ◌∷◌, ◌++◌, codes, refl}
use Rattle.std.proofs.Common.{ap₂, arith}
use Rattle.yaml_writer.proofs.Prelude.{line_feed, byte_len, spaces, Tree, text, sequence, mapping, Elements, no_element, element, Members}
use Rattle.yaml_writer.proofs.Prelude.{no_member, member, plain_in_style, literal_in_style, in_double_quotes, literal_mark, literal_lines}
use Rattle.yaml_writer.proofs.Prelude.{feeds_at_end, scalar_lines, key_text, long_key, key_lines, elements_at, elements_after}
use Rattle.yaml_writer.{proofs.Prelude.{lines_after_dash, members_at, members_after, value_at}, specs.declared.size.Size.Size}
use Rattle.yaml_writer.specs.{BudgetLaws.byte_len-append, Sizes.{indented_literal_lines, indented_scalar_lines, indented_key_lines}}
use Rattle.yaml_writer.specs.Sizes.{indented, elements_indented, elements_after_indented, members_indented, members_after_indented}
use Rattle.yaml_writer.specs.Sizes.{value_indented}

-- n spaces have n bytes
pub spaces_bytes : (n : ℕ) → byte_len (spaces n) ≡ n
spaces_bytes zero = refl
spaces_bytes (suc n) = let after = spaces_bytes n in omega (arith, after)

-- the bytes of three texts together
pub three : (a b c : List ℕ) → byte_len (a ++ b ++ c) ≡ byte_len a + byte_len b + byte_len c
three a b c = omega (arith, byte_len-append (a ++ b) c, byte_len-append a b)

-- the bytes of four texts together
pub four : (a b c d : List ℕ) → byte_len (a ++ b ++ c ++ d) ≡ byte_len a + byte_len b + byte_len c + byte_len d
four a b c d = omega (arith, byte_len-append (a ++ b ++ c) d, three a b c)

-- a size of so many bytes and indented lines
abbrev pub made : ℕ → ℕ → Size
made b l = record { bytes = b; lines = l }

-- sizes of the same bytes and lines are the same
pub sized : {b b' l l' : ℕ} → b ≡ b' → l ≡ l' → made b l ≡ made b' l'
sized p q = ap₂ made p q

-- the size of a part, by its lengths at the indentations 0 and 1
pub size_from : {bytes more b n : ℕ} → bytes ≡ b → more ≡ b + 1 * n → made bytes (more - bytes) ≡ made b n
size_from {bytes = bytes} {more = more} {n = n} p q =
    let lines : more - bytes ≡ n = omega (arith, p, q) in
    sized p lines

-- ---- scalars and keys

-- the lines of a literal grow by one byte each for each column of indentation
pub literal_law : (j : ℕ) (fresh : Bool) (cs : List ℕ)
    → byte_len (literal_lines j fresh cs) ≡ byte_len (literal_lines 0 fresh cs) + j * indented_literal_lines fresh cs
literal_law j fresh [] = omega arith
literal_law j fresh (c ∷ cs) = by (c == line_feed) fresh (literal_law j true cs) (literal_law j false cs)
  where
    by : (feed starts : Bool)
        → byte_len (literal_lines j true cs) ≡ byte_len (literal_lines 0 true cs) + j * indented_literal_lines true cs
        → byte_len (literal_lines j false cs) ≡ byte_len (literal_lines 0 false cs) + j * indented_literal_lines false cs
        → byte_len (if feed then line_feed ∷ literal_lines j true cs
        else (if starts then spaces j else []) ++ c ∷ literal_lines j false cs)
        ≡ byte_len (if feed then line_feed ∷ literal_lines 0 true cs
        else (if starts then spaces 0 else []) ++ c ∷ literal_lines 0 false cs)
        + j * (if feed then indented_literal_lines true cs else (if starts then 1 else 0) + indented_literal_lines false cs)
    by true starts on off = omega (arith, on)
    by false true on off =
        omega (arith, off, byte_len-append (spaces j) (c ∷ literal_lines j false cs), spaces_bytes j)
    by false false on off = omega (arith, off)

-- a scalar's text grows by one byte an indented line for each column of indentation
pub scalar_law : (j : ℕ) (value : List ℕ) → byte_len (scalar_lines j value)
    ≡ byte_len (scalar_lines 0 value) + j * indented_scalar_lines value
scalar_law j value = by (plain_in_style value) (literal_in_style value) (literal_mark (feeds_at_end value))
  where
    by : (plain literal : Bool) (mark : List ℕ)
        → byte_len (if plain then value ++ codes "\n" else if literal
        then mark ++ codes "\n" ++ literal_lines j true value else in_double_quotes value ++ codes "\n")
        ≡ byte_len (if plain then value ++ codes "\n" else if literal
        then mark ++ codes "\n" ++ literal_lines 0 true value else in_double_quotes value ++ codes "\n")
        + j * (if plain then 0 else if literal then indented_literal_lines true value else 0)
    by true literal mark = omega arith
    by false true mark =
        omega (
          arith,
          literal_law j true value,
          three mark (codes "\n") (literal_lines j true value),
          three mark (codes "\n") (literal_lines 0 true value),
        )
    by false false mark = omega arith

-- so does a key's
pub key_law : (i : ℕ) (key : List ℕ) → byte_len (key_lines i key) ≡ byte_len (key_lines 0 key) + i * indented_key_lines key
key_law i key = by (long_key key) (key_text key)
  where
    by : (long : Bool) (shown : List ℕ)
        → byte_len (if long then codes "? " ++ shown ++ codes "\n" ++ spaces i ++ codes ":" else shown ++ codes ":")
        ≡ byte_len (if long then codes "? " ++ shown ++ codes "\n" ++ spaces 0 ++ codes ":" else shown ++ codes ":")
        + i * (if long then 1 else 0)
    by true shown =
        omega (
          arith,
          byte_len-append (codes "? " ++ shown ++ codes "\n" ++ spaces i) (codes ":"),
          byte_len-append (codes "? " ++ shown ++ codes "\n" ++ spaces 0) (codes ":"),
          four (codes "? ") shown (codes "\n") (spaces i),
          four (codes "? ") shown (codes "\n") (spaces 0),
          spaces_bytes i,
        )
    by false shown = omega arith

-- ---- trees

mutual
  -- so does an element's
  pub element_law : (t : Tree) (i : ℕ) → byte_len (lines_after_dash t i) ≡ byte_len (lines_after_dash t 0) + i * indented t
  element_law (text value) i = omega (arith, scalar_law (i + 2) value, scalar_law 2 value)
  element_law (sequence ts) i = omega (arith, elements_law ts (i + 2), elements_law ts 2)
  element_law (mapping ms) i = omega (arith, members_law ms (i + 2), members_law ms 2)

  -- so does that of the elements of a sequence
  pub elements_law : (ts : Elements) (i : ℕ) → byte_len (elements_at ts i) ≡ byte_len (elements_at ts 0) + i * elements_indented ts
  elements_law no_element i = omega arith
  elements_law (element t ts) i =
      omega (
        arith,
        element_law t i,
        elements_after_law ts i,
        three (codes "- ") (lines_after_dash t i) (elements_after ts i),
        three (codes "- ") (lines_after_dash t 0) (elements_after ts 0),
      )

  -- so does that of the elements after the first
  pub elements_after_law : (ts : Elements) (i : ℕ)
      → byte_len (elements_after ts i) ≡ byte_len (elements_after ts 0) + i * elements_after_indented ts
  elements_after_law no_element i = omega arith
  elements_after_law (element t ts) i =
      omega (
        arith,
        element_law t i,
        elements_after_law ts i,
        four (spaces i) (codes "- ") (lines_after_dash t i) (elements_after ts i),
        four (spaces 0) (codes "- ") (lines_after_dash t 0) (elements_after ts 0),
        spaces_bytes i,
      )

  -- so does that of the members of a mapping
  pub members_law : (ms : Members) (i : ℕ) → byte_len (members_at ms i) ≡ byte_len (members_at ms 0) + i * members_indented ms
  members_law no_member i = omega arith
  members_law (member key t ms) i =
      omega (
        arith,
        key_law i key,
        value_law t i,
        members_after_law ms i,
        three (key_lines i key) (value_at t i) (members_after ms i),
        three (key_lines 0 key) (value_at t 0) (members_after ms 0),
      )

  -- so does that of the members after the first
  pub members_after_law : (ms : Members) (i : ℕ)
      → byte_len (members_after ms i) ≡ byte_len (members_after ms 0) + i * members_after_indented ms
  members_after_law no_member i = omega arith
  members_after_law (member key t ms) i =
      omega (
        arith,
        key_law i key,
        value_law t i,
        members_after_law ms i,
        four (spaces i) (key_lines i key) (value_at t i) (members_after ms i),
        four (spaces 0) (key_lines 0 key) (value_at t 0) (members_after ms 0),
        spaces_bytes i,
      )

  -- so does a value's
  pub value_law : (t : Tree) (i : ℕ) → byte_len (value_at t i) ≡ byte_len (value_at t 0) + i * value_indented t
  value_law (text value) i =
      omega (
        arith,
        scalar_law (i + 2) value,
        scalar_law 2 value,
        byte_len-append (codes " ") (scalar_lines (i + 2) value),
        byte_len-append (codes " ") (scalar_lines 2 value),
      )
  value_law (sequence no_element) i = omega arith
  value_law (sequence (element t ts)) i =
      omega (
        arith,
        elements_law (element t ts) (i + 2),
        elements_law (element t ts) 2,
        three (codes "\n") (spaces (i + 2)) (elements_at (element t ts) (i + 2)),
        three (codes "\n") (spaces 2) (elements_at (element t ts) 2),
        spaces_bytes (i + 2),
      )
  value_law (mapping no_member) i = omega arith
  value_law (mapping (member key t ms)) i =
      omega (
        arith,
        members_law (member key t ms) (i + 2),
        members_law (member key t ms) 2,
        three (codes "\n") (spaces (i + 2)) (members_at (member key t ms) (i + 2)),
        three (codes "\n") (spaces 2) (members_at (member key t ms) 2),
        spaces_bytes (i + 2),
      )
