-- The size of what was read, from its bytes and its lines.
use Rattle.std.proofs.Common.{◌≡◌, ℕ, ◌+◌, ◌-◌, ◌*◌, ◌≤◌, true, false, List, ◌++◌, length, encode_utf8_all, refl, sym, ap, ◌∙◌}
use Rattle.std.proofs.{Common.{length-append, arith}, lemmas.Nat.mul-le}
use Rattle.yaml_styled.proofs.Prelude.{byte_len, Tree, text, sequence, mapping, no_element, element, no_member, member, scalar_lines}
use Rattle.yaml_styled.proofs.Prelude.{lines_after_dash, style_text, value_at, indented, indented_scalar_lines, value_indented, is_filled}
use Rattle.yaml_styled.proofs.{Prelude.{element_size, Size, byte_len-encoded, same_size, filled_value, other_value}, SoundLemmas.looser}
use Rattle.yaml_styled.{proofs.ValueLemmas.after_dash, specs.{Comparing.GoesOn, Parts.{lines_of, IsRead}, Styles.IsStyled}}
use Rattle.yaml_writer.proofs.SizeLaws.{value_law, scalar_law, elements_law, members_law}

-- how many bytes are taken off
bytes_taken : (before rest written : List ℕ) → GoesOn before written rest
    → length before ≡ byte_len written + length rest
bytes_taken before rest written goes =
    ap length goes ∙ length-append (encode_utf8_all written) rest
    ∙ ap (λ n. n + length rest) (sym (byte_len-encoded written))

-- bytes at an indentation, without it
without : (whole rest margin i n bytes : ℕ) → whole ≡ bytes + rest → bytes ≡ margin + i * n → whole - rest - i * n ≡ margin
without whole rest margin i n bytes taken grows = omega (arith, taken, grows)

margin_of : (t : Tree) (i n : ℕ) (before rest : List ℕ) → GoesOn before (value_at t i) rest → value_indented t ≡ n
    → length before - length rest - i * n ≡ byte_len (value_at t 0)
margin_of t i n before rest goes lines =
    without (length before) (length rest) (byte_len (value_at t 0)) i n (byte_len (value_at t i))
    (bytes_taken before rest (value_at t i) goes)
    (value_law t i ∙ ap (λ k. byte_len (value_at t 0) + i * k) lines)

-- of a value beside its key
pub size_beside : (t : Tree) (i n bytes : ℕ) (size : Size) (before rest : List ℕ) → false ≡ is_filled t
    → GoesOn before (value_at t i) rest → value_indented t ≡ n
    → bytes ≡ length before - length rest - i * n → size.bytes ≡ bytes - 1 → size.lines ≡ n → size ≡ element_size t
size_beside t i n bytes size before rest flat goes lines whole own own_lines =
    let margin = margin_of t i n before rest goes lines in
    let same = other_value t flat in
    let b : 1 + byte_len (lines_after_dash t 0) ≡ byte_len (value_at t 0) = ap (λ s. s.bytes) same in
    let l : indented t ≡ value_indented t = ap (λ s. s.lines) same in
    let first : size.bytes ≡ byte_len (lines_after_dash t 0) = omega (arith, own, whole, margin, b) in
    same_size size (element_size t) first (own_lines ∙ sym lines ∙ sym l)

-- of a value below its key
pub size_below : (t : Tree) (i n bytes : ℕ) (size : Size) (before rest : List ℕ) → true ≡ is_filled t
    → GoesOn before (value_at t i) rest → value_indented t ≡ n
    → bytes ≡ length before - length rest - i * n → size.bytes ≡ bytes - 3 → size.lines ≡ n - 1 → size ≡ element_size t
size_below t i n bytes size before rest filled goes lines whole own own_lines =
    let margin = margin_of t i n before rest goes lines in
    let same = filled_value t filled in
    let b : 3 + byte_len (lines_after_dash t 0) ≡ byte_len (value_at t 0) = ap (λ s. s.bytes) same in
    let l : 1 + indented t ≡ value_indented t = ap (λ s. s.lines) same in
    let first : size.bytes ≡ byte_len (lines_after_dash t 0) = omega (arith, own, whole, margin, b) in
    let second : size.lines ≡ indented t = omega (arith, own_lines, lines, l) in
    same_size size (element_size t) first second

-- by itself, a collection with rows has its lines at the margin
pub rows_style : (t : Tree) → is_filled t ≡ true → lines_of t 0 ≡ style_text t
rows_style (text value) e = cc
rows_style (sequence ts) e = refl
rows_style (mapping ms) e = refl

rows_deeper : (t : Tree) → is_filled t ≡ true → byte_len (lines_after_dash t 0) ≡ byte_len (lines_of t 0) + 2 * indented t
rows_deeper (text value) e = cc
rows_deeper (sequence ts) e = elements_law ts 2
rows_deeper (mapping ms) e = members_law ms 2

-- of a collection with rows
pub size_of_rows : (t : Tree) (n bytes : ℕ) (size : Size) (before rest : List ℕ) → is_filled t ≡ true
    → GoesOn before (lines_of t 0) rest → indented t ≡ n
    → bytes ≡ length before - length rest - 0 * n → size.bytes ≡ bytes + 2 * n → size.lines ≡ n → size ≡ element_size t
size_of_rows t n bytes size before rest filled goes lines whole own own_lines =
    let taken = bytes_taken before rest (lines_of t 0) goes in
    let deeper = rows_deeper t filled in
    let first : size.bytes ≡ byte_len (lines_after_dash t 0) = omega (arith, own, whole, taken, deeper, lines) in
    same_size size (element_size t) first (own_lines ∙ sym lines)

-- by itself, any other tree has the lines that it has after a `- `
pub flat_style : (t : Tree) → is_filled t ≡ false → lines_of t 2 ≡ style_text t
flat_style (text value) e = refl
flat_style (sequence no_element) e = refl
flat_style (sequence (element t ts)) e = cc
flat_style (mapping no_member) e = refl
flat_style (mapping (member key t ms)) e = cc

-- of a text, or a collection that holds nothing
pub size_of_flat : (t : Tree) (n bytes : ℕ) (size : Size) (before rest : List ℕ)
    → GoesOn before (lines_of t 2) rest → indented t ≡ n
    → bytes ≡ length before - length rest - 0 * n → size.bytes ≡ bytes → size.lines ≡ n → size ≡ element_size t
size_of_flat t n bytes size before rest goes lines whole own own_lines =
    let taken = bytes_taken before rest (lines_of t 2) goes in
    let same = ap byte_len (after_dash t 0) in
    let first : size.bytes ≡ byte_len (lines_after_dash t 0) = omega (arith, own, whole, taken, same) in
    same_size size (element_size t) first (own_lines ∙ sym lines)

-- a text is no longer by itself than where its lines are indented
pub scalar_short : (value : List ℕ) (i : ℕ) (before rest : List ℕ) (most : ℕ) → 2 ≤ i
    → GoesOn before (scalar_lines i value) rest → length before - length rest ≤ most
    → byte_len (style_text (text value)) ≤ most
scalar_short value i before rest most deep goes short =
    let n = indented_scalar_lines value in
    let taken = bytes_taken before rest (scalar_lines i value) goes in
    let here = scalar_law i value in
    let alone = scalar_law 2 value in
    let less : 2 * n ≤ i * n = mul-le 2 n i n deep (omega arith) in
    omega (arith, taken, here, alone, less, short)

counted_all : {k m n : ℕ} → k ≡ 0 → n ≡ k + m → m ≡ n
counted_all none counted = omega (arith, none, counted)

module _ {Is : Tree → Type 0} where
  -- a value beside its key
  pub styled_beside : (i n bytes : ℕ) (size : Size) (before start rest : List ℕ) (k : ℕ) → start ≡ before → k ≡ 0
      → IsRead (λ t. Is t × (is_filled t ≡ false)) (λ t. value_at t i) value_indented 1 start k rest n
      → bytes ≡ length before - length rest - i * n → size.bytes ≡ bytes - 1 → size.lines ≡ n
      → IsStyled Is (λ t. value_at t i) size before rest
  styled_beside i n bytes size before start rest k same none read whole own lines =
      let goes = sym same ∙ read.took.goes_on in
      let all = counted_all none read.took.counted in
      record {
        tree = read.tree;
        is = read.is.0;
        goes_on = goes;
        size_is = size_beside read.tree i n bytes size before rest (sym read.is.1) goes all whole own lines;
        sound = looser (omega arith) read.sound;
      }

  -- a value below its key
  pub styled_below : (i n bytes : ℕ) (size : Size) (before start rest : List ℕ) (k : ℕ) → start ≡ before → k ≡ 0
      → IsRead (λ t. Is t × (is_filled t ≡ true)) (λ t. value_at t i) value_indented 128 start k rest n
      → bytes ≡ length before - length rest - i * n → size.bytes ≡ bytes - 3 → size.lines ≡ n - 1
      → IsStyled Is (λ t. value_at t i) size before rest
  styled_below i n bytes size before start rest k same none read whole own lines =
      let goes = sym same ∙ read.took.goes_on in
      let all = counted_all none read.took.counted in
      record {
        tree = read.tree;
        is = read.is.0;
        goes_on = goes;
        size_is = size_below read.tree i n bytes size before rest (sym read.is.1) goes all whole own lines;
        sound = read.sound;
      }

  -- a collection with rows, by itself
  pub styled_rows : (n bytes : ℕ) (size : Size) (before start rest : List ℕ) (k : ℕ) → start ≡ before → k ≡ 0
      → IsRead (λ t. Is t × (is_filled t ≡ true)) (λ t. lines_of t 0) indented 128 start k rest n
      → bytes ≡ length before - length rest - 0 * n → size.bytes ≡ bytes + 2 * n → size.lines ≡ n
      → IsStyled Is style_text size before rest
  styled_rows n bytes size before start rest k same none read whole own lines =
      let goes = sym same ∙ read.took.goes_on in
      let all = counted_all none read.took.counted in
      record {
        tree = read.tree;
        is = read.is.0;
        goes_on = goes ∙ ap (λ written. encode_utf8_all written ++ rest) (rows_style read.tree read.is.1);
        size_is = size_of_rows read.tree n bytes size before rest read.is.1 goes all whole own lines;
        sound = read.sound;
      }

  -- any other tree, by itself
  pub styled_flat : (n bytes : ℕ) (size : Size) (before start rest : List ℕ) (k : ℕ) → start ≡ before → k ≡ 0
      → IsRead (λ t. Is t × (is_filled t ≡ false)) (λ t. lines_of t 2) indented 1 start k rest n
      → bytes ≡ length before - length rest - 0 * n → size.bytes ≡ bytes → size.lines ≡ n
      → IsStyled Is style_text size before rest
  styled_flat n bytes size before start rest k same none read whole own lines =
      let goes = sym same ∙ read.took.goes_on in
      let all = counted_all none read.took.counted in
      record {
        tree = read.tree;
        is = read.is.0;
        goes_on = goes ∙ ap (λ written. encode_utf8_all written ++ rest) (flat_style read.tree read.is.1);
        size_is = size_of_flat read.tree n bytes size before rest goes all whole own lines;
        sound = looser (omega arith) read.sound;
      }
