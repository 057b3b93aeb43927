-- The lines of a scalar, with the empty lines before them, and its whole body.
use Rattle.std.proofs.Common.{◌≡◌, ℕ, Bool, true, false, List, [], ◌∷◌, ◌++◌, Option, Some, None, refl, ap, sym, ◌∙◌, subst, arith, length}
use Rattle.std.{proofs.Common.drop, specs.Prelude.{◌&&◌, ◌==◌, slice_range}}
use Rattle.yaml_block_scalars.proofs.Prelude.{IsUtf8, chars, and_right, false≢true, chars-nil, between, rest, between-append, Chomping}
use Rattle.yaml_block_scalars.proofs.Prelude.{strip, clip, keep, BlockEmptyLine, TextLine, block_value, trailing_line_feeds, goes_on}
use Rattle.yaml_block_scalars.proofs.Prelude.{value_without_lines, text_value, Body, line_feeds, begins, is_empty, body_found, body_is}
use Rattle.yaml_block_scalars.proofs.Prelude.{no_body, lines_step, on_parts, some_parts, body_at, find_indent, empties_at, lines_at}
use Rattle.yaml_block_scalars.proofs.{Prelude.{read_body, read_text_line, BodyStands, IsBody, NoBody, Read, on}, Values.chars_feeds}
use Rattle.yaml_block_scalars.specs.{declared.line.Line.Line, Found.{AreLines, ArePiece}, Pieces.{is_one_piece, text_after}}
use Rattle.yaml_block_scalars.specs.Lines.{AreEmpties, ArePushed, IsLine, IsNoPiece, IsPastEmpties, IsPiece, value_from}

-- ---- one piece

begins_longer : (xs ys zs : List ℕ) → begins xs (ys ++ zs) ≡ false → begins xs ys ≡ false
begins_longer [] ys zs h = h
begins_longer (x ∷ xs) [] zs h = refl
begins_longer (x ∷ xs) (y ∷ ys) zs h = by_cases (y == x) (begins xs (ys ++ zs)) (begins xs ys) (begins_longer xs ys zs) h
  where
    by_cases : (e a b : Bool) → (a ≡ false → b ≡ false) → e && a ≡ false → e && b ≡ false
    by_cases true a b f h = f h
    by_cases false a b f h = h

-- after the line's text are other characters than the line feeds of the value
pub piece_unfed : (chomping : Chomping) (gs : List BlockEmptyLine) (l : TextLine) (ls : List TextLine) (feeds : ℕ)
    (text after : List ℕ) → begins (line_feeds feeds) text ≡ false
    → line_feeds feeds ≡ trailing_line_feeds chomping l → text ≡ text_after l ++ after → is_one_piece chomping gs (l ∷ ls) ≡ false
piece_unfed chomping gs l [] feeds text after h c e =
    and_right (is_empty gs) _ (begins_longer (trailing_line_feeds chomping l) (text_after l) after
    (ap (begins (trailing_line_feeds chomping l)) (sym e) ∙ (ap (λ xs. begins xs text) (sym c) ∙ h)))
piece_unfed chomping gs l (m ∷ ms) feeds text after h c e = refl

piece_longer : (chomping : Chomping) (gs : List BlockEmptyLine) (l : TextLine) (ls : List TextLine) → (ls ≡ [] → ⊥)
    → is_one_piece chomping gs (l ∷ ls) ≡ false
piece_longer chomping gs l [] n = absurd (n refl)
piece_longer chomping gs l (m ∷ ms) n = refl

some_lines : (q : ℕ) (text after : List ℕ) → goes_on q text ≡ true → IsPastEmpties q text → lines_at q text ≡ Some ([], after) → ⊥
some_lines q text after g past e =
    let one = on_parts (read_text_line q (drop q text))
    (λ l rest. on (lines_at q rest) (λ ls after. Some (l ∷ ls, after))) ([], after) (sym (lines_step q text g past) ∙ e) in
    let more = on_parts (lines_at q one.1) (λ ls after. Some (one.0 ∷ ls, after)) ([], after) one.3 in
    let parts = some_parts (one.0 ∷ more.0) [] more.1 after more.3 in
    let none : one.0 ∷ more.0 ≡ [] = parts.0 in
    cc

-- a value in one piece ends where its last line does
pub piece_ended : (q : ℕ) (chomping : Chomping) (text after : List ℕ) (gs : List BlockEmptyLine) (l : TextLine)
    (ls : List TextLine) → goes_on q text ≡ true → IsPastEmpties q text
    → lines_at q text ≡ Some (ls, after) → is_one_piece chomping gs (l ∷ ls) ≡ false
piece_ended q chomping text after gs l ls g past e =
    piece_longer chomping gs l ls (λ n. some_lines q text after g past (e ∙ ap (λ x. Some (x, after)) n))

-- ---- the lines

empty_list : {A : Type 0} (xs : List A) → length xs ≡ 0 → xs ≡ []
empty_list [] e = refl
empty_list (x ∷ xs) e = absurd (omega arith)

chars_kept : (chomping : Chomping) (n : ℕ) → chars (value_without_lines chomping n) ≡ value_without_lines chomping n
chars_kept strip n = chars-nil
chars_kept clip n = chars-nil
chars_kept keep n = chars_feeds n

module _ (q : ℕ) (folded : Bool) (chomping : Chomping) (bs : List ℕ) (i empties j : ℕ) (g : AreEmpties q bs i empties j) where
  -- what is read of them, by what is read after the empty lines
  read_as : (r : Read (List TextLine)) → lines_at q (rest bs j) ≡ r
      → on (lines_at q (empties_at q (rest bs i)).1) (λ ls after. Some (block_value folded chomping (empties_at q (rest bs i)).0 ls, after))
      ≡ on r (λ ls after. Some (block_value folded chomping (empties_at q (rest bs i)).0 ls, after))
  read_as r e = ap (λ (x : Read (List TextLine)).
      on x (λ ls after. Some (block_value folded chomping (empties_at q (rest bs i)).0 ls, after))) (ap (lines_at q) g.leaves ∙ e)

  -- what a piece says of the lines after the empty lines
  piece_lines : (r : Read (List TextLine)) → lines_at q (rest bs j) ≡ r → ArePiece q chomping (rest bs i)
      → (ls : List TextLine) × (after : List ℕ) × (r ≡ Some (ls, after)) × (is_one_piece chomping (empties_at q (rest bs i)).0 ls ≡ true)
  piece_lines r e p = (p.0, p.1, sym e ∙ ap (lines_at q) (sym g.leaves) ∙ p.2, p.3)

  -- no text line
  pub lines_none : (value : List ℕ) → lines_at q (rest bs j) ≡ Some ([], rest bs j)
      → value ≡ value_without_lines chomping empties → AreLines q folded chomping bs i value j
  lines_none value e v =
      let whole : value_without_lines chomping (length (empties_at q (rest bs i)).0) ≡ chars value =
      ap (value_without_lines chomping) g.counts ∙ sym (chars_kept chomping empties) ∙ ap chars (sym v) in
      record {
        above = let above = g.above in omega arith;
        boundary = g.boundary;
        reads = read_as (Some ([], rest bs j)) e ∙ ap (λ x. Some (x, rest bs j)) whole;
      }

  module _ (line : Line) (n : IsLine q bs j line) where
    -- the first line is put before those after it
    in_prefix : (r : Read (List TextLine))
        → on (on r (λ ls after. Some (n.read ∷ ls, after)))
        (λ ls after. Some (block_value folded chomping (empties_at q (rest bs i)).0 ls, after))
        ≡ on r (λ ls after. Some (line_feeds (length (empties_at q (rest bs i)).0) ++ text_value folded chomping n.read ls, after))
    in_prefix None = refl
    in_prefix (Some r) = refl

    -- where no lines are read after it, none are read
    pub lines_missing : lines_at q (rest bs line.next) ≡ None → lines_at q (empties_at q (rest bs i)).1 ≡ None
    lines_missing none = ap (lines_at q) g.leaves ∙ n.reads
        ∙ ap (λ (r : Read (List TextLine)). on r (λ ls after. Some (n.read ∷ ls, after))) none

    -- the lines are read, with the value that was pushed
    pub lines_pushed : (prefix value : List ℕ) (end : ℕ) → prefix ≡ [] ++ line_feeds empties
        → ArePushed q folded chomping bs line prefix value end → AreLines q folded chomping bs i value end
    lines_pushed prefix value end f p =
        let fed : chars prefix ≡ line_feeds (length (empties_at q (rest bs i)).0) = ap chars f ∙ chars_feeds empties
        ∙ ap line_feeds (sym g.counts) in
        record {
          above = let above = g.above in let empty_after = n.after in let within = n.placed.above in
              let empties_fit = n.placed.empties_fit in let further = p.above in omega arith;
          boundary = p.boundary;
          reads = read_as (on (lines_at q (rest bs line.next)) (λ ls after. Some (n.read ∷ ls, after))) n.reads
              ∙ in_prefix (lines_at q (rest bs line.next))
              ∙ ap (λ x. value_from q folded chomping x n.read (rest bs line.next)) (sym fed) ∙ p.reads n.read n.described n.spells;
        }

    -- the value is in the text
    pub lines_piece : IsUtf8 bs → (value : List ℕ) (end : ℕ) → IsPiece q chomping bs empties line end
        → value ≡ slice_range bs line.start end → AreLines q folded chomping bs i value line.next
    lines_piece u value end p v =
        let none : (empties_at q (rest bs i)).0 ≡ [] = empty_list (empties_at q (rest bs i)).0 (g.counts ∙ p.none_before) in
        let placed = n.placed in
        let within = placed.above in
        let whole : block_value folded chomping (empties_at q (rest bs i)).0 (n.read ∷ []) ≡ chars value =
        ap (λ gs. block_value folded chomping gs (n.read ∷ [])) none
        ∙ (ap (λ t. t ++ trailing_line_feeds chomping n.read) n.spells
        ∙ (ap (λ t. between bs line.start line.end ++ t) (sym (p.spells n.read n.described))
        ∙ (sym (between-append bs line.start line.end end u
        (omega arith) p.above placed.start_boundary placed.end_boundary p.boundary) ∙ ap chars (sym v)))) in
        record {
          above = let above = g.above in let empty_after = n.after in let empties_fit = placed.empties_fit in omega arith;
          boundary = placed.next_boundary;
          reads = read_as (Some (n.read ∷ [], rest bs line.next))
              (n.reads ∙ ap (λ (r : Read (List TextLine)). on r (λ ls after. Some (n.read ∷ ls, after))) p.last)
              ∙ ap (λ t. Some (t, rest bs line.next)) whole;
        }

    -- what is no piece here is none at all
    pub piece_more : IsNoPiece q chomping bs empties line → ArePiece q chomping (rest bs i) → ⊥
    piece_more a p =
        let found = piece_lines (on (lines_at q (rest bs line.next)) (λ ls after. Some (n.read ∷ ls, after))) n.reads p in
        let more = on_parts (lines_at q (rest bs line.next)) (λ ls after. Some (n.read ∷ ls, after)) (found.0, found.1) found.2 in
        let same = (some_parts (n.read ∷ more.0) found.0 more.1 found.1 more.3).0 in
        false≢true (sym (a n.read (empties_at q (rest bs i)).0 more.0 more.1 n.described n.follows g.counts more.2)
        ∙ ap (is_one_piece chomping (empties_at q (rest bs i)).0) same ∙ found.3)

-- ---- the whole body

module _ (digit : Option ℕ) (m : ℕ) (folded : Bool) (chomping : Chomping) (q : ℕ) (bs : List ℕ) (i : ℕ)
    (f : find_indent digit m (rest bs i) ≡ Some q) where
  -- the body with these text lines
  with_lines : List TextLine → Body
  with_lines ls = record { indent = q; empties = (empties_at q (rest bs i)).0; texts = ls }

  body_read_as : read_body digit m (rest bs i) ≡ on (lines_at q (empties_at q (rest bs i)).1) (λ ls after. Some (with_lines ls, after))
  unfolding with_lines
  body_read_as = ap (body_at (rest bs i)) f

  -- without text lines that fit there is no body
  pub no_body_lines : lines_at q (empties_at q (rest bs i)).1 ≡ None → NoBody digit m (rest bs i)
  no_body_lines e = no_body digit m (rest bs i)
      (body_read_as ∙ ap (λ (r : Read (List TextLine)). on r (λ ls after. Some (with_lines ls, after))) e)

  -- with them there is one
  pub body_there : (value : List ℕ) (end : ℕ) → AreLines q folded chomping bs i value end
      → IsBody digit m folded chomping (rest bs i) (chars value) (rest bs end)
  unfolding with_lines
  body_there value end h =
      let found = on_parts (lines_at q (empties_at q (rest bs i)).1)
      (λ ls after. Some (block_value folded chomping (empties_at q (rest bs i)).0 ls, after))
      (chars value, rest bs end) h.reads in
      let same = some_parts (block_value folded chomping (empties_at q (rest bs i)).0 found.0) (chars value) found.1
      (rest bs end) found.3 in
      let reads : read_body digit m (rest bs i) ≡ Some (with_lines found.0, rest bs end) =
      body_read_as ∙ ap (λ (r : Read (List TextLine)). on r (λ ls after. Some (with_lines ls, after))) found.2
      ∙ ap (λ x. Some (with_lines found.0, x)) same.1 in
      subst (λ x. IsBody digit m folded chomping (rest bs i) x (rest bs end)) same.0
      (body_is digit m folded chomping (rest bs i) (with_lines found.0) (rest bs end) reads)

  -- a body with its value in one piece is one here
  pub piece_there : (body : Body) (after : List ℕ) → BodyStands digit m (rest bs i) body after
      → is_one_piece chomping body.empties body.texts ≡ true → ArePiece q chomping (rest bs i)
  unfolding with_lines
  piece_there body after s p =
      let found = on_parts (lines_at q (empties_at q (rest bs i)).1) (λ ls after. Some (with_lines ls, after))
      (body, after) (sym body_read_as ∙ body_found digit m (rest bs i) body after s) in
      let same : with_lines found.0 ≡ body = (some_parts (with_lines found.0) body found.1 after found.3).0 in
      (found.0, found.1, found.2, ap (λ (b : Body). is_one_piece chomping b.empties b.texts) same ∙ p)

-- without an indentation there is no body
pub no_body_indent : (digit : Option ℕ) (m : ℕ) (bs : List ℕ) (i : ℕ) → find_indent digit m (rest bs i) ≡ None → NoBody digit m (rest bs i)
no_body_indent digit m bs i e = no_body digit m (rest bs i) (ap (body_at (rest bs i)) e)
