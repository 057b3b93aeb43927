-- The value of lines, a line at a time.
use Rattle.std.proofs.Common.{◌≡◌, ℕ, zero, suc, ◌≤◌, Bool, List, [], ◌∷◌, ◌++◌, Some, None, refl, ap, sym, ◌∙◌, arith, length}
use Rattle.std.{proofs.Common.{append_assoc, slice_range}, specs.Prelude.{◌||◌, not}}
use Rattle.yaml_block_scalars.proofs.Prelude.{IsAscii, IsUtf8, chars, cond_both, chars-append, chars-IsAscii, white, between, rest}
use Rattle.yaml_block_scalars.proofs.Prelude.{Chomping, TextLine, between_lines, trailing_line_feeds, text_value, folded_break, line_feeds}
use Rattle.yaml_block_scalars.{proofs.Prelude.{first, lines_at, Read, on}, specs.{declared.line.Line.Line, Lines.{ArePushed, Describes}}}
use Rattle.yaml_block_scalars.specs.Lines.{IsLine, IsPlaced, value_from}

-- ---- line feeds

feeds_ascii : (n : ℕ) → IsAscii (line_feeds n)
feeds_ascii zero k = omega arith
feeds_ascii (suc n) zero = omega arith
feeds_ascii (suc n) (suc k) = feeds_ascii n k

folded_ascii : (n : ℕ) → IsAscii (folded_break n)
folded_ascii zero zero = omega arith
folded_ascii zero (suc k) = omega arith
folded_ascii (suc n) k = feeds_ascii (suc n) k

between_ascii : (folded : Bool) (l m : TextLine) → IsAscii (between_lines folded l m)
between_ascii folded l m =
    cond_both (not folded || first white l.text || first white m.text) (line_feeds (suc (length l.empties)))
    (folded_break (length l.empties)) IsAscii
    (λ _. feeds_ascii (suc (length l.empties))) (λ _. folded_ascii (length l.empties))

-- line feeds are characters
pub chars_feeds : (n : ℕ) → chars (line_feeds n) ≡ line_feeds n
chars_feeds n = chars-IsAscii (line_feeds n) (feeds_ascii n)

-- ---- one line more

module _ (folded : Bool) (chomping : Chomping) (prefix : List ℕ) (l k : TextLine) where
  joined : (r : Read (List TextLine))
      → on (on r (λ ls after. Some (k ∷ ls, after))) (λ ls after. Some (prefix ++ text_value folded chomping l ls, after))
      ≡ on r (λ ls after. Some ((prefix ++ l.text ++ between_lines folded l k) ++ text_value folded chomping k ls, after))
  joined None = refl
  joined (Some r) = ap (λ t. Some (t, r.1)) (regroup prefix l.text (between_lines folded l k) (text_value folded chomping k r.0))
    where
      regroup : (a b c d : List ℕ) → a ++ ((b ++ c) ++ d) ≡ ((a ++ b) ++ c) ++ d
      regroup a b c d = simp append_assoc

  -- the value of a line and of those after it
  pub value_step : (q : ℕ) (text more : List ℕ) → lines_at q text ≡ on (lines_at q more) (λ ls after. Some (k ∷ ls, after))
      → value_from q folded chomping prefix l text ≡ value_from q folded chomping (prefix ++ l.text ++ between_lines folded l k) k more
  value_step q text more e = ap (λ (r : Read (List TextLine)).
      on r (λ ls after. Some (prefix ++ text_value folded chomping l ls, after))) e ∙ joined (lines_at q more)

-- the value of the last line
pub value_end : (q : ℕ) (folded : Bool) (chomping : Chomping) (prefix : List ℕ) (l : TextLine) (text : List ℕ)
    → lines_at q text ≡ Some ([], text)
    → value_from q folded chomping prefix l text ≡ Some (prefix ++ l.text ++ trailing_line_feeds chomping l, text)
value_end q folded chomping prefix l text e =
    ap (λ (r : Read (List TextLine)). on r (λ ls after. Some (prefix ++ text_value folded chomping l ls, after))) e
    ∙ ap (λ t. Some (t, text)) (sym (append_assoc prefix l.text (trailing_line_feeds chomping l)))

-- ---- what the value's bytes come to

-- the line's text
pub chars_text : (bs prefix value : List ℕ) (i j : ℕ) → IsUtf8 prefix → value ≡ prefix ++ slice_range bs i j
    → chars value ≡ chars prefix ++ between bs i j
chars_text bs prefix value i j u e = ap chars e ∙ chars-append prefix (slice_range bs i j) u

-- the characters of what is pushed between two lines
pub chars_between : (folded : Bool) (l m : TextLine) (prefix value : List ℕ) → IsUtf8 prefix
    → value ≡ prefix ++ between_lines folded l m → chars value ≡ chars prefix ++ between_lines folded l m
chars_between folded l m prefix value u e =
    ap chars e ∙ chars-append prefix (between_lines folded l m) u
    ∙ ap (λ x. chars prefix ++ x) (chars-IsAscii (between_lines folded l m) (between_ascii folded l m))

-- the characters of what is pushed after the last line
pub chars_after : (chomping : Chomping) (l : TextLine) (n : ℕ) (prefix value : List ℕ) → IsUtf8 prefix
    → line_feeds n ≡ trailing_line_feeds chomping l → value ≡ prefix ++ line_feeds n
    → chars value ≡ chars prefix ++ trailing_line_feeds chomping l
chars_after chomping l n prefix value u c e =
    ap chars e ∙ chars-append prefix (line_feeds n) u ∙ ap (λ x. chars prefix ++ x) (chars_feeds n ∙ c)

-- ---- the lines so far

-- opening is the first text line, and the value began as start; line is the text line that comes next
pub record ArePushedSoFar (q : ℕ) (folded : Bool) (chomping : Chomping) (bs : List ℕ) (opening : Line)
    (start : List ℕ) (line : Line) (value : List ℕ) : Type 0 where
  pub above : opening.next ≤ line.next
  pub placed : IsPlaced q bs line
  pub reads : (l : TextLine) → Describes opening l → l.text ≡ between bs opening.start opening.end
      → (k : TextLine) × Describes line k × (k.text ≡ between bs line.start line.end)
      × (value_from q folded chomping (chars start) l (rest bs opening.next)
      ≡ value_from q folded chomping (chars value) k (rest bs line.next))
  pub none : lines_at q (rest bs line.next) ≡ None → lines_at q (rest bs opening.next) ≡ None

module _ (q : ℕ) (folded : Bool) (chomping : Chomping) (bs : List ℕ) (opening : Line) (start : List ℕ) where
  -- the line's text, what is between, and the next line
  pub pushed_more : (line next_line : Line) (value texted more : List ℕ) → IsUtf8 value → IsUtf8 texted
      → ArePushedSoFar q folded chomping bs opening start line value
      → IsLine q bs line.next next_line → texted ≡ value ++ slice_range bs line.start line.end
      → ((l m : TextLine) → Describes line l → Describes next_line m → more ≡ texted ++ between_lines folded l m)
      → ArePushedSoFar q folded chomping bs opening start next_line more
  pushed_more line next_line value texted more u v h n t b =
      record {
        above = let above = h.above in let empty_after = n.after in let within = n.placed.above in
            let empties_fit = n.placed.empties_fit in omega arith;
        placed = n.placed;
        reads = λ l d s.
            (let k = h.reads l d s in
            let whole : chars more ≡ chars value ++ k.0.text ++ between_lines folded k.0 n.read =
            chars_between folded k.0 n.read texted more v (b k.0 n.read k.1 n.described)
            ∙ ap (λ x. x ++ between_lines folded k.0 n.read)
            (chars_text bs value texted line.start line.end u t ∙ ap (λ x. chars value ++ x) (sym k.2)) in (
              n.read,
              n.described,
              n.spells,
              k.3 ∙ value_step folded chomping (chars value) k.0 n.read q (rest bs line.next) (rest bs next_line.next) n.reads
                  ∙ ap (λ x. value_from q folded chomping x n.read (rest bs next_line.next)) (sym whole),
            ));
        none = λ e. h.none (n.reads ∙ ap (λ (r : Read (List TextLine)). on r (λ ls after. Some (n.read ∷ ls, after))) e);
      }

  -- the last line
  pub pushed_all : (line : Line) (value texted all : List ℕ) (feeds : ℕ) → IsUtf8 value → IsUtf8 texted
      → ArePushedSoFar q folded chomping bs opening start line value
      → lines_at q (rest bs line.next) ≡ Some ([], rest bs line.next) → texted ≡ value ++ slice_range bs line.start line.end
      → ((l : TextLine) → Describes line l → line_feeds feeds ≡ trailing_line_feeds chomping l)
      → all ≡ texted ++ line_feeds feeds → ArePushed q folded chomping bs opening start all line.next
  pushed_all line value texted all feeds u v h n t c e =
      record {
        above = h.above;
        boundary = h.placed.next_boundary;
        reads = λ l d s.
            (let k = h.reads l d s in
            let whole : chars all ≡ chars value ++ k.0.text ++ trailing_line_feeds chomping k.0 =
            chars_after chomping k.0 feeds texted all v (c k.0 k.1) e
            ∙ ap (λ x. x ++ trailing_line_feeds chomping k.0)
            (chars_text bs value texted line.start line.end u t ∙ ap (λ x. chars value ++ x) (sym k.2)) in
            k.3 ∙ value_end q folded chomping (chars value) k.0 (rest bs line.next) n ∙ ap (λ x. Some (x, rest bs line.next)) (sym whole));
      }
