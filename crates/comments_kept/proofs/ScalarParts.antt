-- Scalars and keys, written with comments.
use Rattle.std.proofs.{Common.{◌≡◌, refl, sym, ◌∙◌, ap, ap₂, subst, arith}, lemmas.Bool.{and_from, or_left, or_right, false≢true, lt-leb}}
use Rattle.std.specs.Prelude.{ℕ, zero, suc, ◌+◌, Bool, true, false, not, ◌||◌, nat_le, if◌then◌else◌, List, [], ◌∷◌, ◌++◌, codes}
use Rattle.std.specs.Prelude.{string_bytes, encode_utf8_all}
use Rattle.yaml_writer.specs.{Encoded.encoded_both, ScalarStyles.{literal_style, value_style}}
use Rattle.yaml_writer.specs.declared.scalar_style.ScalarStyle.{ScalarStyle, TheVariants.{Plain, Double, LiteralStrip, LiteralClip}}
use Rattle.{yaml_writer.specs.declared.scalar_style.ScalarStyle.TheVariants.LiteralKeep, yaml_grammar.specs.Texts.spaces}
use Rattle.yaml_grammar.specs.Style.{plain_in_style, literal_in_style, in_double_quotes, literal_mark, feeds_at_end, literal_lines}
use Rattle.{yaml_grammar.specs.Style.{key_text, long_key}, yaml_commented.specs.Trails.{Trail, trail_text, end_text, extras_text}}
use Rattle.yaml_commented.specs.{Commented.{next_trail, later_trails, scalar_with}, TrailsFit.{trail_fits, scalar_trail_fits}}
use Rattle.yaml_commented.specs.TrailsFit.{literal_trail_fits, starts_filled, starts_low}
use Rattle.comments_kept.specs.{declared.weaver.Weaver.Weaver, Weaving.{Woven, Wrote, WroteEnd, WroteLines, WroteFilledLines, WroteLiteral}}
use Rattle.comments_kept.specs.{Weaving.{WovenEnd, WovenLine, WovenScalar, WovenKey, left_marks, coming, WroteBelow}, Places.Mark}
use Rattle.comments_kept.specs.Laid.{Below, freely, below_literal, filled_if, filled_from, trail_at, next, ends_blank}
use Rattle.comments_kept.proofs.{Weaving.{both, said, plain, line, wrote_both, kept, coming_kept}, LineEnds.{trail_woven, written}}
use Rattle.comments_kept.proofs.LineEnds.{written_laid, written_used, written_taken, written_texts, written_fits, written_bare}

-- ---- what a style says of a text

abbrev by_tests : Bool → Bool → ℕ → ScalarStyle
by_tests p l n = if p then Plain else if l then literal_style n else Double

plain_by : (p l : Bool) (n : ℕ) → by_tests p l n ≡ Plain → p ≡ true
plain_by true l n e = refl
plain_by false true zero e = cc
plain_by false true (suc zero) e = cc
plain_by false true (suc (suc n)) e = cc
plain_by false false n e = cc

double_by : (p l : Bool) (n : ℕ) → by_tests p l n ≡ Double → (p ≡ false) × (l ≡ false)
double_by true l n e = cc
double_by false true zero e = cc
double_by false true (suc zero) e = cc
double_by false true (suc (suc n)) e = cc
double_by false false n e = (refl, refl)

strip_by : (p l : Bool) (n : ℕ) → by_tests p l n ≡ LiteralStrip
    → (p ≡ false) × (l ≡ true) × (codes "|-" ≡ literal_mark n) × (nat_le n 1 ≡ true)
strip_by true l n e = cc
strip_by false true zero e = (refl, refl, refl, refl)
strip_by false true (suc zero) e = cc
strip_by false true (suc (suc n)) e = cc
strip_by false false n e = cc

clip_by : (p l : Bool) (n : ℕ) → by_tests p l n ≡ LiteralClip
    → (p ≡ false) × (l ≡ true) × (codes "|" ≡ literal_mark n) × (nat_le n 1 ≡ true)
clip_by true l n e = cc
clip_by false true zero e = cc
clip_by false true (suc zero) e = (refl, refl, refl, refl)
clip_by false true (suc (suc n)) e = cc
clip_by false false n e = cc

keep_by : (p l : Bool) (n : ℕ) → by_tests p l n ≡ LiteralKeep
    → (p ≡ false) × (l ≡ true) × (codes "|+" ≡ literal_mark n) × (nat_le n 1 ≡ false)
keep_by true l n e = cc
keep_by false true zero e = cc
keep_by false true (suc zero) e = cc
keep_by false true (suc (suc n)) e = (refl, refl, refl, lt-leb (suc (suc n)) 1 (omega arith))
keep_by false false n e = cc

module _ (value : List ℕ) where
  -- a plain text
  pub is_plain : value_style value ≡ Plain → plain_in_style value ≡ true
  is_plain e = plain_by (plain_in_style value) (literal_in_style value) (feeds_at_end value) e

  -- a text in double quotes
  pub is_double : value_style value ≡ Double → (plain_in_style value ≡ false) × (literal_in_style value ≡ false)
  is_double e = double_by (plain_in_style value) (literal_in_style value) (feeds_at_end value) e

  -- literals
  pub is_strip : value_style value ≡ LiteralStrip
      → (plain_in_style value ≡ false) × (literal_in_style value ≡ true) × (codes "|-" ≡ literal_mark (feeds_at_end value))
      × (nat_le (feeds_at_end value) 1 ≡ true)
  is_strip e = strip_by (plain_in_style value) (literal_in_style value) (feeds_at_end value) e

  pub is_clip : value_style value ≡ LiteralClip
      → (plain_in_style value ≡ false) × (literal_in_style value ≡ true) × (codes "|" ≡ literal_mark (feeds_at_end value))
      × (nat_le (feeds_at_end value) 1 ≡ true)
  is_clip e = clip_by (plain_in_style value) (literal_in_style value) (feeds_at_end value) e

  pub is_keep : value_style value ≡ LiteralKeep
      → (plain_in_style value ≡ false) × (literal_in_style value ≡ true) × (codes "|+" ≡ literal_mark (feeds_at_end value))
      × (nat_le (feeds_at_end value) 1 ≡ false)
  is_keep e = keep_by (plain_in_style value) (literal_in_style value) (feeds_at_end value) e

-- ---- scalars

text_plain : (p l : Bool) (x y z : List ℕ) → p ≡ true → x ≡ (if p then x else if l then y else z)
text_plain true l x y z e = refl
text_plain false l x y z e = absurd (false≢true e)

text_literal : (p l : Bool) (x y z : List ℕ) → p ≡ false → l ≡ true → y ≡ (if p then x else if l then y else z)
text_literal true l x y z e f = absurd (false≢true (sym e))
text_literal false true x y z e f = refl
text_literal false false x y z e f = absurd (false≢true f)

text_double : (p l : Bool) (x y z : List ℕ) → p ≡ false → l ≡ false → z ≡ (if p then x else if l then y else z)
text_double true l x y z e f = absurd (false≢true (sym e))
text_double false true x y z e f = absurd (false≢true (sym f))
text_double false false x y z e f = refl

no_condition : (p l x : Bool) → p || not l ≡ true → p || not l || x ≡ true
no_condition true l x e = refl
no_condition false false x e = refl
no_condition false true x e = absurd (false≢true e)

one_plain : (p l : Bool) → p ≡ true → p || not l ≡ true
one_plain true l e = refl
one_plain false l e = absurd (false≢true e)

one_double : (p l : Bool) → l ≡ false → p || not l ≡ true
one_double true l e = refl
one_double false false e = refl
one_double false true e = absurd (false≢true (sym e))

-- what may be below a text that is no literal
free_below : (p l : Bool) (b : Below) → p || not l ≡ true → (if p then freely else if l then b else freely) ≡ freely
free_below true l b e = refl
free_below false false b e = refl
free_below false true b e = absurd (false≢true e)

-- what may be below a literal
literal_is_below : (p l : Bool) (b : Below) → p ≡ false → l ≡ true → (if p then freely else if l then b else freely) ≡ b
literal_is_below true l b e f = absurd (false≢true (sym e))
literal_is_below false true b e f = refl
literal_is_below false false b e f = absurd (false≢true f)

module _ (value : List ℕ) (i : ℕ) (a b c : Weaver) where
  -- a text that is no literal, on one line
  flat : (cs : List ℕ) → ((w : Trail) → cs ++ trail_text w ≡ scalar_with (i + 2) value w)
      → plain_in_style value || not (literal_in_style value) ≡ true → WovenLine cs a c → WovenScalar value i a c
  flat cs texts free w = subst
      (λ below. Woven (λ ws. scalar_with (i + 2) value (next_trail ws)) later_trails
      (λ ws. scalar_trail_fits i value (next_trail ws) ≡ true) (below ∷ []) a c)
      (sym (free_below (plain_in_style value) (literal_in_style value) (below_literal i value) free))
      (said (λ ws. cs ++ trail_text (next_trail ws)) (λ ws. scalar_with (i + 2) value (next_trail ws))
      later_trails later_trails (λ ws. trail_fits (next_trail ws) ≡ true) (λ ws. scalar_trail_fits i value (next_trail ws) ≡ true) a c
      (λ ws. texts (next_trail ws)) (λ ws. refl)
      (λ ws h. and_from _ _ h (no_condition (plain_in_style value) (literal_in_style value)
      (literal_trail_fits i value (next_trail ws)) free)) w)

  -- a plain text
  pub plain_woven : plain_in_style value ≡ true → Wrote a value b → WovenEnd b c → WovenScalar value i a c
  plain_woven e w end = flat value
      (λ w. text_plain (plain_in_style value) (literal_in_style value) (value ++ trail_text w)
      (literal_mark (feeds_at_end value) ++ end_text w.behind ++ literal_lines (i + 2) true value ++ extras_text w.lines)
      (in_double_quotes value ++ trail_text w) e)
      (one_plain (plain_in_style value) (literal_in_style value) e) (line value a b c w end)

  -- a text in double quotes
  pub double_woven : plain_in_style value ≡ false → literal_in_style value ≡ false → Wrote a (in_double_quotes value) b → WovenEnd b c
      → WovenScalar value i a c
  double_woven e f w end = flat (in_double_quotes value)
      (λ w. text_double (plain_in_style value) (literal_in_style value) (value ++ trail_text w)
      (literal_mark (feeds_at_end value) ++ end_text w.behind ++ literal_lines (i + 2) true value ++ extras_text w.lines)
      (in_double_quotes value ++ trail_text w) e f)
      (one_double (plain_in_style value) (literal_in_style value) f) (line (in_double_quotes value) a b c w end)

-- what is in the conditions of a literal
literal_meets : (i : ℕ) (value : List ℕ) (w : Trail) → trail_fits w ≡ true → starts_low i w.lines ≡ true
    → nat_le (feeds_at_end value) 1 || starts_filled w.lines ≡ true → scalar_trail_fits i value w ≡ true
literal_meets i value w fits low filled = and_from _ _ fits (or_right _ _ (and_from _ _ filled low))

-- a literal, with the lines behind it
literal_woven : (value : List ℕ) (i : ℕ) (a d e : Weaver) (ms : List Mark) → plain_in_style value ≡ false
    → literal_in_style value ≡ true → WroteLiteral value i a d → (lines : WroteLines i ms d e)
    → ms ≡ filled_if (not (nat_le (feeds_at_end value) 1) || ends_blank (encode_utf8_all value)) d.place (left_marks d)
    → nat_le (feeds_at_end value) 1 || starts_filled lines.lines ≡ true → WovenScalar value i a e
literal_woven value i a d e ms unplain lit literal lines come filled =
    let b : Weaver = literal.b in
    let c : Weaver = literal.c in
    let end : WroteEnd b c = literal.ended in
    let body : Wrote c (literal_lines (i + 2) true value) d = literal.body in
    let header : Wrote a (literal_mark (feeds_at_end value)) b = literal.header in
    let w : Trail = written i ms b c d e end lines in
    let mark : List ℕ = literal_mark (feeds_at_end value) in
    let all : List ℕ = literal_lines (i + 2) true value in
    let same : coming b ≡ coming a = coming_kept a b header.1 header.2 header.3 in
    let free : Below = below_literal i value in
    let laid = written_laid i ms b c d e end lines free.filled come body.1 body.2 body.3 in
    let from : (w ≡ trail_at free (coming a)) × (coming e ≡ next free (coming a)) =
    (laid.0 ∙ ap (trail_at free) same, laid.1 ∙ ap (next free) same) in
    let below = literal_is_below (plain_in_style value) (literal_in_style value) free unplain lit in
    subst (λ below. Woven (λ ws. scalar_with (i + 2) value (next_trail ws)) later_trails
    (λ ws. scalar_trail_fits i value (next_trail ws) ≡ true) (below ∷ []) a e) (sym below)
    (trail_woven (scalar_with (i + 2) value) (λ w. scalar_trail_fits i value w ≡ true) free a e w from
    (written_used i ms b c d e end lines)
    (encoded_both (string_bytes a.text) (string_bytes d.text) (string_bytes e.text) (mark ++ end_text w.behind ++ all) (extras_text w.lines)
    (encoded_both (string_bytes a.text) (string_bytes c.text) (string_bytes d.text) (mark ++ end_text w.behind) all
    (encoded_both (string_bytes a.text) (string_bytes b.text) (string_bytes c.text) mark (end_text w.behind) header.0 end.spells)
    body.0) lines.spells
    ∙ ap (λ cs. string_bytes a.text ++ encode_utf8_all cs)
    (text_literal (plain_in_style value) (literal_in_style value) (value ++ trail_text w)
    (mark ++ end_text w.behind ++ all ++ extras_text w.lines) (in_double_quotes value ++ trail_text w) unplain lit))
    (kept a b header.1 header.2 ∙ written_taken i ms b c d e end lines (sym body.1) (sym body.2))
    (written_texts i ms b c d e end lines)
    (λ fit. literal_meets i value w (written_fits i ms b c d e end lines fit) lines.low filled)
    (written_bare i ms b c d e end lines))

module _ (value : List ℕ) (i : ℕ) (a d e : Weaver) (unplain : plain_in_style value ≡ false) (lit : literal_in_style value ≡ true)
    (literal : WroteLiteral value i a d) where
  -- one that keeps at most one line feed at its end, by its last line
  short_by : (blank : Bool) → ends_blank (encode_utf8_all value) ≡ blank → nat_le (feeds_at_end value) 1 ≡ true → WroteBelow blank i d e
      → WovenScalar value i a e
  short_by true is short lines = literal_woven value i a d e (filled_from d.place (left_marks d)) unplain lit literal lines.wrote
      (ap₂ (λ short blank. filled_if (not short || blank) d.place (left_marks d)) (sym short) (sym is)) (or_left _ _ short)
  short_by false is short lines = literal_woven value i a d e (left_marks d) unplain lit literal lines
      (ap₂ (λ short blank. filled_if (not short || blank) d.place (left_marks d)) (sym short) (sym is)) (or_left _ _ short)

  -- one that keeps at most one line feed at its end
  pub short_literal : nat_le (feeds_at_end value) 1 ≡ true → WroteBelow (ends_blank (encode_utf8_all value)) i d e → WovenScalar value i a e
  short_literal short lines = short_by (ends_blank (encode_utf8_all value)) refl short lines

  -- one that keeps more, with no empty line directly behind it
  pub filled_literal : nat_le (feeds_at_end value) 1 ≡ false → WroteFilledLines i d e → WovenScalar value i a e
  filled_literal long lines = literal_woven value i a d e (filled_from d.place (left_marks d)) unplain lit literal lines.wrote
      (ap (λ short. filled_if (not short || ends_blank (encode_utf8_all value)) d.place (left_marks d)) (sym long))
      (or_right _ _ lines.filled)

-- ---- keys

key_by : (l : Bool) (L S : List Trail → List ℕ) (a b : Weaver) → l ≡ false → Woven S (λ ws. ws) (λ ws. Unit {0}) [] a b
    → Woven (λ ws. if l then L ws else S ws) (λ ws. if l then later_trails ws else ws)
    (λ ws. not l || trail_fits (next_trail ws) ≡ true) (if l then freely ∷ [] else []) a b
key_by true L S a b e w = absurd (false≢true (sym e))
key_by false L S a b e w = said S S (λ ws. ws) (λ ws. ws) (λ ws. Unit {0}) (λ ws. true || trail_fits (next_trail ws) ≡ true) a b
    (λ ws. refl) (λ ws. refl) (λ ws h. refl) w

key_by_long : (l : Bool) (L S : List Trail → List ℕ) (a b : Weaver) → l ≡ true
    → Woven L later_trails (λ ws. trail_fits (next_trail ws) ≡ true) (freely ∷ []) a b
    → Woven (λ ws. if l then L ws else S ws) (λ ws. if l then later_trails ws else ws)
    (λ ws. not l || trail_fits (next_trail ws) ≡ true) (if l then freely ∷ [] else []) a b
key_by_long true L S a b e w = w
key_by_long false L S a b e w = absurd (false≢true e)

-- the texts of a key
abbrev long_with : List ℕ → ℕ → List Trail → List ℕ
long_with key i ws = codes "? " ++ key_text key ++ trail_text (next_trail ws) ++ spaces i ++ codes ":"

abbrev short_with : List ℕ → List Trail → List ℕ
short_with key ws = key_text key ++ codes ":"

-- a key
pub key_woven : (key : List ℕ) (i : ℕ) (a b c : Weaver) → long_key key ≡ false → Wrote a (key_text key) b → Wrote b (codes ":") c
    → WovenKey key i a c
key_woven key i a b c short w colon = key_by (long_key key) (long_with key i) (short_with key) a c short
    (plain (key_text key ++ codes ":") a c (wrote_both a b c (key_text key) (codes ":") w colon))

-- a long key
pub long_key_woven : (key : List ℕ) (i : ℕ) (a b c d e f : Weaver) → long_key key ≡ true → Wrote a (codes "? ") b
    → Wrote b (key_text key) c → WovenEnd c d → Wrote d (spaces i) e → Wrote e (codes ":") f → WovenKey key i a f
long_key_woven key i a b c d e f long ask w end indent colon =
    let all : List ℕ = codes "? " ++ key_text key in
    let none : List Trail → Type 0 = λ ws. Unit {0} in
    let fits : List Trail → Type 0 = λ ws. trail_fits (next_trail ws) ≡ true in
    let first = line all a c d (wrote_both a b c (codes "? ") (key_text key) ask w) end in
    let spaced = both (λ ws. all ++ trail_text (next_trail ws)) (λ ws. spaces i) later_trails (λ ws. ws) fits none a d e first
    (plain (spaces i) d e indent) in
    let ended = both (λ ws. all ++ trail_text (next_trail ws) ++ spaces i) (λ ws. codes ":") later_trails (λ ws. ws)
    (λ ws. fits ws × none ws) none a e f spaced (plain (codes ":") e f colon) in
    key_by_long (long_key key) (long_with key i) (short_with key) a f long
    (said (long_with key i) (long_with key i) later_trails later_trails (λ ws. (fits ws × none ws) × none ws) fits a f
    (λ ws. refl) (λ ws. refl) (λ ws h. h.0.0) ended)
