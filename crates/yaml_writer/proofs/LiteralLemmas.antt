-- A literal's lines, cut at its line feeds.
use Rattle.std.proofs.Common.{◌≡◌, ℕ, ◌+◌, ◌<◌, Bool, true, false, ◌==◌, ◌||◌, Bor, Option, Some, None, List, [], ◌∷◌, ◌++◌, length}
use Rattle.std.proofs.Common.{length-append, get_or, take, drop, codes, IsUtf8, refl, sym, ap, ◌∙◌, subst, append_assoc, arith}
use Rattle.yaml_writer.proofs.Prelude.{take-append_seam, drop-append-add, get_or-append_seam, IsUtf8-take, IsUtf8-drop}
use Rattle.yaml_writer.proofs.Prelude.{IsCharBoundary-before_ascii, IsCharBoundary-after_ascii, chars-append, eq-eqb, list_any, MatchOption}
use Rattle.yaml_writer.proofs.Prelude.{is_some, chars, is_in, line_feed, list_any-is_in, spaces, literal_lines}
use Rattle.yaml_writer.specs.Lines.{IsOneLine, line_text}

within_line : (j : ℕ) (xs ys : List ℕ) → IsOneLine xs
    → literal_lines j false (xs ++ line_feed ∷ ys) ≡ xs ++ line_feed ∷ literal_lines j true ys
within_line j [] ys one = refl
within_line j (x ∷ xs) ys one = rw one.0 (ap (λ cs. x ∷ cs) (within_line j xs ys one.1))

within_last : (j : ℕ) (xs : List ℕ) → IsOneLine xs → literal_lines j false xs ≡ xs ++ codes "\n"
within_last j [] one = refl
within_last j (x ∷ xs) one = rw one.0 (ap (λ cs. x ∷ cs) (within_last j xs one.1))

-- a line and what comes after it
pub literal_line : (j : ℕ) (xs ys : List ℕ) → IsOneLine xs
    → line_text j xs ++ literal_lines j true ys ≡ literal_lines j true (xs ++ line_feed ∷ ys)
literal_line j [] ys one = refl
literal_line j (x ∷ xs) ys one =
    rw one.0 (simp append_assoc (ap (λ cs. spaces j ++ x ∷ cs) (sym (within_line j xs ys one.1))))

-- the last line, which no line feed ends
pub literal_last : (j : ℕ) (xs : List ℕ) → IsOneLine xs → (length xs ≡ 0 → ⊥) → line_text j xs ≡ literal_lines j true xs
literal_last j [] one some = absurd (some refl)
literal_last j (x ∷ xs) one some =
    rw one.0 (simp append_assoc (ap (λ cs. spaces j ++ x ∷ cs) (sym (within_last j xs one.1))))

-- ---- the same of bytes

-- what comes before a line feed in UTF-8 is UTF-8
pub line_IsUtf8 : (bs prefix after : List ℕ) → IsUtf8 bs → bs ≡ prefix ++ line_feed ∷ after → IsUtf8 prefix
line_IsUtf8 bs prefix after utf8 e =
    let within : length prefix < length bs = omega (arith, ap length e, length-append prefix (line_feed ∷ after)) in
    let feed : get_or bs (length prefix) 0 ≡ line_feed = rw e (get_or-append_seam prefix line_feed after 0) in
    subst IsUtf8 (ap (take (length prefix)) e ∙ take-append_seam prefix (line_feed ∷ after))
    (IsUtf8-take bs (length prefix) utf8 (IsCharBoundary-before_ascii bs (length prefix) within (omega (arith, feed))))

-- a line feed is a character of its own
pub chars-feed : (bs : List ℕ) → chars (line_feed ∷ bs) ≡ line_feed ∷ chars bs
unfolding chars
chars-feed [] = refl
chars-feed (b ∷ bs) = refl

-- the characters of a text are those before a line feed, the line feed, and those after it
pub chars-lines : (bs prefix after : List ℕ) → IsUtf8 bs → bs ≡ prefix ++ line_feed ∷ after
    → chars bs ≡ chars prefix ++ line_feed ∷ chars after
chars-lines bs prefix after utf8 e =
    ap chars e ∙ chars-append prefix (line_feed ∷ after) (line_IsUtf8 bs prefix after utf8 e)
    ∙ ap (λ cs. chars prefix ++ cs) (chars-feed after)

-- a line that holds something is written after its indentation
pub line_filled : (j : ℕ) (cs : List ℕ) → (length cs ≡ 0 → ⊥) → spaces j ++ cs ++ codes "\n" ≡ line_text j cs
line_filled j [] some = absurd (some refl)
line_filled j (c ∷ cs) some = refl

-- what comes after a line feed in UTF-8 is UTF-8
pub after_IsUtf8 : (bs prefix after : List ℕ) → IsUtf8 bs → bs ≡ prefix ++ line_feed ∷ after → IsUtf8 after
after_IsUtf8 bs prefix after utf8 e =
    let within : length prefix < length bs = omega (arith, ap length e, length-append prefix (line_feed ∷ after)) in
    let feed : get_or bs (length prefix) 0 ≡ line_feed = rw e (get_or-append_seam prefix line_feed after 0) in
    let cut = IsUtf8-drop bs (length prefix + 1) utf8 (IsCharBoundary-after_ascii bs (length prefix) utf8 within (omega (arith, feed))) in
    subst IsUtf8 (ap (drop (length prefix + 1)) e ∙ drop-append-add prefix (line_feed ∷ after) 1) cut

-- ---- whether there is a line feed

or_right : (a : Bool) → (a || true) ≡ true
or_right true = refl
or_right false = refl

in_after : (c : ℕ) (xs ys : List ℕ) → is_in c (xs ++ c ∷ ys) ≡ true
in_after c [] ys = rw (eq-eqb c c refl) refl
in_after c (x ∷ xs) ys = ap (λ b. (c == x) || b) (in_after c xs ys) ∙ or_right (c == x)

in_none : (cs : List ℕ) → IsOneLine cs → is_in line_feed cs ≡ false
in_none cs one = sym (list_any-is_in line_feed cs) ∙ none_passes cs one
  where
    none_passes : (xs : List ℕ) → IsOneLine xs → list_any (λ d. d == line_feed) xs ≡ false
    none_passes [] n = refl
    none_passes (x ∷ xs) n = rw n.0 (none_passes xs n.1)

-- a cut at the first line feed is found exactly where there is one
pub feed_found : (bs : List ℕ) (r : Option (Bor (List ℕ) × Bor (List ℕ))) → IsUtf8 bs
    → MatchOption r (IsOneLine (chars bs)) (λ cut. (bs ≡ cut.0.now ++ line_feed ∷ cut.1.now) × IsOneLine (chars cut.0.now))
    → is_some r ≡ is_in line_feed (chars bs)
feed_found bs None utf8 one = sym (in_none (chars bs) one)
feed_found bs (Some x) utf8 cut =
    sym (ap (is_in line_feed) (chars-lines bs x.0.now x.1.now utf8 cut.0)
    ∙ in_after line_feed (chars x.0.now) (chars x.1.now))
