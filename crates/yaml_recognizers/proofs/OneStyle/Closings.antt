-- Closing lines in bytes that are joined, cut off, or have zeros after them.
use Rattle.std.proofs.Common.{◌≡◌, refl, sym, ◌∙◌, ap, inl, inr, ◌⊎◌, arith, ◌≤◌, append_assoc, length-append}
use Rattle.std.specs.Prelude.{ℕ, zero, suc, ◌+◌, Bool, true, false, not, ◌&&◌, ◌||◌, ◌==◌, List, [], ◌∷◌, ◌++◌, length, replicate, codes}
use Rattle.yaml_recognizers.proofs.Prelude.{false_from_ne_true, and_parts, and_from, or_cases, or_left, or_right, not-true, eqb-true}
use Rattle.yaml_recognizers.proofs.Prelude.{false≢true, list_all, begins, ends_line, ClosesAt}

-- a line starts after the bytes, where bol says whether one starts at their start
abbrev pub ends_from : Bool → List ℕ → Bool
ends_from bol [] = bol
ends_from bol (b ∷ bs) = ends_from (b == 10) bs

-- a closing line that begins from here on ends at the place, counted from here
abbrev pub closes : Bool → List ℕ → ℕ → Bool
closes bol [] place = false
closes bol (b ∷ bs) zero = false
closes bol (b ∷ bs) (suc place) = (bol && begins (codes "...\n") (b ∷ bs) && (place == 3)) || closes (b == 10) bs place

-- after one byte or more, the last one says whether a line starts
ends_last : (bol : Bool) (b : ℕ) (bs : List ℕ) → ends_from bol (b ∷ bs) ≡ ends_line (b ∷ bs)
ends_last bol b [] = refl
ends_last bol b (c ∷ cs) = ends_last (b == 10) c cs

-- the two tests for the start of a line are one
pub ends_same : (bytes : List ℕ) → ends_from true bytes ≡ ends_line bytes
ends_same [] = refl
ends_same (b ∷ bs) = ends_last true b bs

-- ---- the test says where a closing line ends

-- dots and a line feed close, where a line starts before them
closes_there : (bol : Bool) (before after : List ℕ) → ends_from bol before ≡ true
    → closes bol (before ++ (codes "...\n" ++ after)) (length before + 4) ≡ true
closes_there bol [] after h = rw h
closes_there bol (b ∷ bs) after h =
    let further : suc (length bs) + 4 ≡ suc (length bs + 4) = omega arith in
    rw further (or_right _ _ (closes_there (b == 10) bs after h))

-- what begins with a text is that text and a rest
begins_split : (ws text : List ℕ) → begins ws text ≡ true → (rest : List ℕ) × (text ≡ ws ++ rest)
begins_split [] text h = (text, refl)
begins_split (w ∷ ws) [] h = absurd (false≢true h)
begins_split (w ∷ ws) (c ∷ cs) h =
    let p : (c == w ≡ true) × (begins ws cs ≡ true) = and_parts _ _ h in
    let more : (rest : List ℕ) × (cs ≡ ws ++ rest) = begins_split ws cs p.1 in
    (more.0, cc (eqb-true c w p.0, more.1))

-- a closing line, found from a place where a line starts or not
pub record Found (bol : Bool) (bytes : List ℕ) (place : ℕ) : Type 0 where
  pub before : List ℕ
  pub after : List ℕ
  pub is : bytes ≡ before ++ (codes "...\n" ++ after)
  pub line : ends_from bol before ≡ true
  pub ends : place ≡ length before + 4

-- where the test says so, a closing line ends
closes_found : (bol : Bool) (bytes : List ℕ) (place : ℕ) → closes bol bytes place ≡ true → Found bol bytes place
closes_found bol [] place h = absurd (false≢true h)
closes_found bol (b ∷ bs) zero h = absurd (false≢true h)
closes_found bol (b ∷ bs) (suc place) h = elim (or_cases _ _ h) [
  | inl a ↦ (let p : (bol && begins (codes "...\n") (b ∷ bs) ≡ true) × (place == 3 ≡ true) = and_parts _ _ a in
      let q : (bol ≡ true) × (begins (codes "...\n") (b ∷ bs) ≡ true) = and_parts _ _ p.0 in
      let s : (rest : List ℕ) × (b ∷ bs ≡ codes "...\n" ++ rest) = begins_split (codes "...\n") (b ∷ bs) q.1 in
      record { before = []; after = s.0; is = s.1; line = q.0; ends = ap suc (eqb-true place 3 p.1) })
  | inr a ↦ (let f : Found (b == 10) bs place = closes_found (b == 10) bs place a in
      record { before = b ∷ f.before; after = f.after; is = ap (λ t. b ∷ t) f.is; line = f.line; ends = ap suc f.ends ∙ omega arith })
]

-- a closing passes the test
pub closes_from : (bytes : List ℕ) (place : ℕ) → ClosesAt bytes place → closes true bytes place ≡ true
closes_from bytes place c = rw (c.is, c.ends) (closes_there true c.before c.after (ends_same c.before ∙ c.line))

-- what passes the test is a closing
pub closes_at : (bytes : List ℕ) (place : ℕ) → closes true bytes place ≡ true → ClosesAt bytes place
closes_at bytes place h =
    let f : Found true bytes place = closes_found true bytes place h in
    record { before = f.before; after = f.after; is = f.is; line = sym (ends_same f.before) ∙ f.line; ends = f.ends }

-- ---- after bytes in which no line begins with a dot

-- no line starts with a dot
abbrev pub dotless : Bool → List ℕ → Bool
dotless bol [] = true
dotless bol (b ∷ bs) = not (bol && (b == 46)) && dotless (b == 10) bs

-- where no dot starts a line, no closing line does
no_dots : (bol : Bool) (b : ℕ) (bs : List ℕ) (last : Bool) → not (bol && (b == 46)) ≡ true
    → bol && begins (codes "...\n") (b ∷ bs) && last ≡ false
no_dots true b bs last h = let e : b == 46 ≡ false = not-true _ h in rw e
no_dots false b bs last h = refl

-- bytes of which no line starts with a dot don't close, and what comes after them closes as it does alone
closes_past : (bol : Bool) (prefix after : List ℕ) (place : ℕ) → dotless bol prefix ≡ true
    → closes bol (prefix ++ after) (length prefix + place) ≡ closes (ends_from bol prefix) after place
closes_past bol [] after place h = ap (closes bol after) (omega arith)
closes_past bol (b ∷ bs) after place h =
    let p : (not (bol && (b == 46)) ≡ true) × (dotless (b == 10) bs ≡ true) = and_parts _ _ h in
    let further : suc (length bs) + place ≡ suc (length bs + place) = omega arith in
    rw (further, no_dots bol b (bs ++ after) ((length bs + place) == 3) p.0) (closes_past (b == 10) bs after place p.1)

-- a closing line ends after them
closes_after : (bol : Bool) (prefix after : List ℕ) (place : ℕ) → dotless bol prefix ≡ true → closes bol (prefix ++ after) place ≡ true
    → (q : ℕ) × (place ≡ length prefix + q) × (closes (ends_from bol prefix) after q ≡ true)
closes_after bol [] after place h c = (place, omega arith, c)
closes_after bol (b ∷ bs) after zero h c = absurd (false≢true c)
closes_after bol (b ∷ bs) after (suc place) h c =
    let p : (not (bol && (b == 46)) ≡ true) × (dotless (b == 10) bs ≡ true) = and_parts _ _ h in
    let d : closes (b == 10) (bs ++ after) place ≡ true = (rw (no_dots bol b (bs ++ after) (place == 3) p.0) at c) in
    let more : (q : ℕ) × (place ≡ length bs + q) × (closes (ends_from (b == 10) bs) after q ≡ true) =
    closes_after (b == 10) bs after place p.1 d in
    (more.0, omega (arith, more.1), more.2)

-- ---- a closing line and what comes after it

-- after a closing line the next closing is one of what comes after it
line_closes : (after : List ℕ) (place : ℕ) → closes true (codes "...\n" ++ after) place ≡ true
    → (place ≡ 4) ⊎ ((q : ℕ) × (place ≡ 4 + q) × (closes true after q ≡ true))
line_closes after zero h = absurd (false≢true h)
line_closes after (suc zero) h = absurd (false≢true h)
line_closes after (suc (suc zero)) h = absurd (false≢true h)
line_closes after (suc (suc (suc zero))) h = absurd (false≢true h)
line_closes after (suc (suc (suc (suc q)))) h = elim (or_cases (suc (suc (suc q)) == 3) (closes true after q) h) [
  | inl e ↦ inl (ap suc (eqb-true _ 3 e))
  | inr c ↦ inr (q, omega arith, c)
]

-- and each closing of that is one of the whole
line_closes_more : (after : List ℕ) (q : ℕ) → closes true after q ≡ true → closes true (codes "...\n" ++ after) (4 + q) ≡ true
line_closes_more after q h = let four : 4 + q ≡ suc (suc (suc (suc q))) = omega arith in rw four (or_right _ _ h)

-- ---- a piece, which ends in its only closing line

-- the bytes end in a closing line and have no other
pub record Piece (bytes : List ℕ) : Type 0 where
  pub body : List ℕ
  pub is : bytes ≡ body ++ codes "...\n"
  pub dotless : dotless true body ≡ true
  pub line : ends_from true body ≡ true

-- a piece is its body and a closing line
regrouped : (piece after : List ℕ) (p : Piece piece) → piece ++ after ≡ p.body ++ (codes "...\n" ++ after)
regrouped piece after p = ap (λ t. t ++ after) p.is ∙ append_assoc p.body (codes "...\n") after

-- it closes at its end, and where what comes after it does
pub piece_closes : (piece after : List ℕ) (place : ℕ) → Piece piece → closes true (piece ++ after) place ≡ true
    → (place ≡ length piece) ⊎ ((q : ℕ) × (place ≡ length piece + q) × (closes true after q ≡ true))
piece_closes piece after place p h =
    let long : length piece ≡ length p.body + 4 = ap length p.is ∙ length-append p.body (codes "...\n") in
    let at : closes true (p.body ++ (codes "...\n" ++ after)) place ≡ true =
    ap (λ t. closes true t place) (sym (regrouped piece after p)) ∙ h in
    let more : (q : ℕ) × (place ≡ length p.body + q)
    × (closes (ends_from true p.body) (codes "...\n" ++ after) q ≡ true) =
    closes_after true p.body (codes "...\n" ++ after) place p.dotless at in
    elim (line_closes after more.0 (ap (λ b. closes b (codes "...\n" ++ after) more.0) (sym p.line) ∙ more.2)) [
      | inl e ↦ inl (omega (arith, long, more.1, e))
      | inr r ↦ inr (r.0, omega (arith, long, more.1, r.1), r.2)
    ]

-- a piece closes at its end, whatever comes after it
pub piece_closes_end : (piece after : List ℕ) → Piece piece → closes true (piece ++ after) (length piece) ≡ true
piece_closes_end piece after p =
    let long : length piece ≡ length p.body + 4 = ap length p.is ∙ length-append p.body (codes "...\n") in
    rw (regrouped piece after p, long) (closes_past true p.body (codes "...\n" ++ after) 4 p.dotless ∙ rw p.line)

-- what comes after a piece closes where it does alone
pub piece_closes_more : (piece after : List ℕ) (q : ℕ) → Piece piece → closes true after q ≡ true
    → closes true (piece ++ after) (length piece + q) ≡ true
piece_closes_more piece after q p h =
    let long : length piece + q ≡ length p.body + (4 + q) =
    (let l : length piece ≡ length p.body + 4 = ap length p.is ∙ length-append p.body (codes "...\n") in omega (arith, l)) in
    rw (long, regrouped piece after p) (closes_past true p.body (codes "...\n" ++ after) (4 + q) p.dotless
    ∙ rw p.line (line_closes_more after q h))

-- ---- bytes that are cut off

-- zeros hold no part of a closing line
begins_kept : (ws prefix tail : List ℕ) (padding : ℕ) → list_all (λ w. not (0 == w)) ws ≡ true
    → begins ws (prefix ++ replicate padding 0) ≡ true
    → (length ws ≤ length prefix) × (begins ws (prefix ++ tail) ≡ true)
begins_kept [] prefix tail padding n h = (omega arith, refl)
begins_kept (w ∷ ws) [] tail zero n h = absurd (false≢true h)
begins_kept (w ∷ ws) [] tail (suc padding) n h =
    let p : (0 == w ≡ true) × (begins ws (replicate padding 0) ≡ true) = and_parts _ _ h in
    absurd (false≢true (sym (not-true _ (and_parts _ _ n).0) ∙ p.0))
begins_kept (w ∷ ws) (b ∷ bs) tail padding n h =
    let p : (b == w ≡ true) × (begins ws (bs ++ replicate padding 0) ≡ true) = and_parts _ _ h in
    let others : (not (0 == w) ≡ true) × (list_all (λ v. not (0 == v)) ws ≡ true) = and_parts _ _ n in
    let more : (length ws ≤ length bs) × (begins ws (bs ++ tail) ≡ true) = begins_kept ws bs tail padding others.1 p.1 in
    (omega (arith, more.0), and_from _ _ p.0 more.1)

-- zeros close nothing
pub padding_closed : (bol : Bool) (padding place : ℕ) → closes bol (replicate padding 0) place ≡ false
padding_closed bol zero place = refl
padding_closed bol (suc padding) zero = refl
padding_closed true (suc padding) (suc place) = padding_closed false padding place
padding_closed false (suc padding) (suc place) = padding_closed false padding place

-- where zeros come after bytes, a closing line ends within the bytes, and does so whatever is there
pub closes_before_padding : (bol : Bool) (prefix tail : List ℕ) (padding place : ℕ)
    → closes bol (prefix ++ replicate padding 0) place ≡ true
    → (place ≤ length prefix) × (closes bol (prefix ++ tail) place ≡ true)
closes_before_padding bol [] tail padding place h = absurd (false≢true (sym (padding_closed bol padding place) ∙ h))
closes_before_padding bol (b ∷ bs) tail padding zero h = absurd (false≢true h)
closes_before_padding bol (b ∷ bs) tail padding (suc place) h = elim (or_cases _ _ h) [
  | inl a ↦ (let p : (bol && begins (codes "...\n") (b ∷ (bs ++ replicate padding 0)) ≡ true) × (place == 3 ≡ true) = and_parts _ _ a in
      let q : (bol ≡ true) × (begins (codes "...\n") (b ∷ (bs ++ replicate padding 0)) ≡ true) = and_parts _ _ p.0 in
      let k : (4 ≤ suc (length bs)) × (begins (codes "...\n") (b ∷ (bs ++ tail)) ≡ true) =
      begins_kept (codes "...\n") (b ∷ bs) tail padding refl q.1 in
      let three : place ≡ 3 = eqb-true place 3 p.1 in
      (omega (arith, three, k.0), or_left _ _ (and_from _ _ (and_from _ _ q.0 k.1) p.1)))
  | inr a ↦ (let more : (place ≤ length bs) × (closes (b == 10) (bs ++ tail) place ≡ true) =
      closes_before_padding (b == 10) bs tail padding place a in
      (omega (arith, more.0), or_right _ _ more.1))
]

-- whether a text begins with a word is decided within the first bytes
begins_within : (ws prefix tail other : List ℕ) → length ws ≤ length prefix → begins ws (prefix ++ tail) ≡ true
    → begins ws (prefix ++ other) ≡ true
begins_within [] prefix tail other l h = refl
begins_within (w ∷ ws) [] tail other l h = absurd (omega (arith, l))
begins_within (w ∷ ws) (b ∷ bs) tail other l h =
    let p : (b == w ≡ true) × (begins ws (bs ++ tail) ≡ true) = and_parts _ _ h in
    and_from _ _ p.0 (begins_within ws bs tail other (omega (arith, l)) p.1)

-- a closing line that ends within bytes does so whatever comes after them
pub closes_within : (bol : Bool) (prefix tail other : List ℕ) (place : ℕ) → place ≤ length prefix
    → closes bol (prefix ++ tail) place ≡ true → closes bol (prefix ++ other) place ≡ true
closes_within bol [] [] other zero l h = absurd (false≢true h)
closes_within bol [] (t ∷ ts) other zero l h = absurd (false≢true h)
closes_within bol [] tail other (suc place) l h = absurd (omega (arith, l))
closes_within bol (b ∷ bs) tail other zero l h = absurd (false≢true h)
closes_within bol (b ∷ bs) tail other (suc place) l h = elim (or_cases _ _ h) [
  | inl a ↦ (let p : (bol && begins (codes "...\n") (b ∷ (bs ++ tail)) ≡ true) × (place == 3 ≡ true) = and_parts _ _ a in
      let q : (bol ≡ true) × (begins (codes "...\n") (b ∷ (bs ++ tail)) ≡ true) = and_parts _ _ p.0 in
      let three : place ≡ 3 = eqb-true place 3 p.1 in
      or_left _ _ (and_from _ _ (and_from _ _ q.0 (begins_within (codes "...\n") (b ∷ bs) tail other (omega (arith, l, three)) q.1)) p.1))
  | inr a ↦ or_right _ _ (closes_within (b == 10) bs tail other place (omega (arith, l)) a)
]

-- ---- from the start of a line on

-- a dot is no line feed
no_feed_dot : (b : ℕ) → b == 46 ≡ true → b == 10 ≡ true → ⊥
no_feed_dot b d f = let dot : b ≡ 46 = eqb-true b 46 d in let feed : b ≡ 10 = eqb-true b 10 f in omega (arith, dot, feed)

-- no line starts within a closing line
unbroken_dots : (b : ℕ) (bs rest : List ℕ) (q : ℕ) → 1 ≤ q → length bs + q ≡ 3
    → begins (codes "...\n") (b ∷ (bs ++ rest)) ≡ true → ends_from (b == 10) bs ≡ true → ⊥
unbroken_dots b [] rest q l e h k = no_feed_dot b (and_parts _ _ h).0 k
unbroken_dots b (c ∷ []) rest q l e h k = no_feed_dot c (and_parts _ _ (and_parts _ _ h).1).0 k
unbroken_dots b (c ∷ d ∷ []) rest q l e h k = no_feed_dot d (and_parts _ _ (and_parts _ _ (and_parts _ _ h).1).1).0 k
unbroken_dots b (c ∷ d ∷ f ∷ bs) rest q l e h k = omega (arith, l, e)

-- after the start of a line the closings are those of what is there
pub closes_from_line : (bol : Bool) (prefix rest : List ℕ) (q : ℕ) → ends_from bol prefix ≡ true → 1 ≤ q
    → closes bol (prefix ++ rest) (length prefix + q) ≡ closes true rest q
closes_from_line bol [] rest q h l = ap (λ b. closes b rest (0 + q)) h ∙ ap (closes true rest) (omega arith)
closes_from_line bol (b ∷ bs) rest q h l =
    let further : suc (length bs) + q ≡ suc (length bs + q) = omega arith in
    let none : bol && begins (codes "...\n") (b ∷ (bs ++ rest)) && ((length bs + q) == 3) ≡ false =
    false_from_ne_true _ (λ a. (let p : (bol && begins (codes "...\n") (b ∷ (bs ++ rest)) ≡ true)
    × ((length bs + q) == 3 ≡ true) = and_parts _ _ a in
    unbroken_dots b bs rest q l (eqb-true (length bs + q) 3 p.1) (and_parts _ _ p.0).1 h)) in
    rw (further, none) (closes_from_line (b == 10) bs rest q h l)

-- a closing line has four bytes, and ends within the bytes
pub closes_range : (bytes : List ℕ) (place : ℕ) → ClosesAt bytes place → (4 ≤ place) × (place ≤ length bytes)
closes_range bytes place c =
    let long : length bytes ≡ length c.before + length (codes "...\n" ++ c.after) = ap length c.is
    ∙ length-append c.before (codes "...\n" ++ c.after) in
    let four : length (codes "...\n" ++ c.after) ≡ 4 + length c.after = length-append (codes "...\n") c.after in
    let ends : place ≡ length c.before + 4 = c.ends in
    (omega (arith, ends), omega (arith, ends, long, four))
