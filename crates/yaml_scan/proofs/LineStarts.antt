-- Whether a line starts at a place, by what comes before it.
use Rattle.std.proofs.Common.{◌≡◌, ℕ, ◌+◌, ◌-◌, ◌<◌, ◌≤◌, Bool, true, false, List, [], ◌∷◌, ◌++◌, refl, ap, sym, ◌∙◌, arith, inl, inr}
use Rattle.std.{proofs.Common.{get_or, append_assoc, slice_range}, specs.Prelude.{◌==◌, ◌↔◌, IsTrue}}
use Rattle.yaml_scan.proofs.Prelude.{IsUtf8, IsCharBoundary, chars, and_parts, cases_Bool, eqb-true, false≢true, nat_tests}
use Rattle.yaml_scan.proofs.Prelude.{append_cancel_right, chars-encodes, IsCharBoundary-start, line_break, rest, between, between-append}
use Rattle.yaml_scan.proofs.Prelude.{between-nil, encodes-between, rest-between, blind-line_break, last_char, test-last_char, line_starts}
use Rattle.yaml_scan.proofs.Prelude.{without_mark, Break, break_text, lf, cr, cr_lf, list_all, is_empty, starts_line}
use lib.Utf8.{encode, encodes}
use Rattle.{yaml_recognizers.proofs.Basics.LineStarts.starts_joined, yaml_scan.specs.ScanPlaces.byte_order_mark_bytes}
use Rattle.yaml_scan.proofs.ByteSigns.{IsSign}

-- ---- by the last character

starts_last : (bol : Bool) (xs : List ℕ) (x : ℕ) → starts_line bol (xs ++ x ∷ []) ≡ line_break x
starts_last bol [] x = refl
starts_last bol (y ∷ ys) x = starts_last (line_break y) ys x

mark_last : (xs : List ℕ) (x : ℕ) → (x == 0xfeff) ≡ false → starts_line true (without_mark (xs ++ x ∷ [])) ≡ line_break x
mark_last [] x h = rw h refl
mark_last (y ∷ ys) x h = elim (cases_Bool (y == 0xfeff)) [
  | inl e ↦ rw e (starts_last true ys x)
  | inr e ↦ rw e (starts_last (line_break y) ys x)
]

no_break_mark : (x : ℕ) → (x == 0xfeff) ≡ true → line_break x ≡ false
no_break_mark x h = grind (arith, nat_tests)

mark_alone : (xs : List ℕ) (x : ℕ) → (x == 0xfeff) ≡ true → starts_line true (without_mark (xs ++ x ∷ [])) ≡ is_empty xs
mark_alone [] x h = rw h refl
mark_alone (y ∷ ys) x h = elim (cases_Bool (y == 0xfeff)) [
  | inl e ↦ rw e (starts_last true ys x ∙ no_break_mark x h)
  | inr e ↦ rw e (starts_last (line_break y) ys x ∙ no_break_mark x h)
]

whole_prefix : (bs : List ℕ) (i j : ℕ) (prefix : List ℕ) (x : ℕ) → IsUtf8 bs → i ≤ j → IsCharBoundary bs i
    → IsCharBoundary bs j → between bs i j ≡ prefix ++ x ∷ []
    → between bs 0 j ≡ (between bs 0 i ++ prefix) ++ x ∷ []
whole_prefix bs i j prefix x u l b d e =
    between-append bs 0 i j u (omega arith) l (IsCharBoundary-start bs u) b d ∙ ap (λ t. between bs 0 i ++ t) e
    ∙ sym (append_assoc (between bs 0 i) prefix (x ∷ []))

-- A character comes before the place: whether a line starts there is whether it is a break, unless
-- it is a byte order mark.
pub starts_after : (bs : List ℕ) (i j : ℕ) (prefix : List ℕ) (x : ℕ) → IsUtf8 bs → i ≤ j → IsCharBoundary bs i
    → IsCharBoundary bs j → between bs i j ≡ prefix ++ x ∷ []
    → (x == 0xfeff) ≡ false → line_starts bs j ≡ line_break x
starts_after bs i j prefix x u l b d e h =
    ap (λ t. starts_line true (without_mark t)) (whole_prefix bs i j prefix x u l b d e) ∙ mark_last (between bs 0 i ++ prefix) x h

-- no line starts after a sign
pub starts_after_sign : (bs : List ℕ) (at x : ℕ) → IsUtf8 bs → IsCharBoundary bs at → IsSign bs at x
    → (x == 0xfeff) ≡ false → line_starts bs (at + 1) ≡ line_break x
starts_after_sign bs at x u b s h =
    let one : between bs at (at + 1) ≡ x ∷ [] =
    append_cancel_right (between bs at (at + 1)) (x ∷ []) (rest bs (at + 1))
    (sym (rest-between bs at (at + 1) u (omega arith) b s.boundary) ∙ s.splits) in
    starts_after bs at (at + 1) [] x u (omega arith) b s.boundary one h

-- ---- by a run

last_of : (test : ℕ → Bool) (x : ℕ) (xs : List ℕ) → list_all test (x ∷ xs) ≡ true
    → (prefix : List ℕ) × (y : ℕ) × (x ∷ xs ≡ prefix ++ y ∷ []) × (test y ≡ true)
last_of test x [] h = ([], x, refl, (and_parts (test x) true h).0)
last_of test x (z ∷ zs) h =
    let later = last_of test z zs (and_parts (test x) (list_all test (z ∷ zs)) h).1 in
    (x ∷ later.0, later.1, ap (λ t. x ∷ t) later.2, later.3)

-- ---- on from a place

joined : (xs ys : List ℕ) → starts_line true (without_mark xs) ≡ false → starts_line true (without_mark (xs ++ ys)) ≡ starts_line false ys
joined [] ys h = absurd (false≢true (sym h))
joined (x ∷ xs) ys h = elim (cases_Bool (x == 0xfeff)) [
  | inl e ↦ (let k : starts_line true xs ≡ false = rw e at h in rw e (starts_joined true xs ys ∙ ap (λ b. starts_line b ys) k))
  | inr e ↦ (let k : starts_line (line_break x) xs ≡ false = rw e at h in
      rw e (starts_joined (line_break x) xs ys ∙ ap (λ b. starts_line b ys) k))
]

-- No line starts at the first place: whether one starts at the second is whether one starts after
-- what is between them.
pub starts_on : (bs : List ℕ) (i j : ℕ) → IsUtf8 bs → i ≤ j → IsCharBoundary bs i → IsCharBoundary bs j
    → line_starts bs i ≡ false → starts_line false (between bs i j) ≡ line_starts bs j
starts_on bs i j u l b d h =
    sym (ap (λ t. starts_line true (without_mark t))
    (between-append bs 0 i j u (omega arith) l (IsCharBoundary-start bs u) b d) ∙ joined (between bs 0 i) (between bs i j) h)

-- ---- after a break

-- a line starts after a break
pub break_ends : (xs : List ℕ) (b : Break) → starts_line true (without_mark (xs ++ break_text b)) ≡ true
break_ends xs lf = mark_last xs 10 refl
break_ends xs cr = mark_last xs 13 refl
break_ends xs cr_lf = ap (λ t. starts_line true (without_mark t)) (sym (append_assoc xs (13 ∷ []) (10 ∷ [])))
    ∙ mark_last (xs ++ 13 ∷ []) 10 refl

-- ---- by the bytes before the place

-- a line starts at place 0
pub starts_at_beginning : (bs : List ℕ) (at : ℕ) → at ≡ 0 → true ≡ line_starts bs at
starts_at_beginning bs at e = sym (ap (line_starts bs) e ∙ ap (λ t. starts_line true (without_mark t)) (between-nil bs 0))

-- a line starts after a byte of a break
pub starts_by_break : (bs : List ℕ) (at : ℕ) → IsUtf8 bs → IsCharBoundary bs at → 0 < at
    → line_break (get_or bs (at - 1) 0) ≡ true → true ≡ line_starts bs at
starts_by_break bs at u b l h =
    let start = IsCharBoundary-start bs u in
    let last = last_char bs 0 at u l start b in
    let is : line_break last.1 ≡ true = test-last_char line_break bs 0 at last.0 last.1 blind-line_break u last.2 ∙ h in
    let no_mark : (last.1 == 0xfeff) ≡ false = grind (arith, nat_tests) in
    sym (starts_after bs 0 at last.0 last.1 u (omega arith) start b last.2.splits no_mark ∙ is)

mark_encoded : encodes (0xfeff ∷ []) ≡ byte_order_mark_bytes
unfolding encode
mark_encoded = refl

-- after another byte a line starts only after a byte order mark
pub starts_by_mark : (bs : List ℕ) (at : ℕ) (r : Bool) → IsUtf8 bs → IsCharBoundary bs at → 0 < at
    → line_break (get_or bs (at - 1) 0) ≡ false
    → IsTrue r ↔ (slice_range bs 0 at ≡ byte_order_mark_bytes) → r ≡ line_starts bs at
starts_by_mark bs at r u b l h decides = elim (cases_Bool r) [
  | inl e ↦ (let mark : slice_range bs 0 at ≡ encodes (0xfeff ∷ []) = decides.0 e ∙ sym mark_encoded in
      e ∙ sym (ap (λ t. starts_line true (without_mark (chars t))) mark
      ∙ ap (λ t. starts_line true (without_mark t)) (chars-encodes (0xfeff ∷ []) refl)))
  | inr e ↦ (let start = IsCharBoundary-start bs u in
      let last = last_char bs 0 at u l start b in
      let is : line_break last.1 ≡ false = test-last_char line_break bs 0 at last.0 last.1 blind-line_break u last.2 ∙ h in
      e ∙ sym (elim (cases_Bool (last.1 == 0xfeff)) [
        | inr other ↦ starts_after bs 0 at last.0 last.1 u (omega arith) start b last.2.splits other ∙ is
        | inl mark ↦ ap (λ t. starts_line true (without_mark t)) last.2.splits
            ∙ (mark_alone last.0 last.1 mark ∙ filled last.0 last.1 (eqb-true last.1 0xfeff mark) last.2.splits
            (λ same. false≢true (sym e ∙ decides.1 (sym (encodes-between bs 0 at u (omega arith) start b)
            ∙ (ap encodes same ∙ mark_encoded)))))
      ]))
]
  where
    filled : (prefix : List ℕ) (x : ℕ) → x ≡ 0xfeff → between bs 0 at ≡ prefix ++ x ∷ []
        → (between bs 0 at ≡ 0xfeff ∷ [] → ⊥) → is_empty prefix ≡ false
    filled [] x e s n = absurd (n (s ∙ ap (λ y. y ∷ []) e))
    filled (y ∷ ys) x e s n = refl
