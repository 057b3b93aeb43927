-- What the bytes of a line tell of each rule.
use Rattle.std.proofs.Common.{◌≡◌, ◌≢◌, ℕ, ◌-◌, ◌<◌, ◌≤◌, Bool, true, false, not, ◌==◌, List, [], ◌∷◌, ◌++◌, length, take, drop, refl, ap}
use Rattle.std.proofs.Common.{sym, ◌∙◌, arith, append-nil, append_assoc, inl, inr, lit<, take-append-drop}
use Rattle.yaml_style.proofs.Prelude.{chars, IsUtf8, IsCharBoundary, cases_Bool, eqb-true, or_from, lt-ltb, le-ltb, and_parts, drop_all}
use Rattle.yaml_style.proofs.Prelude.{chars-append, IsUtf8-take, encode_ascii, encodes-chars, length-le-encodes, white, tab, line_feed}
use Rattle.yaml_style.proofs.Prelude.{space_char, same_text}
use lib.Utf8.{encodes, encode}
use lib.Dec.{eqb}
use lib.Pointwise.{pointwise}
use Rattle.yaml_style.specs.{declared.finding.{Finding.Finding, Rule.Rule}, Findings.{ends_in_white, ends_otherwise, is_long, found}}

-- ---- a space or TAB at the end

last-white : (xs : List ℕ) (c : ℕ) → ends_in_white (xs ++ c ∷ []) ≡ white c
last-white [] c = refl
last-white (x ∷ []) c = refl
last-white (x ∷ y ∷ ys) c = last-white (y ∷ ys) c

chars-one_ascii : (c : ℕ) → c < 128 → chars (c ∷ []) ≡ c ∷ []
unfolding chars
chars-one_ascii c low = rw (lt-ltb c 128 low) refl

-- a byte of whitespace at the end is the last character
pub white_at_end : (bs : List ℕ) (n c : ℕ) → IsUtf8 bs → c < 128 → white c ≡ true → IsCharBoundary bs (length bs - n)
    → drop (length bs - n) bs ≡ encode c ++ drop (length bs) bs
    → ends_in_white (chars bs) ≡ true
white_at_end bs n c u low is b split =
    let i = length bs - n in
    let last : drop i bs ≡ c ∷ [] = split ∙ ap (λ x. encode c ++ x) (drop_all (length bs) bs (omega arith))
    ∙ append-nil (encode c) ∙ encode_ascii c low in
    let parts : chars bs ≡ chars (take i bs) ++ c ∷ [] =
    ap chars (sym (take-append-drop i bs)) ∙ chars-append (take i bs) (drop i bs) (IsUtf8-take bs i u b)
    ∙ ap (λ x. chars (take i bs) ++ chars x) last ∙ ap (λ x. chars (take i bs) ++ x) (chars-one_ascii c low) in
    ap ends_in_white parts ∙ last-white (chars (take i bs)) c ∙ is

-- neither ends the bytes of these characters
no_white : (cs : List ℕ) → ((prefix : List ℕ) → encodes cs ≢ prefix ++ encode space_char)
    → ((prefix : List ℕ) → encodes cs ≢ prefix ++ encode tab) → ends_in_white cs ≡ false
unfolding encode
no_white [] no_space no_tab = refl
no_white (c ∷ []) no_space no_tab =
    or_from (c == space_char) (c == tab)
    (elim (cases_Bool (c == space_char)) [
      | inl e ↦ absurd
          (no_space [] (ap (λ x. encodes (x ∷ [])) (eqb-true c space_char e)))
      | inr e ↦ e
    ])
    (elim (cases_Bool (c == tab)) [ inl e ↦ absurd (no_tab [] (ap (λ x. encodes (x ∷ [])) (eqb-true c tab e))) | inr e ↦ e ])
no_white (c ∷ d ∷ ds) no_space no_tab =
    no_white (d ∷ ds) (λ prefix e. no_space (encode c ++ prefix)
    (ap (λ x. encode c ++ x) e ∙ sym (append_assoc (encode c) prefix (encode space_char))))
    (λ prefix e. no_tab (encode c ++ prefix) (ap (λ x. encode c ++ x) e ∙ sym (append_assoc (encode c) prefix (encode tab))))

-- without one the line doesn't end in whitespace
pub no_white_at_end : (bs : List ℕ) → IsUtf8 bs → ((prefix : List ℕ) → bs ≢ prefix ++ encode space_char)
    → ((prefix : List ℕ) → bs ≢ prefix ++ encode tab) → ends_in_white (chars bs) ≡ false
no_white_at_end bs u no_space no_tab =
    let e = encodes-chars bs u in
    no_white (chars bs) (λ prefix h. no_space prefix (sym e ∙ h)) (λ prefix h. no_tab prefix (sym e ∙ h))

-- ---- another break than LF

same_one : (cs : List ℕ) (d : ℕ) → same_text cs (d ∷ []) ≡ true → cs ≡ d ∷ []
same_one [] d h = cc
same_one (c ∷ []) d h = let both = and_parts (c == d) true h in ap (λ x. x ∷ []) (eqb-true c d both.0)
same_one (c ∷ e ∷ cs) d h = let both = and_parts (c == d) false h in cc

feed_is_feed : (bs : List ℕ) → IsUtf8 bs → same_text (chars bs) (line_feed ∷ []) ≡ same_text bs (line_feed ∷ [])
unfolding encode
feed_is_feed bs u = elim (cases_Bool (same_text bs (line_feed ∷ []))) [
  | inl same ↦ ap (λ x. same_text x (line_feed ∷ []))
      (ap chars (same_one bs line_feed same) ∙ chars-one_ascii line_feed (lit< tt) ∙ sym (same_one bs line_feed same))
  | inr other ↦ elim (cases_Bool (same_text (chars bs) (line_feed ∷ []))) [
    | inl same ↦ (let is : bs ≡ line_feed ∷ [] = sym (encodes-chars bs u) ∙ ap encodes (same_one (chars bs) line_feed same) in
        let also : same_text bs (line_feed ∷ []) ≡ true = ap (λ x. same_text x (line_feed ∷ [])) is in cc)
    | inr also ↦ also ∙ sym other
  ]
]

-- the end of a line is LF, or it isn't
pub another_end : (bs : List ℕ) → IsUtf8 bs → not (pointwise eqb bs (line_feed ∷ [])) ≡ ends_otherwise (chars bs)
another_end bs u = ap not (alike bs ∙ sym (feed_is_feed bs u))
  where
    alike : (cs : List ℕ) → pointwise eqb cs (line_feed ∷ []) ≡ same_text cs (line_feed ∷ [])
    alike [] = refl
    alike (c ∷ []) = refl
    alike (c ∷ d ∷ cs) = refl

-- ---- more than 120 code points

-- a line of at most 120 bytes isn't long
pub short_line : (bs : List ℕ) → IsUtf8 bs → length bs ≤ 120 → is_long (chars bs) ≡ false
short_line bs u l = le-ltb 120 (length (chars bs)) (omega (arith, length-le-encodes (chars bs), ap length (encodes-chars bs u)))

-- ---- findings, one after another

-- a test that is equal finds the same
pub found_same : (rule : Rule) (number : ℕ) {test result : Bool} → result ≡ test → found result rule number ≡ found test rule number
found_same rule number same = ap (λ b. found b rule number) same

-- three lists of findings, one after another
pub all_three : (old a b c one two three : List Finding) → one ≡ old ++ a → two ≡ one ++ b → three ≡ two ++ c → three ≡ old ++ (a ++ b ++ c)
all_three old a b c one two three first second third =
    third ∙ ap (λ x. x ++ c) (second ∙ ap (λ x. x ++ b) first ∙ append_assoc old a b) ∙ append_assoc old (a ++ b) c
