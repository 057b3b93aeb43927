-- The scalars of a tree in the one style fit where they are.
use Rattle.std.{proofs.Common.{◌≡◌, refl, sym, ◌∙◌, ap, inl, inr, arith, ◌≤◌}, specs.Prelude.{ℕ, zero, suc, ◌+◌, Bool, true, false, cond}}
use Rattle.std.specs.Prelude.{not, ◌&&◌, ◌||◌, nat_le, ◌==◌, List, [], ◌∷◌, ◌++◌, codes}
use Rattle.yaml_recognizers.proofs.Prelude.{list_all, cases_Bool, and_parts, and_from, and_left, and_right, or_parts, or_cases, or_left}
use Rattle.yaml_recognizers.proofs.Prelude.{or_right, or_from, cond_both, leb-true, not-true, not_from_false, le-leb, le-ltb, ne_eqb}
use Rattle.yaml_recognizers.proofs.Prelude.{false≢true, in_range, is_in, code_point, printable, nb, ns, white, line_break, indicator}
use Rattle.yaml_recognizers.proofs.Prelude.{IsText, first, spaces, marker, no_marker, starts_line, Sep, sep_text, sep_fits, FlowContext}
use Rattle.yaml_recognizers.proofs.Prelude.{outer, safe, plain_text, lines_text, plain_run, quoted_char_fits, plain, double, scalar}
use Rattle.yaml_recognizers.proofs.Prelude.{flow_text, flow_fits, block_empties_text, block_empties_fit, text_line_fits, text_lines_fit}
use Rattle.yaml_recognizers.proofs.Prelude.{spaces_before, past_spaces, goes_on, block_text, block_fits, flow, block, node_fits, letter}
use Rattle.yaml_recognizers.proofs.Prelude.{word_char, plain_in_style, literal_in_style, shown, shown_or_feed, space_or_feed}
use Rattle.yaml_recognizers.proofs.OneStyle.Presented.{feed, items_of_text, word_flow, bare_empties, line_with, held_by, empties_in}
use Rattle.yaml_recognizers.proofs.OneStyle.{Presented.{lines_in, literal_block, scalar_node}, Characters.{from_range, of_letter, of_word}}
use Rattle.yaml_recognizers.proofs.OneStyle.QuotedChars.{item_quotes}

-- ---- words

-- what holds of a character of a word
abbrev in_word : ℕ → Bool
in_word x = ns x && not (is_in x (codes ":#")) && not (white x)

-- what holds of its first character
abbrev starts_word : ℕ → Bool
starts_word x = ns x && not (indicator x) && not (white x) && not (x == 46) && not (x == 45)

-- a character of a word is one of a plain scalar
word_tells : (x : ℕ) → word_char x ≡ true → in_word x ≡ true
word_tells x h = of_word in_word x refl h

-- a letter may start a plain scalar
letter_tells : (x : ℕ) → letter x ≡ true → starts_word x ≡ true
letter_tells x h = of_letter starts_word x refl h

-- in a context where all that is no white and no break is safe
abbrev pub Wide : FlowContext → Type 0
Wide c = (x : ℕ) → safe c x ≡ ns x

-- the rest of a word fits as a run of a plain scalar
run_fits : (c : FlowContext) (prev : ℕ) (xs after : List ℕ) → Wide c → white prev ≡ false
    → list_all word_char xs ≡ true → plain_run c prev xs after ≡ true
run_fits c prev [] after w p h = not_from_false _ p
run_fits c prev (x ∷ xs) after w p h =
    let q : (word_char x ≡ true) × (list_all word_char xs ≡ true) = and_parts _ _ h in
    let r : (ns x && not (is_in x (codes ":#")) ≡ true) × (not (white x) ≡ true) = and_parts _ _ (word_tells x q.0) in
    and_from _ _ (or_right (white x) _ (or_left _ _
    (or_left _ _ (ap (λ b. b && not (is_in x (codes ":#"))) (w x) ∙ r.0)))) (run_fits c x xs after w (not-true _ r.1) q.1)

-- a text that starts with neither `-` nor `.` has no marker
pub unmarked : (x : ℕ) (rest : List ℕ) → x == 45 ≡ false → x == 46 ≡ false → marker (x ∷ rest) ≡ false
unmarked x [] d e = refl
unmarked x (y ∷ []) d e = refl
unmarked x (y ∷ z ∷ rest) d e = rw (d, e)

-- a text without a marker may start a line
pub no_marker_there : (bol : Bool) (text : List ℕ) → marker text ≡ false → no_marker bol text ≡ true
no_marker_there true text h = rw h
no_marker_there false text h = refl

-- a word fits as a plain scalar
word_fits : (value : List ℕ) (n : ℕ) (c : FlowContext) (bol : Bool) (after : List ℕ) → Wide c
    → plain_in_style value ≡ true → flow_fits (scalar (plain value [])) n c bol after ≡ true
word_fits [] n c bol after w h = absurd (false≢true h)
word_fits (x ∷ xs) n c bol after w h =
    let p : (letter x ≡ true) × (list_all word_char (x ∷ xs) ≡ true) = and_parts _ _ (and_parts _ _ (and_parts _ _ h).0).0 in
    let q : (ns x && not (indicator x) && not (white x) && not (x == 46) ≡ true) × (not (x == 45) ≡ true) =
    and_parts _ _ (letter_tells x p.0) in
    let r : (ns x && not (indicator x) && not (white x) ≡ true) × (not (x == 46) ≡ true) = and_parts _ _ q.0 in
    let s : (ns x && not (indicator x) ≡ true) × (not (white x) ≡ true) = and_parts _ _ r.0 in
    let t : (ns x ≡ true) × (not (indicator x) ≡ true) = and_parts _ _ s.0 in
    let rest : list_all word_char xs ≡ true = (and_parts _ _ p.1).1 in
    let tail : List ℕ = lines_text plain_text xs [] ++ after in
    and_from _ _ (and_from _ _ (and_from _ _
    (no_marker_there bol (x ∷ tail) (unmarked x tail (not-true _ q.1) (not-true _ r.1)))
    (and_from _ _ (and_from _ _ t.0 (or_left (not (indicator x))
    (is_in x (codes "?:-") && first (safe c) (xs ++ after)) t.1)) (run_fits c x xs after w (not-true _ s.1) rest))) refl) refl

-- ---- between double quotes

-- each character of a text may stand between double quotes as it is written
items_fit_quotes : (value : List ℕ) → IsText value → list_all quoted_char_fits (items_of_text value) ≡ true
items_fit_quotes [] t = refl
items_fit_quotes (c ∷ cs) t =
    let p : (code_point c ≡ true) × (list_all code_point cs ≡ true) = and_parts _ _ t in
    and_from _ _ (item_quotes c p.0).0 (items_fit_quotes cs p.1)

-- a text between double quotes fits
quoted_fits : (value : List ℕ) (n : ℕ) (c : FlowContext) (bol : Bool) (after : List ℕ) → IsText value
    → flow_fits (scalar (double (items_of_text value) [])) n c bol after ≡ true
quoted_fits value n c bol after t = and_from _ _ (and_from _ _ (items_fit_quotes value t) refl) refl

-- a key fits as a flow node
pub word_flow_fits : (key : List ℕ) (n : ℕ) (c : FlowContext) (bol : Bool) (after : List ℕ) → Wide c → IsText key
    → flow_fits (word_flow key) n c bol after ≡ true
word_flow_fits key n c bol after w t = by (plain_in_style key) refl
  where
    by : (b : Bool) → plain_in_style key ≡ b → flow_fits
        (scalar (cond b (plain key []) (double (items_of_text key) []))) n c bol after ≡ true
    by true e = word_fits key n c bol after w e
    by false e = quoted_fits key n c bol after t

-- ---- literals

-- what comes after has at most i spaces before something that is no break, or is the end of the text
abbrev pub Below : ℕ → List ℕ → Type 0
Below i after = (spaces_before after ≤ i) × (first line_break (past_spaces after) ≡ false)

-- a literal whose lines come after two spaces more doesn't go on there
ended : (i : ℕ) (after : List ℕ) → Below i after → goes_on (i + 2) after ≡ false
ended i after b =
    or_from _ _ (or_from _ _ (le-ltb (i + 2) (spaces_before after) (omega (arith, b.0))) (and_right _ _ b.1))
    (and_left _ _ (and_left _ _ (ne_eqb (spaces_before after) (i + 2) (λ e. omega (arith, b.0, e)))))

-- empty lines without spaces fit
bare_empties_fit : (q n : ℕ) (after : List ℕ) → block_empties_fit q (bare_empties n) after ≡ true
bare_empties_fit q zero after = refl
bare_empties_fit q (suc n) after = and_from _ _ (and_from _ _ (le-leb 0 q (omega arith)) refl) (bare_empties_fit q n after)

-- a character of a literal that is no line feed may be in a line
shown_nb : (c : ℕ) → c == 10 ≡ false → shown_or_feed c ≡ true → nb c ≡ true
shown_nb c f h = elim (or_cases (shown c) (c == 10) h) [
  | inl s ↦ elim (or_cases (in_range 0x20 0x7e c) (nat_le 0xa0 c && printable c && not (is_in c (0x2028 ∷ 0x2029 ∷ 0xfeff ∷ []))) s) [
    | inl a ↦ (let r : (0x20 ≤ c) × (c ≤ 0x7e) = from_range 0x20 0x7e c a in
        and_from _ _ (or_left _ _ (or_left _ _ (or_left _ _ (or_right (is_in c (9 ∷ 10 ∷ 13 ∷ 0x85 ∷ [])) _ a))))
        (not_from_false _ (or_from _ _ (or_from _ _ f (ne_eqb c 13 (λ e. omega (arith, r.0, e))))
        (ne_eqb c 0xfeff (λ e. omega (arith, r.1, e))))))
    | inr a ↦ (let p : (nat_le 0xa0 c && printable c ≡ true) × (not (is_in c (0x2028 ∷ 0x2029 ∷ 0xfeff ∷ [])) ≡ true) = and_parts _ _ a in
        let q : (nat_le 0xa0 c ≡ true) × (printable c ≡ true) = and_parts _ _ p.0 in
        let l : 0xa0 ≤ c = leb-true 0xa0 c q.0 in
        let r : (c == 0x2028 ≡ false) × ((c == 0x2029) || ((c == 0xfeff) || false) ≡ false) = or_parts _ _ (not-true _ p.1) in
        let t : (c == 0x2029 ≡ false) × ((c == 0xfeff) || false ≡ false) = or_parts _ _ r.1 in
        let u : (c == 0xfeff ≡ false) × (false ≡ false) = or_parts _ _ t.1 in
        and_from _ _ q.1 (not_from_false _ (or_from _ _ (or_from _ _ f (ne_eqb c 13 (λ e. omega (arith, l, e)))) u.0)))
  ]
  | inr e ↦ absurd (false≢true (sym f ∙ e))
]

-- the characters of a line of a literal may be in a line
held_nb : (cs : List ℕ) → list_all shown_or_feed cs ≡ true → list_all nb (held_by cs) ≡ true
held_nb [] h = refl
held_nb (c ∷ cs) h =
    let p : (shown_or_feed c ≡ true) × (list_all shown_or_feed cs ≡ true) = and_parts _ _ h in
    elim (cases_Bool (c == 10)) [
      | inl e ↦ rw e
      | inr e ↦ rw e (and_from _ _ (shown_nb c e p.0) (held_nb cs p.1))
    ]

-- a line of a literal fits
line_fits : (q c empties : ℕ) (held after : List ℕ) → nb c ≡ true → list_all nb held ≡ true
    → text_line_fits (suc q) (line_with (c ∷ held) empties) after ≡ true
line_fits q c empties held after h k =
    let tail : List ℕ = spaces q ++ (c ∷ held) ++ codes "\n" ++ block_empties_text (bare_empties empties) ++ after in
    and_from _ _ (and_from _ _ (and_from _ _ (and_from _ _ refl (and_from _ _ h k))
    (no_marker_there true (32 ∷ tail) (unmarked 32 tail refl refl))) refl) (bare_empties_fit (suc q) empties after)

-- the lines of a literal fit
lines_fit : (q : ℕ) (fresh : Bool) (cs after : List ℕ) → list_all shown_or_feed cs ≡ true
    → text_lines_fit (suc q) (lines_in fresh cs) after ≡ true
lines_fit q fresh [] after h = refl
lines_fit q fresh (c ∷ cs) after h =
    let p : (shown_or_feed c ≡ true) × (list_all shown_or_feed cs ≡ true) = and_parts _ _ h in
    elim (cases_Bool (c == 10)) [
      | inl e ↦ rw e (lines_fit q true cs after p.1)
      | inr e ↦ rw e (cond_both fresh _ _ (λ ls. text_lines_fit (suc q) ls after ≡ true)
          (λ f. and_from _ _ (line_fits q c (empties_in false cs) (held_by cs) _ (shown_nb c e p.0) (held_nb cs p.1))
          (lines_fit q false cs after p.1))
          (λ f. lines_fit q false cs after p.1))
    ]

-- a literal fits
literal_fits : (i m : ℕ) (value after : List ℕ) → m ≤ i + 2 → literal_in_style value ≡ true → Below i after
    → block_fits m (literal_block (i + 2) value) after ≡ true
literal_fits i m [] after l h b = absurd (false≢true h)
literal_fits i m (c ∷ cs) after l h b =
    let p : (is_in 10 (c ∷ cs) && not (first space_or_feed (c ∷ cs)) ≡ true) × (list_all shown_or_feed (c ∷ cs) ≡ true) = and_parts _ _ h in
    let q : (is_in 10 (c ∷ cs) ≡ true) × (not (first space_or_feed (c ∷ cs)) ≡ true) = and_parts _ _ p.0 in
    let f : (c == 32 ≡ false) × (c == 10 ≡ false) = or_parts (c == 32) (c == 10) (not-true _ q.1) in
    let two : i + 2 ≡ suc (suc i) = omega arith in
    let fits : text_lines_fit (i + 2) (lines_in true (c ∷ cs)) after ≡ true = rw two (lines_fit (suc i) true (c ∷ cs) after p.1) in
    let body = and_from _ _ (and_from _ _ (and_from _ _
    (rw f.1 (and_from _ _ (le-leb m (i + 2) l) (not_from_false _ (and_left _ _ f.0)))) refl) fits) (not_from_false _ (ended i after b)) in
    and_from _ _ (and_from _ _ refl body) refl

-- ---- values

-- a value fits as a node
pub scalar_node_fits : (sep : Sep) (i m : ℕ) (shallow bol : Bool) (value after : List ℕ) → m ≤ i + 2 → IsText value
    → ((rest : List ℕ) → sep_fits m false bol sep rest ≡ true) → Below i after
    → node_fits (scalar_node sep (i + 2) value) m shallow bol after ≡ true
scalar_node_fits sep i m shallow bol value after l t s b = by (plain_in_style value) (literal_in_style value) refl refl
  where
    by : (p q : Bool) → plain_in_style value ≡ p → literal_in_style value ≡ q
        → node_fits (cond p (flow sep (scalar (plain value [])) (feed ∷ []))
        (cond q (block sep (literal_block (i + 2) value))
        (flow sep (scalar (double (items_of_text value) [])) (feed ∷ [])))) m shallow bol after
        ≡ true
    by true q e f = and_from _ _ (and_from _ _ (s (flow_text (scalar (plain value [])) ++ (10 ∷ after)))
        (word_fits value m outer (starts_line bol (sep_text sep)) (10 ∷ after) (λ x. refl) e)) refl
    by false true e f = and_from _ _ (s (block_text (literal_block (i + 2) value) ++ after)) (literal_fits i m value after l f b)
    by false false e f = and_from _ _ (and_from _ _
        (s (flow_text (scalar (double (items_of_text value) [])) ++ (10 ∷ after)))
        (quoted_fits value m outer (starts_line bol (sep_text sep)) (10 ∷ after) t)) refl
