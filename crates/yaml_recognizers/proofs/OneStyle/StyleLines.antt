-- In the one style each text ends with a line's end, and no line begins with a dot.
use Rattle.std.{proofs.Common.{◌≡◌, refl, sym, ◌∙◌, ap, subst, arith, append_assoc}, specs.Prelude.{ℕ, zero, suc, ◌+◌, Bool, true, false}}
use Rattle.std.specs.Prelude.{cond, not, ◌&&◌, nat_lt, ◌==◌, List, [], ◌∷◌, ◌++◌, codes}
use Rattle.yaml_recognizers.proofs.Prelude.{cond_both, and_parts, and_from, not-true, not_from_false, ne_eqb, false≢true, list_all, spaces}
use Rattle.yaml_recognizers.proofs.Prelude.{Tree, text, sequence, mapping, Elements, no_element, element, Members, no_member, member}
use Rattle.yaml_recognizers.proofs.Prelude.{letter, word_char, hex, quoted_chars, in_double_quotes, plain_in_style, literal_in_style}
use Rattle.yaml_recognizers.proofs.Prelude.{literal_mark, literal_lines, feeds_at_end, scalar_lines, key_text, long_key, key_lines}
use Rattle.yaml_recognizers.proofs.Prelude.{elements_at, elements_after, lines_after_dash, members_at, members_after, value_at, style_text}
use Rattle.yaml_recognizers.proofs.OneStyle.Characters.{every_joined, of_letter, of_word, shown_low, Writes, quoted_chars_all}
use Rattle.yaml_recognizers.proofs.OneStyle.{Spelled.{item_regrouped, pair_regrouped}, Closings.{ends_from, dotless}}

-- no line of the text begins with a dot; bol and end say whether a line starts at its start and after it
abbrev pub Lined : Bool → List ℕ → Bool → Type 0
Lined bol source end = (dotless bol source ≡ true) × (ends_from bol source ≡ end)

-- two texts without a dot at the start of a line, joined, have none
joined : (bol middle end : Bool) (prefix after : List ℕ) → Lined bol prefix middle → Lined middle after end
    → Lined bol (prefix ++ after) end
joined bol middle end [] after h k = (ap (λ b. dotless b after) h.1 ∙ k.0, ap (λ b. ends_from b after) h.1 ∙ k.1)
joined bol middle end (c ∷ cs) after h k =
    let p : (not (bol && (c == 46)) ≡ true) × (dotless (c == 10) cs ≡ true) = and_parts _ _ h.0 in
    let more : Lined (c == 10) (cs ++ after) end = joined (c == 10) middle end cs after (p.1, h.1) k in
    (and_from _ _ p.0 more.0, more.1)

-- after spaces a line doesn't start
after_spaces : (n : ℕ) (end : Bool) (after : List ℕ) → Lined false after end → Lined false (spaces n ++ after) end
after_spaces zero end after h = h
after_spaces (suc n) end after h = after_spaces n end after h

-- what may be at the start of a line, and within one, may come after the spaces that lead a line
led : (n : ℕ) (end : Bool) (after : List ℕ) → ((bol : Bool) → Lined bol after end) → Lined true (spaces n ++ after) end
led zero end after h = h true
led (suc n) end after h = after_spaces n end after (h false)

-- two tests of which the second fails do not both hold
pub not_both : (bol b : Bool) → b ≡ false → not (bol && b) ≡ true
not_both true b e = not_from_false b e
not_both false b e = refl

-- ---- text within a line

-- the character is no line feed
abbrev no_feed : ℕ → Bool
no_feed c = not (c == 10)

-- within a line, a text without line feeds has no dot at the start of one
unbroken : (cs : List ℕ) → list_all no_feed cs ≡ true → Lined false cs false
unbroken [] h = (refl, refl)
unbroken (c ∷ cs) h =
    let p : (no_feed c ≡ true) × (list_all no_feed cs ≡ true) = and_parts _ _ h in
    let e : c == 10 ≡ false = not-true _ p.0 in
    let more : Lined false cs false = unbroken cs p.1 in
    (ap (λ b. dotless b cs) e ∙ more.0, ap (λ b. ends_from b cs) e ∙ more.1)

-- a character that isn't a dot, and the rest of its line
begun : (bol : Bool) (c : ℕ) (cs : List ℕ) → c == 46 ≡ false → list_all no_feed (c ∷ cs) ≡ true → Lined bol (c ∷ cs) false
begun bol c cs d h =
    let l : Lined false (c ∷ cs) false = unbroken (c ∷ cs) h in
    (and_from _ _ (not_both bol (c == 46) d) l.0, l.1)

-- ---- words and quotes

-- a word has no line feed
word_feedless : (cs : List ℕ) → list_all word_char cs ≡ true → list_all no_feed cs ≡ true
word_feedless [] h = refl
word_feedless (c ∷ cs) h =
    let p : (word_char c ≡ true) × (list_all word_char cs ≡ true) = and_parts _ _ h in
    and_from _ _ (of_word no_feed c refl p.0) (word_feedless cs p.1)

-- a word starts with no dot
word_lined : (value : List ℕ) (bol : Bool) → plain_in_style value ≡ true → Lined bol value false
word_lined [] bol h = absurd (false≢true h)
word_lined (c ∷ cs) bol h =
    let p : (letter c ≡ true) × (list_all word_char (c ∷ cs) ≡ true) = and_parts _ _ (and_parts _ _ (and_parts _ _ h).0).0 in
    begun bol c cs (not-true _ (of_letter (λ y. not (y == 46)) c refl p.0)) (word_feedless (c ∷ cs) p.1)

-- a hexadecimal digit is no line feed
hex_feedless : (d : ℕ) → no_feed (hex d) ≡ true
hex_feedless d =
    cond_both (nat_lt d 10) (48 + d) (55 + d) (λ x. no_feed x ≡ true)
    (λ e. not_from_false _ (ne_eqb (48 + d) 10 (λ q. omega (arith, q))))
    (λ e. not_from_false _ (ne_eqb (55 + d) 10 (λ q. omega (arith, q))))

-- a test that passes everything passes each list
any : (cs : List ℕ) → list_all (λ c. true) cs ≡ true
any [] = refl
any (c ∷ cs) = any cs

-- a text between double quotes starts with no dot
quoted_lined : (value : List ℕ) (bol : Bool) → Lined bol (in_double_quotes value) false
quoted_lined value bol =
    begun bol 34 (quoted_chars value ++ (34 ∷ [])) refl
    (every_joined no_feed (quoted_chars value) (34 ∷ [])
    (quoted_chars_all no_feed (λ c. true) value (λ c h. writes c) (any value)) refl)
  where
    writes : (c : ℕ) → Writes no_feed c
    writes c = record {
      signs = refl;
      letters = refl;
      shown = λ s. not_from_false _ (ne_eqb c 10 (λ q. omega (arith, shown_low c s, q)));
      digits = λ d l. hex_feedless d;
    }

-- ---- literals

-- one character more within a line
char_lined : (c : ℕ) (after : List ℕ) → c == 10 ≡ false → Lined false after true → Lined false (c ∷ after) true
char_lined c after e h = (ap (λ b. dotless b after) e ∙ h.0, ap (λ b. ends_from b after) e ∙ h.1)

-- the lines of a literal start with no dot
literal_lined : (j : ℕ) (fresh : Bool) (cs : List ℕ) → Lined fresh (literal_lines (suc j) fresh cs) true
literal_lined j true [] = (refl, refl)
literal_lined j false [] = (refl, refl)
literal_lined j fresh (c ∷ cs) =
    cond_both (c == 10) _ _ (λ ls. Lined fresh ls true)
    (λ e. let more : Lined true (literal_lines (suc j) true cs) true = literal_lined j true cs in
    (and_from _ _ (not_both fresh false refl) more.0, more.1))
    (λ e. by fresh (char_lined c (literal_lines (suc j) false cs) e (literal_lined j false cs)))
  where
    by : (b : Bool) → Lined false (c ∷ literal_lines (suc j) false cs) true
        → Lined b (cond b (spaces (suc j)) [] ++ c ∷ literal_lines (suc j) false cs) true
    by true h = after_spaces j true (c ∷ literal_lines (suc j) false cs) h
    by false h = h

-- the header of a literal starts with no dot
mark_lined : (bol : Bool) (n : ℕ) → Lined bol (literal_mark n ++ codes "\n") true
mark_lined true zero = (refl, refl)
mark_lined true (suc zero) = (refl, refl)
mark_lined true (suc (suc n)) = (refl, refl)
mark_lined false zero = (refl, refl)
mark_lined false (suc zero) = (refl, refl)
mark_lined false (suc (suc n)) = (refl, refl)

-- ---- values and keys

-- a scalar has no dot at the start of a line
scalar_lined : (i : ℕ) (value : List ℕ) (bol : Bool) → Lined bol (scalar_lines (i + 2) value) true
scalar_lined i value bol =
    let two : i + 2 ≡ suc (suc i) = omega arith in
    cond_both (plain_in_style value) _ _ (λ ls. Lined bol ls true)
    (λ e. joined bol false true value (codes "\n") (word_lined value bol e) (refl, refl))
    (λ e. cond_both (literal_in_style value) _ _ (λ ls. Lined bol ls true)
    (λ l. joined bol true true (literal_mark (feeds_at_end value) ++ codes "\n") (literal_lines (i + 2) true value)
    (mark_lined bol (feeds_at_end value)) (rw two (literal_lined (suc i) true value)))
    (λ l. joined bol false true (in_double_quotes value) (codes "\n") (quoted_lined value bol) (refl, refl)))

-- a key starts with no dot
key_lined : (key : List ℕ) (bol : Bool) → Lined bol (key_text key) false
key_lined key bol = cond_both (plain_in_style key) _ _ (λ ls. Lined bol ls false) (λ e. word_lined key bol e) (λ e. quoted_lined key bol)

-- `? ` starts with no dot
asks : (bol : Bool) → Lined bol (codes "? ") false
asks true = (refl, refl)
asks false = (refl, refl)

-- `- ` starts with no dot
dashes : (bol : Bool) → Lined bol (codes "- ") false
dashes true = (refl, refl)
dashes false = (refl, refl)

-- `:` is no dot
colon : (bol : Bool) → Lined bol (codes ":") false
colon true = (refl, refl)
colon false = (refl, refl)

-- a key with its `:` has no dot at the start of a line
key_lines_lined : (i : ℕ) (key : List ℕ) (bol : Bool) → Lined bol (key_lines i key) false
key_lines_lined i key bol =
    let led_colon : Lined true (spaces i ++ codes ":") false = led i false (codes ":") colon in
    cond_both (long_key key) _ _ (λ ls. Lined bol ls false)
    (λ e. subst (λ ls. Lined bol ls false) (sym (append_assoc (codes "? " ++ key_text key ++ codes "\n") (spaces i) (codes ":")))
    (joined bol true false (codes "? " ++ key_text key ++ codes "\n") (spaces i ++ codes ":")
    (joined bol false true (codes "? " ++ key_text key) (codes "\n")
    (joined bol false false (codes "? ") (key_text key) (asks bol) (key_lined key false)) (refl, refl)) led_colon))
    (λ e. joined bol false false (key_text key) (codes ":") (key_lined key bol) (colon false))

-- ---- trees

-- an empty collection starts with no dot
empty_lined : (bol : Bool) (a b : ℕ) → a == 46 ≡ false → a == 10 ≡ false → b == 10 ≡ false → Lined bol (a ∷ b ∷ codes "\n") true
empty_lined bol a b d e f = joined bol false true (a ∷ b ∷ []) (codes "\n")
    (begun bol a (b ∷ []) d (and_from _ _ (not_from_false _ e) (and_from _ _ (not_from_false _ f) refl))) (refl, refl)

-- a sequence has no dot at the start of a line, if its elements have none
elements_lined : (t : Tree) (i : ℕ) (bol : Bool) (ts : Elements) → Lined false (lines_after_dash t i) true
    → Lined true (elements_after ts i) true → Lined bol (elements_at (element t ts) i) true
elements_lined t i bol ts h k = joined bol true true (codes "- " ++ lines_after_dash t i) (elements_after ts i)
    (joined bol false true (codes "- ") (lines_after_dash t i) (dashes bol) h) k

-- a mapping has no dot at the start of a line, if its members have none
members_lined : (key : List ℕ) (t : Tree) (i : ℕ) (bol : Bool) (ms : Members) → Lined false (value_at t i) true
    → Lined true (members_after ms i) true → Lined bol (members_at (member key t ms) i) true
members_lined key t i bol ms h k = joined bol true true (key_lines i key ++ value_at t i) (members_after ms i)
    (joined bol false true (key_lines i key) (value_at t i) (key_lines_lined i key bol) h) k

mutual
  -- an element has no dot at the start of a line
  element_lined : (t : Tree) (i : ℕ) (bol : Bool) → Lined bol (lines_after_dash t i) true
  element_lined (text value) i bol = scalar_lined i value bol
  element_lined (sequence no_element) i bol = empty_lined bol 91 93 refl refl refl
  element_lined (sequence (element t ts)) i bol = elements_lined t (i + 2) bol ts (element_lined t (i + 2) false) (after_lined ts (i + 2))
  element_lined (mapping no_member) i bol = empty_lined bol 123 125 refl refl refl
  element_lined (mapping (member key t ms)) i bol = members_lined key t (i + 2) bol ms (value_lined t (i + 2)) (pairs_lined ms (i + 2))

  -- a value has no dot at the start of a line
  value_lined : (t : Tree) (i : ℕ) → Lined false (value_at t i) true
  value_lined (text value) i = scalar_lined i value false
  value_lined (sequence no_element) i = (refl, refl)
  value_lined (sequence (element t ts)) i = led (i + 2) true (elements_at (element t ts) (i + 2))
      (λ bol. elements_lined t (i + 2) bol ts (element_lined t (i + 2) false) (after_lined ts (i + 2)))
  value_lined (mapping no_member) i = (refl, refl)
  value_lined (mapping (member key t ms)) i = led (i + 2) true (members_at (member key t ms) (i + 2))
      (λ bol. members_lined key t (i + 2) bol ms (value_lined t (i + 2)) (pairs_lined ms (i + 2)))

  -- further elements have no dot at the start of a line
  after_lined : (ts : Elements) (i : ℕ) → Lined true (elements_after ts i) true
  after_lined no_element i = (refl, refl)
  after_lined (element t ts) i =
      subst (λ ls. Lined true ls true) (sym (item_regrouped (spaces i) (lines_after_dash t i) (elements_after ts i)))
      (led i true (elements_at (element t ts) i)
      (λ bol. elements_lined t i bol ts (element_lined t i false) (after_lined ts i)))

  -- further members have no dot at the start of a line
  pairs_lined : (ms : Members) (i : ℕ) → Lined true (members_after ms i) true
  pairs_lined no_member i = (refl, refl)
  pairs_lined (member key t ms) i =
      subst (λ ls. Lined true ls true) (sym (pair_regrouped (spaces i) (key_lines i key) (value_at t i)
      (members_after ms i))) (led i true (members_at (member key t ms) i)
      (λ bol. members_lined key t i bol ms (value_lined t i) (pairs_lined ms i)))

-- no line of a tree in the one style begins with a dot, and it ends with the end of a line
pub style_lined : (t : Tree) → Lined true (style_text t) true
style_lined (text value) = scalar_lined 0 value true
style_lined (sequence no_element) = (refl, refl)
style_lined (sequence (element t ts)) = elements_lined t 0 true ts (element_lined t 0 false) (after_lined ts 0)
style_lined (mapping no_member) = (refl, refl)
style_lined (mapping (member key t ms)) = members_lined key t 0 true ms (value_lined t 0) (pairs_lined ms 0)
