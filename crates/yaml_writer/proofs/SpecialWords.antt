-- A text is a special word just where it is one of those of its length, in any letter case.
use Rattle.std.proofs.Common.{◌≡◌, ℕ, suc, ◌+◌, ◌<◌, ◌==◌, ◌&&◌, ◌||◌, Bool, true, false, List, [], ◌∷◌, length, if◌then◌else◌, refl, sym}
use Rattle.std.proofs.Common.{ap, ◌∙◌, arith}
use Rattle.yaml_writer.proofs.Prelude.{ne_eqb, eqb-false, nat_tests, in_range, is_in, same_text, lower, is_among, special_words}
use Rattle.yaml_writer.specs.ScalarStyles.{special_initials}

-- lowercase letters keep a text's length
pub length-lower : (cs : List ℕ) → length (lower cs) ≡ length cs
length-lower [] = refl
length-lower (c ∷ cs) = ap suc (length-lower cs)

-- a text that is its own characters has as many in lower case
pub same_length : {cs bs : List ℕ} → cs ≡ bs → length (lower cs) ≡ length bs
same_length {cs = cs} e = length-lower cs ∙ ap length e

-- those of the words that have this length
abbrev pub of_length : ℕ → List (List ℕ) → List (List ℕ)
of_length n [] = []
of_length n (w ∷ ws) = if n == length w then w ∷ of_length n ws else of_length n ws

-- texts of two lengths differ
other : (value word : List ℕ) → (length value ≡ length word → ⊥) → same_text value word ≡ false
other [] [] h = absurd (h refl)
other [] (d ∷ ds) h = refl
other (c ∷ cs) [] h = refl
other (c ∷ cs) (d ∷ ds) h = by (c == d) (other cs ds (λ e. h (ap suc e)))
  where
    by : (b : Bool) → same_text cs ds ≡ false → (b && same_text cs ds) ≡ false
    by true e = e
    by false e = refl

among_same_length : (v : List ℕ) (ws : List (List ℕ)) → is_among v ws ≡ is_among v (of_length (length v) ws)
among_same_length v [] = refl
among_same_length v (w ∷ ws) =
    by (length v == length w) refl (among_same_length v ws)
  where
    by : (same : Bool) → (length v == length w) ≡ same → is_among v ws ≡ is_among v (of_length (length v) ws)
        → (same_text v w || is_among v ws)
        ≡ is_among v (if same then w ∷ of_length (length v) ws else of_length (length v) ws)
    by true test later = ap (λ b. same_text v w || b) later
    by false test later =
        rw (other v w (λ e. eqb-false (length v) (length w) test e)) later

-- a text of n characters is special just where it is a special word of that length
pub special_of_length : (v : List ℕ) (n : ℕ) → length v ≡ n
    → is_among v special_words ≡ is_among v (of_length n special_words)
special_of_length v n e =
    among_same_length v special_words ∙ ap (λ m. is_among v (of_length m special_words)) e

-- no special word has another length
pub none_of_length : (n : ℕ) → (n ≡ 1 → ⊥) → (n ≡ 2 → ⊥) → (n ≡ 3 → ⊥) → (n ≡ 4 → ⊥) → (n ≡ 5 → ⊥)
    → of_length n special_words ≡ []
none_of_length n one two three four five =
    rw (ne_eqb n 1 one, ne_eqb n 2 two, ne_eqb n 3 three, ne_eqb n 4 four, ne_eqb n 5 five) refl

-- so no longer text is a special word
pub none_longer : (v : List ℕ) (n : ℕ) → length v ≡ n → 5 < n → is_among v special_words ≡ false
none_longer v n e long =
    let none = none_of_length n (λ same. omega (arith, long, same)) (λ same. omega (arith, long, same))
    (λ same. omega (arith, long, same)) (λ same. omega (arith, long, same)) (λ same. omega (arith, long, same)) in
    special_of_length v n e ∙ ap (is_among v) none

or-false : (b : Bool) → (b || false) ≡ b
or-false true = refl
or-false false = refl

-- the second of two words decides where the first is not the text
pub second : {first word result whole : Bool} → false ≡ first → result ≡ word
    → whole ≡ (first || (word || false)) → result ≡ whole
second {word = word} never found split =
    found ∙ sym (or-false word) ∙ ap (λ b. b || (word || false)) never ∙ sym split

-- the only word decides
pub only : {word result whole : Bool} → result ≡ word → whole ≡ (word || false) → result ≡ whole
only {word = word} found split = found ∙ sym (or-false word) ∙ sym split

-- no special word starts with another letter
pub other_initial : (c : ℕ) (rest : List ℕ) → is_in c special_initials ≡ false
    → is_among (lower (c ∷ rest)) special_words ≡ false
other_initial c rest e =
    let f : ((if in_range 65 90 c then c + 32 else c) == 102) ≡ false = grind (arith, nat_tests, e) in
    let n : ((if in_range 65 90 c then c + 32 else c) == 110) ≡ false = grind (arith, nat_tests, e) in
    let o : ((if in_range 65 90 c then c + 32 else c) == 111) ≡ false = grind (arith, nat_tests, e) in
    let t : ((if in_range 65 90 c then c + 32 else c) == 116) ≡ false = grind (arith, nat_tests, e) in
    let y : ((if in_range 65 90 c then c + 32 else c) == 121) ≡ false = grind (arith, nat_tests, e) in
    rw (f, n, o, t, y) refl
