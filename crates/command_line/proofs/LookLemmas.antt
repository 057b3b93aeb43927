-- What a word looks like, by what std's searches in it say.
use Rattle.std.proofs.Common.{◌≡◌, ◌≢◌, ℕ, suc, ◌<◌, Bool, true, false, List, [], ◌∷◌, ◌++◌, length, get_or, refl, sym, ap, ◌∙◌, arith}
use Rattle.std.{proofs.lemmas.Bool.Decides.nat_tests, specs.Prelude.{Option, Some, None, ◌==◌, if◌then◌else◌, option_map, MatchOption}}
use Rattle.std.specs.Borrow.{Bor}
use Rattle.command_line.specs.Looks.{after_dash, before_byte, behind_byte}

-- a first `-` that was cut off, or isn't there
pub stripped : (word : List ℕ) (rest : Option (Bor (List ℕ)))
    → MatchOption rest ((behind : List ℕ) → word ≢ 45 ∷ behind) (λ r. word ≡ 45 ∷ r.now)
    → option_map (λ s. s.now) rest ≡ after_dash word
stripped word (Some rest) is = sym (ap after_dash is)
stripped [] None none = refl
stripped (c ∷ cs) None none = other (c == 45) refl
  where
    other : (is : Bool) → (c == 45) ≡ is → None ≡ after_dash (c ∷ cs)
    other false not = sym (ap (λ b. if b then Some cs else None) not)
    other true same =
        let dash : c ≡ 45 = grind (arith, nat_tests, same) in
        absurd (none cs (ap (λ d. d ∷ cs) dash))

-- no byte of a text is c
abbrev pub Lacks : ℕ → List ℕ → Type 0
Lacks c text = (i : ℕ) → i < length text → get_or text i 0 ≢ c

first : (c b : ℕ) (bs : List ℕ) → Lacks c (b ∷ bs) → (b == c) ≡ false
first c b bs lacks = let other : b ≢ c = lacks 0 (omega arith) in grind (arith, nat_tests, other)

behind : (c b : ℕ) (bs : List ℕ) → Lacks c (b ∷ bs) → Lacks c bs
behind c b bs lacks i inside = lacks (suc i) (omega arith)

same : (c : ℕ) → (c == c) ≡ true
same c = grind (arith, nat_tests)

-- what stands on both sides of a first c
pub before_at : (c : ℕ) (front back : List ℕ) → Lacks c front → before_byte c (front ++ c ∷ back) ≡ front
before_at c [] back lacks = ap (λ t. if t then [] else c ∷ before_byte c back) (same c)
before_at c (b ∷ bs) back lacks =
    ap (λ t. if t then [] else b ∷ before_byte c (bs ++ c ∷ back)) (first c b bs lacks)
    ∙ ap (λ d. b ∷ d) (before_at c bs back (behind c b bs lacks))

pub behind_at : (c : ℕ) (front back : List ℕ) → Lacks c front → behind_byte c (front ++ c ∷ back) ≡ Some back
behind_at c [] back lacks = ap (λ t. if t then Some back else behind_byte c back) (same c)
behind_at c (b ∷ bs) back lacks =
    ap (λ t. if t then Some (bs ++ c ∷ back) else behind_byte c (bs ++ c ∷ back)) (first c b bs lacks)
    ∙ behind_at c bs back (behind c b bs lacks)

-- a text without c
pub before_none : (c : ℕ) (text : List ℕ) → Lacks c text → before_byte c text ≡ text
before_none c [] lacks = refl
before_none c (b ∷ bs) lacks =
    ap (λ t. if t then [] else b ∷ before_byte c bs) (first c b bs lacks)
    ∙ ap (λ d. b ∷ d) (before_none c bs (behind c b bs lacks))

pub behind_none : (c : ℕ) (text : List ℕ) → Lacks c text → behind_byte c text ≡ None
behind_none c [] lacks = refl
behind_none c (b ∷ bs) lacks =
    ap (λ t. if t then Some bs else behind_byte c bs) (first c b bs lacks) ∙ behind_none c bs (behind c b bs lacks)
