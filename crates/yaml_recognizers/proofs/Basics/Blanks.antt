-- White at the start of a text, and what comes after it.
use Rattle.std.{proofs.Common.{◌≡◌, refl, inl, inr}, specs.Prelude.{ℕ, Bool, true, false, not, ◌||◌, List, [], ◌∷◌, ◌++◌}}
use Rattle.yaml_recognizers.proofs.Prelude.{and_parts, cases_Bool, false≢true, white, line_break, list_all, first}
use Rattle.yaml_recognizers.specs.{Prefixes.drop_while, Joins.at_break}

-- what is left does not begin with another such character
pub drop_while_first : (p : ℕ → Bool) (text : List ℕ) → first p (drop_while p text) ≡ false
drop_while_first p [] = refl
drop_while_first p (c ∷ cs) =
    elim (cases_Bool (p c)) [ inl e ↦ rw e (drop_while_first p cs) | inr e ↦ rw (e, e) ]

-- a character that is neither white nor a break is at the start
abbrev pub inked : List ℕ → Bool
inked text = first (λ c. not (white c || line_break c)) text

-- such a text starts with no whitespace
pub inked_no_white : (text : List ℕ) → inked text ≡ true → first white text ≡ false
inked_no_white [] h = absurd (false≢true h)
inked_no_white (c ∷ cs) h = both (white c) (line_break c) h
  where
    both : (w b : Bool) → not (w || b) ≡ true → w ≡ false
    both true b h = absurd (false≢true h)
    both false b h = refl

-- nor with a break
pub inked_no_break : (text : List ℕ) → inked text ≡ true → first line_break text ≡ false
inked_no_break [] h = absurd (false≢true h)
inked_no_break (c ∷ cs) h = both (white c) (line_break c) h
  where
    both : (w b : Bool) → not (w || b) ≡ true → b ≡ false
    both true b h = absurd (false≢true h)
    both false true h = absurd (false≢true h)
    both false false h = refl

-- after whitespace there is a break if there is one at once
pub white_at_break : (blank rest : List ℕ) → list_all white blank ≡ true → at_break (blank ++ rest) ≡ at_break rest
white_at_break [] rest h = refl
white_at_break (x ∷ xs) rest h = let p : (white x ≡ true) × (list_all white xs ≡ true) = and_parts _ _ h in
    rw p.0 (white_at_break xs rest p.1)

-- without whitespace at its start, a text is at a break if it starts with one
pub no_white_at_break : (text : List ℕ) → first white text ≡ false → at_break text ≡ first line_break text
no_white_at_break [] h = refl
no_white_at_break (c ∷ cs) h = rw h

-- such a text is not at a break
pub inked_not_at_break : (text : List ℕ) → inked text ≡ true → at_break text ≡ false
inked_not_at_break text h = rw (no_white_at_break text (inked_no_white text h)) (inked_no_break text h)
