-- Breaks: those that fit are read, and those that are read fit.
use Rattle.std.{proofs.Common.{ap, inl, inr, refl, subst, sym, ◌≡◌}, specs.Prelude.{Bool, List, None, Some, [], cond, false, if◌then◌else◌}}
use Rattle.std.specs.Prelude.{is_some, not, true, ℕ, ◌&&◌, ◌++◌, ◌==◌, ◌||◌, ◌∷◌}
use Rattle.yaml_recognizers.proofs.Prelude.{and_left, cases_Bool, cond_both, eqb-true, false≢true, not_from_false, line_break, Break}
use Rattle.yaml_recognizers.proofs.{Prelude.{break_fits, break_text, cr, cr_lf, lf, begins, first}, Basics.Reading.Sound}
use Rattle.yaml_recognizers.specs.Comments.{read_break, read_cr}

-- what doesn't begin with a line feed has another first character
no_feed : (d : ℕ) (ds : List ℕ) → not (begins (10 ∷ []) (d ∷ ds)) ≡ true → d == 10 ≡ false
no_feed d ds h = split (d == 10) h
  where
    split : (b : Bool) → not (b && true) ≡ true → b ≡ false
    split true h = absurd (false≢true h)
    split false h = refl

-- a break that fits is read
pub break_read : (b : Break) (after : List ℕ) → break_fits b after ≡ true → read_break (break_text b ++ after) ≡ Some (b, after)
break_read lf after h = refl
break_read cr [] h = refl
break_read cr (d ∷ ds) h = let e : d == 10 ≡ false = no_feed d ds h in rw e
break_read cr_lf after h = refl

-- a test that fails for LF and CR fails for the first character of a break
pub break_first : (p : ℕ → Bool) (b : Break) (after : List ℕ) → p 10 ≡ false → p 13 ≡ false → first p (break_text b ++ after) ≡ false
break_first p lf after f r = f
break_first p cr after f r = r
break_first p cr_lf after f r = r

-- a break starts with LF or CR
pub break_there : (b : Break) (after : List ℕ) → first line_break (break_text b ++ after) ≡ true
break_there lf after = refl
break_there cr after = refl
break_there cr_lf after = refl

-- if the text starts with neither LF nor CR, no break is read
pub unbroken : (text : List ℕ) → first line_break text ≡ false → read_break text ≡ None
unbroken [] h = refl
unbroken (x ∷ xs) h = neither (x == 10) (x == 13) h
  where
    neither : (f r : Bool) → f || r ≡ false → cond f (Some (lf, xs)) (cond r (Some (read_cr xs)) None) ≡ None
    neither true r h = absurd (false≢true (sym h))
    neither false true h = absurd (false≢true (sym h))
    neither false false h = refl

-- the break fits at the start of the text, before the rest
abbrev pub BreakOf : List ℕ → Break → List ℕ → Type 0
BreakOf text b rest = (text ≡ break_text b ++ rest) × (break_fits b rest ≡ true)

-- what is read after a CR fits
pub cr_sound : (cs : List ℕ) → BreakOf (13 ∷ cs) (read_cr cs).0 (read_cr cs).1
cr_sound [] = (refl, refl)
cr_sound (d ∷ ds) =
    cond_both (d == 10) (cr_lf, ds) (cr, d ∷ ds) (λ (r : Break × List ℕ). BreakOf (13 ∷ (d ∷ ds)) r.0 r.1)
    (λ e. (ap (λ x. 13 ∷ (x ∷ ds)) (eqb-true d 10 e), refl))
    (λ e. (refl, not_from_false _ (and_left _ _ e)))

-- a break that is read fits
pub break_sound : (text : List ℕ) → Sound (BreakOf text) (read_break text)
break_sound [] = tt
break_sound (c ∷ cs) =
    cond_both (c == 10) (Some (lf, cs)) (if c == 13 then Some (read_cr cs) else None) (Sound (BreakOf (c ∷ cs)))
    (λ e. (ap (λ x. x ∷ cs) (eqb-true c 10 e), refl))
    (λ _. cond_both (c == 13) (Some (read_cr cs)) None (Sound (BreakOf (c ∷ cs)))
    (λ e. subst (λ (x : ℕ). BreakOf (x ∷ cs) (read_cr cs).0 (read_cr cs).1) (sym (eqb-true c 13 e)) (cr_sound cs))
    (λ _. tt))

-- a break is read exactly if the text starts with LF or CR
pub break_some : (text : List ℕ) → is_some (read_break text) ≡ first line_break text
break_some [] = refl
break_some (c ∷ cs) = elim (cases_Bool (c == 10)) [
  | inl e ↦ rw e
  | inr e ↦ elim (cases_Bool (c == 13)) [ inl i ↦ rw (e, i) | inr i ↦ rw (e, i) ]
]
