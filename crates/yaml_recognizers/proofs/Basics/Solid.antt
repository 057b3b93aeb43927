-- What isn't white, a break or a comment's `#`; and the signs `-`, `?` and `:` of block nodes.
use Rattle.std.{proofs.Common.{ap, inl, inr, refl, subst, sym, ◌∙◌, ◌≡◌, ◌⊎◌}, specs.Prelude.{List, [], false, not, suc, true, zero, ℕ}}
use Rattle.std.specs.Prelude.{◌++◌, ◌==◌, ◌||◌, ◌∷◌}
use Rattle.yaml_recognizers.proofs.Prelude.{and_left, and_parts, and_right, cases_Bool, cases_eq, eqb-true, false≢true, ne_eqb, not-true}
use Rattle.yaml_recognizers.proofs.Prelude.{not_from_false, not_from_true, or_from, or_left, or_parts, line_break, nb, ns, printable, space}
use Rattle.yaml_recognizers.proofs.{Prelude.{white, past_spaces, list_all, first, is_empty, marker, spaces}, Basics.Prefixes.spaces_passed}
use Rattle.yaml_recognizers.specs.{Ends.solid, Prefixes.{drop_while, past, sign, take_while}}

-- a solid character is no whitespace, no break and no `#`
pub solid_parts : (x : ℕ) → solid x ≡ true → (white x ≡ false) × (x == 10 ≡ false) × (x == 13 ≡ false) × (x == 35 ≡ false)
solid_parts x h =
    let p : (white x || line_break x ≡ false) × (x == 35 ≡ false) = or_parts _ _ (not-true _ h) in
    let q : (white x ≡ false) × (line_break x ≡ false) = or_parts _ _ p.0 in
    let r : (x == 10 ≡ false) × (x == 13 ≡ false) = or_parts _ _ q.1 in
    (q.0, r.0, r.1, p.1)

-- a text that starts with a solid character starts with no whitespace
pub solid_not_white : (after : List ℕ) → first solid after ≡ true → first white after ≡ false
solid_not_white [] f = refl
solid_not_white (x ∷ xs) f = (solid_parts x f).0

-- so no whitespace is taken from it
pub solid_untaken : (after : List ℕ) → first solid after ≡ true → take_while white after ≡ []
solid_untaken [] f = refl
solid_untaken (x ∷ xs) f = rw ((solid_parts x f).0)

-- and nothing is dropped
pub solid_undropped : (after : List ℕ) → first solid after ≡ true → drop_while white after ≡ after
solid_undropped [] f = refl
solid_undropped (x ∷ xs) f = rw ((solid_parts x f).0)

-- an ns other than `#` is solid
pub plain_solid : (x : ℕ) → ns x ≡ true → x == 35 ≡ false → solid x ≡ true
plain_solid x h f =
    let p : (nb x ≡ true) × (not (white x) ≡ true) = and_parts _ _ h in
    let q : (printable x ≡ true) × (not (line_break x || (x == 0xfeff)) ≡ true) = and_parts _ _ p.0 in
    not_from_false _ (or_from _ _ (or_from _ _ (not-true _ p.1) (or_parts _ _ (not-true _ q.1)).0) f)

-- a solid character is no space
pub solid_space : (text : List ℕ) → first solid text ≡ true → first space text ≡ false
solid_space [] h = refl
solid_space (c ∷ cs) h = (or_parts (c == 32) (c == 9) (solid_parts c h).0).0

-- whitespace is not solid
pub white_unsolid : (c : ℕ) → white c ≡ true → solid c ≡ false
white_unsolid c h = not_from_true _ (or_left _ _ (or_left _ _ h))

-- no ns, where no comment may be at once
pub white_no_ns : (c : ℕ) → white c ≡ true → ns c ≡ false
white_no_ns c h = and_right _ _ (not_from_true _ h)

-- white before something solid is spaces, or has a tab
pub lead_past : (lead rest : List ℕ) → list_all white lead ≡ true → first solid rest ≡ true
    → (past_spaces (lead ++ rest) ≡ rest) ⊎ (first solid (past_spaces (lead ++ rest)) ≡ false)
lead_past [] rest w h = inl (spaces_passed 0 rest (solid_space rest h))
lead_past (c ∷ cs) rest w h = elim (cases_Bool (c == 32)) [
  | inl e ↦ rw e (lead_past cs rest (and_parts _ _ w).1 h)
  | inr e ↦ rw e (inr (white_unsolid c (and_parts _ _ w).0))
]

-- a text with a solid character isn't empty
pub solid_some : (k : ℕ) (rest : List ℕ) → first solid rest ≡ true → is_empty (spaces k ++ rest) ≡ false
solid_some zero [] h = absurd (false≢true h)
solid_some zero (c ∷ cs) h = refl
solid_some (suc k) rest h = refl

-- ---- signs

-- a sign is solid
pub sign_solid : (x : ℕ) (text : List ℕ) → solid x ≡ true → sign x text ≡ true → first solid text ≡ true
sign_solid x [] s h = absurd (false≢true h)
sign_solid x (c ∷ cs) s h = ap solid (eqb-true c x (and_parts _ _ h).0) ∙ s

-- where nothing solid comes first, there is no sign
pub unsolid_sign : (x : ℕ) (text : List ℕ) → solid x ≡ true → first solid text ≡ false → sign x text ≡ false
unsolid_sign x [] k h = refl
unsolid_sign x (c ∷ cs) k h = elim (cases_eq c x) [
  | inl e ↦ absurd (false≢true (sym h ∙ (ap solid e ∙ k)))
  | inr n ↦ and_left _ _ (ne_eqb c x n)
]

-- `-` is solid
pub dash_solid : (text : List ℕ) → sign 45 text ≡ true → first solid text ≡ true
dash_solid text h = sign_solid 45 text refl h

-- a text that starts with a sign is that sign and the rest, with no ns after the sign
pub head_of : (k : ℕ) (text : List ℕ) → sign k text ≡ true → (text ≡ k ∷ past text) × (first ns (past text) ≡ false)
head_of k [] h = absurd (false≢true h)
head_of k (c ∷ cs) h =
    let p : (c == k ≡ true) × (not (first ns cs) ≡ true) = and_parts _ _ h in
    (ap (λ x. x ∷ cs) (eqb-true c k p.0), not-true _ p.1)

-- ---- what is no marker

-- a marker starts with `-` or `.`
pub marker_first : (c : ℕ) (cs : List ℕ) → c == 45 ≡ false → c == 46 ≡ false → marker (c ∷ cs) ≡ false
marker_first c [] e f = refl
marker_first c (b ∷ []) e f = refl
marker_first c (b ∷ (d ∷ rest)) e f = rw (e, f)

-- a dash before no ns starts no marker
marker_dash : (cs : List ℕ) → first ns cs ≡ false → marker (45 ∷ cs) ≡ false
marker_dash [] h = refl
marker_dash (b ∷ []) h = refl
marker_dash (b ∷ (d ∷ rest)) h = elim (cases_eq b 45) [
  | inl e ↦ absurd (false≢true (sym h ∙ ap ns e))
  | inr n ↦ rw (ne_eqb b 45 n)
]

-- the same as `head_of`, with the rest named
pub sign_head : (x : ℕ) (text : List ℕ) → sign x text ≡ true → (cs : List ℕ) × (text ≡ x ∷ cs) × (first ns cs ≡ false)
sign_head x [] h = absurd (false≢true h)
sign_head x (c ∷ cs) h =
    let p : (c == x ≡ true) × (not (first ns cs) ≡ true) = and_parts _ _ h in
    (cs, ap (λ y. y ∷ cs) (eqb-true c x p.0), not-true _ p.1)

-- `-` before no ns is no marker
pub dash_unmarked : (text : List ℕ) → sign 45 text ≡ true → marker text ≡ false
dash_unmarked text h = let p = sign_head 45 text h in subst (λ (t : List ℕ). marker t ≡ false) (sym p.1) (marker_dash p.0 p.2)

-- nor is `:`
pub colon_unmarked : (text : List ℕ) → sign 58 text ≡ true → marker text ≡ false
colon_unmarked text h = let p = sign_head 58 text h in subst (λ (t : List ℕ). marker t ≡ false) (sym p.1) (marker_first 58 p.0 refl refl)
