-- The names of what a draft makes of configurations.
use Rattle.std.proofs.Common.{◌≡◌, ℕ, Bool, true, false, not, ◌||◌, if◌then◌else◌, List, [], ◌∷◌, ◌++◌, append-nil, append_assoc, String}
use Rattle.std.proofs.Common.{Global, map, length, refl, sym, ap, ◌∙◌, arith}
use Rattle.conf_state.proofs.{Prelude.{and_parts, same_text, Tree, same_text-true, same_text-self}, LimitLemmas.names_differ-cut}
use Rattle.conf_state.{proofs.LimitLemmas.other_way, specs.{Commands.text_of, Drafts.{cut_all, put_all}, States.{Entry, names_of}}}
use Rattle.conf_state.specs.States.{put_config, cut_config, has_name, names_differ}

-- the names that are not among others
abbrev pub outside : List (List ℕ) → List (List ℕ) → List (List ℕ)
outside others [] = []
outside others (n ∷ ns) = if has_name n others then outside others ns else n ∷ outside others ns

-- with one more name at the end, unless it is among others
abbrev pub added : List (List ℕ) → Bool → List ℕ → List (List ℕ)
added ns true n = ns
added ns false n = ns ++ n ∷ []

not_true : (b : Bool) → not b ≡ true → b ≡ false
not_true true e = cc
not_true false e = refl

-- a step over the names: those so far and those that are left stay the same
pub outside-step : (others so_far : List (List ℕ)) (n : List ℕ) (left : List (List ℕ)) (b : Bool) → has_name n others ≡ b
    → added so_far b n ++ outside others left ≡ so_far ++ outside others (n ∷ left)
outside-step others so_far n left true is = rw is refl
outside-step others so_far n left false is = rw is (append_assoc so_far (n ∷ []) (outside others left))

-- ---- removals

-- none of the names is among none
outside-none : (ns : List (List ℕ)) → outside [] ns ≡ ns
outside-none [] = refl
outside-none (n ∷ ns) = ap (λ xs. n ∷ xs) (outside-none ns)

-- where a name isn't, nothing is taken out
outside-absent : (n : List ℕ) (ns : List (List ℕ)) → has_name n ns ≡ false → outside (n ∷ []) ns ≡ ns
outside-absent n [] absent = refl
outside-absent n (m ∷ ns) absent = by (same_text n m) refl absent (outside-absent n ns)
  where
    by : (b : Bool) → same_text n m ≡ b → (b || has_name n ns) ≡ false → (has_name n ns ≡ false → outside (n ∷ []) ns ≡ ns)
        → outside (n ∷ []) (m ∷ ns) ≡ m ∷ ns
    by true same none rest = absurd (cc)
    by false same none rest = rw (other_way n m same) (ap (λ xs. m ∷ xs) (rest none))

same_text-turned : (n m : List ℕ) → same_text n m ≡ true → same_text m n ≡ true
same_text-turned n m same = ap (λ k. same_text k n) (sym (same_text-true n m same)) ∙ same_text-self n

-- without one configuration
names-cut : (es : List Entry) (n : List ℕ) → names_differ (names_of es) ≡ true
    → names_of (cut_config es n) ≡ outside (n ∷ []) (names_of es)
names-cut [] n differ = refl
names-cut (e ∷ es) n differ =
    let parts = and_parts (not (has_name e.0 (names_of es))) (names_differ (names_of es)) differ in
    by (same_text n e.0) refl (not_true (has_name e.0 (names_of es)) parts.0) (names-cut es n parts.1)
  where
    by : (b : Bool) → same_text n e.0 ≡ b → has_name e.0 (names_of es) ≡ false
        → names_of (cut_config es n) ≡ outside (n ∷ []) (names_of es)
        → names_of (cut_config (e ∷ es) n) ≡ outside (n ∷ []) (names_of (e ∷ es))
    by true same absent rest =
        let none = ap (λ k. has_name k (names_of es)) (same_text-true n e.0 same) ∙ absent in
        rw (same, same_text-turned n e.0 same) (sym (outside-absent n (names_of es) none))
    by false same absent rest = rw (same, other_way n e.0 same) (ap (λ xs. e.0 ∷ xs) rest)

outside-both : (n : List ℕ) (ns xs : List (List ℕ)) → outside ns (outside (n ∷ []) xs) ≡ outside (n ∷ ns) xs
outside-both n ns [] = refl
outside-both n ns (x ∷ xs) = by (same_text x n) refl (has_name x ns) refl (outside-both n ns xs)
  where
    by : (b : Bool) → same_text x n ≡ b → (d : Bool) → has_name x ns ≡ d → outside ns (outside (n ∷ []) xs) ≡ outside (n ∷ ns) xs
        → outside ns (outside (n ∷ []) (x ∷ xs)) ≡ outside (n ∷ ns) (x ∷ xs)
    by true same d is rest = rw same rest
    by false same true is rest = rw (same, is) rest
    by false same false is rest = rw (same, is) (ap (λ ys. x ∷ ys) rest)

-- without several
pub names-cut_all : (ns : List (List ℕ)) (es : List Entry) → names_differ (names_of es) ≡ true
    → names_of (cut_all es ns) ≡ outside ns (names_of es)
names-cut_all [] es differ = sym (outside-none (names_of es))
names-cut_all (n ∷ ns) es differ =
    names-cut_all ns (cut_config es n) (names_differ-cut es n differ)
    ∙ ap (outside ns) (names-cut es n differ) ∙ outside-both n ns (names_of es)

-- ---- puts

-- with one configuration
names-put : (es : List Entry) (n : List ℕ) (t : Tree) → names_of (put_config es n t) ≡ added (names_of es) (has_name n (names_of es)) n
names-put [] n t = refl
names-put (e ∷ es) n t = by (same_text n e.0) refl (has_name n (names_of es)) refl (names-put es n t)
  where
    by : (b : Bool) → same_text n e.0 ≡ b → (d : Bool) → has_name n (names_of es) ≡ d
        → names_of (put_config es n t) ≡ added (names_of es) (has_name n (names_of es)) n
        → names_of (put_config (e ∷ es) n t) ≡ added (names_of (e ∷ es)) (has_name n (names_of (e ∷ es))) n
    by true same d is rest = rw same refl
    by false same true is rest =
        let more : names_of (put_config es n t) ≡ names_of es = rest ∙ ap (λ b. added (names_of es) b n) is in
        rw (same, is) (ap (λ xs. e.0 ∷ xs) more)
    by false same false is rest =
        let more : names_of (put_config es n t) ≡ names_of es ++ n ∷ [] = rest ∙ ap (λ b. added (names_of es) b n) is in
        rw (same, is) (ap (λ xs. e.0 ∷ xs) more)

last-false : (b : Bool) → b ≡ false → (b || false) ≡ false
last-false true e = cc
last-false false e = refl

has_name-push : (m n : List ℕ) (xs : List (List ℕ)) → same_text m n ≡ false → has_name m (xs ++ n ∷ []) ≡ has_name m xs
has_name-push m n [] apart = last-false (same_text m n) apart
has_name-push m n (x ∷ xs) apart = ap (λ b. same_text m x || b) (has_name-push m n xs apart)

-- one more name that is not among the names takes none out
outside-push : (others : List (List ℕ)) (n : List ℕ) (ns : List (List ℕ)) → has_name n ns ≡ false
    → outside (others ++ n ∷ []) ns ≡ outside others ns
outside-push others n [] absent = refl
outside-push others n (m ∷ ns) absent = by (same_text n m) refl absent (outside-push others n ns)
  where
    by : (b : Bool) → same_text n m ≡ b → (b || has_name n ns) ≡ false
        → (has_name n ns ≡ false → outside (others ++ n ∷ []) ns ≡ outside others ns)
        → outside (others ++ n ∷ []) (m ∷ ns) ≡ outside others (m ∷ ns)
    by true same none rest = absurd (cc)
    by false same none rest =
        ap (λ b. if b then outside (others ++ n ∷ []) ns else m ∷ outside (others ++ n ∷ []) ns)
        (has_name-push m n others (other_way n m same))
        ∙ ap (λ xs. if has_name m others then xs else m ∷ xs) (rest none)

-- with several, in which no name comes twice
pub names-put_all : (ts es : List Entry) → names_differ (names_of ts) ≡ true
    → names_of (put_all es ts) ≡ names_of es ++ outside (names_of es) (names_of ts)
names-put_all [] es differ = sym (append-nil (names_of es))
names-put_all (p ∷ ts) es differ =
    let parts = and_parts (not (has_name p.0 (names_of ts))) (names_differ (names_of ts)) differ in
    names-put_all ts (put_config es p.0 p.1) parts.1
    ∙ ap (λ ns. ns ++ outside ns (names_of ts)) (names-put es p.0 p.1)
    ∙ by (has_name p.0 (names_of es)) refl (not_true (has_name p.0 (names_of ts)) parts.0)
  where
    by : (b : Bool) → has_name p.0 (names_of es) ≡ b → has_name p.0 (names_of ts) ≡ false
        → added (names_of es) (has_name p.0 (names_of es)) p.0
        ++ outside (added (names_of es) (has_name p.0 (names_of es)) p.0) (names_of ts)
        ≡ names_of es ++ outside (names_of es) (p.0 ∷ names_of ts)
    by true is absent = rw is refl
    by false is absent =
        ap (λ b. added (names_of es) b p.0 ++ outside (added (names_of es) b p.0) (names_of ts)) is
        ∙ ap (λ xs. (names_of es ++ p.0 ∷ []) ++ xs) (outside-push (names_of es) p.0 (names_of ts) absent)
        ∙ append_assoc (names_of es) (p.0 ∷ []) (outside (names_of es) (names_of ts))
        ∙ ap (λ b. names_of es ++ (if b then outside (names_of es) (names_of ts)
        else p.0 ∷ outside (names_of es) (names_of ts))) (sym is)

-- ---- strings

-- one string more
pub mapped-more : (xs : List (String Global)) (x : String Global) → map text_of (xs ++ x ∷ []) ≡ map text_of xs ++ text_of x ∷ []
mapped-more [] x = refl
mapped-more (y ∷ xs) x = ap (λ ns. text_of y ∷ ns) (mapped-more xs x)

-- nothing is left
pub nothing-left : {X : Type 0} (xs : List X) (n : ℕ) → length xs ≡ n → n ≡ 0 → xs ≡ []
nothing-left [] n is none = refl
nothing-left (x ∷ xs) n is none = absurd (omega (arith, is, none))
