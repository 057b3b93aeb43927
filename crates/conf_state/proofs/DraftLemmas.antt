-- Configurations that are removed and put in one after the other.
use Rattle.std.proofs.Common.{◌≡◌, ℕ, Bool, true, false, not, ◌||◌, if◌then◌else◌, List, [], ◌∷◌, ◌++◌, Some, None, is_some, refl, sym, ap}
use Rattle.std.proofs.Common.{◌∙◌}
use Rattle.conf_state.proofs.{Prelude.{and_parts, and_from, same_text, Tree, same_text-true, same_text-self}, LimitLemmas.names_differ-cut}
use Rattle.conf_state.{proofs.{LimitLemmas.other_way, PlaceLemmas.is_none}, specs.{Drafts.{cut_all, put_all}, States.{Entry, names_of}}}
use Rattle.conf_state.specs.States.{config_named, put_config, cut_config, has_name, names_differ}

-- ---- names

-- a name is among those of the configurations if it has one
pub has_name-named : (es : List Entry) (n : List ℕ) → has_name n (names_of es) ≡ is_some (config_named es n)
has_name-named [] n = refl
has_name-named (e ∷ es) n = by (same_text n e.0) (has_name-named es n)
  where
    by : (b : Bool) → has_name n (names_of es) ≡ is_some (config_named es n)
        → (b || has_name n (names_of es)) ≡ is_some (if b then Some e.1 else config_named es n)
    by true rest = refl
    by false rest = rest

not_true : (b : Bool) → not b ≡ true → b ≡ false
not_true true e = cc
not_true false e = refl

-- where no name comes twice, no other configuration has the name of the first
named-alone : (e : Entry) (es : List Entry) (n : List ℕ) → names_differ (names_of (e ∷ es)) ≡ true
    → same_text n e.0 ≡ true → config_named es n ≡ None
named-alone e es n differ same =
    let parts = and_parts (not (has_name e.0 (names_of es))) (names_differ (names_of es)) differ in
    is_none (config_named es n)
    (sym (has_name-named es n) ∙ ap (λ m. has_name m (names_of es)) (same_text-true n e.0 same)
    ∙ not_true (has_name e.0 (names_of es)) parts.0)

others-differ : (e : Entry) (es : List Entry) → names_differ (names_of (e ∷ es)) ≡ true → names_differ (names_of es) ≡ true
others-differ e es differ = (and_parts (not (has_name e.0 (names_of es))) (names_differ (names_of es)) differ).1

-- one more name that differs from the others
pub names_differ-push : (ns : List (List ℕ)) (n : List ℕ) → names_differ ns ≡ true → has_name n ns ≡ false
    → names_differ (ns ++ n ∷ []) ≡ true
names_differ-push [] n differ other = refl
names_differ-push (m ∷ ns) n differ other = by (same_text n m) refl (names_differ-push ns n parts.1)
  where
    parts : (not (has_name m ns) ≡ true) × (names_differ ns ≡ true)
    parts = and_parts (not (has_name m ns)) (names_differ ns) differ

    last : (b : Bool) → b ≡ false → (b || false) ≡ false
    last b e = e_false b e
      where
        e_false : (b : Bool) → b ≡ false → (b || false) ≡ false
        e_false true e = cc
        e_false false e = refl

    has_name-push : (xs : List (List ℕ)) → same_text m n ≡ false → has_name m (xs ++ n ∷ []) ≡ has_name m xs
    has_name-push [] apart = last (same_text m n) apart
    has_name-push (x ∷ xs) apart = ap (λ b. same_text m x || b) (has_name-push xs apart)

    by : (b : Bool) → same_text n m ≡ b → (has_name n ns ≡ false → names_differ (ns ++ n ∷ []) ≡ true)
        → names_differ (m ∷ (ns ++ n ∷ [])) ≡ true
    by true same rest = let found = rw same at other in absurd (cc)
    by false same rest =
        let others = rw same at other in
        let apart = has_name-push ns (other_way n m same) in
        and_from (not (has_name m (ns ++ n ∷ []))) (names_differ (ns ++ n ∷ [])) (ap not apart ∙ parts.0) (rest others)

-- ---- one put

-- it changes nothing under another name
pub named-put-other : (es : List Entry) (n m : List ℕ) (u : Tree) → same_text n m ≡ false
    → config_named (put_config es m u) n ≡ config_named es n
named-put-other [] n m u differ = rw differ refl
named-put-other (e ∷ es) n m u differ = by (same_text m e.0) refl (named-put-other es n m u differ)
  where
    by : (b : Bool) → same_text m e.0 ≡ b → config_named (put_config es m u) n ≡ config_named es n
        → config_named (put_config (e ∷ es) m u) n ≡ config_named (e ∷ es) n
    by true same rest =
        let other : same_text n e.0 ≡ false = ap (same_text n) (sym (same_text-true m e.0 same)) ∙ differ in
        rw (same, other) refl
    by false same rest = rw same (ap (λ o. if same_text n e.0 then Some e.1 else o) rest)

-- it is found under its name
pub named-put-same : (es : List Entry) (n : List ℕ) (t : Tree) → config_named (put_config es n t) n ≡ Some t
named-put-same [] n t = rw (same_text-self n) refl
named-put-same (e ∷ es) n t = by (same_text n e.0) refl (named-put-same es n t)
  where
    by : (b : Bool) → same_text n e.0 ≡ b → config_named (put_config es n t) n ≡ Some t → config_named (put_config (e ∷ es) n t) n ≡ Some t
    by true same rest = rw same (rw same refl)
    by false same rest = rw same (rw same rest)

both_named : (n m k : List ℕ) → same_text n m ≡ false → same_text n k ≡ true → same_text m k ≡ true → ⊥
both_named n m k differ first second =
    let same = ap (same_text n) (same_text-true m k second) ∙ first in
    cc

-- two puts of different names, the first of which is there
put-put-other : (es : List Entry) (n m : List ℕ) (t u : Tree) → same_text n m ≡ false → is_some (config_named es n) ≡ true
    → put_config (put_config es m u) n t ≡ put_config (put_config es n t) m u
put-put-other [] n m t u differ there = cc
put-put-other (e ∷ es) n m t u differ there = by (same_text n e.0) refl (same_text m e.0) refl (put-put-other es n m t u differ)
  where
    by : (b : Bool) → same_text n e.0 ≡ b → (d : Bool) → same_text m e.0 ≡ d
        → (is_some (config_named es n) ≡ true → put_config (put_config es m u) n t ≡ put_config (put_config es n t) m u)
        → put_config (put_config (e ∷ es) m u) n t ≡ put_config (put_config (e ∷ es) n t) m u
    by true first true second rest = absurd (both_named n m e.0 differ first second)
    by true first false second rest = rw (first, second) (rw first refl)
    by false first true second rest = rw (first, second) (rw first refl)
    by false first false second rest =
        let more = rw first at there in
        rw (first, second) (rw first (ap (λ xs. e ∷ xs) (rest more)))

-- two puts under one name
pub put-put-same : (es : List Entry) (n : List ℕ) (t u : Tree) → put_config (put_config es n u) n t ≡ put_config es n t
put-put-same [] n t u = rw (same_text-self n) refl
put-put-same (e ∷ es) n t u = by (same_text n e.0) refl (put-put-same es n t u)
  where
    by : (b : Bool) → same_text n e.0 ≡ b → put_config (put_config es n u) n t ≡ put_config es n t
        → put_config (put_config (e ∷ es) n u) n t ≡ put_config (e ∷ es) n t
    by true same rest = rw same (rw same refl)
    by false same rest = rw same (rw same (ap (λ xs. e ∷ xs) rest))

-- ---- one removal

-- it changes nothing under another name
pub named-cut-other : (es : List Entry) (n m : List ℕ) → same_text n m ≡ false → config_named (cut_config es m) n ≡ config_named es n
named-cut-other [] n m differ = refl
named-cut-other (e ∷ es) n m differ = by (same_text m e.0) refl (named-cut-other es n m differ)
  where
    by : (b : Bool) → same_text m e.0 ≡ b → config_named (cut_config es m) n ≡ config_named es n
        → config_named (cut_config (e ∷ es) m) n ≡ config_named (e ∷ es) n
    by true same rest =
        let other : same_text n e.0 ≡ false = ap (same_text n) (sym (same_text-true m e.0 same)) ∙ differ in
        rw (same, other) refl
    by false same rest = rw same (ap (λ o. if same_text n e.0 then Some e.1 else o) rest)

-- where no name comes twice, the name is gone
named-cut-same : (es : List Entry) (n : List ℕ) → names_differ (names_of es) ≡ true → config_named (cut_config es n) n ≡ None
named-cut-same [] n differ = refl
named-cut-same (e ∷ es) n differ = by (same_text n e.0) refl (named-cut-same es n (others-differ e es differ))
  where
    by : (b : Bool) → same_text n e.0 ≡ b → config_named (cut_config es n) n ≡ None → config_named (cut_config (e ∷ es) n) n ≡ None
    by true same rest = rw same (named-alone e es n differ same)
    by false same rest = rw same (rw same rest)

-- a name that isn't there doesn't come
named-cut-none : (es : List Entry) (n m : List ℕ) → config_named es n ≡ None → config_named (cut_config es m) n ≡ None
named-cut-none [] n m none = refl
named-cut-none (e ∷ es) n m none = by (same_text n e.0) refl (same_text m e.0) refl (named-cut-none es n m)
  where
    by : (b : Bool) → same_text n e.0 ≡ b → (d : Bool) → same_text m e.0 ≡ d
        → (config_named es n ≡ None → config_named (cut_config es m) n ≡ None) → config_named (cut_config (e ∷ es) m) n ≡ None
    by true first d second rest = let found = rw first at none in absurd (cc)
    by false first true second rest = let more = rw first at none in rw second more
    by false first false second rest = let more = rw first at none in rw second (rw first (rest more))

-- a name that isn't there is not removed
pub cut-none : (es : List Entry) (n : List ℕ) → config_named es n ≡ None → cut_config es n ≡ es
cut-none [] n none = refl
cut-none (e ∷ es) n none = by (same_text n e.0) none (cut-none es n)
  where
    by : (b : Bool) → (if b then Some e.1 else config_named es n) ≡ None → (config_named es n ≡ None → cut_config es n ≡ es)
        → (if b then es else e ∷ cut_config es n) ≡ e ∷ es
    by true found rest = absurd (cc)
    by false found rest = ap (λ xs. e ∷ xs) (rest found)

-- a put and a removal of different names
cut-put-other : (es : List Entry) (n m : List ℕ) (u : Tree) → same_text n m ≡ false
    → cut_config (put_config es m u) n ≡ put_config (cut_config es n) m u
cut-put-other [] n m u differ = rw differ refl
cut-put-other (e ∷ es) n m u differ = by (same_text n e.0) refl (same_text m e.0) refl (cut-put-other es n m u differ)
  where
    by : (b : Bool) → same_text n e.0 ≡ b → (d : Bool) → same_text m e.0 ≡ d
        → cut_config (put_config es m u) n ≡ put_config (cut_config es n) m u
        → cut_config (put_config (e ∷ es) m u) n ≡ put_config (cut_config (e ∷ es) n) m u
    by true first true second rest = absurd (both_named n m e.0 differ first second)
    by true first false second rest = rw (first, second) (rw first refl)
    by false first true second rest = rw (first, second) (rw first refl)
    by false first false second rest = rw (first, second) (rw first (ap (λ xs. e ∷ xs) rest))

-- a put and a removal of one name
cut-put-same : (es : List Entry) (n : List ℕ) (u : Tree) → cut_config (put_config es n u) n ≡ cut_config es n
cut-put-same [] n u = rw (same_text-self n) refl
cut-put-same (e ∷ es) n u = by (same_text n e.0) refl (cut-put-same es n u)
  where
    by : (b : Bool) → same_text n e.0 ≡ b → cut_config (put_config es n u) n ≡ cut_config es n
        → cut_config (put_config (e ∷ es) n u) n ≡ cut_config (e ∷ es) n
    by true same rest = rw same (rw same refl)
    by false same rest = rw same (rw same (ap (λ xs. e ∷ xs) rest))

-- ---- several puts

-- a put of a name that is there, and not among them, may come first
put-before : (ts es : List Entry) (n : List ℕ) (t : Tree) → config_named ts n ≡ None → is_some (config_named es n) ≡ true
    → put_config (put_all es ts) n t ≡ put_all (put_config es n t) ts
put-before [] es n t none there = refl
put-before (p ∷ ts) es n t none there = by (same_text n p.0) refl (put-before ts (put_config es p.0 p.1) n t)
  where
    by : (b : Bool) → same_text n p.0 ≡ b
        → (config_named ts n ≡ None → is_some (config_named (put_config es p.0 p.1) n) ≡ true
        → put_config (put_all (put_config es p.0 p.1) ts) n t ≡ put_all (put_config (put_config es p.0 p.1) n t) ts)
        → put_config (put_all (put_config es p.0 p.1) ts) n t ≡ put_all (put_config (put_config es n t) p.0 p.1) ts
    by true same rest = let found = rw same at none in absurd (cc)
    by false same rest =
        let others = rw same at none in
        rest others (ap is_some (named-put-other es n p.0 p.1 same) ∙ there)
        ∙ ap (λ xs. put_all xs ts) (put-put-other es n p.0 t p.1 same there)

-- a put among them is one after them
pub put_all-put : (ts es : List Entry) (n : List ℕ) (t : Tree) → names_differ (names_of ts) ≡ true
    → put_all es (put_config ts n t) ≡ put_config (put_all es ts) n t
put_all-put [] es n t differ = refl
put_all-put (p ∷ ts) es n t differ = by (same_text n p.0) refl (put_all-put ts (put_config es p.0 p.1) n t (others-differ p ts differ))
  where
    by : (b : Bool) → same_text n p.0 ≡ b
        → put_all (put_config es p.0 p.1) (put_config ts n t) ≡ put_config (put_all (put_config es p.0 p.1) ts) n t
        → put_all es (put_config (p ∷ ts) n t) ≡ put_config (put_all (put_config es p.0 p.1) ts) n t
    by true same rest =
        let named = same_text-true n p.0 same in
        let there : is_some (config_named (put_config es p.0 p.1) n) ≡ true =
        ap (λ k. is_some (config_named (put_config es p.0 p.1) k)) named ∙ ap is_some (named-put-same es p.0 p.1) in
        let last : put_config (put_config es p.0 p.1) n t ≡ put_config es p.0 t =
        ap (λ k. put_config (put_config es p.0 p.1) k t) named ∙ put-put-same es p.0 t p.1 in
        rw same (sym (put-before ts (put_config es p.0 p.1) n t (named-alone p ts n differ same) there ∙ ap (λ xs. put_all xs ts) last))
    by false same rest = rw same rest

-- a removal of a name that is not among them may come first
cut-before : (ts es : List Entry) (n : List ℕ) → config_named ts n ≡ None → cut_config (put_all es ts) n ≡ put_all (cut_config es n) ts
cut-before [] es n none = refl
cut-before (p ∷ ts) es n none = by (same_text n p.0) refl (cut-before ts (put_config es p.0 p.1) n)
  where
    by : (b : Bool) → same_text n p.0 ≡ b
        → (config_named ts n ≡ None → cut_config (put_all (put_config es p.0 p.1) ts) n ≡ put_all (cut_config (put_config es p.0 p.1) n) ts)
        → cut_config (put_all (put_config es p.0 p.1) ts) n ≡ put_all (put_config (cut_config es n) p.0 p.1) ts
    by true same rest = let found = rw same at none in absurd (cc)
    by false same rest =
        let others = rw same at none in
        rest others ∙ ap (λ xs. put_all xs ts) (cut-put-other es n p.0 p.1 same)

-- a removal after them is one before them and one among them
pub cut-put_all : (ts es : List Entry) (n : List ℕ) → names_differ (names_of ts) ≡ true
    → cut_config (put_all es ts) n ≡ put_all (cut_config es n) (cut_config ts n)
cut-put_all [] es n differ = refl
cut-put_all (p ∷ ts) es n differ = by (same_text n p.0) refl (cut-put_all ts (put_config es p.0 p.1) n (others-differ p ts differ))
  where
    by : (b : Bool) → same_text n p.0 ≡ b
        → cut_config (put_all (put_config es p.0 p.1) ts) n ≡ put_all (cut_config (put_config es p.0 p.1) n) (cut_config ts n)
        → cut_config (put_all (put_config es p.0 p.1) ts) n ≡ put_all (cut_config es n) (cut_config (p ∷ ts) n)
    by true same rest =
        let first : cut_config (put_config es p.0 p.1) n ≡ cut_config es n =
        ap (λ k. cut_config (put_config es k p.1) n) (sym (same_text-true n p.0 same)) ∙ cut-put-same es n p.1 in
        rw same (cut-before ts (put_config es p.0 p.1) n (named-alone p ts n differ same) ∙ ap (λ xs. put_all xs ts) first)
    by false same rest = rw same (rest ∙ ap (λ xs. put_all xs (cut_config ts n)) (cut-put-other es n p.0 p.1 same))

-- what is not among them is found as before them
pub named-put_all-none : (ts es : List Entry) (n : List ℕ) → config_named ts n ≡ None → config_named (put_all es ts) n ≡ config_named es n
named-put_all-none [] es n none = refl
named-put_all-none (p ∷ ts) es n none = by (same_text n p.0) refl (named-put_all-none ts (put_config es p.0 p.1) n)
  where
    by : (b : Bool) → same_text n p.0 ≡ b
        → (config_named ts n ≡ None → config_named (put_all (put_config es p.0 p.1) ts) n ≡ config_named (put_config es p.0 p.1) n)
        → config_named (put_all (put_config es p.0 p.1) ts) n ≡ config_named es n
    by true same rest = let found = rw same at none in absurd (cc)
    by false same rest =
        let others = rw same at none in
        rest others ∙ named-put-other es n p.0 p.1 same

-- what is among them is found
pub named-put_all-some : (ts es : List Entry) (n : List ℕ) (t : Tree) → names_differ (names_of ts) ≡ true → config_named ts n ≡ Some t
    → config_named (put_all es ts) n ≡ Some t
named-put_all-some [] es n t differ some = cc
named-put_all-some (p ∷ ts) es n t differ some =
    by (same_text n p.0) refl (named-put_all-some ts (put_config es p.0 p.1) n t (others-differ p ts differ))
  where
    by : (b : Bool) → same_text n p.0 ≡ b → (config_named ts n ≡ Some t → config_named (put_all (put_config es p.0 p.1) ts) n ≡ Some t)
        → config_named (put_all (put_config es p.0 p.1) ts) n ≡ Some t
    by true same rest =
        let found = rw same at some in
        named-put_all-none ts (put_config es p.0 p.1) n (named-alone p ts n differ same)
        ∙ ap (config_named (put_config es p.0 p.1)) (same_text-true n p.0 same) ∙ named-put-same es p.0 p.1 ∙ found
    by false same rest =
        let others = rw same at some in
        rest others

-- ---- several removals

-- one more
pub cut_all-append : (ns : List (List ℕ)) (es : List Entry) (m : List ℕ) → cut_all es (ns ++ m ∷ []) ≡ cut_config (cut_all es ns) m
cut_all-append [] es m = refl
cut_all-append (n ∷ ns) es m = cut_all-append ns (cut_config es n) m

-- a name that is not among them is found as before
pub named-cut_all-other : (ns : List (List ℕ)) (es : List Entry) (n : List ℕ) → has_name n ns ≡ false
    → config_named (cut_all es ns) n ≡ config_named es n
named-cut_all-other [] es n other = refl
named-cut_all-other (m ∷ ns) es n other = by (same_text n m) refl (named-cut_all-other ns (cut_config es m) n)
  where
    by : (b : Bool) → same_text n m ≡ b → (has_name n ns ≡ false
        → config_named (cut_all (cut_config es m) ns) n ≡ config_named (cut_config es m) n)
        → config_named (cut_all (cut_config es m) ns) n ≡ config_named es n
    by true same rest = let found = rw same at other in absurd (cc)
    by false same rest =
        let others = rw same at other in
        rest others ∙ named-cut-other es n m same

named-cut_all-none : (ns : List (List ℕ)) (es : List Entry) (n : List ℕ) → config_named es n ≡ None → config_named (cut_all es ns) n ≡ None
named-cut_all-none [] es n none = none
named-cut_all-none (m ∷ ns) es n none = named-cut_all-none ns (cut_config es m) n (named-cut-none es n m none)

-- where no name comes twice, those among them are gone
pub named-cut_all-gone : (ns : List (List ℕ)) (es : List Entry) (n : List ℕ) → has_name n ns ≡ true → names_differ (names_of es) ≡ true
    → config_named (cut_all es ns) n ≡ None
named-cut_all-gone [] es n among differ = cc
named-cut_all-gone (m ∷ ns) es n among differ =
    by (same_text n m) refl (λ others. named-cut_all-gone ns (cut_config es m) n others (names_differ-cut es m differ))
  where
    by : (b : Bool) → same_text n m ≡ b → (has_name n ns ≡ true → config_named (cut_all (cut_config es m) ns) n ≡ None)
        → config_named (cut_all (cut_config es m) ns) n ≡ None
    by true same rest =
        named-cut_all-none ns (cut_config es m) n
        (ap (λ k. config_named (cut_config es k) n) (sym (same_text-true n m same)) ∙ named-cut-same es n differ)
    by false same rest =
        let others = rw same at among in
        rest others
