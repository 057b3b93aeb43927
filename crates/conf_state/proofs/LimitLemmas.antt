-- What putting in and taking out a configuration does to lengths and names, and that the limits of a state stay kept.
use Rattle.std.proofs.Common.{◌≡◌, ℕ, ◌+◌, Bool, true, false, not, if◌then◌else◌, List, [], ◌∷◌, Some, None, refl, ap, ◌∙◌, arith}
use Rattle.conf_state.proofs.Prelude.{and_parts, false_from_ne_true, same_text, Tree, Good, same_text-true, same_text-self, config_limits}
use Rattle.conf_state.specs.{Names.good_name, BaseTexts.entry_length, BaseTexts.entries_length, Limits.AreConfigs}
use Rattle.conf_state.specs.States.{Entry, names_of, config_named, put_config, cut_config, has_name, names_differ}

-- ---- lengths

-- the bytes of all configurations are those of one and those of the others
pub entries_length-found : (es : List Entry) (name : List ℕ) (t : Tree) → config_named es name ≡ Some t
    → entry_length name t + entries_length (cut_config es name) ≡ entries_length es
entries_length-found [] name t is = cc
entries_length-found (e ∷ es) name t is = by (same_text name e.0) refl (entries_length-found es name t)
  where
    by : (b : Bool) → same_text name e.0 ≡ b → (config_named es name ≡ Some t
        → entry_length name t + entries_length (cut_config es name) ≡ entries_length es)
        → entry_length name t + entries_length (cut_config (e ∷ es) name) ≡ entries_length (e ∷ es)
    by true same rest =
        let found = rw same at is in
        let named = same_text-true name e.0 same in
        let here : entry_length name t ≡ entry_length e.0 e.1 = cc in
        rw same (omega (arith, here))
    by false same rest =
        let found = rw same at is in
        rw same (omega (arith, rest found))

-- taking out a name that is not there changes no length
pub entries_length-absent : (es : List Entry) (name : List ℕ) → config_named es name ≡ None
    → entries_length (cut_config es name) ≡ entries_length es
entries_length-absent [] name is = refl
entries_length-absent (e ∷ es) name is = by (same_text name e.0) refl (entries_length-absent es name)
  where
    by : (b : Bool) → same_text name e.0 ≡ b → (config_named es name ≡ None → entries_length (cut_config es name) ≡ entries_length es)
        → entries_length (cut_config (e ∷ es) name) ≡ entries_length (e ∷ es)
    by true same rest = let found = rw same at is in cc
    by false same rest =
        let absent = rw same at is in
        rw same (omega (arith, rest absent))

-- the bytes after a put are those of the other configurations and of the new one
pub entries_length-put : (es : List Entry) (name : List ℕ) (t : Tree)
    → entries_length (put_config es name t) ≡ entries_length (cut_config es name) + entry_length name t
entries_length-put [] name t = omega arith
entries_length-put (e ∷ es) name t = by (same_text name e.0) refl (entries_length-put es name t)
  where
    by : (b : Bool) → same_text name e.0 ≡ b → entries_length (put_config es name t)
        ≡ entries_length (cut_config es name) + entry_length name t
        → entries_length (put_config (e ∷ es) name t) ≡ entries_length (cut_config (e ∷ es) name) + entry_length name t
    by true same rest =
        let here = ap (λ n. entry_length n t) (same_text-true name e.0 same) in
        rw same (omega (arith, here))
    by false same rest = rw same (omega (arith, rest))

-- ---- names

pub other_way : (a b : List ℕ) → same_text a b ≡ false → same_text b a ≡ false
other_way a b differ = false_from_ne_true (same_text b a) (λ same. by (same_text-true b a same))
  where
    by : b ≡ a → ⊥
    by e = let self = ap (same_text a) e ∙ same_text-self a in cc

no_name : (name : List ℕ) (names : List (List ℕ)) → not (has_name name names) ≡ true → has_name name names ≡ false
no_name name names h = by (has_name name names) h
  where
    by : (b : Bool) → not b ≡ true → b ≡ false
    by true e = cc
    by false e = refl

has_name-put : (es : List Entry) (name other : List ℕ) (t : Tree) → same_text other name ≡ false → has_name other (names_of es) ≡ false
    → has_name other (names_of (put_config es name t)) ≡ false
has_name-put [] name other t differ absent = rw differ refl
has_name-put (e ∷ es) name other t differ absent =
    by (same_text name e.0) refl (same_text other e.0) refl (has_name-put es name other t differ)
  where
    by : (b : Bool) → same_text name e.0 ≡ b → (d : Bool) → same_text other e.0 ≡ d
        → (has_name other (names_of es) ≡ false → has_name other (names_of (put_config es name t)) ≡ false)
        → has_name other (names_of (put_config (e ∷ es) name t)) ≡ false
    by b same true is rest = let found = rw is at absent in cc
    by true same false is rest = rw same absent
    by false same false is rest =
        let others = rw is at absent in
        rw (same, is) (rest others)

has_name-cut : (es : List Entry) (name other : List ℕ) → has_name other (names_of es) ≡ false
    → has_name other (names_of (cut_config es name)) ≡ false
has_name-cut [] name other absent = refl
has_name-cut (e ∷ es) name other absent = by (same_text name e.0) refl (same_text other e.0) refl (has_name-cut es name other)
  where
    by : (b : Bool) → same_text name e.0 ≡ b → (d : Bool) → same_text other e.0 ≡ d
        → (has_name other (names_of es) ≡ false → has_name other (names_of (cut_config es name)) ≡ false)
        → has_name other (names_of (cut_config (e ∷ es) name)) ≡ false
    by b same true is rest = let found = rw is at absent in cc
    by true same false is rest = let others = rw is at absent in rw same others
    by false same false is rest =
        let others = rw is at absent in
        rw (same, is) (rest others)

-- a put leaves the names different
pub names_differ-put : (es : List Entry) (name : List ℕ) (t : Tree) → names_differ (names_of es) ≡ true
    → names_differ (names_of (put_config es name t)) ≡ true
names_differ-put [] name t differ = refl
names_differ-put (e ∷ es) name t differ =
    let parts = and_parts (not (has_name e.0 (names_of es))) (names_differ (names_of es)) differ in
    by (same_text name e.0) refl (no_name e.0 (names_of es) parts.0) (names_differ-put es name t parts.1)
  where
    by : (b : Bool) → same_text name e.0 ≡ b → has_name e.0 (names_of es) ≡ false → names_differ (names_of (put_config es name t)) ≡ true
        → names_differ (names_of (put_config (e ∷ es) name t)) ≡ true
    by true same absent rest = rw same differ
    by false same absent rest =
        let apart = has_name-put es name e.0 t (other_way name e.0 same) absent in
        rw (same, apart) rest

-- so does taking one out
pub names_differ-cut : (es : List Entry) (name : List ℕ) → names_differ (names_of es) ≡ true
    → names_differ (names_of (cut_config es name)) ≡ true
names_differ-cut [] name differ = refl
names_differ-cut (e ∷ es) name differ =
    let parts = and_parts (not (has_name e.0 (names_of es))) (names_differ (names_of es)) differ in
    by (same_text name e.0) refl parts.1 (no_name e.0 (names_of es) parts.0) (names_differ-cut es name parts.1)
  where
    by : (b : Bool) → same_text name e.0 ≡ b → names_differ (names_of es) ≡ true → has_name e.0 (names_of es) ≡ false
        → names_differ (names_of (cut_config es name)) ≡ true → names_differ (names_of (cut_config (e ∷ es) name)) ≡ true
    by true same others absent rest = rw same others
    by false same others absent rest =
        let apart = has_name-cut es name e.0 absent in
        rw (same, apart) rest

-- ---- limits

-- a put of a good tree under a good name leaves all configurations good
pub AreConfigs-put : (es : List Entry) (name : List ℕ) (t : Tree) → good_name name ≡ true → Good t config_limits
    → AreConfigs es → AreConfigs (put_config es name t)
AreConfigs-put [] name t named good all = (named, good, tt)
AreConfigs-put (e ∷ es) name t named good all = by (same_text name e.0) _ (AreConfigs-put es name t named good all.2)
  where
    by : (b : Bool) (rest : List Entry) → AreConfigs rest → AreConfigs (if b then (e.0, t) ∷ es else e ∷ rest)
    by true rest others = (all.0, good, all.2)
    by false rest others = (all.0, all.1, others)

-- so does taking one out
pub AreConfigs-cut : (es : List Entry) (name : List ℕ) → AreConfigs es → AreConfigs (cut_config es name)
AreConfigs-cut [] name all = tt
AreConfigs-cut (e ∷ es) name all = by (same_text name e.0) _ (AreConfigs-cut es name all.2)
  where
    by : (b : Bool) (rest : List Entry) → AreConfigs rest → AreConfigs (if b then es else e ∷ rest)
    by true rest others = all.2
    by false rest others = (all.0, all.1, others)
