-- Configurations, one list after another: what is under a name between them, and what an edit of it leaves.
use Rattle.std.proofs.Common.{◌≡◌, ℕ, false, List, [], ◌∷◌, ◌++◌, Some, if◌then◌else◌, refl, ap, ◌∙◌}
use Rattle.conf_diff.proofs.Prelude.{Tree, Entry, names_of, config_named, put_config, cut_config, has_name, same_text, same_text-self}
use Rattle.conf_diff.proofs.Prelude.{or_parts, or_from, other_way}

-- ---- one name

pub named-join : (done es : List Entry) (e : Entry) → has_name e.0 (names_of done) ≡ false
    → config_named (done ++ e ∷ es) e.0 ≡ Some e.1
named-join [] es e free = ap (λ b. if b then Some e.1 else config_named es e.0) (same_text-self e.0)
named-join (d ∷ done) es e free =
    let parts = or_parts (same_text e.0 d.0) (has_name e.0 (names_of done)) free in
    ap (λ b. if b then Some d.1 else config_named (done ++ e ∷ es) e.0) parts.0 ∙ named-join done es e parts.1

pub put-join : (done es : List Entry) (e : Entry) (t : Tree) → has_name e.0 (names_of done) ≡ false
    → put_config (done ++ e ∷ es) e.0 t ≡ done ++ (e.0, t) ∷ es
put-join [] es e t free = ap (λ b. if b then (e.0, t) ∷ es else e ∷ put_config es e.0 t) (same_text-self e.0)
put-join (d ∷ done) es e t free =
    let parts = or_parts (same_text e.0 d.0) (has_name e.0 (names_of done)) free in
    let after = done ++ e ∷ es in
    ap (λ b. if b then (d.0, t) ∷ after else d ∷ put_config after e.0 t) parts.0 ∙ ap (λ xs. d ∷ xs) (put-join done es e t parts.1)

pub put-new : (done : List Entry) (name : List ℕ) (t : Tree) → has_name name (names_of done) ≡ false
    → put_config done name t ≡ done ++ (name, t) ∷ []
put-new [] name t free = refl
put-new (d ∷ done) name t free =
    let parts = or_parts (same_text name d.0) (has_name name (names_of done)) free in
    ap (λ b. if b then (d.0, t) ∷ done else d ∷ put_config done name t) parts.0 ∙ ap (λ xs. d ∷ xs) (put-new done name t parts.1)

pub cut-join : (done es : List Entry) (e : Entry) → has_name e.0 (names_of done) ≡ false → cut_config (done ++ e ∷ es) e.0 ≡ done ++ es
cut-join [] es e free = ap (λ b. if b then es else e ∷ cut_config es e.0) (same_text-self e.0)
cut-join (d ∷ done) es e free =
    let parts = or_parts (same_text e.0 d.0) (has_name e.0 (names_of done)) free in
    let after = done ++ e ∷ es in
    ap (λ b. if b then after else d ∷ cut_config after e.0) parts.0 ∙ ap (λ xs. d ∷ xs) (cut-join done es e parts.1)

-- one more, between two lists
pub join-next : (done es : List Entry) (e : Entry) → (done ++ e ∷ []) ++ es ≡ done ++ e ∷ es
join-next [] es e = refl
join-next (d ∷ done) es e = ap (λ xs. d ∷ xs) (join-next done es e)

pub join-none : (es : List Entry) → es ++ [] ≡ es
join-none [] = refl
join-none (e ∷ es) = ap (λ xs. e ∷ xs) (join-none es)

-- ---- names that are not among others

-- none of the second names is one of the first
abbrev pub AreFree : List Entry → List Entry → Type 0
AreFree done [] = Unit {0}
AreFree done (e ∷ es) = (has_name e.0 (names_of done) ≡ false) × AreFree done es

pub AreFree-none : (es : List Entry) → AreFree [] es
AreFree-none [] = tt
AreFree-none (e ∷ es) = (refl, AreFree-none es)

has_name-next : (done : List Entry) (e : Entry) (name : List ℕ) → has_name name (names_of done) ≡ false → same_text name e.0 ≡ false
    → has_name name (names_of (done ++ e ∷ [])) ≡ false
has_name-next [] e name free differ = or_from (same_text name e.0) false differ refl
has_name-next (d ∷ done) e name free differ =
    let parts = or_parts (same_text name d.0) (has_name name (names_of done)) free in
    or_from (same_text name d.0) (has_name name (names_of (done ++ e ∷ []))) parts.0 (has_name-next done e name parts.1 differ)

-- one more name that is not among them
pub AreFree-next : (done es : List Entry) (e : Entry) → AreFree done es → has_name e.0 (names_of es) ≡ false → AreFree (done ++ e ∷ []) es
AreFree-next done [] e free apart = tt
AreFree-next done (f ∷ es) e free apart =
    let parts = or_parts (same_text e.0 f.0) (has_name e.0 (names_of es)) apart in
    (has_name-next done e f.0 free.0 (other_way e.0 f.0 parts.0), AreFree-next done es e free.1 parts.1)
