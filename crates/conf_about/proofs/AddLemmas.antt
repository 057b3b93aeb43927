-- A pair more at the end of a mapping, and one less.
use Rattle.std.proofs.{Common.{◌≡◌, ℕ, ◌+◌, List, [], ◌∷◌, ◌++◌, length, refl, sym, ap, ◌∙◌}, lemmas.List.nil_from_length}
use Rattle.std.specs.Prelude.{Option, Some, None, option_to_list, MatchOption}
use Rattle.conf_about.proofs.Prelude.{chars, join_members, members_of-append, Pair, members_of, tree_of, text_bytes, Tree, text, sequence}
use Rattle.conf_about.{proofs.Prelude.{mapping, Members, no_member, member}, specs.AboutWords.{members_with, with_pair}}

join-one : (ms : Members) (key value : List ℕ) → join_members ms (member key (text value) no_member) ≡ members_with ms key value
join-one no_member key value = refl
join-one (member other t ms) key value = ap (member other t) (join-one ms key value)

-- a pair at the end of a list is one at the end of its members
pub members-push : (ps : List Pair) (p : Pair) (value : List ℕ) → tree_of p.1 ≡ text value
    → members_of (ps ++ p ∷ []) ≡ members_with (members_of ps) (chars (text_bytes p.0)) value
members-push ps p value valued =
    members_of-append ps (p ∷ [])
    ∙ ap (λ t. join_members (members_of ps) (member (chars (text_bytes p.0)) t no_member)) valued
    ∙ join-one (members_of ps) (chars (text_bytes p.0)) value

-- there is a pair then
no-join : (ms : Members) (key : List ℕ) (t : Tree) {A : Type 0} → no_member ≡ join_members ms (member key t no_member) → A
no-join no_member key t e = cc
no-join (member other u ms) key t e = cc

-- and those before it are known
join-same : (ms ns : Members) (key other : List ℕ) (t u : Tree)
    → join_members ms (member key t no_member) ≡ join_members ns (member other u no_member) → ms ≡ ns
join-same no_member no_member key other t u e = refl
join-same no_member (member k v ns) key other t u e =
    let rest : no_member ≡ join_members ns (member other u no_member) = cc in no-join ns other u rest
join-same (member k v ms) no_member key other t u e =
    let rest : no_member ≡ join_members ms (member key t no_member) = cc in no-join ms key t rest
join-same (member k v ms) (member j w ns) key other t u e =
    let first : k ≡ j = cc in
    let valued : v ≡ w = cc in
    let rest : join_members ms (member key t no_member) ≡ join_members ns (member other u no_member) = cc in
    let same = join-same ms ns key other t u rest in
    cc

-- where the last pair was taken off, those before it are left
pub pop-off : (ps qs : List Pair) (old new : ℕ) (o : Option Pair) → old ≡ length ps → ps ≡ qs ++ option_to_list o
    → MatchOption o ((old ≡ 0) × (new ≡ 0)) (λ _. new + 1 ≡ old)
    → (before : Members) (key value : List ℕ) → members_of ps ≡ members_with before key value → members_of qs ≡ before
pop-off ps qs old new (Some p) long e there before key value made =
    join-same (members_of qs) before (chars (text_bytes p.0)) key (tree_of p.1) (text value)
    (sym (ap members_of e ∙ members_of-append qs (p ∷ [])) ∙ made ∙ sym (join-one before key value))
pop-off ps qs old new None long e there before key value made =
    no-join before key (text value)
    (sym (ap members_of (nil_from_length ps (sym long ∙ there.0))) ∙ made ∙ sym (join-one before key value))

-- the same of a mapping
pub pair-off : (ms left : Members) (before : Tree) (key value : List ℕ) → ((ns : Members) → ms ≡ members_with ns key value → left ≡ ns)
    → mapping ms ≡ with_pair before key value → mapping left ≡ before
pair-off ms left (text content) key value off e = cc
pair-off ms left (sequence ts) key value off e = cc
pair-off ms left (mapping ns) key value off e =
    let same : ms ≡ members_with ns key value = cc in ap mapping (off ns same)
