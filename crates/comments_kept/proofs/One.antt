-- Bytes have one list of comments at one list of places, and so one text.
use Rattle.std.proofs.{Common.{◌≡◌, refl, sym, ◌∙◌, ap, ap₂, subst, arith, ⊎_elim, length, encode_utf8_all}, lemmas.Bool.cases_lt}
use Rattle.std.specs.{Prelude.{ℕ, ◌<◌, ◌⊎◌, List, [], ◌∷◌, slice_index}, Str.chars}
use Rattle.{yaml_grammar.specs.{Events.Event, Reads.{CanRead, Limits}, Trees.Tree}, yaml_tree.proofs.GivenLemmas.given_one}
use Rattle.yaml_comments.specs.{declared.find.Comment.Comment, Outside.IsLineEnd, Comments.{Place, IsNext, AreComments}, Found.place_of}
use Rattle.{yaml_comments.specs.Found.places_of, comments_kept.specs.{Keeping.{Keeps, Plans, Writes}, Laid.woven_text, Places.Mark}}
use Rattle.comments_kept.specs.Places.{marks}

-- a line that ends at the later of two places does not end at the earlier one
end_kept : (bytes : List ℕ) (from to a b : ℕ) → IsLineEnd bytes from to a → IsLineEnd bytes from to b → a < b → ⊥
end_kept bytes from to a b x y l =
    let broken : (slice_index bytes a ≡ 10) ⊎ (slice_index bytes a ≡ 13) = x.ends (omega (arith, y.within)) in
    let line = y.one_line a x.after l in
    ⊎_elim line.0 line.1 broken

-- a line has one end
end_once : (bytes : List ℕ) (from to a b : ℕ) → IsLineEnd bytes from to a → IsLineEnd bytes from to b → a ≡ b
end_once bytes from to a b x y = ⊎_elim (λ less. absurd (end_kept bytes from to a b x y less))
    (λ more. ⊎_elim (λ less. absurd (end_kept bytes from to b a y x less)) (λ same. omega arith) (cases_lt b a)) (cases_lt a b)

-- there is one next comment
next_once : (bytes : List ℕ) (events : List Event) (from : ℕ) (p q : Place) → IsNext bytes events from p
    → IsNext bytes events from q → p ≡ q
next_once bytes events from p q x y =
    let start : p.start ≡ q.start = omega (arith, x.first q.start y.after y.comment, y.first p.start x.after x.comment) in
    let ends : IsLineEnd bytes q.start (length bytes) p.end = subst (λ n. IsLineEnd bytes n (length bytes) p.end) start x.ends in
    ap₂ (λ a b. record { start = a; end = b }) start (end_once bytes q.start (length bytes) p.end q.end ends y.ends)

-- the same comment by its place
comment_once : (c d : Comment) → place_of c ≡ place_of d → c ≡ d
comment_once c d e = ap (λ (p : Place). let c : Comment = record { start = p.start; end = p.end } in c) e

-- the comments from a place on are one list
comments_once : (bytes : List ℕ) (events : List Event) (from : ℕ) (cs ds : List Comment) → AreComments bytes events from (places_of cs)
    → AreComments bytes events from (places_of ds) → cs ≡ ds
comments_once bytes events from [] [] x y = refl
comments_once bytes events from [] (d ∷ ds) x y =
    let n : IsNext bytes events from (place_of d) = y.0 in absurd (x d.start n.after n.comment)
comments_once bytes events from (c ∷ cs) [] x y =
    let n : IsNext bytes events from (place_of c) = x.0 in absurd (y c.start n.after n.comment)
comments_once bytes events from (c ∷ cs) (d ∷ ds) x y =
    let same : c ≡ d = comment_once c d (next_once bytes events from (place_of c) (place_of d) x.0 y.0) in
    ap₂ (λ a b. a ∷ b) same (comments_once bytes events d.end cs ds
    (subst (λ (r : Comment). AreComments bytes events r.end (places_of cs)) same x.1) y.1)

-- the rule keeps one list of marks
plan_once : (bytes : List ℕ) (one other : List Mark) → Plans bytes one → Plans bytes other → one ≡ other
plan_once bytes one other x y =
    let there : CanRead (chars bytes) y.events = y.means.some in
    let events : x.events ≡ y.events = sym (x.means.every there.presentation there.presents) ∙ there.means in
    let found : x.found ≡ y.found = comments_once bytes y.events 0 x.found y.found
    (subst (λ es. AreComments bytes es 0 (places_of x.found)) events x.comments) y.comments in
    x.are ∙ ap₂ (marks bytes) events found ∙ sym y.are

-- a tree has one text with what is kept of the bytes
written_once : (bytes : List ℕ) (t : Tree) (one other : List ℕ) → Writes bytes t one → Writes bytes t other → one ≡ other
written_once bytes t one other x y =
    x.spells ∙ ap (λ ms. encode_utf8_all (woven_text t ms)) (plan_once bytes x.kept y.kept x.plans y.plans) ∙ sym y.spells

-- the bytes have one text
pub kept_one : (bytes : List ℕ) (limits : Limits) (one other : List ℕ) → Keeps bytes limits one → Keeps bytes limits other → one ≡ other
kept_one bytes limits one other x y =
    let same : x.tree ≡ y.tree = given_one bytes limits x.tree y.tree x.read y.read in
    written_once bytes y.tree one other (subst (λ t. Writes bytes t one) same x.writes) y.writes
