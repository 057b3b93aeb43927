-- A text has one list of comments, and each is on one line.
use Rattle.std.proofs.{Common.{◌≡◌, refl, sym, ◌∙◌, ap, ap₂, subst, arith, ⊎_elim, length, encode_utf8_all}, lemmas.Str.encodes-chars}
use Rattle.std.{proofs.lemmas.Bool.cases_lt, specs.{Prelude.{ℕ, ◌<◌, ◌⊎◌, List, [], ◌∷◌, map, slice_index}, Str.chars}}
use Rattle.yaml_grammar.specs.{Streams.{Stream, stream_text, stream_events}, Events.Event, Reads.CanRead}
use Rattle.yaml_comments.specs.{Outside.IsLineEnd, Comments.{Place, IsNext, AreComments, comment_at}, CommentLaws.CommentsOnce}
use Rattle.yaml_comments.{specs.{CommentLaws.{CommentsOnLines, HasItsComments}, Presented.stream_comments}, proofs.StreamParted.presented}

-- a line that ends at the later of two places does not end at the earlier one
end_kept : (bytes : List ℕ) (from to a b : ℕ) → IsLineEnd bytes from to a → IsLineEnd bytes from to b → a < b → ⊥
end_kept bytes from to a b x y l =
    let broken : (slice_index bytes a ≡ 10) ⊎ (slice_index bytes a ≡ 13) = x.ends (omega (arith, y.within)) in
    let line = y.one_line a x.after l in
    ⊎_elim line.0 line.1 broken

-- a line has one end
end_once : (bytes : List ℕ) (from to a b : ℕ) → IsLineEnd bytes from to a → IsLineEnd bytes from to b → a ≡ b
end_once bytes from to a b x y = ⊎_elim (λ less. absurd (end_kept bytes from to a b x y less))
    (λ more. ⊎_elim (λ less. absurd (end_kept bytes from to b a y x less)) (λ same. omega arith) (cases_lt b a)) (cases_lt a b)

-- there is one next comment
next_once : (bytes : List ℕ) (events : List Event) (from : ℕ) (p q : Place) → IsNext bytes events from p
    → IsNext bytes events from q → p ≡ q
next_once bytes events from p q x y =
    let start : p.start ≡ q.start = omega (arith, x.first q.start y.after y.comment, y.first p.start x.after x.comment) in
    let ends : IsLineEnd bytes q.start (length bytes) p.end = subst (λ n. IsLineEnd bytes n (length bytes) p.end) start x.ends in
    ap₂ (λ a b. record { start = a; end = b }) start (end_once bytes q.start (length bytes) p.end q.end ends y.ends)

-- the comments from a place on have one list of places
places_once : (bytes : List ℕ) (events : List Event) (from : ℕ) (ps qs : List Place) → AreComments bytes events from ps
    → AreComments bytes events from qs → ps ≡ qs
places_once bytes events from [] [] x y = refl
places_once bytes events from [] (q ∷ qs) x y = let n : IsNext bytes events from q = y.0 in absurd (x q.start n.after n.comment)
places_once bytes events from (p ∷ ps) [] x y = let n : IsNext bytes events from p = x.0 in absurd (y p.start n.after n.comment)
places_once bytes events from (p ∷ ps) (q ∷ qs) x y =
    let same : p ≡ q = next_once bytes events from p q x.0 y.0 in
    ap₂ (λ a b. a ∷ b) same (places_once bytes events q.end ps qs
    (subst (λ (r : Place). AreComments bytes events r.end ps) same x.1) y.1)

-- a text has one list of comments
pub comments_once : CommentsOnce
comments_once bytes one other x y =
    let there : CanRead (chars bytes) y.events = y.reads.some in
    let events : x.events ≡ y.events = sym (x.reads.every there.presentation there.presents) ∙ there.means in
    let places : x.places ≡ y.places = places_once bytes y.events 0 x.places y.places
    (subst (λ es. AreComments bytes es 0 x.places) events x.are) y.are in
    x.written ∙ (ap (map (comment_at bytes)) places ∙ sym y.written)

-- the comments of a text are those of a presentation, each on one line
pub comments_on_lines : CommentsOnLines
comments_on_lines bytes comments utf8 x =
    let can : CanRead (chars bytes) x.events = x.reads.some in
    let p : Stream = can.presentation in
    let its : HasItsComments p = presented p can.presents.fits in
    let same : encode_utf8_all (stream_text p) ≡ bytes = ap encode_utf8_all can.presents.spells ∙ encodes-chars bytes utf8 in
    let here : AreComments bytes (stream_events p) 0 its.places = subst (λ b. AreComments b (stream_events p) 0 its.places) same its.are in
    let are : AreComments bytes x.events 0 its.places = subst (λ es. AreComments bytes es 0 its.places) can.means here in
    let places : x.places ≡ its.places = places_once bytes x.events 0 x.places its.places x.are are in
    record {
      texts = stream_comments p;
      written = x.written ∙ (ap (map (comment_at bytes)) places
          ∙ (ap (λ b. map (comment_at b) its.places) (sym same) ∙ its.written));
      lines = its.lines;
    }
