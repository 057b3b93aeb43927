-- What is kept, with one more part.
use Rattle.std.{proofs.Common.{◌≡◌, ap, ◌∙◌, append-nil, Bor}, specs.{Prelude.{ℕ, List, [], ◌∷◌, ◌++◌}, Str.chars}}
use Rattle.comments_kept.specs.{declared.weaver.{Kept.TheVariants.{EmptyLine, Comment}, Placed.Placed}, Weaving.{kept_texts, texts_of}}
use Rattle.comments_kept.proofs.Weaving.{texts-append}

-- a comment is one more
pub comment_added : (ps : List Placed) (x : Placed) (text : Bor (List ℕ)) → x.kept ≡ Comment text
    → texts_of (ps ++ x ∷ []) ≡ texts_of ps ++ chars text.now ∷ []
comment_added ps x text is = texts-append ps (x ∷ []) ∙ ap (λ k. texts_of ps ++ (kept_texts k ++ [])) is

-- an empty line is none
pub empty_line_added : (ps : List Placed) (x : Placed) → x.kept ≡ EmptyLine → texts_of (ps ++ x ∷ []) ≡ texts_of ps
empty_line_added ps x is = texts-append ps (x ∷ []) ∙ ap (λ k. texts_of ps ++ (kept_texts k ++ [])) is ∙ append-nil (texts_of ps)
