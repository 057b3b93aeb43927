-- What a text is in a style.
use Rattle.std.{proofs.Common.{◌≡◌, ℕ, List, [], ◌∷◌, length, refl, ap}, specs.Prelude.{suc, Ok, Err, Result, IfOk, OnOk}}
use Rattle.{conf_words.specs.declared.invocation.Style.{Style, TheVariants.{Bare, WithComments}}, yaml_comments.specs.Found.places_of}
use Rattle.{yaml_comments.specs.declared.find.Comment.Comment, yaml_style.specs.declared.finding.Finding.Finding}
use Rattle.conf_tools.specs.{Styles.{IsCheckedIn, IsStyled}, Tools.GivesTree}

-- what is in a style gives a tree
style_gives : (style : Style) (bytes text : List ℕ) → IsStyled style bytes text → GivesTree bytes
style_gives Bare bytes text is = (is.tree, is.reads)
style_gives WithComments bytes text is = (is.tree.tree, is.tree.reads)

pub styled_gives : {X E : Type 0} (bytes_of : X → List ℕ) (style : Style) (bytes : List ℕ) (r : Result X E)
    → IfOk r (λ x. IsStyled style bytes (bytes_of x)) → OnOk r (GivesTree bytes)
styled_gives bytes_of style bytes (Ok x) is = style_gives style bytes (bytes_of x) is
styled_gives bytes_of style bytes (Err fault) is = tt

-- what has findings gives a tree
checked_gives : (style : Style) (bytes : List ℕ) (found : List Finding) → IsCheckedIn style bytes found → GivesTree bytes
checked_gives Bare bytes found is = (is.tree, is.reads)
checked_gives WithComments bytes found (text, kept, are) = (kept.tree.tree, kept.tree.reads)

pub findings_give : {X E : Type 0} (items_of : X → List Finding) (style : Style) (bytes : List ℕ) (r : Result X E)
    → IfOk r (λ x. IsCheckedIn style bytes (items_of x)) → OnOk r (GivesTree bytes)
findings_give items_of style bytes (Ok x) is = checked_gives style bytes (items_of x) is
findings_give items_of style bytes (Err fault) is = tt

-- as many places as comments
pub places_length : (comments : List Comment) → length comments ≡ length (places_of comments)
places_length [] = refl
places_length (c ∷ cs) = ap suc (places_length cs)
