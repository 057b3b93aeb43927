-- The comments that were found, as places.
use Rattle.std.specs.Prelude.{List, [], ◌∷◌}
use Rattle.yaml_comments.specs.{declared.find.Comment.Comment, Comments.Place}

-- the place of a comment
abbrev pub place_of : Comment → Place
place_of c = record { start = c.start; end = c.end }

-- the places of comments
abbrev pub places_of : List Comment → List Place
places_of [] = []
places_of (c ∷ cs) = place_of c ∷ places_of cs
