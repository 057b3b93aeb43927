-- The canonical form of comments and separation. One text can be divided into presentations of one meaning in several
-- ways, since a comment line may belong to the part before it or to the part after it. In the canonical form it belongs
-- to the first part that may have it. So a text has at most one canonical presentation.
use Rattle.std.specs.Prelude.{ℕ, Bool, true, false, not, ◌&&◌, ◌||◌, ◌==◌, List, [], ◌∷◌, ◌++◌, Option, Some, None}
use Rattle.yaml_recognizers.specs.Prelude.{white, line_break, nb, list_all, is_empty, first, LineEnd, comments_fit, Sep, inline, lines}
use Rattle.yaml_recognizers.specs.{Prelude.{indents, number_sign}, Prefixes.{drop_while, past}}

-- `#`
abbrev pub hash : ℕ → Bool
hash c = c == number_sign

-- [76] b-comment, 6.6: a break, or the end of the text
abbrev pub stops : List ℕ → Bool
stops [] = true
stops (c ∷ cs) = line_break c

-- [78] l-comment, 6.6: a line of whitespace or a comment starts here
abbrev pub is_line_end : List ℕ → Bool
is_line_end [] = false
is_line_end (c ∷ cs) =
    let rest = drop_while white (c ∷ cs) in stops rest || (first hash rest && stops (drop_while nb (past rest)))

-- [79] s-l-comments, 6.6: all comment lines; no further one comes after them
abbrev pub canonical_comments : Bool → List LineEnd → List ℕ → Bool
canonical_comments bol es after = comments_fit bol es after && not (is_line_end after)

-- [80] s-separate, 6.7: separation over lines has the end of a line
abbrev pub canonical_sep : ℕ → Bool → Bool → Sep → List ℕ → Bool
canonical_sep n key bol (inline blank) after = list_all white blank && (bol || not (is_empty blank))
canonical_sep n key bol (lines comments lead) after =
    not key && not (is_empty comments) && canonical_comments bol comments (lead ++ after) && indents n lead

-- the same of separation that may be left out
abbrev pub canonical_gap : ℕ → Bool → Option Sep → List ℕ → Bool
canonical_gap n key None after = true
canonical_gap n key (Some sep) after = canonical_sep n key false sep after
