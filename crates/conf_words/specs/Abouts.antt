-- Who makes a change, when and why, as words say it.
use Rattle.std.specs.{Prelude.{◌≡◌, Bool, true, false, List, [], ◌∷◌, map, Option, Some, None, is_some, codes, ℕ}, Str.chars}
use Rattle.{command_line.specs.Matches.{Given, texts_of}, conf_about.specs.AboutWords.{fault_in, said_by}, yaml_data.specs.Seen.tree_of}
use Rattle.{yaml_data.specs.declared.tree.Tree.Tree, conf_words.specs.declared.refusal.Unasked.{Unasked, TheVariants.Because}}
use Rattle.conf_words.specs.declared.refusal.Unasked.TheVariants.{OutOfMemory}

-- the words `KEY=TEXT`
abbrev pub pairs_given : Given → List (List ℕ)
pairs_given given = map chars (texts_of given (codes "about"))

-- Some are given, and they are no about.
abbrev pub are_wrong : List (List ℕ) → Bool
are_wrong [] = false
are_wrong (pair ∷ pairs) = is_some (fault_in (said_by (pair ∷ pairs)))

abbrev pub about_is_wrong : Given → Bool
about_is_wrong given = are_wrong (pairs_given given)

-- an about is the mapping that they say; there is none if none are given
abbrev pub IsAboutIn : Given → Option Tree → Type 0
IsAboutIn given None = texts_of given (codes "about") ≡ []
IsAboutIn given (Some about) = said_by (pairs_given given) ≡ Some (tree_of about)

-- why words ask for nothing: they are wrong, or memory ran out
abbrev pub IsUnaskedFor : Bool → Unasked → Type 0
IsUnaskedFor wrong (Because why) = wrong ≡ true
IsUnaskedFor wrong OutOfMemory = Unit {0}
