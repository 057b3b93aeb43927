-- What the parts of one step are: the number that a token is, the element and the pair that it leads to.
use Rattle.std.specs.Prelude.{◌≡◌, ◌<◌, ◌-◌, ℕ, suc, List, [], ◌∷◌, length, take, get_or, Option, Some, None, option_map, min, Result, Ok}
use Rattle.std.specs.Prelude.{Err, if◌then◌else◌, nat_lt}
use Rattle.tree_path.specs.{Prelude.{chars, same_text, Tree, text, sequence, mapping, Pair, text_bytes}, declared.step_places.Known.Known}
use Rattle.tree_path.specs.declared.{step_places.{Known.TheVariants.{Found, Nothing}, StepPlaces.StepPlaces}, place.Miss.Miss}
use Rattle.tree_path.specs.{declared.place.Miss.TheVariants.Absent, Paths.{is_number, number_after, index_of, at_index, present}}
use Rattle.tree_path.specs.Paths.{element_at, place_of, child, put, last_key}

-- the number that a token spells
abbrev pub number_of : List ℕ → Option ℕ
number_of token = if is_number token then Some (number_after 0 token) else None

-- a number as a `usize`: at most the greatest one
abbrev pub as_usize : ℕ → ℕ
as_usize n = min n 0xffff_ffff_ffff_ffff

-- the index of an element in a sequence of that many elements, or why the token leads to none
abbrev pub index_below : List ℕ → ℕ → Result ℕ Miss
index_below token count = at_index (index_of token) (λ n. if nat_lt n count then Some n else None) (Err Absent)

-- the place, from 0, of the first pair with the key
abbrev pub key_place : List ℕ → List Pair → Option ℕ
key_place key [] = None
key_place key (pair ∷ pairs) =
    if same_text key (chars (text_bytes pair.0)) then Some 0 else option_map suc (key_place key pairs)

-- the place, from 0, of the element or the member to which a step leads
unfoldable pub step_place : Tree → List ℕ → Result ℕ Miss
step_place (text value) token = Err Absent
step_place (sequence ts) token = at_index (index_of token) (λ n. option_map (λ _. n) (element_at ts n)) (Err Absent)
step_place (mapping ms) token = present (place_of ms token)

-- ---- the places of the steps of a path

-- from t each step leads on, and the list begins with their places
abbrev pub Leads : List (List ℕ) → Tree → List ℕ → Type 0
Leads [] t places = Unit {0}
Leads (token ∷ tokens) t [] = ⊥
Leads (token ∷ tokens) t (place ∷ places) =
    (next : Tree) × (step_place t token ≡ Ok place) × (child t token ≡ Ok next) × Leads tokens next places

-- the steps of a path but the last
abbrev pub parents_of : List (List ℕ) → List (List ℕ)
parents_of path = take (length path - 1) path

-- the places are those of the path's steps in t
pub record ArePlaces (places : StepPlaces) (t : Tree) (path : List (List ℕ)) : Type 0 where
  pub parents : Leads (parents_of path) t places.parents.items
  pub last : places.last ≡ last_key t path

-- what is known of a path's steps is so
abbrev pub Knows : Known → Tree → List (List ℕ) → Type 0
Knows (Found places) t path = ArePlaces places.now t path
Knows Nothing t path = Unit {0}

-- the same of steps before the last
abbrev pub KnowsWay : Known → List (List ℕ) → Tree → Type 0
KnowsWay (Found places) tokens t = Leads tokens t places.now.parents.items
KnowsWay Nothing tokens t = Unit {0}

-- the same of one of them, after so many
abbrev pub KnowsStep : Known → ℕ → Tree → List ℕ → Type 0
KnowsStep (Found places) passed t token =
    (passed < length places.now.parents.items)
    × (step_place t token ≡ Ok (get_or places.now.parents.items passed 0))
KnowsStep Nothing passed t token = Unit {0}

-- the same of the last key
abbrev pub KnowsLast : Known → Option ℕ → Type 0
KnowsLast (Found places) there = places.now.last ≡ there
KnowsLast Nothing there = Unit {0}

-- ---- a tree taken apart along a path

-- From t and above, one step after another: the child is taken out, what is above goes into its place, and the tree so
-- left is what is above the child. The last child and what is above it are u and b.
abbrev pub Lowered : List (List ℕ) → Tree → Tree → Tree → Tree → Type 0
Lowered [] t above u b = (u ≡ t) × (b ≡ above)
Lowered (token ∷ tokens) t above u b =
    (next : Tree) × (left : Tree) × (child t token ≡ Ok next) × (put t token above ≡ Ok left)
    × Lowered tokens next left u b

-- t with v in the place of its value at the path is r
abbrev pub Rebuilt : List (List ℕ) → Tree → Tree → Tree → Type 0
Rebuilt [] t v r = r ≡ v
Rebuilt (token ∷ tokens) t v r =
    (next : Tree) × (w : Tree) × (child t token ≡ Ok next) × Rebuilt tokens next v w × (put t token w ≡ Ok r)
