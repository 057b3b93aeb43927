-- The comments of a text, in order (YAML 1.2.2, 6.6), by the events that it reads as. Places are bytes from 0.
use Rattle.std.specs.{Prelude.{◌≡◌, ℕ, ◌+◌, ◌≤◌, max, List, [], ◌∷◌, ◌++◌, Some, length, map, slice_range}, Str.chars}
use Rattle.{yaml_grammar.specs.{Events.Event, Reads.Reads}, yaml_comments.specs.Outside.{IsComment, IsLineEnd, HasNoMark, IsFirstMark}}

-- where a comment begins, at its `#`, and where its line ends
pub record Place : Type 0 where
  pub start : ℕ
  pub end : ℕ

-- the first comment from a place on
pub record IsNext (bytes : List ℕ) (events : List Event) (from : ℕ) (place : Place) : Type 0 where
  pub after : from ≤ place.start
  pub comment : IsComment bytes events place.start
  pub first : (other : ℕ) → from ≤ other → IsComment bytes events other → place.start ≤ other
  pub ends : IsLineEnd bytes place.start (length bytes) place.end

-- these are the places of all comments from a place on
abbrev pub AreComments : List ℕ → List Event → ℕ → List Place → Type 0
AreComments bytes events from [] = (at : ℕ) → from ≤ at → IsComment bytes events at → ⊥
AreComments bytes events from (place ∷ places) = IsNext bytes events from place × AreComments bytes events place.end places

-- what is written behind the `#` of a comment, in bytes
abbrev pub comment_at : List ℕ → Place → List ℕ
comment_at bytes place = slice_range bytes (place.start + 1) place.end

-- the text reads as events, and these are its comments
pub record HasComments (bytes : List ℕ) (comments : List (List ℕ)) : Type 0 where
  pub events : List Event
  pub reads : Reads (chars bytes) events
  pub places : List Place
  pub are : AreComments bytes events 0 places
  pub written : comments ≡ map (comment_at bytes) places

-- ---- what a search finds between two scalars

-- These are the comments from one place up to another, where each `#` begins one unless it is in one before it; the
-- search goes on at `next`, which is behind the last of them and not before `to`.
abbrev pub AreInGap : List ℕ → ℕ → ℕ → List Place → ℕ → Type 0
AreInGap bytes from to [] next = HasNoMark bytes from to × (next ≡ max from to)
AreInGap bytes from to (place ∷ places) next =
    IsFirstMark bytes from to (Some place.start) × IsLineEnd bytes place.start (length bytes) place.end
    × AreInGap bytes place.end to places next

-- the comments of a gap were added to those that were found
pub record IsGapAdded (bytes : List ℕ) (from to : ℕ) (before after : List Place) (next : ℕ) : Type 0 where
  pub added : List Place
  pub are : AreInGap bytes from to added next
  pub joined : after ≡ before ++ added
