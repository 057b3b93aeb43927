-- What the reader makes of the line after a part.
use Rattle.std.specs.Prelude.{◌≡◌, ℕ, ◌+◌, ◌-◌, ◌*◌, List, [], ◌∷◌, length, Option, MatchOption}
use Rattle.yaml_block.specs.{Prelude.{Read, Indented, BlockFrame, Event}, declared.frame.{Collection.Collection, Next.Next}}
use Rattle.yaml_block.specs.declared.{frame.Waits.TheVariants.{Item, Key}, next_line.NextLine.NextLine, reader.Reader.Reader}
use Rattle.yaml_block.specs.{Frames.{AfterPair, AtLine, waits_of, indent_of}, States.{Holds, GoesOn, Keeps, Onward}}
use Rattle.yaml_grammar.specs.Events as grammar

-- what is read of a collection whose frame is not on the stack any more
abbrev pub Part : Type 1
Part = Read Indented → List ℕ → ℕ → List BlockFrame → List grammar.Event → ℕ → ℕ → Type 0

-- the part that this collection waited for
abbrev pub PartRead : Collection → Part
PartRead collection W text from fs evs start end = (f : BlockFrame) × Keeps collection f
    × AtLine W text from (f ∷ fs) evs start end

-- an item, a key after `?`, or a pair, of a collection with this indentation
abbrev pub ItemRead : ℕ → Part
ItemRead indent W text from fs evs start end = (f : BlockFrame) × (waits_of f ≡ Item) × (indent_of f ≡ indent)
    × AtLine W text from (f ∷ fs) evs start end

-- a key after `?` was read
abbrev pub KeyRead : ℕ → Part
KeyRead indent W text from fs evs start end = (f : BlockFrame) × (waits_of f ≡ Key) × (indent_of f ≡ indent)
    × AtLine W text from (f ∷ fs) evs start end

-- a pair was read
abbrev pub PairRead : ℕ → Part
PairRead indent W text from fs evs start end = AfterPair W text from fs evs indent start end

-- the collection has ended, and is itself a part
pub record IsPart (W : Read Indented) (text : List ℕ) (from : ℕ) (base : List Event) (fs : List BlockFrame)
    (reader : Reader) (start : ℕ) : Type 0 where
  pub evs : List grammar.Event
  pub holds : Holds text base fs evs reader
  pub stands : AtLine W text from fs evs start reader.end

-- The collection goes on with what is read next, or it ends.
abbrev pub Turns : Part → List ℕ → NextLine → Reader → Reader → Option Next → Type 0
Turns PartIs text after old new next =
    (W : Read Indented) (from : ℕ) (base : List Event) (fs : List BlockFrame) (evs : List grammar.Event)
    → Holds text base fs evs old
    → PartIs W text from fs evs after.line.start old.end
    → MatchOption next (IsPart W text from base fs new after.line.start) (λ to. GoesOn W text from base new to)

-- Some collections have ended; what they were is a part.
pub record Unwound (W : Read Indented) (text : List ℕ) (from : ℕ) (base : List Event) (reader : Reader)
    (start : ℕ) : Type 0 where
  pub fs : List BlockFrame
  pub part : IsPart W text from base fs reader start

-- the reader has read the same part as before
abbrev pub StillPart : List ℕ → ℕ → Reader → Reader → Type 0
StillPart text start old now =
    (W : Read Indented) (from : ℕ) (base : List Event) (fs : List BlockFrame) (evs : List grammar.Event)
    → Holds text base fs evs old → AtLine W text from fs evs start old.end → Unwound W text from base now start

-- A collection goes on with what is read next, or all have ended.
abbrev pub Unwinds : List ℕ → NextLine → Reader → Reader → Option Next → Type 0
Unwinds text after old new next =
    (W : Read Indented) (from : ℕ) (base : List Event) (fs : List BlockFrame) (evs : List grammar.Event)
    → Holds text base fs evs old
    → AtLine W text from fs evs after.line.start old.end
    → MatchOption next (IsPart W text from base [] new after.line.start) (λ to. GoesOn W text from base new to)

-- What is read next, if anything is, is further on in the text.
abbrev pub MayGoOn : List ℕ → ℕ → Option Next → Type 0
MayGoOn text start next = MatchOption next (Unit {0}) (Onward text start (3 * (length text - start) + 1))

-- Where a collection ends, those around it stay open.
abbrev pub EndsAlone : Reader → Reader → Option Next → Type 0
EndsAlone old new next = MatchOption next (new.collections.items ≡ old.collections.items) (λ _. Unit {0})

-- what a step makes of the line after a part of a collection: it goes on, or it ends
pub record IsTurn (PartIs : Part) (text : List ℕ) (after : NextLine) (old new : Reader) (next : Option Next) : Type 0
  where
    pub onward : MayGoOn text after.line.start next
    pub turns : Turns PartIs text after old new next
    pub ended : EndsAlone old new next
