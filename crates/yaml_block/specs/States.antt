-- The reader's own state, in terms of what is read of the open collections, and what a step of it leads to.
use Rattle.std.specs.Prelude.{◌≡◌, ℕ, ◌+◌, ◌-◌, ◌*◌, ◌<◌, ◌≤◌, Bool, false, ◌&&◌, nat_le, List, [], ◌∷◌, ◌++◌, length, None, if◌then◌else◌}
use Rattle.yaml_block.specs.Prelude.{IsCharBoundary, between, Indented, key_limit, Read, BlockFrame, line_starts, Refuses, Event}
use Rattle.yaml_block.specs.{Prelude.{unbroken_between, Appended}, Lines.{is_shallow, IsNextLine}, declared.frame.Waits.Waits}
use Rattle.yaml_block.specs.declared.{frame.{Waits.TheVariants.Value, Collection.Collection, Leaf.Leaf, Next.Next}, line_sign.Sign.Sign}
use Rattle.yaml_block.specs.{declared.{indentation.Indentation.Indentation, reader.Reader.Reader}, Frames.{waits_of, indent_of, AfterSign}}
use Rattle.yaml_block.specs.Frames.{AtColon, AtPair, AtLine, AtNode, AtNodeLine, AtLeaf}
use Rattle.yaml_events.specs.declared.fault.ScanFault.{ScanFault}
use Rattle.yaml_grammar.specs.Events as grammar
use Rattle.yaml_block.specs.declared.frame.Next.TheVariants as next

-- The node from `at` to `end`, with its `:` at `colon`, is on one line, and short enough for a key (8.2.2): the `:`
-- follows after at most 1,024 characters.
abbrev pub fits_as_key : List ℕ → ℕ → ℕ → ℕ → Bool
fits_as_key text at end colon = unbroken_between text at end && nat_le (length (between text at colon)) key_limit

-- ---- the open collections

-- the code's collection has what the frame waits for, and its indentation
pub record Keeps (collection : Collection) (frame : BlockFrame) : Type 0 where
  pub waits : waits_of frame ≡ collection.waits
  pub indent : indent_of frame ≡ collection.indent

-- the frames, the innermost first, and the code's collections, the innermost last
abbrev pub Stack : List BlockFrame → List Collection → Type 0
Stack [] collections = collections ≡ []
Stack (f ∷ fs) collections = (around : List Collection) × (innermost : Collection)
    × (collections ≡ around ++ innermost ∷ []) × Keeps innermost f × Stack fs around

-- a collection is opened, or goes on
abbrev pub IsOpened : Waits → ℕ → Reader → Reader → Type 0
IsOpened waits indent old new = new.collections.items ≡ old.collections.items
    ++ (record { waits = waits; indent = indent }) ∷ []

-- the second list begins with the first
pub record Grown (old new : List Event) : Type 0 where
  pub more : List Event
  pub is : new ≡ old ++ more

-- The reader's collections are these frames, and its events mean evs after those of the call's start.
pub record Holds (text : List ℕ) (base : List Event) (fs : List BlockFrame) (evs : List grammar.Event)
    (reader : Reader) : Type 0 where
  pub stack : Stack fs reader.collections.items
  pub appended : Appended text base reader.events evs

-- ---- places

-- where the next step starts
abbrev pub place_of : Next → ℕ
place_of (next.After at indent sign) = at
place_of (next.Pair at indent) = at
place_of (next.Line after) = after.line.start

-- a bound of the steps that are left: at one place a line comes after a part, and a pair after a line
abbrev pub steps_left : List ℕ → Next → ℕ
steps_left text (next.After at indent sign) = 3 * (length text - at) + 2
steps_left text (next.Pair at indent) = 3 * (length text - at)
steps_left text (next.Line after) = 3 * (length text - after.line.start) + 1

-- a place after a sign of a collection at this indentation
pub record IsAfterSign (text : List ℕ) (indent at : ℕ) : Type 0 where
  pub boundary : IsCharBoundary text at
  pub deeper : indent < at
  pub inside_line : line_starts text at ≡ false

-- a place where a pair at this indentation may be
pub record IsPairPlace (text : List ℕ) (indent at : ℕ) : Type 0 where
  pub boundary : IsCharBoundary text at
  pub deep : indent ≤ at

-- the next step is at a place of the text that it may be at
abbrev pub IsPlaced : List ℕ → Next → Type 0
IsPlaced text (next.After at indent sign) = IsAfterSign text indent at
IsPlaced text (next.Pair at indent) = IsPairPlace text indent at
IsPlaced text (next.Line after) = IsNextLine text after

-- the step leads on from the place, to less than the bound
pub record Onward (text : List ℕ) (at bound : ℕ) (to : Next) : Type 0 where
  pub above : at ≤ place_of to
  pub less : steps_left text to < bound
  pub placed : IsPlaced text to

-- ---- steps

-- what the call reads, W, by what is read next
abbrev pub Stands : Read Indented → List ℕ → ℕ → List BlockFrame → List grammar.Event → ℕ → Next → Type 0
Stands W text from fs evs end (next.After at indent sign) = AfterSign W text from fs evs sign indent at
Stands W text from fs evs end (next.Pair at indent) = AtPair W text from fs evs indent at
Stands W text from fs evs end (next.Line after) = AtLine W text from fs evs after.line.start end

-- the reader goes on there
pub record GoesOn (W : Read Indented) (text : List ℕ) (from : ℕ) (base : List Event) (reader : Reader)
    (to : Next) : Type 0 where
  pub fs : List BlockFrame
  pub evs : List grammar.Event
  pub holds : Holds text base fs evs reader
  pub stands : Stands W text from fs evs reader.end to

-- what holds before a step, of what the call reads, where its part begins, the frames and the events
abbrev pub Before : Type 1
Before = Read Indented → ℕ → List BlockFrame → List grammar.Event → Type 0

-- before the part after a sign
abbrev pub BeforePart : List ℕ → Sign → ℕ → ℕ → Before
BeforePart text sign k at W from fs evs = AfterSign W text from fs evs sign k at

-- before a pair
abbrev pub BeforePair : List ℕ → ℕ → ℕ → Before
BeforePair text k at W from fs evs = AtPair W text from fs evs k at

-- before the `:` after the key of a pair
abbrev pub BeforeColon : List ℕ → ℕ → ℕ → ℕ → Before
BeforeColon text k at end W from fs evs = AtColon W text from fs evs k at end

-- before the value of a pair, on the line of its key, whose frame is not on the reader's stack
abbrev pub BeforeLineValue : List ℕ → ℕ → ℕ → Before
BeforeLineValue text k at W from fs evs =
    (f : BlockFrame) × (waits_of f ≡ Value) × (indent_of f ≡ k) × AtLeaf W text from (f ∷ fs) evs (k + 1) None at

-- before a node
abbrev pub BeforeNode : List ℕ → ℕ → Bool → ℕ → Before
BeforeNode text m shallow at W from fs evs = AtNode W text from fs evs m shallow (line_starts text at) at

-- before a node on its line
abbrev pub BeforeNodeLine : List ℕ → Indentation → ℕ → Before
BeforeNodeLine text node start W from fs evs =
    (alone : Bool) × (node.margin ≡ (if alone then 0 else node.least)) × AtNodeLine W text from fs evs node.least
    (is_shallow node.context) alone start

-- before a leaf
abbrev pub BeforeLeaf : List ℕ → Leaf → Before
BeforeLeaf text leaf W from fs evs = AtLeaf W text from fs evs leaf.least leaf.pairs leaf.at

-- Whatever the call reads, and whatever is open around: from this state before the step leads to what is read next.
abbrev pub Leads : List ℕ → Before → Reader → Reader → Next → Type 0
Leads text Holding old new to =
    (W : Read Indented) (from : ℕ) (base : List Event) (fs : List BlockFrame) (evs : List grammar.Event)
    → Holds text base fs evs old → Holding W from fs evs → GoesOn W text from base new to

-- Whatever the call reads: in this state before the step it reads nothing.
abbrev pub Fails : List ℕ → Before → Reader → Type 0
Fails text Holding old =
    (W : Read Indented) (from : ℕ) (base : List Event) (fs : List BlockFrame) (evs : List grammar.Event)
    → Holds text base fs evs old → Holding W from fs evs → W ≡ None

-- a step that refuses, other than for memory, reads nothing
abbrev pub FailsBy : List ℕ → Before → Reader → ScanFault → Type 0
FailsBy text Holding old fault = Refuses fault (Fails text Holding old)
