-- When events are refused, and lists of parts as frames.
use Rattle.std.specs.Prelude.{◌≡◌, true, false, List, [], ◌∷◌, Option, None}
use Rattle.yaml_tree.specs.Prelude.{ReadFault, TooLong, NotUtf8, Syntax, Documents, KeyNotText, KeyTwice, TooDeep, LargeInStyle}
use Rattle.yaml_tree.specs.{Prelude.{OutOfMemory, Event, IsTreeOf, distinct}, Frames.Frame}
use Rattle.yaml_grammar.specs.Trees as grammar

-- the frames of a list whose last one is the innermost, put before others
abbrev pub frames_onto : {A : Type 0} → (A → Frame) → List A → List Frame → List Frame
frames_onto frame [] fs = fs
frames_onto frame (x ∷ xs) fs = frames_onto frame xs (frame x ∷ fs)

-- the fault of a call that has no result: `KeyNotText` if there is no such part; memory may run out at any time
abbrev pub HasNone : {A : Type 0} → Option A → ReadFault → Type 0
HasNone o KeyNotText = o ≡ None
HasNone o OutOfMemory = Unit {0}
HasNone o TooLong = ⊥
HasNone o (NotUtf8 at) = ⊥
HasNone o (Syntax line column why) = ⊥
HasNone o (Documents count) = ⊥
HasNone o KeyTwice = ⊥
HasNone o TooDeep = ⊥
HasNone o LargeInStyle = ⊥

-- the fault of events: `KeyNotText` if they are those of no tree; memory may run out at any time
abbrev pub HasNoTree : List Event → ReadFault → Type 0
HasNoTree events KeyNotText = (t : grammar.Tree) → IsTreeOf events t → ⊥
HasNoTree events OutOfMemory = Unit {0}
HasNoTree events TooLong = ⊥
HasNoTree events (NotUtf8 at) = ⊥
HasNoTree events (Syntax line column why) = ⊥
HasNoTree events (Documents count) = ⊥
HasNoTree events KeyTwice = ⊥
HasNoTree events TooDeep = ⊥
HasNoTree events LargeInStyle = ⊥

-- the fault of events that are too deep: `KeyNotText`, `KeyTwice`, and else `TooDeep`; memory may run out at any time
abbrev pub RefusesDeep : List Event → ReadFault → Type 0
RefusesDeep events KeyNotText = (t : grammar.Tree) → IsTreeOf events t → ⊥
RefusesDeep events KeyTwice = (t : grammar.Tree) × IsTreeOf events t × (distinct t ≡ false)
RefusesDeep events TooDeep = (t : grammar.Tree) × IsTreeOf events t × (distinct t ≡ true)
RefusesDeep events OutOfMemory = Unit {0}
RefusesDeep events TooLong = ⊥
RefusesDeep events (NotUtf8 at) = ⊥
RefusesDeep events (Syntax line column why) = ⊥
RefusesDeep events (Documents count) = ⊥
RefusesDeep events LargeInStyle = ⊥
