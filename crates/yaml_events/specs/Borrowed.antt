-- Plain scalars on one line borrow their values from the text.
use Rattle.std.specs.{Prelude.{◌≡◌, ℕ, List, slice_range}, Cow.{IsBorrowedStr, cow_str_bytes}, declared.borrow.CowStr.CowStr}
use Rattle.{yaml_chars.specs.Breaks.NoBreak, yaml_events.specs.declared.event.Event.{Event, TheVariants.{DocStart, DocEnd, SeqStart}}}
use Rattle.yaml_events.specs.declared.event.{Event.TheVariants.{SeqEnd, MapStart, MapEnd, Scalar}, Style.TheVariants.{Plain, Single}}
use Rattle.yaml_events.specs.declared.event.Style.TheVariants.{Double, Literal, Folded, Omitted}

-- Where no break is between the two places, the value is borrowed, and it is what is between them.
abbrev pub BorrowsOneLine : {A : Type 0} → List ℕ → ℕ → CowStr A → ℕ → Type 0
BorrowsOneLine text at value end =
    NoBreak (slice_range text at end) → IsBorrowedStr value × (cow_str_bytes value ≡ slice_range text at end)

-- a plain scalar does so at its range; of other events nothing is asked
abbrev pub BorrowsPlain : List ℕ → Event → Type 0
BorrowsPlain text DocStart = Unit {0}
BorrowsPlain text DocEnd = Unit {0}
BorrowsPlain text SeqStart = Unit {0}
BorrowsPlain text SeqEnd = Unit {0}
BorrowsPlain text MapStart = Unit {0}
BorrowsPlain text MapEnd = Unit {0}
BorrowsPlain text (Scalar Plain span value) = BorrowsOneLine text span.start value span.end
BorrowsPlain text (Scalar Single span value) = Unit {0}
BorrowsPlain text (Scalar Double span value) = Unit {0}
BorrowsPlain text (Scalar Literal span value) = Unit {0}
BorrowsPlain text (Scalar Folded span value) = Unit {0}
BorrowsPlain text (Scalar Omitted span value) = Unit {0}
