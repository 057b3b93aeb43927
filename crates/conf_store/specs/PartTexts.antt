-- What a part's text takes.
use Rattle.std.specs.Prelude.{ℕ, List, [], ◌++◌, encode_utf8_all}
use Rattle.conf_store.specs.{Room.AppendsWithin, declared.part_text.PartText.PartText, RoomLaws.{AppendsWithin-none, AppendsWithin-both}}

abbrev pub TakesWithin : PartText → List ℕ → PartText → Type 0
TakesWithin before cs after = AppendsWithin before.text (encode_utf8_all cs) after.text

pub TakesWithin-none : (s : PartText) → TakesWithin s [] s
TakesWithin-none s = AppendsWithin-none s.text

pub TakesWithin-both : (a b c : PartText) (xs ys : List ℕ) → TakesWithin a xs b → TakesWithin b ys c → TakesWithin a (xs ++ ys) c
TakesWithin-both a b c xs ys first second = AppendsWithin-both a.text b.text c.text xs ys first second
