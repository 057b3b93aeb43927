-- What today's meaning makes of the files of the first format.
use Rattle.std.specs.Prelude.{ℕ, Bool, List}
use Rattle.conf_store.specs.Prelude.{Contents}
use Rattle.conf_store.specs.First as first
use Rattle.conf_store.specs.Meaning as now

-- Where bytes mean a state as `confstore-1`, they mean the same state now, with the note that several waited or without.
abbrev pub OldStoresRead : Type 0
OldStoresRead = (several : Bool) (bytes : List ℕ) (s : Contents) → first.Means bytes s → now.Means several bytes s
