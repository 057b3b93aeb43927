-- What a reader has read, and what it gives in the end.
use Rattle.std.specs.Prelude.{◌≡◌, ◌⊎◌, option_map, Result, Ok, Err}
use Rattle.command_line.specs.{Matches.Given, Rows.row_of, Words.Reading, declared.{reader.Reader.Reader, refusal.Refusal.Refusal}}
use Rattle.command_line.specs.declared.refusal.Refusal.TheVariants.{OutOfMemory}

abbrev pub reading_of : Reader → Reading
reading_of r = record { given = r.given; waits = option_map (λ a. row_of a.now) r.waits; ended = r.ended }

-- the words give this, or they are refused so, or memory ran out
abbrev pub IsRead : Result Given Refusal → Result Given Refusal → Type 0
IsRead (Ok given) said = said ≡ Ok given
IsRead (Err refusal) said = (refusal ≡ OutOfMemory) ⊎ (said ≡ Err refusal)
