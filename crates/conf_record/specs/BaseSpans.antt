-- Where the configurations of a base are in its bytes.
use Rattle.std.specs.Prelude.{◌≡◌, ◌-◌, ℕ, true, List, [], ◌∷◌, ◌++◌, length, take, drop, String, encode_utf8_all}
use Rattle.conf_record.specs.Prelude.{Global, Good, Tree, config_limits, GoesOn, entry_lines, entries_length, text_of}
use Rattle.conf_record.specs.{Prelude.{AreConfigs, IsState, good_name, Entry, Contents, names_of, names_differ}, Entries.AreEntries}
use Rattle.conf_record.specs.{Formats.base_in, declared.{base_spans.Span.Span, format.Format.Format}}

-- a configuration's lines as bytes
abbrev pub entry_bytes : List ℕ → Tree → List ℕ
entry_bytes name t = encode_utf8_all (entry_lines name t)

-- the span is where these bytes are
pub record IsSpan (bytes : List ℕ) (span : Span) (written : List ℕ) : Type 0 where
  pub front : List ℕ
  pub rest : List ℕ
  pub is : bytes ≡ front ++ (written ++ rest)
  pub from_start : span.from_start ≡ length (written ++ rest)
  pub from_end : span.from_end ≡ length rest

-- the bytes at a span
abbrev pub bytes_at : List ℕ → Span → List ℕ
bytes_at bytes span = take (span.from_start - span.from_end) (drop (length bytes - span.from_start) bytes)

-- the spans under names are those of these configurations, in order
abbrev pub AreSpans : List ℕ → List (String Global × Span) → List Entry → Type 0
AreSpans bytes [] [] = Unit {0}
AreSpans bytes [] (e ∷ es) = ⊥
AreSpans bytes (p ∷ ps) [] = ⊥
AreSpans bytes (p ∷ ps) (e ∷ es) =
    (text_of p.0 ≡ e.0) × IsSpan bytes p.1 (entry_bytes e.0 e.1) × AreSpans bytes ps es

-- the lines begin with a configuration that a store may hold, under a good name
pub record IsGoodEntry (lines name : List ℕ) (t : Tree) (rest : List ℕ) : Type 0 where
  pub written : GoesOn lines (entry_lines name t) rest
  pub named : good_name name ≡ true
  pub within : Good t config_limits

-- the lines begin with configurations that a store may hold, which have these spans in them, and go on with the rest
pub record AreFound (lines : List ℕ) (ps : List (String Global × Span)) (es : List Entry)
    (rest : List ℕ) : Type 0 where
  pub follows : AreEntries lines es rest
  pub spans : AreSpans lines ps es
  pub configs : AreConfigs es
  pub distinct : names_differ (names_of es) ≡ true

-- the bytes are the base of a state in some format, whose configurations have these spans, and so many bytes in all
pub record IsFound (bytes : List ℕ) (ps : List (String Global × Span)) (count sum : ℕ)
    (s : Contents) : Type 0 where
  pub kept : IsState s
  pub format : Format
  pub written : bytes ≡ base_in format s
  pub spans : AreSpans bytes ps s.configs
  pub counted : count ≡ s.count
  pub total : sum ≡ entries_length s.configs

-- the names of spans, in order
abbrev pub names_under : List (String Global × Span) → List (List ℕ)
names_under [] = []
names_under (p ∷ ps) = text_of p.0 ∷ names_under ps

-- the lines are those of a configuration that a store may hold
pub record IsBuilt (lines name : List ℕ) (t : Tree) : Type 0 where
  pub written : lines ≡ entry_bytes name t
  pub within : Good t config_limits
