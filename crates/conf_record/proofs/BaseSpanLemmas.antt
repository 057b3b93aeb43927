-- The configurations that are found on the lines of a base, and their spans.
use Rattle.std.proofs.Common.{◌≡◌, ℕ, ◌+◌, ◌-◌, ◌≤◌, Bool, true, false, cond, if◌then◌else◌, List, [], ◌∷◌, ◌++◌, codes, decimal, length}
use Rattle.std.proofs.Common.{Option, Some, None, Bor, MatchOption, is_some, option_copied, take, drop, map, length-append, string_bytes}
use Rattle.std.proofs.Common.{String, Global, IsUtf8, encode_utf8_all, append_assoc, refl, sym, ap, ap₂, subst, ◌∙◌, arith}
use Rattle.std.proofs.{lemmas.List.map-append, Math.Seq.{take-append_seam, drop-append_seam}}
use Rattle.conf_record.proofs.Prelude.{IsUtf8-string_bytes, lookup, chars, Good, byte_len, same_text, Tree, key_lines, value_at}
use Rattle.conf_record.proofs.Prelude.{members_after, byte_len-append, Size, byte_len-encoded, config_limits, same_text-true, GoesOn}
use Rattle.conf_record.proofs.Prelude.{IsStyled, members, base_length, entry_lines, entry_length, entries_length, text_of, is_name}
use Rattle.conf_record.proofs.Prelude.{lines_if_there, entry_named, AreConfigs, good_name, Entry, Contents, names_of, config_named}
use Rattle.conf_record.proofs.Prelude.{has_name, names_differ, base_limit, count_limit, has_name-named, names_differ-push}
use Rattle.conf_record.proofs.{FormatLemmas.{bytes_in, length_in}, EntryLemmas.{entry_lines_of, within, entries_and, whole_base}}
use Rattle.conf_record.specs.{Formats.{format_start, base_text_in, base_in}, declared.{format.Format.Format, base_spans.Span.Span}}
use Rattle.conf_record.specs.BaseSpans.{entry_bytes, IsSpan, bytes_at, AreSpans, IsGoodEntry, AreFound, IsFound, names_under}
use Rattle.conf_state.proofs.EntryLemmas.{same_key}

-- a span under a name
abbrev pub Named : Type 0
Named = String Global × Span

-- ---- one configuration

-- a key after its spaces, and the value after it, both good
pub good_entry : {Is : Tree → Type 0} (lines row value rest name : List ℕ) (size : Size) → lines ≡ codes "  " ++ row
    → GoesOn row (key_lines 2 name) value → IsStyled Is (λ t. value_at t 2) size value rest → size.bytes ≤ 4194304
    → good_name name ≡ true → (t : Tree) × IsGoodEntry lines name t rest
good_entry lines row value rest name size cut key read small named = (
  read.tree,
  record {
    written = entry_lines_of lines row value rest name read.tree cut key read.goes_on;
    named = named;
    within = within read.tree size read.size_is read.sound small;
  },
)

-- ---- what is at a span

module _ (bytes written : List ℕ) (span : Span) (is : IsSpan bytes span written) where
  -- its length is that of the bytes there
  pub span_length : span.from_start - span.from_end ≡ length written
  span_length =
      let start = is.from_start in
      let end = is.from_end in
      omega (arith, start, end, length-append written is.rest)

  -- they are found by it
  pub span_found : bytes_at bytes span ≡ written
  span_found =
      let start = is.from_start in
      let whole = ap length is.is ∙ length-append is.front (written ++ is.rest) in
      let before : length bytes - span.from_start ≡ length is.front = omega (arith, start, whole) in
      ap₂ (λ n m. take n (drop m bytes)) span_length before
      ∙ ap (λ bs. take (length written) (drop (length is.front) bs)) is.is
      ∙ ap (take (length written)) (drop-append_seam is.front (written ++ is.rest))
      ∙ take-append_seam written is.rest

-- bytes before all others move no span
span_after : (before bytes written : List ℕ) (span : Span) → IsSpan bytes span written → IsSpan (before ++ bytes) span written
span_after before bytes written span is = record {
  front = before ++ is.front;
  rest = is.rest;
  is = ap (λ bs. before ++ bs) is.is ∙ sym (append_assoc before is.front (written ++ is.rest));
  from_start = is.from_start;
  from_end = is.from_end;
}

pub spans_after : (before bytes : List ℕ) (ps : List Named) (es : List Entry) → AreSpans bytes ps es → AreSpans (before ++ bytes) ps es
spans_after before bytes [] [] are = tt
spans_after before bytes [] (e ∷ es) are = absurd are
spans_after before bytes (p ∷ ps) [] are = absurd are
spans_after before bytes (p ∷ ps) (e ∷ es) are =
    (are.0, span_after before bytes (entry_bytes e.0 e.1) p.1 are.1, spans_after before bytes ps es are.2)

-- ---- one more

spans_more : (bytes : List ℕ) (ps : List Named) (es : List Entry) (p : Named) (e : Entry) → AreSpans bytes ps es
    → text_of p.0 ≡ e.0 → IsSpan bytes p.1 (entry_bytes e.0 e.1) → AreSpans bytes (ps ++ p ∷ []) (es ++ e ∷ [])
spans_more bytes [] [] p e are named at = (named, at, tt)
spans_more bytes [] (x ∷ es) p e are named at = absurd are
spans_more bytes (q ∷ ps) [] p e are named at = absurd are
spans_more bytes (q ∷ ps) (x ∷ es) p e are named at = (are.0, are.1, spans_more bytes ps es p e are.2 named at)

configs_more : (es : List Entry) (name : List ℕ) (t : Tree) → AreConfigs es → good_name name ≡ true → Good t config_limits
    → AreConfigs (es ++ (name, t) ∷ [])
configs_more [] name t all named within = (named, within, tt)
configs_more (e ∷ es) name t all named within = (all.0, all.1, configs_more es name t all.2 named within)

names_more : (es : List Entry) (e : Entry) → names_of (es ++ e ∷ []) ≡ names_of es ++ e.0 ∷ []
names_more [] e = refl
names_more (x ∷ es) e = ap (λ ns. x.0 ∷ ns) (names_more es e)

-- ---- names

-- what a lookup of a name gives
abbrev pub IsLookup : List ℕ → List ℕ → List Entry → Option Span → Type 0
IsLookup bytes name es found = MatchOption found (config_named es name ≡ None)
    (λ span. (t : Tree) × (config_named es name ≡ Some t) × IsSpan bytes span (entry_bytes name t))

-- it gives the span of the configuration under the name
pub lookup_named : (q : List ℕ) → IsUtf8 q → (bytes : List ℕ) (ps : List Named) (es : List Entry) → AreSpans bytes ps es
    → IsLookup bytes (chars q) es (lookup (is_name q) ps)
lookup_named q utf8 bytes [] [] are = refl
lookup_named q utf8 bytes [] (e ∷ es) are = absurd are
lookup_named q utf8 bytes (p ∷ ps) [] are = absurd are
lookup_named q utf8 bytes (p ∷ ps) (e ∷ es) are =
    by (is_name q p.0) (same_text (chars q) e.0) refl
    (same_key q (string_bytes p.0) utf8 (IsUtf8-string_bytes p.0) ∙ ap (same_text (chars q)) are.0)
    (lookup (is_name q) ps) (lookup_named q utf8 bytes ps es are.2)
  where
    by : (b d : Bool) → same_text (chars q) e.0 ≡ d → b ≡ d → (found : Option Span) → IsLookup bytes (chars q) es found
        → MatchOption (cond b (Some p.1) found) ((if d then Some e.1 else config_named es (chars q)) ≡ None)
        (λ span. (t : Tree) × ((if d then Some e.1 else config_named es (chars q)) ≡ Some t) × IsSpan bytes span (entry_bytes (chars q) t))
    by true true same e0 found rest =
        (e.1, refl, subst (λ n. IsSpan bytes p.1 (entry_bytes n e.1)) (sym (same_text-true (chars q) e.0 same)) are.1)
    by true false same e0 found rest = absurd (cc e0)
    by false true same e0 found rest = absurd (cc e0)
    by false false same e0 found rest = rest

-- a lookup that finds nothing
pub lookup_none : (bytes name : List ℕ) (es : List Entry) (found : Option Span) → IsLookup bytes name es found → found ≡ None
    → config_named es name ≡ None
lookup_none bytes name es None is e = is
lookup_none bytes name es (Some span) is e = absurd (cc e)

-- a lookup that finds a span
pub lookup_some : (bytes name : List ℕ) (es : List Entry) (found : Option Span) (span : Span) → IsLookup bytes name es found
    → found ≡ Some span → (t : Tree) × (config_named es name ≡ Some t) × IsSpan bytes span (entry_bytes name t)
lookup_some bytes name es None span is e = absurd (cc e)
lookup_some bytes name es (Some other) span is e =
    let same : other ≡ span = cc e in
    (is.0, is.1, subst (λ s. IsSpan bytes s (entry_bytes name is.0)) same is.2)

-- whether it finds one
pub lookup_is_some : (bytes name : List ℕ) (es : List Entry) (found : Option Span) → IsLookup bytes name es found
    → is_some found ≡ is_some (config_named es name)
lookup_is_some bytes name es None is = sym (ap is_some is)
lookup_is_some bytes name es (Some span) is = sym (ap is_some is.1)

-- the names of the spans are those of the configurations
pub names_same : (bytes : List ℕ) (ps : List Named) (es : List Entry) → AreSpans bytes ps es → names_under ps ≡ names_of es
names_same bytes [] [] are = refl
names_same bytes [] (e ∷ es) are = absurd are
names_same bytes (p ∷ ps) [] are = absurd are
names_same bytes (p ∷ ps) (e ∷ es) are = ap₂ (λ n ns. n ∷ ns) are.0 (names_same bytes ps es are.2)

-- the bytes of a configuration under a name
pub named_length : (es : List Entry) (name : List ℕ) (t : Tree) → config_named es name ≡ Some t
    → length (entry_bytes name t) ≡ byte_len (entry_named es name)
named_length es name t found =
    sym (byte_len-encoded (entry_lines name t)) ∙ ap (λ o. byte_len (lines_if_there name o)) (sym found)

pub named_none : (es : List Entry) (name : List ℕ) → config_named es name ≡ None → 0 ≡ byte_len (entry_named es name)
named_none es name none = ap (λ o. byte_len (lines_if_there name o)) (sym none)

-- ---- what is found

pub found_first : (lines : List ℕ) (ps : List Named) → ps ≡ [] → AreFound lines ps [] lines
found_first lines ps none = record {
  follows = refl;
  spans = subst (λ ps. AreSpans lines ps []) (sym none) tt;
  configs = tt;
  distinct = refl;
}

pub found_more : (lines left rest name : List ℕ) (ps new : List Named) (es : List Entry) (p : Named) (t : Tree)
    → AreFound lines ps es left → IsGoodEntry left name t rest → text_of p.0 ≡ name → new ≡ ps ++ p ∷ []
    → config_named es name ≡ None → p.1.from_start ≡ length left → p.1.from_end ≡ length rest
    → AreFound lines new (es ++ (name, t) ∷ []) rest
found_more lines left rest name ps new es p t so one named pushed absent start end =
    let other : has_name name (names_of es) ≡ false = has_name-named es name ∙ ap is_some absent in
    let at : IsSpan lines p.1 (entry_bytes name t) = record {
      front = encode_utf8_all (members_after (members es) 2);
      rest = rest;
      is = so.follows ∙ ap (λ bs. encode_utf8_all (members_after (members es) 2) ++ bs) one.written;
      from_start = start ∙ ap length one.written;
      from_end = end;
    } in
    record {
      follows = entries_and lines left rest es name t so.follows one.written;
      spans = subst (λ ps. AreSpans lines ps (es ++ (name, t) ∷ [])) (sym pushed)
          (spans_more lines ps es p (name, t) so.spans named at);
      configs = configs_more es name t so.configs one.named one.within;
      distinct = ap names_differ (names_more es (name, t)) ∙ names_differ-push (names_of es) name so.distinct other;
    }

-- ---- the whole

entries_bytes : (es : List Entry) → byte_len (members_after (members es) 2) ≡ entries_length es
unfolding entry_length
entries_bytes [] = refl
entries_bytes (e ∷ es) =
    byte_len-append (entry_lines e.0 e.1) (members_after (members es) 2) ∙ ap (λ n. byte_len (entry_lines e.0 e.1) + n) (entries_bytes es)

some_configs : (bytes : List ℕ) (ps : List Named) (es : List Entry) → AreSpans bytes ps es → (length ps ≡ 0 → ⊥) → es ≡ [] → ⊥
some_configs bytes [] es are some none = some refl
some_configs bytes (p ∷ ps) [] are some none = are
some_configs bytes (p ∷ ps) (e ∷ es) are some none = cc

pub bytes_length : (format : Format) (s : Contents) → base_length s ≡ length (base_in format s)
bytes_length format s =
    sym (length_in format s) ∙ byte_len-encoded (base_text_in format s) ∙ ap length (sym (bytes_in format s))

-- what is found on the lines of a base is the state whose base it is
pub found_whole : (format : Format) (bytes lines : List ℕ) (ps : List Named) (es : List Entry) (count total : ℕ)
    → AreFound lines ps es (codes "...\n")
    → (length ps ≡ 0 → ⊥) → count ≤ count_limit → length bytes ≤ base_limit → total ≡ length lines - 4
    → bytes ≡ format_start format
    ++ (codes "at: \"" ++ (encode_utf8_all (decimal count) ++ (codes "\"\nconfigs:\n" ++ lines)))
    → IsFound bytes ps count total (record { configs = es; count = count })
found_whole format bytes lines ps es count total so some small short total_is is =
    let s : Contents = record { configs = es; count = count } in
    let written = whole_base format bytes lines es count (some_configs lines ps es so.spans some) small is so.follows in
    let ds = encode_utf8_all (decimal count) in
    let start = format_start format in
    let frame = start ++ (codes "at: \"" ++ (ds ++ codes "\"\nconfigs:\n")) in
    let framed : bytes ≡ frame ++ lines = is
    ∙ ap (λ bs. start ++ (codes "at: \"" ++ bs)) (sym (append_assoc ds (codes "\"\nconfigs:\n") lines))
    ∙ ap (λ bs. start ++ bs) (sym (append_assoc (codes "at: \"") (ds ++ codes "\"\nconfigs:\n") lines))
    ∙ sym (append_assoc start (codes "at: \"" ++ (ds ++ codes "\"\nconfigs:\n")) lines) in
    let size = bytes_length format s ∙ ap length (sym written) in
    let ms = members_after (members es) 2 in
    let long = ap length so.follows ∙ length-append (encode_utf8_all ms) (codes "...\n") in
    record {
      kept = record { configs = so.configs; distinct = so.distinct; short = omega (arith, size, short); numbered = small };
      format = format;
      written = written;
      spans = subst (λ bs. AreSpans bs ps es) (sym framed) (spans_after frame lines ps es so.spans);
      counted = refl;
      total = total_is ∙ omega (arith, long, byte_len-encoded ms, entries_bytes es);
    }

-- ---- names in order

-- one name more
pub names_pushed : (items new : List (String Global)) (string : String Global) (name : List ℕ) (left all : List (List ℕ))
    → new ≡ items ++ string ∷ [] → text_of string ≡ name → map text_of items ++ (name ∷ left) ≡ all → map text_of new ++ left ≡ all
names_pushed items new string name left all pushed named so =
    ap (λ ss. map text_of ss ++ left) pushed ∙ ap (λ ns. ns ++ left) (map-append text_of items (string ∷ []))
    ∙ append_assoc (map text_of items) (text_of string ∷ []) left ∙ ap (λ n. map text_of items ++ (n ∷ left)) named ∙ so

-- what is lent is there
pub copied_is_some : (found : Option (Bor Span)) → is_some found ≡ is_some (option_copied found)
copied_is_some None = refl
copied_is_some (Some span) = refl
