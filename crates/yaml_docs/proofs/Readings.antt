-- What bytes read as, from what the recognizer of streams finds in their characters.
use Rattle.std.{proofs.Common.{ap, refl, subst, sym, ◌∙◌, ◌≡◌}, specs.Prelude.{List, None, Option, Some, length, ℕ}}
use Rattle.yaml_docs.proofs.Prelude.{IsUtf8, chars, code_points-chars, Reads, stream_events, IsText, byte_len, read_block, FlatStream}
use Rattle.yaml_docs.proofs.Prelude.{flat_events, read_scalar, stream_at, blocks_read, reading_found, text_reads, reads_scalars}
use Rattle.yaml_docs.{proofs.TextPlaces.byte_len-chars, specs.{Sections.{flat_meaning, stream_meaning}, Reading.{IsShortText, IsSyntax}}}
use Rattle.{yaml_docs.specs.Reading.RefusesBytes, yaml_grammar.specs.Events.Event, yaml_recognizers.specs.Ranges.RangesInOrder}
use Rattle.{yaml_recognizers.proofs.Meanings.Ranges.stream_ranges, yaml_events.specs.declared.read_fault.ReadFault.ReadFault}
use Rattle.yaml_events.specs.declared.read_fault.ReadFault.TheVariants.{TooLong, NotUtf8, Syntax, Documents, KeyNotText, KeyTwice, TooDeep}
use Rattle.yaml_events.specs.declared.read_fault.ReadFault.TheVariants.{LargeInStyle, OutOfMemory}

-- the characters of UTF-8 are a text
pub is_text : (bytes : List ℕ) → IsUtf8 bytes → IsText (chars bytes)
is_text bytes u = code_points-chars bytes u

some_stream : (o : Option FlatStream) (events : List Event) → flat_meaning o ≡ Some events
    → (s : FlatStream) × (o ≡ Some s) × (flat_events s ≡ events)
some_stream None events h = cc
some_stream (Some s) events h = (s, refl, (let e : flat_events s ≡ events = cc in e))

-- what the stream means is what the bytes read as
pub bytes_read : (bytes : List ℕ) (events : List Event) → IsUtf8 bytes → stream_meaning (chars bytes) ≡ Some events
    → Reads (chars bytes) events
bytes_read bytes events u h =
    let s = some_stream (stream_at (chars bytes)) events h in
    subst (λ (es : List Event). Reads (chars bytes) es) s.2
    (text_reads read_scalar reads_scalars read_block blocks_read (chars bytes) s.0 (is_text bytes u) s.1)

-- if there is no stream, the bytes read as nothing
pub nothing_read : (bytes : List ℕ) → stream_meaning (chars bytes) ≡ None → (events : List Event) → Reads (chars bytes) events → ⊥
nothing_read bytes h events r =
    let s = reading_found read_scalar reads_scalars read_block blocks_read (chars bytes) events r.some in
    let found : stream_meaning (chars bytes) ≡ Some (flat_events s.0) = ap flat_meaning s.1 in
    let both : None ≡ Some (flat_events s.0) = sym h ∙ found in
    cc

-- the ranges of what they read as are in order
pub ranges_read : (bytes : List ℕ) (events : List Event) → IsUtf8 bytes → Reads (chars bytes) events → RangesInOrder 0 events (length bytes)
ranges_read bytes events u r =
    let p = r.some.presentation in
    let to : byte_len (chars bytes) ≡ length bytes = byte_len-chars bytes u in
    let in_text : RangesInOrder 0 events (byte_len (chars bytes)) =
    subst (λ (es : List Event). RangesInOrder 0 es (byte_len (chars bytes))) r.some.means
    (subst (λ (t : List ℕ). RangesInOrder 0 (stream_events p) (byte_len t)) r.some.presents.spells (stream_ranges p)) in
    subst (λ (n : ℕ). RangesInOrder 0 events n) to in_text

-- so they are refused for their syntax
pub syntax_refused : (bytes : List ℕ) (max : ℕ) (fault : ReadFault) → IsShortText bytes max
    → stream_meaning (chars bytes) ≡ None → IsSyntax fault → RefusesBytes bytes max fault
syntax_refused bytes max TooLong t h s = absurd s
syntax_refused bytes max (NotUtf8 at) t h s = absurd s
syntax_refused bytes max (Syntax line column why) t h s = (t, nothing_read bytes h)
syntax_refused bytes max (Documents count) t h s = absurd s
syntax_refused bytes max KeyNotText t h s = absurd s
syntax_refused bytes max KeyTwice t h s = absurd s
syntax_refused bytes max TooDeep t h s = absurd s
syntax_refused bytes max LargeInStyle t h s = absurd s
syntax_refused bytes max OutOfMemory t h s = absurd s
