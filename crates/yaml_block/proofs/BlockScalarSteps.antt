-- The steps of the reader at a block scalar, and the line after it.
use Rattle.std.{proofs.Common.{Global, ap, arith, subst, sym, ◌∙◌, ◌≡◌}, specs.Prelude.{codes, length, ◌*◌, ◌-◌, Bool, List, Some, []}}
use Rattle.std.specs.{Prelude.{false, if◌then◌else◌, true, ℕ, ◌++◌, ◌+◌, ◌∷◌, ◌≤◌}, declared.borrow.CowStr.CowStr}
use Rattle.yaml_block.proofs.Prelude.{cow_str_bytes, IsCharBoundary, IsUtf8, chars, rest, BlockScalar, bare_block_text, block_events}
use Rattle.yaml_block.proofs.Prelude.{block_text, LineEnd, line_end_text, byte_len, first, optional, bar, NoBody, NoHeader, read_block}
use Rattle.yaml_block.proofs.{Prelude.{read_trail, blocks_read, BorrowsPlain, event_of, style_of, Event, Scalar}, Stacks.appended_one}
use Rattle.yaml_block.proofs.{LeafSteps.{block_read, no_block}, TextPlaces.spelled, BlockScalarReads.{BlockReads, block_no_body}}
use Rattle.yaml_block.{proofs.BlockScalarReads.{block_no_header, block_reads}, specs.{Bodies.{IsAfterScalar, IsBlockStyle}, Frames.AtLine}}
use Rattle.yaml_block.specs.declared.{frame.{Collection.Collection, Leaf.Leaf}, next_line.NextLine.NextLine, reader.Reader.Reader}
use Rattle.{yaml_block.specs.States.{Onward, BeforeLeaf, Fails, Leads, Stack}, yaml_events.specs.declared.event.{Span.Span, Style.Style}}
use Rattle.yaml_block_scalars.specs.{Found.{IsBodyAt, IsHeaderAt}, Meant.chomping_of, declared.parts.Header.Header}
use Rattle.yaml_grammar.specs.Events as grammar
use Rattle.yaml_grammar.specs.BlockScalars as grammar_scalars
use Rattle.yaml_block.specs.declared.frame.Next.TheVariants as next

-- ---- its event

-- the event that is pushed is that of the scalar
pub scalar_event_is : (folded : Bool) (style : Style) (start end : ℕ) (value : CowStr Global)
    → IsBlockStyle folded style
    → event_of (Scalar style (record { start = start; end = end }) value) ≡ grammar.scalar_event
    (if folded then grammar.folded_style else grammar.literal_style) start end (chars (cow_str_bytes value))
scalar_event_is true style start end value h = ap (λ s.
    grammar.scalar_event (style_of s) start end (chars (cow_str_bytes value))) h
scalar_event_is false style start end value h = ap
    (λ s. grammar.scalar_event (style_of s) start end (chars (cow_str_bytes value))) h

-- a value that is borrowed lies in the text
pub scalar_borrows : (text : List ℕ) (folded : Bool) (style : Style) (span : Span) (value : CowStr Global)
    → IsBlockStyle folded style → BorrowsPlain text (Scalar style span value)
scalar_borrows text true style span value h = subst (λ (s : Style). BorrowsPlain text (Scalar s span value))
    (sym h) tt
scalar_borrows text false style span value h = subst (λ (s : Style). BorrowsPlain text (Scalar s span value))
    (sym h) tt

-- ---- where the scanner goes on

header_long : (h : grammar_scalars.Header) → 1 ≤ byte_len (grammar_scalars.header_text h)
header_long h = by_cases h.folded
  where
    by_cases : (folded : Bool) → 1 ≤ byte_len ((if folded then codes ">" else codes "|")
        ++ (if h.digit_last then grammar_scalars.chomping_text h.chomping ++ optional grammar_scalars.digit_text
        h.digit else optional grammar_scalars.digit_text h.digit ++ grammar_scalars.chomping_text h.chomping)
        ++ line_end_text h.line_end)
    by_cases true = omega arith
    by_cases false = omega arith

-- the next step is further on
pub scalar_onward : (text : List ℕ) (at lines end least : ℕ) (header : Header) (bytes : List ℕ) (after : NextLine)
    → IsUtf8 text → IsCharBoundary text at → IsHeaderAt text at header lines
    → IsBodyAt least header.folded header text lines bytes end → IsAfterScalar text end after
    → Onward text at (3 * (length text - at)) (next.Line after)
scalar_onward text at lines end least header bytes after u b head body line =
    let h : grammar_scalars.Header = (head.says).header in
    let long : at + byte_len (grammar_scalars.header_text h) ≡ lines =
    spelled text at lines (grammar_scalars.header_text h) u b head.boundary ((head.says).stands).spells in
    let some : 1 ≤ byte_len (grammar_scalars.header_text h) = header_long h in
    let within : (after.line).start ≤ length text = (((line.next).line).boundary).0 in
    record {
      above = omega (arith, long, body.above, line.above);
      less =
          omega (arith, long, some, body.above, line.above, within);
      placed = line.next;
    }

-- ---- the step

module _ (text : List ℕ) (u : IsUtf8 text) where
  -- without a header the leaf is refused
  pub no_header_there : (leaf : Leaf) (old : Reader) → first bar (rest text leaf.at) ≡ true
      → NoHeader (rest text leaf.at) → Fails text (BeforeLeaf text leaf) old
  no_header_there leaf old h n = λ W from base fs evs held here.
      no_block W text from fs evs leaf.least leaf.pairs leaf.at here h
      (block_no_header leaf.least (rest text leaf.at) n)

  -- without a body the leaf is refused
  pub no_body_there : (leaf : Leaf) (header : Header) (lines : ℕ) (old : Reader)
      → first bar (rest text leaf.at) ≡ true → IsHeaderAt text leaf.at header lines
      → NoBody header.digit leaf.least (rest text lines) → Fails text (BeforeLeaf text leaf) old
  no_body_there leaf header lines old h s n = λ W from base fs evs held here.
      no_block W text from fs evs leaf.least leaf.pairs leaf.at here h
      (block_no_body leaf.least (rest text leaf.at) (rest text lines) header.folded header.digit
      (chomping_of header.chomping) s.says n)

  -- with both, the scalar is read and a line follows
  pub block_scalar_read : (leaf : Leaf) (header : Header) (lines end : ℕ) (bytes : List ℕ) (after : NextLine)
      (e : Event) (old new : Reader) → IsCharBoundary text leaf.at
      → first bar (rest text leaf.at) ≡ true → IsHeaderAt text leaf.at header lines
      → IsBodyAt leaf.least header.folded header text lines bytes end → IsAfterScalar text end after
      → event_of e ≡ grammar.scalar_event (if header.folded then grammar.folded_style else grammar.literal_style)
      leaf.at end (chars bytes) → BorrowsPlain text e
      → new.collections ≡ old.collections → new.events ≡ old.events ++ e ∷ [] → new.end ≡ end
      → Leads text (BeforeLeaf text leaf) old new (next.Line after)
  block_scalar_read leaf header lines end bytes after e old new at_boundary bars head body line means borrows
      collections events ends = λ W from base fs evs held here.
      let at : ℕ = leaf.at in
      let r : BlockReads leaf.least (rest text at) (rest text end) (chars bytes) header.folded =
      block_reads leaf.least (rest text at) (rest text lines) (rest text end) (chars bytes) header.folded header.digit
      (chomping_of header.chomping) head.says body.means in
      let trail : List LineEnd × List ℕ = read_trail r.indent (rest text end) in
      let b : BlockScalar = r.scalar trail.0 in
      let start : ℕ = (after.line).start in
      let reads : read_block leaf.least (rest text at) ≡ Some (b, rest text start) = r.reads
      ∙ ap (λ t. Some (b, t)) (line.trail r.indent r.stops) in
      let spells : rest text at ≡ block_text b ++ rest text start =
      (blocks_read.sound leaf.least (rest text at) b (rest text start) reads).0 in
      let long : at + byte_len (block_text b) ≡ start = spelled text at start (block_text b) u at_boundary
      ((line.next).line).boundary spells in
      let body_end : at + byte_len (bare_block_text (r.scalar [])) ≡ end =
      spelled text at end (bare_block_text (r.scalar [])) u at_boundary body.boundary r.spells in
      let here_events : block_events at b ≡ event_of e ∷ [] =
      r.means trail.0 at
      ∙ (ap (λ x. grammar.scalar_event (if header.folded then grammar.folded_style else grammar.literal_style) at x
      (chars bytes) ∷ []) body_end ∙ ap (λ x. x ∷ []) (sym means)) in
      let read : AtLine W text from fs (evs ++ block_events at b) start (at + byte_len (bare_block_text b)) =
      block_read W text from fs evs leaf.least leaf.pairs at b start here bars reads long in
      let end_is : at + byte_len (bare_block_text b) ≡ new.end = ap (λ t. at + byte_len t) (r.body_is trail.0)
      ∙ (body_end ∙ sym ends) in
      record {
        fs = fs;
        evs = evs ++ event_of e ∷ [];
        holds = record {
          stack = subst (λ (v : List Collection). Stack fs v) (sym (ap (λ v. v.items) collections)) held.stack;
          appended = appended_one text base old.events new.events evs e held.appended events borrows;
        };
        stands = subst (λ (x : ℕ). AtLine W text from fs (evs ++ event_of e ∷ []) start x) end_is
            (subst (λ (es : List grammar.Event). AtLine W text from fs (evs ++ es) start
            (at + byte_len (bare_block_text b))) here_events read);
      }
