-- A block scalar in a node: from what its scanners find to what the recognizer reads, and the comments after it.
use Rattle.std.{proofs.Common.{ap, append_assoc, refl, sym, ◌∙◌, ◌≡◌}, specs.Prelude.{Bool, List, None, Option, Some, [], false}}
use Rattle.std.specs.Prelude.{if◌then◌else◌, ℕ, ◌++◌, ◌+◌, ◌∷◌}
use Rattle.yaml_block.proofs.Prelude.{and_parts, not-true, BlockScalar, Body, Chomping, Header, bare_block_text, block_events, block_text}
use Rattle.yaml_block.proofs.Prelude.{block_value, goes_on, folded_style, literal_style, scalar_event, LineEnd, comments_text, byte_len}
use Rattle.yaml_block.proofs.Prelude.{IsBody, IsHeader, NoBody, NoHeader, block_of, read_block, read_body, read_header, read_trail, Read}
use Rattle.yaml_block.proofs.Prelude.{blocks_read, body_found, body_is, digit_first, header_found, header_is}
use Rattle.yaml_recognizers.proofs.BlockScalars.Trails.{trail_sound}

-- ---- the scalar

-- a block scalar is read, with this value and rest
pub record BlockReads (m : ℕ) (text after value : List ℕ) (folded : Bool) : Type 0 where
  pub scalar : List LineEnd → BlockScalar
  pub indent : ℕ
  pub stops : goes_on indent after ≡ false
  pub reads : read_block m text ≡ Some (scalar (read_trail indent after).0, (read_trail indent after).1)
  pub text_is : (comments : List LineEnd) → block_text (scalar comments) ≡ bare_block_text (scalar [])
      ++ comments_text comments
  pub body_is : (comments : List LineEnd) → bare_block_text (scalar comments) ≡ bare_block_text (scalar [])
  pub means : (comments : List LineEnd) (at : ℕ)
      → block_events at (scalar comments) ≡ scalar_event (if folded then folded_style else literal_style) at
      (at + byte_len (bare_block_text (scalar []))) value ∷ []
  pub spells : text ≡ bare_block_text (scalar []) ++ after

-- its header, body and comments make the whole scalar
pub block_reads : (m : ℕ) (text lines after value : List ℕ) (folded : Bool) (digit : Option ℕ) (chomping : Chomping)
    → IsHeader text folded digit chomping lines
    → IsBody digit m folded chomping lines value after → BlockReads m text after value folded
block_reads m text lines after value folded digit chomping h b =
    let header : Header = digit_first h.header in
    let found : read_header text ≡ Some (header, lines) = header_found text h.header lines h.stands in
    let body : read_body (h.header).digit m lines ≡ Some (b.body, after) =
    ap (λ d. read_body d m lines) (h.means).indentation ∙ body_found digit m lines b.body after b.stands in
    let trail : List LineEnd × List ℕ = read_trail (b.body).indent after in
    let reads : read_block m text ≡ Some (block_of header b.body trail.0, trail.1) = rw (found, body) refl in
    record {
      scalar = λ comments. block_of header b.body comments;
      indent = (b.body).indent;
      stops = not-true _ (and_parts _ _ (b.stands).fits).1;
      reads = reads;
      text_is = λ comments. refl;
      body_is = λ comments. refl;
      means = λ comments at.
          ap (λ f. scalar_event (if f then folded_style else literal_style) at
          (at + byte_len (bare_block_text (block_of header b.body [])))
          (block_value f (h.header).chomping (b.body).empties (b.body).texts) ∷ []) (h.means).style
          ∙ (ap (λ c. scalar_event (if folded then folded_style else literal_style) at
          (at + byte_len (bare_block_text (block_of header b.body [])))
          (block_value folded c (b.body).empties (b.body).texts) ∷ []) (h.means).chomps
          ∙ ap (λ v. scalar_event (if folded then folded_style else literal_style) at
          (at + byte_len (bare_block_text (block_of header b.body []))) v ∷ []) (sym b.means));
      spells = (blocks_read.sound m text (block_of header b.body trail.0) trail.1 reads).0
          ∙ (append_assoc (bare_block_text (block_of header b.body [])) (comments_text trail.0) trail.1
          ∙ ap (λ t. bare_block_text (block_of header b.body []) ++ t) (sym (trail_sound (b.body).indent after).0));
    }

-- without a header there is none
pub block_no_header : (m : ℕ) (text : List ℕ) → NoHeader text → read_block m text ≡ None
block_no_header m text n = by_cases (read_header text) refl
  where
    by_cases : (r : Read Header) → read_header text ≡ r → read_block m text ≡ None
    by_cases None e = rw e refl
    by_cases (Some r) e = absurd (let i : IsHeader text (r.0).folded (r.0).digit (r.0).chomping r.1 =
        header_is text r.0 r.1 e in n i.header r.1 i.stands)

-- without a body there is none
pub block_no_body : (m : ℕ) (text lines : List ℕ) (folded : Bool) (digit : Option ℕ) (chomping : Chomping)
    → IsHeader text folded digit chomping lines → NoBody digit m lines → read_block m text ≡ None
block_no_body m text lines folded digit chomping h n =
    let found : read_header text ≡ Some (digit_first h.header, lines) = header_found text h.header lines h.stands in
    let none : read_body (h.header).digit m lines ≡ None = ap (λ d. read_body d m lines) (h.means).indentation
    ∙ by_cases (read_body digit m lines) refl in
    rw (found, none) refl
  where
    by_cases : (r : Read Body) → read_body digit m lines ≡ r → r ≡ None
    by_cases None e = refl
    by_cases (Some r) e = absurd (let i : IsBody digit m folded chomping lines
        (block_value folded chomping (r.0).empties (r.0).texts) r.1 =
        body_is digit m folded chomping lines r.0 r.1 e in n i.body r.1 i.stands)
