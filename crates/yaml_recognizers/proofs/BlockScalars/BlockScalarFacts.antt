-- What is read is what is at the start of the text, and means what each presentation there means. If nothing is read,
-- nothing is there. These lemmas are over the grammar's own conditions, without those of the canonical form.
use Rattle.std.{proofs.Common.{◌≡◌, refl, sym, ◌∙◌, ap, append_assoc}, specs.Prelude.{ℕ, ◌+◌, Bool, true, false, not, ◌&&◌, ◌||◌, List, []}}
use Rattle.std.specs.Prelude.{◌∷◌, ◌++◌, Option, Some, None, is_some, if◌then◌else◌}
use Rattle.yaml_recognizers.proofs.Prelude.{is_empty, byte_len, LineEnd, line_end_text, comments_text, Chomping, strip, clip, keep, Header}
use Rattle.yaml_recognizers.proofs.Prelude.{Body, BlockScalar, chomping_text, header_text, body_text, bare_block_text, block_value, Event}
use Rattle.yaml_recognizers.proofs.{Prelude.{scalar_event, literal_style, folded_style}, Basics.Reading.{none_some, some_parts, sound_is}}
use Rattle.yaml_recognizers.proofs.BlockScalars.{BlockHeaders.{bar, signs, header_read, HeaderOf, header_sound}, BlockBodies.body_read}
use Rattle.yaml_recognizers.proofs.BlockScalars.{BlockBodies.{BodyOf, body_sound}, BlockScalarsWhole.{BlockParts, block_parts, block_read}}
use Rattle.yaml_recognizers.{proofs.BlockScalars.BlockScalarsWhole.{BlockOf, block_sound}, specs.Scalars.ReadsBlocks}
use Rattle.yaml_recognizers.specs.{BlockScalars.{read_header, read_body, read_trail, block_of, read_block}, BlockScalarFacts.HeaderStands}
use Rattle.yaml_recognizers.specs.BlockScalarFacts.{IsHeader, NoHeader, BodyStands, IsBody, NoBody, BlockStands, SameBlock, NoBlock}

-- ---- the recognizer as block nodes take it

-- the recognizer of block scalars is one as nodes ask for
pub blocks_read : ReadsBlocks read_block
blocks_read = record {
  complete = block_read;
  sound = λ m text b rest e. sound_is (BlockOf m text) (read_block m text) (b, rest) (block_sound m text) e;
}

-- ---- the header

-- with its digit last only where it comes after a mark
abbrev pub digit_first : Header → Header
digit_first h = record {
  folded = h.folded;
  digit = h.digit;
  chomping = h.chomping;
  digit_last = h.digit_last && (is_some h.digit && not (is_empty (chomping_text h.chomping)));
  line_end = h.line_end;
}

-- what is last only if it may be, is canonical
canonical_first : (b c : Bool) → not (b && c) || c ≡ true
canonical_first true true = refl
canonical_first true false = refl
canonical_first false true = refl
canonical_first false false = refl

-- the digit's place doesn't change the signs where there is no digit or no mark
signs_first : (digit : Option ℕ) (chomping : Chomping) (last : Bool)
    → signs digit chomping (last && (is_some digit && not (is_empty (chomping_text chomping)))) ≡ signs digit chomping last
signs_first digit chomping false = refl
signs_first None strip true = refl
signs_first None clip true = refl
signs_first None keep true = refl
signs_first (Some d) strip true = refl
signs_first (Some d) clip true = refl
signs_first (Some d) keep true = refl

-- nor does it change the header's text
first_text : (h : Header) → header_text (digit_first h) ≡ header_text h
first_text h = ap (λ s. bar h.folded ++ s ++ line_end_text h.line_end) (signs_first h.digit h.chomping h.digit_last)

-- each header that is there is read, but for the place of its digit
pub header_found : (text : List ℕ) (h : Header) (rest : List ℕ) → HeaderStands text h rest → read_header text ≡ Some (digit_first h, rest)
header_found text h rest s =
    ap read_header (s.spells ∙ ap (λ t. t ++ rest) (sym (first_text h)))
    ∙ header_read (digit_first h) rest s.fits (canonical_first h.digit_last (is_some h.digit && not (is_empty (chomping_text h.chomping))))

-- a header that is there is the one that is read
pub header_stands : (text : List ℕ) (h : Header) (rest : List ℕ) → HeaderStands text h rest → IsHeader text h.folded h.digit h.chomping rest
header_stands text h rest s =
    record {
      header = h;
      stands = s;
      means = record { style = refl; indentation = refl; chomps = refl };
      only = λ g after t.
          let p : (digit_first g ≡ digit_first h) × (after ≡ rest) =
          some_parts (digit_first g) (digit_first h) after rest
          (sym (header_found text g after t) ∙ header_found text h rest s) in (
            record {
              style = ap (λ (x : Header). x.folded) p.0;
              indentation = ap (λ (x : Header). x.digit) p.0;
              chomps = ap (λ (x : Header). x.chomping) p.0;
            },
            p.1,
          );
    }

-- a header that is read is there, and each one there says the same
pub header_is : (text : List ℕ) (h : Header) (rest : List ℕ) → read_header text ≡ Some (h, rest)
    → IsHeader text h.folded h.digit h.chomping rest
header_is text h rest e =
    let s : HeaderOf text h rest = sound_is (HeaderOf text) (read_header text) (h, rest) (header_sound text) e in
    header_stands text h rest (record { spells = s.0; fits = s.1 })

-- if none is read, none is there
pub no_header : (text : List ℕ) → read_header text ≡ None → NoHeader text
no_header text e h rest s = none_some (digit_first h, rest) (sym e ∙ header_found text h rest s)

-- ---- the body

-- a body that is there is read
pub body_found : (digit : Option ℕ) (m : ℕ) (text : List ℕ) (b : Body) (rest : List ℕ)
    → BodyStands digit m text b rest → read_body digit m text ≡ Some (b, rest)
body_found digit m text b rest s = ap (read_body digit m) s.spells ∙ body_read digit m b rest s.fits

-- a body that is there is the one that is read, with its value
pub body_stands : (digit : Option ℕ) (m : ℕ) (folded : Bool) (chomping : Chomping) (text : List ℕ) (b : Body)
    (rest : List ℕ) → BodyStands digit m text b rest
    → IsBody digit m folded chomping text (block_value folded chomping b.empties b.texts) rest
body_stands digit m folded chomping text b rest s =
    record {
      body = b;
      stands = s;
      means = refl;
      only = λ c after t. some_parts c b after rest (sym (body_found digit m text c after t) ∙ body_found digit m text b rest s);
    }

-- a body that is read is there, and no other
pub body_is : (digit : Option ℕ) (m : ℕ) (folded : Bool) (chomping : Chomping) (text : List ℕ) (b : Body)
    (rest : List ℕ) → read_body digit m text ≡ Some (b, rest)
    → IsBody digit m folded chomping text (block_value folded chomping b.empties b.texts) rest
body_is digit m folded chomping text b rest e =
    let s : BodyOf digit m text b rest = sound_is (BodyOf digit m text) (read_body digit m text) (b, rest) (body_sound digit m text) e in
    body_stands digit m folded chomping text b rest (record { spells = s.0; fits = s.1 })

-- if none is read, none is there
pub no_body : (digit : Option ℕ) (m : ℕ) (text : List ℕ) → read_body digit m text ≡ None → NoBody digit m text
no_body digit m text e b rest s = none_some (b, rest) (sym e ∙ body_found digit m text b rest s)

-- ---- the whole scalar

-- its header and its body
pub block_header : (m : ℕ) (text : List ℕ) (b : BlockScalar) (rest : List ℕ) → BlockStands m text b rest
    → HeaderStands text b.header (body_text b.body ++ (comments_text b.trail ++ rest))
block_header m text b rest s =
    let p : BlockParts m b rest = block_parts m b rest s.fits in
    record { spells = s.spells ∙ simp append_assoc; fits = p.header }

-- a block scalar that is there has its header and body there
pub block_body : (m : ℕ) (text : List ℕ) (b : BlockScalar) (rest : List ℕ) → BlockStands m text b rest
    → BodyStands (b.header).digit m (body_text b.body ++ (comments_text b.trail ++ rest)) b.body (comments_text b.trail ++ rest)
block_body m text b rest s = let p : BlockParts m b rest = block_parts m b rest s.fits in record { spells = refl; fits = p.body }

-- the text and the events up to the comments, from the header's text and parts
abbrev body_spelled : List ℕ → Body → List ℕ
body_spelled header b = header ++ body_text b

-- its events, from the header, the body and its text
abbrev body_events : ℕ → Header → Body → List ℕ → List Event
body_events at h b text = scalar_event (if h.folded then folded_style else literal_style) at (at + byte_len text)
    (block_value h.folded h.chomping b.empties b.texts) ∷ []

-- scalars of the same parts are the same
same_parts : (b c : BlockScalar) → digit_first b.header ≡ digit_first c.header → b.body ≡ c.body → SameBlock b c
same_parts b c h g =
    let text : header_text b.header ≡ header_text c.header = sym (first_text b.header) ∙ (ap header_text h ∙ first_text c.header) in
    let spelled : bare_block_text b ≡ bare_block_text c = ap (λ t. body_spelled t b.body) text
    ∙ ap (body_spelled (header_text c.header)) g in
    record {
      spells = spelled;
      means = λ at. ap (λ x. body_events at x b.body (bare_block_text b)) h
          ∙ (ap (λ x. body_events at (digit_first c.header) x (bare_block_text b)) g
          ∙ ap (body_events at (digit_first c.header) c.body) spelled);
    }

-- each block scalar that is there is read, but for the place of its digit, and with all comments after it
pub block_found : (m : ℕ) (text : List ℕ) (b : BlockScalar) (rest : List ℕ) → BlockStands m text b rest
    → let t = read_trail (b.body).indent (comments_text b.trail ++ rest) in
    read_block m text ≡ Some (block_of (digit_first b.header) b.body t.0, t.1)
block_found m text b rest s =
    let tail : List ℕ = comments_text b.trail ++ rest in
    let h : read_header text ≡ Some (digit_first b.header, body_text b.body ++ tail) =
    header_found text b.header (body_text b.body ++ tail) (block_header m text b rest s) in
    let g : read_body (b.header).digit m (body_text b.body ++ tail) ≡ Some (b.body, tail) =
    body_found (b.header).digit m (body_text b.body ++ tail) b.body tail (block_body m text b rest s) in
    rw (h, g)

-- all block scalars that are there spell the same up to their comments, and mean the same
pub block_once : (m : ℕ) (text : List ℕ) (b c : BlockScalar) (rest after : List ℕ) → BlockStands m text b rest
    → BlockStands m text c after → SameBlock b c
block_once m text b c rest after s t =
    let u : List LineEnd × List ℕ = read_trail (b.body).indent (comments_text b.trail ++ rest) in
    let v : List LineEnd × List ℕ = read_trail (c.body).indent (comments_text c.trail ++ after) in
    let p : (block_of (digit_first b.header) b.body u.0 ≡ block_of (digit_first c.header) c.body v.0) × (u.1 ≡ v.1) =
    some_parts (block_of (digit_first b.header) b.body u.0) (block_of (digit_first c.header) c.body v.0) u.1 v.1
    (sym (block_found m text b rest s) ∙ block_found m text c after t) in
    same_parts b c (ap (λ (x : BlockScalar). x.header) p.0) (ap (λ (x : BlockScalar). x.body) p.0)

-- if none is read, none is there
pub no_block : (m : ℕ) (text : List ℕ) → read_block m text ≡ None → NoBlock m text
no_block m text e b rest s = none_some _ (sym e ∙ block_found m text b rest s)
