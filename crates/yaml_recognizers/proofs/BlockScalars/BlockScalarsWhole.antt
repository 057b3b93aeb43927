-- Block scalars: what fits in its canonical form is read, and what is read fits in its canonical form. So a text has at
-- most one canonical block scalar at its start.
use Rattle.std.{proofs.Common.{◌≡◌, sym, ◌∙◌, ap, subst, append_assoc}, specs.Prelude.{ℕ, true, ◌&&◌, List, ◌++◌, Some}}
use Rattle.yaml_recognizers.proofs.Prelude.{and_parts, and_from, LineEnd, comments_text, Header, Body, BlockScalar, header_text, body_text}
use Rattle.yaml_recognizers.proofs.{Prelude.{block_text, header_fits, body_fits, trail_fits, block_fits}, Basics.Reading.{Sound, sound_on}}
use Rattle.yaml_recognizers.proofs.BlockScalars.{BlockBodies.{body_read, BodyOf, body_sound}, BlockHeaders.{header_read, HeaderOf}}
use Rattle.yaml_recognizers.proofs.BlockScalars.{BlockHeaders.header_sound, Trails.{trail_read, TrailOf, trail_sound}}
use Rattle.yaml_recognizers.specs.{CanonicalBlockScalars.{canonical_header, whole_trail, canonical_block}, Reading.on}
use Rattle.yaml_recognizers.specs.BlockScalars.{read_header, read_body, read_trail, block_of, read_block}

-- ---- the parts of a block scalar

-- the text of a scalar, from its parts
pub block_regrouped : (h : Header) (b : Body) (trail : List LineEnd) (after : List ℕ)
    → block_text (block_of h b trail) ++ after ≡ header_text h ++ (body_text b ++ (comments_text trail ++ after))
block_regrouped h b trail after = simp append_assoc

-- what a block scalar that fits has
pub record BlockParts (m : ℕ) (b : BlockScalar) (after : List ℕ) : Type 0 where
  pub header : header_fits b.header (body_text b.body ++ (comments_text b.trail ++ after)) ≡ true
  pub body : body_fits (b.header).digit m b.body (comments_text b.trail ++ after) ≡ true
  pub trail : trail_fits (b.body).indent b.trail after ≡ true

-- a block scalar that fits has these parts
pub block_parts : (m : ℕ) (b : BlockScalar) (after : List ℕ) → block_fits m b after ≡ true → BlockParts m b after
block_parts m b after h =
    let p = and_parts _ _ h in
    let q = and_parts _ _ p.0 in
    record { header = q.0; body = q.1; trail = p.1 }

-- ---- complete

-- a canonical block scalar is read
pub block_read : (b : BlockScalar) (m : ℕ) (after : List ℕ) → canonical_block m b after ≡ true
    → read_block m (block_text b ++ after) ≡ Some (b, after)
block_read b m after h =
    let p : (block_fits m b after && canonical_header b.header ≡ true)
    × (whole_trail (b.body).indent b.trail after ≡ true) = and_parts _ _ h in
    let q : (block_fits m b after ≡ true) × (canonical_header b.header ≡ true) = and_parts _ _ p.0 in
    let parts : BlockParts m b after = block_parts m b after q.0 in
    let rest : List ℕ = comments_text b.trail ++ after in
    ap (read_block m) (block_regrouped b.header b.body b.trail after)
    ∙ rw (
      header_read b.header (body_text b.body ++ rest) parts.header q.1,
      body_read (b.header).digit m b.body rest parts.body,
      trail_read (b.body).indent b.trail after parts.trail p.1,
    )

-- ---- sound

-- the block scalar is canonical at the start of the text, before the rest
abbrev pub BlockOf : ℕ → List ℕ → BlockScalar → List ℕ → Type 0
BlockOf m text b rest = (text ≡ block_text b ++ rest) × (canonical_block m b rest ≡ true)

-- a header and a body that are read make a canonical scalar with the comments that are read
joined : (m : ℕ) (text after rest : List ℕ) (h : Header) (b : Body) → HeaderOf text h after → BodyOf h.digit m after b rest
    → BlockOf m text (block_of h b (read_trail b.indent rest).0) (read_trail b.indent rest).1
joined m text after rest h b s t =
    let trail : List LineEnd = (read_trail b.indent rest).0 in
    let end : List ℕ = (read_trail b.indent rest).1 in
    let u : TrailOf b.indent rest (trail, end) = trail_sound b.indent rest in
    let at : after ≡ body_text b ++ (comments_text trail ++ end) = t.0 ∙ ap (λ x. body_text b ++ x) u.0 in (
      s.0 ∙ (ap (λ x. header_text h ++ x) at ∙ sym (block_regrouped h b trail end)),
      and_from _ _ (and_from _ _
          (and_from _ _ (and_from _ _ (subst (λ (x : List ℕ). header_fits h x ≡ true) at s.1)
          (subst (λ (x : List ℕ). body_fits h.digit m b x ≡ true) u.0 t.1)) u.1) s.2) u.2,
    )

-- a block scalar that is read is canonical
pub block_sound : (m : ℕ) (text : List ℕ) → Sound (BlockOf m text) (read_block m text)
block_sound m text =
    sound_on (HeaderOf text) (BlockOf m text) (read_header text)
    (λ h rest. on (read_body h.digit m rest) (λ b after. let t = read_trail b.indent after in
    Some (block_of h b t.0, t.1))) (header_sound text)
    (λ h after s. sound_on (BodyOf h.digit m after) (BlockOf m text) (read_body h.digit m after)
    (λ b rest. let t = read_trail b.indent rest in Some (block_of h b t.0, t.1)) (body_sound h.digit m after)
    (λ b rest t. joined m text after rest h b s t))
