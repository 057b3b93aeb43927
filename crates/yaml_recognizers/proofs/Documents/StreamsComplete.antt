-- A stream that is canonical is read whole.
use Rattle.std.{proofs.Common.{ap, append_assoc, arith, inl, inr, length-append, refl, subst, sym, ◌<◌, ◌∙◌, ◌≡◌, ◌≤◌}, specs.Prelude.Bool}
use Rattle.std.specs.Prelude.{List, Some, [], codes, drop, false, length, not, suc, true, zero, ℕ, ◌&&◌, ◌++◌, ◌==◌, ◌∷◌}
use Rattle.yaml_recognizers.proofs.Prelude.{and_from, and_parts, and_right, cases_Bool, cases_eq, eqb-true, false≢true, ne_eqb, not-true}
use Rattle.yaml_recognizers.proofs.Prelude.{or_parts, white, Node, node_text, LineEnd, comments_text, line_end_text, Explicit, bare}
use Rattle.yaml_recognizers.proofs.Prelude.{content, directed, document_text, explicit, explicit_text, mark_text, nothing, Version}
use Rattle.yaml_recognizers.proofs.Prelude.{yaml_1_1, yaml_1_2, version_text, list_all, begins, ends_word, first, is_empty, marker}
use Rattle.yaml_recognizers.proofs.{Prelude.starts_line, Block.BlockNodesBegin.closes, Separation.CommentsSound.line_is_end}
use Rattle.yaml_recognizers.proofs.Separation.{LineEnds.line_long, CommentsComplete.{comments_all, line_end_read}}
use Rattle.yaml_recognizers.proofs.{Flow.FlowNodesBegin.reserved, Basics.Prefixes.{drop_while_all, take_while_all}}
use Rattle.yaml_recognizers.proofs.Documents.StreamsBegin.{Bare, bare_prefix, content_given, document_ended, node_prefix, node_long}
use Rattle.yaml_recognizers.specs.{BlockNodes.omits, CanonicalBlockNodes.canonical_node, CanonicalComments.canonical_comments}
use Rattle.yaml_recognizers.specs.{CanonicalComments.is_line_end, Comments.{all_comments, closes_line}, Ends.block_node_stops, Reading.Read}
use Rattle.yaml_recognizers.specs.{Reading.on, CanonicalStreams.{FlatStream, Section, canonical_explicit, canonical_section}}
use Rattle.yaml_recognizers.specs.CanonicalStreams.{canonical_sections, canonical_stream, document, flat_text, line, opens, section_text}
use Rattle.yaml_recognizers.specs.{CanonicalStreams.{sections_text, suffix}, Streams.{directed_with, marker_of, more_sections, order_mark}}
use Rattle.yaml_recognizers.specs.Streams.{percent, section_and, read_directed, read_explicit, read_section, read_sections, read_version}
use Rattle.yaml_recognizers.specs.Streams.{stream_of, suffix_with, with_mark}

-- there is a marker where one is found
pub begins_split : (cs text : List ℕ) → begins cs text ≡ true → text ≡ cs ++ drop (length cs) text
begins_split [] text h = refl
begins_split (c ∷ cs) [] h = absurd (false≢true h)
begins_split (c ∷ cs) (d ∷ ds) h =
    let p : (d == c ≡ true) × (begins cs ds ≡ true) = and_parts _ _ h in
    ap (λ x. x ∷ ds) (eqb-true d c p.0) ∙ ap (λ xs. c ∷ xs) (begins_split cs ds p.1)

-- three dashes as a marker are one
dashes_mark : (text : List ℕ) → marker_of 45 text ≡ true → marker text ≡ true
dashes_mark text h =
    let p : (begins (codes "---") text ≡ true) × (ends_word (drop 3 text) ≡ true) = and_parts _ _ h in
    ap marker (begins_split (codes "---") text p.0) ∙ p.1

-- so are three dots
dots_mark : (text : List ℕ) → marker_of 46 text ≡ true → marker text ≡ true
dots_mark text h =
    let p : (begins (codes "...") text ≡ true) × (ends_word (drop 3 text) ≡ true) = and_parts _ _ h in
    ap marker (begins_split (codes "...") text p.0) ∙ p.1

-- where no marker is, neither is there
no_marker_of : (bol : Bool) (x : ℕ) (text : List ℕ) → (marker_of x text ≡ true → marker text ≡ true)
    → (bol ≡ true → marker text ≡ false) → bol && marker_of x text ≡ false
no_marker_of false x text f u = refl
no_marker_of true x text f u = elim (cases_Bool (marker_of x text)) [
  | inl e ↦ absurd (false≢true (sym (u refl) ∙ f e))
  | inr e ↦ e
]

-- what is not reserved is no `%` and no byte order mark
not_reserved : (text : List ℕ) → first reserved text ≡ false → (first percent text ≡ false) × (first order_mark text ≡ false)
not_reserved [] h = (refl, refl)
not_reserved (c ∷ cs) h = or_parts _ _ h

-- the line of a comment begins with no byte order mark
line_no_mark : (text : List ℕ) → is_line_end text ≡ true → first order_mark text ≡ false
line_no_mark [] h = refl
line_no_mark (c ∷ cs) h = elim (cases_eq c 0xfeff) [
  | inl e ↦ absurd (false≢true (subst (λ (x : ℕ). is_line_end (x ∷ cs) ≡ true) e h))
  | inr n ↦ ne_eqb c 0xfeff n
]

-- what a section asks of the text after it
abbrev pub Follows : Section → List ℕ → Type 0
Follows (suffix comments) after = Unit {0}
Follows (line e) after = Unit {0}
Follows (document d) after = block_node_stops 0 false after ≡ true

-- what follows a section ends it
pub follows : (p : Section) (ps : List Section) (opened bol : Bool)
    → canonical_sections ps (opens opened p) bol ≡ true → Follows p (sections_text ps)
follows (suffix comments) ps opened bol h = tt
follows (line e) ps opened bol h = tt
follows (document d) ps opened bol h = document_ended ps bol h

-- ---- what sections begin with

-- what starts with `---` isn't empty, and starts with no byte order mark
explicit_some : (x : Explicit) (rest : List ℕ)
    → (is_empty (explicit_text x ++ rest) ≡ false) × (first order_mark (explicit_text x ++ rest) ≡ false)
explicit_some (content n) rest = (refl, refl)
explicit_some (nothing comments) rest = (refl, refl)

-- a canonical node is found as a bare document
bare_some : (n : Node) (bol : Bool) (rest : List ℕ) → canonical_node n 0 false bol rest ≡ true
    → is_line_end (node_text n ++ rest) ≡ false → Bare bol (node_text n ++ rest)
bare_some n bol rest h l = bare_prefix bol (node_text n ++ rest) (node_prefix n bol rest h) l

-- a line that isn't empty isn't so before more
line_more : (text rest : List ℕ) → not (is_empty text) ≡ true → is_empty (text ++ rest) ≡ false
line_more [] rest h = absurd (false≢true h)
line_more (c ∷ cs) rest h = refl

-- a section that fits isn't empty, and starts with no byte order mark
pub section_some : (p : Section) (opened bol : Bool) (rest : List ℕ) → canonical_section p opened bol rest ≡ true
    → (is_empty (section_text p ++ rest) ≡ false) × (first order_mark (section_text p ++ rest) ≡ false)
section_some (suffix comments) opened bol rest h = (refl, refl)
section_some (line e) opened bol rest h =
    (line_more (line_end_text e) rest (and_parts _ _ h).0, line_no_mark (line_end_text e ++ rest) (line_is_end bol e rest h))
section_some (document (bare n)) opened bol rest h =
    let p : (opened && not (is_line_end (node_text n ++ rest)) ≡ true) × (canonical_node n 0 false bol rest ≡ true) = and_parts _ _ h in
    let b : Bare bol (node_text n ++ rest) = bare_some n bol rest p.1 (not-true _ (and_parts _ _ p.0).1) in
    (b.some, (not_reserved (node_text n ++ rest) b.unreserved).1)
section_some (document (explicit x)) opened bol rest h = explicit_some x rest
section_some (document (directed blank version comments x)) opened bol rest h = (refl, refl)

-- what starts with `---` has a character
explicit_long : (x : Explicit) → 1 ≤ length (explicit_text x)
explicit_long (content n) = omega arith
explicit_long (nothing comments) = omega arith

-- a section isn't empty
pub section_long : (p : Section) (opened bol : Bool) (rest : List ℕ) → canonical_section p opened bol rest ≡ true
    → 1 ≤ length (section_text p)
section_long (suffix comments) opened bol rest h = omega arith
section_long (line e) opened bol rest h = line_long bol e rest h
section_long (document (bare n)) opened bol rest h = node_long n 0 false bol rest (and_parts _ _ h).1
section_long (document (explicit x)) opened bol rest h = explicit_long x
section_long (document (directed blank version comments x)) opened bol rest h = omega arith

-- there are no more sections than characters
sections_long : (ps : List Section) (opened bol : Bool) → canonical_sections ps opened bol ≡ true → length ps ≤ length (sections_text ps)
sections_long [] opened bol h = omega arith
sections_long (p ∷ ps) opened bol h =
    let q : (canonical_section p opened bol (sections_text ps) ≡ true)
    × (canonical_sections ps (opens opened p) (starts_line bol (section_text p)) ≡ true) = and_parts _ _ h in
    let l : 1 ≤ length (section_text p) = section_long p opened bol (sections_text ps) q.0 in
    let m : length ps ≤ length (sections_text ps) = sections_long ps (opens opened p) (starts_line bol (section_text p)) q.1 in
    omega (arith, l, m, length-append (section_text p) (sections_text ps))

-- ---- what is canonical is read

-- the version is read
version_read : (version : Version) (rest : List ℕ) → read_version (version_text version ++ rest) ≡ Some (version, rest)
version_read yaml_1_1 rest = refl
version_read yaml_1_2 rest = refl

-- it starts with no whitespace
version_not_white : (version : Version) (rest : List ℕ) → first white (version_text version ++ rest) ≡ false
version_not_white yaml_1_1 rest = refl
version_not_white yaml_1_2 rest = refl

module _ (node_at : Bool → List ℕ → Read Node)
    (node_read : (n : Node) (bol : Bool) (after : List ℕ) → canonical_node n 0 false bol after ≡ true
    → block_node_stops 0 false after ≡ true → node_at bol (node_text n ++ after) ≡ Some (n, after)) where
  explicit_read : (x : Explicit) (after : List ℕ) → canonical_explicit x true after ≡ true
      → block_node_stops 0 false after ≡ true → read_explicit node_at (explicit_text x ++ after) ≡ Some (x, after)
  unfolding read_explicit
  explicit_read (content n) after h e =
      let text : List ℕ = node_text n ++ after in
      let p : (ends_word text ≡ true) × (canonical_node n 0 false false after ≡ true) = and_parts _ _ h in
      let o : omits 0 false (all_comments false text) ≡ false = content_given text (node_prefix n false after p.1) in
      rw p.0 (rw o (ap (λ r. on r (λ n' rest. Some (content n', rest))) (node_read n false after p.1 e)))
  explicit_read (nothing comments) after h e =
      let text : List ℕ = comments_text comments ++ after in
      let p : (ends_word text ≡ true) × (canonical_comments false comments after ≡ true) = and_parts _ _ h in
      let o : omits 0 false (comments, after) ≡ true = and_from _ _ (closes comments after p.1) e in
      rw p.0 (rw (comments_all false comments after p.1) (rw o refl))

  directed_read : (blank : List ℕ) (version : Version) (comments : List LineEnd) (x : Explicit) (after : List ℕ)
      → list_all white blank ≡ true → is_empty blank ≡ false
      → canonical_comments false comments (explicit_text x ++ after) ≡ true → canonical_explicit x true after ≡ true
      → block_node_stops 0 false after ≡ true
      → read_directed node_at (document_text (directed blank version comments x) ++ after) ≡ Some (directed blank version comments x, after)
  directed_read blank version comments x after w b c h e =
      let rest : List ℕ = explicit_text x ++ after in
      let from_version : List ℕ = version_text version ++ (comments_text comments ++ rest) in
      let regrouped : document_text (directed blank version comments x) ++ after
      ≡ codes "%YAML" ++ (blank ++ from_version) = simp append_assoc in
      let f : first white from_version ≡ false = version_not_white version (comments_text comments ++ rest) in
      ap (read_directed node_at) regrouped
      ∙ rw (take_while_all white blank from_version w f, drop_while_all white blank from_version w f, b)
      (ap (λ r. on r (λ v rest'. directed_with node_at blank v (all_comments false rest')))
      (version_read version (comments_text comments ++ rest))
      ∙ (ap (directed_with node_at blank version) (comments_all false comments rest c)
      ∙ rw (closes comments rest c)
      (ap (λ r. on r (λ x' rest'. Some (directed blank version comments x', rest'))) (explicit_read x after h e))))

  explicit_step : (x : Explicit) (opened : Bool) (text : List ℕ) (r : Read Explicit) → is_line_end text ≡ false
      → marker_of 46 text ≡ false → marker_of 45 text ≡ true → read_explicit node_at text ≡ r
      → read_section node_at opened true text ≡ on r (λ x' rest. Some (document (explicit x'), rest))
  unfolding read_section
  explicit_step x opened text r l m d e = rw (l, m, d) (ap (λ s. on s (λ x' rest. Some (document (explicit x'), rest))) e)

  dashes : (x : Explicit) (after : List ℕ) → canonical_explicit x true after ≡ true
      → (is_line_end (explicit_text x ++ after) ≡ false) × (marker_of 46 (explicit_text x ++ after) ≡ false)
      × (marker_of 45 (explicit_text x ++ after) ≡ true)
  dashes (content n) after h = (refl, refl, (and_parts _ _ h).0)
  dashes (nothing comments) after h = (refl, refl, (and_parts _ _ h).0)

  -- a section that is canonical is read
  section_read : (p : Section) (opened bol : Bool) (after : List ℕ) → canonical_section p opened bol after ≡ true
      → Follows p after → read_section node_at opened bol (section_text p ++ after) ≡ Some (p, after)
  unfolding read_section
  section_read (suffix comments) opened bol after h f =
      let text : List ℕ = comments_text comments ++ after in
      let p : (bol && ends_word text ≡ true) × (canonical_comments false comments after ≡ true) = and_parts _ _ h in
      let q : (bol ≡ true) × (ends_word text ≡ true) = and_parts _ _ p.0 in
      let c : closes_line (comments, after) ≡ true = closes comments after p.1 in
      rw (q.0, q.1) (ap suffix_with (comments_all false comments after p.1) ∙ rw c refl)
  section_read (line e) opened bol after h f =
      rw (line_is_end bol e after h) (ap (λ r. on r (λ e' rest. Some (line e', rest))) (line_end_read bol e after h))
  section_read (document (bare n)) opened bol after h f =
      let text : List ℕ = node_text n ++ after in
      let p : (opened && not (is_line_end text) ≡ true) × (canonical_node n 0 false bol after ≡ true) = and_parts _ _ h in
      let q : (opened ≡ true) × (not (is_line_end text) ≡ true) = and_parts _ _ p.0 in
      let l : is_line_end text ≡ false = not-true _ q.1 in
      let b : Bare bol text = bare_some n bol after p.1 l in
      let dots : bol && marker_of 46 text ≡ false = no_marker_of bol 46 text (dots_mark text) b.unmarked in
      let marks : bol && marker_of 45 text ≡ false = no_marker_of bol 45 text (dashes_mark text) b.unmarked in
      let o : first percent text ≡ false = (not_reserved text b.unreserved).0 in
      let d : opened && bol && first percent text ≡ false = and_right _ _ o in
      rw (l, dots, marks, d, q.0) (ap (λ r. on r (λ n' rest. Some (document (bare n'), rest))) (node_read n bol after p.1 f))
  section_read (document (explicit x)) opened false after h f = absurd (no_explicit x after h)
    where
      no_explicit : (y : Explicit) (rest : List ℕ) → canonical_explicit y false rest ≡ true → ⊥
      no_explicit (content n) rest k = false≢true k
      no_explicit (nothing comments) rest k = false≢true k
  section_read (document (explicit x)) opened true after h f =
      let d = dashes x after h in
      explicit_step x opened (explicit_text x ++ after) (Some (x, after)) d.0 d.1 d.2 (explicit_read x after h f)
  section_read (document (directed blank version comments x)) opened bol after h f =
      let p : (opened && bol && list_all white blank && not (is_empty blank)
      && canonical_comments false comments (explicit_text x ++ after) ≡ true)
      × (canonical_explicit x true after ≡ true) = and_parts _ _ h in
      let q : (opened && bol && list_all white blank && not (is_empty blank) ≡ true)
      × (canonical_comments false comments (explicit_text x ++ after) ≡ true) = and_parts _ _ p.0 in
      let r : (opened && bol && list_all white blank ≡ true) × (not (is_empty blank) ≡ true) = and_parts _ _ q.0 in
      let s : (opened && bol ≡ true) × (list_all white blank ≡ true) = and_parts _ _ r.0 in
      let t : (opened ≡ true) × (bol ≡ true) = and_parts _ _ s.0 in
      rw (t.0, t.1) (ap (λ u. on u (λ d rest. Some (document d, rest)))
      (directed_read blank version comments x after s.1 (not-true _ r.1) q.1 p.1 f))

  sections_read : (ps : List Section) (fuel : ℕ) (opened bol : Bool) → length ps < fuel
      → canonical_sections ps opened bol ≡ true → read_sections node_at fuel opened bol (sections_text ps) ≡ Some ps
  unfolding read_sections
  sections_read [] zero opened bol l h = absurd (omega arith)
  sections_read (p ∷ ps) zero opened bol l h = absurd (omega arith)
  sections_read [] (suc fuel) opened bol l h = refl
  sections_read (p ∷ ps) (suc fuel) opened bol l h =
      let rest : List ℕ = sections_text ps in
      let q : (canonical_section p opened bol rest ≡ true)
      × (canonical_sections ps (opens opened p) (starts_line bol (section_text p)) ≡ true) = and_parts _ _ h in
      let e : is_empty (section_text p ++ rest) ≡ false = (section_some p opened bol rest q.0).0 in
      let one : read_section node_at opened bol (section_text p ++ rest) ≡ Some (p, rest) =
      section_read p opened bol rest q.0 (follows p ps opened (starts_line bol (section_text p)) q.1) in
      let more : read_sections node_at fuel (opens opened p) (starts_line bol (section_text p)) rest ≡ Some ps =
      sections_read ps fuel (opens opened p) (starts_line bol (section_text p)) (omega arith) q.1 in
      rw e (ap (more_sections (λ p' rest'. read_sections node_at fuel (opens opened p')
      (starts_line bol (section_text p')) rest')) one ∙ ap (section_and p) more)

  sections_no_mark : (ps : List Section) (opened bol : Bool) → canonical_sections ps opened bol ≡ true
      → first order_mark (sections_text ps) ≡ false
  sections_no_mark [] opened bol h = refl
  sections_no_mark (p ∷ ps) opened bol h = (section_some p opened bol (sections_text ps) (and_parts _ _ h).0).1

  stream_read_marked : (mark : Bool) (ps : List Section) → canonical_sections ps true true ≡ true
      → stream_of node_at (mark_text mark ++ sections_text ps) ≡ Some (record { mark = mark; sections = ps })
  stream_read_marked true ps h =
      let l : length ps ≤ length (sections_text ps) = sections_long ps true true h in
      ap (with_mark true) (sections_read ps (suc (suc (length (sections_text ps)))) true true (omega arith) h)
  stream_read_marked false ps h =
      let l : length ps ≤ length (sections_text ps) = sections_long ps true true h in
      let m : first order_mark (sections_text ps) ≡ false = sections_no_mark ps true true h in
      rw m (ap (with_mark false) (sections_read ps (suc (length (sections_text ps))) true true (omega arith) h))

  -- a canonical stream is read
  pub stream_read : (s : FlatStream) → canonical_stream s ≡ true → stream_of node_at (flat_text s) ≡ Some s
  stream_read s h = stream_read_marked s.mark s.sections h
