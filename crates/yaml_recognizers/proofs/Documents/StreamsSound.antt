-- What the recognizer of streams reads is the whole text, and is canonical.
use Rattle.std.{proofs.Common.{ap, append_assoc, refl, subst, sym, ◌∙◌, ◌≡◌}, specs.Prelude.{Bool, List, None, Option, Some, [], codes}}
use Rattle.std.specs.Prelude.{drop, false, if◌then◌else◌, length, suc, true, zero, ℕ, ◌&&◌, ◌++◌, ◌∷◌}
use Rattle.yaml_recognizers.proofs.Prelude.{and_from, and_parts, cond_both, eqb-true, false≢true, not_from_false, white, Node, LineEnd}
use Rattle.yaml_recognizers.proofs.Prelude.{comments_text, Document, Explicit, bare, content, directed, document_text, explicit}
use Rattle.yaml_recognizers.proofs.Prelude.{explicit_text, mark_text, nothing, Version, yaml_1_1, yaml_1_2, version_text, list_all, begins}
use Rattle.yaml_recognizers.proofs.{Prelude.{ends_word, first, is_empty, starts_line}, Block.BlockNodesSound.{NodeOf, tail_fit}}
use Rattle.yaml_recognizers.proofs.Basics.{Prefixes.{take_while_every, take_while_split}, Reading.{Sound, sound_on}}
use Rattle.yaml_recognizers.proofs.{Documents.StreamsComplete.begins_split, Separation.CommentsSound.{CommentsOf, LineOf, all_sound}}
use Rattle.yaml_recognizers.{proofs.Separation.CommentsSound.line_sound, specs.{BlockNodes.omits, CanonicalComments.canonical_comments}}
use Rattle.yaml_recognizers.specs.{CanonicalComments.is_line_end, Ends.block_node_stops, Prefixes.{drop_while, take_while}, Reading.Read}
use Rattle.yaml_recognizers.specs.{Reading.on, CanonicalStreams.{FlatStream, Section, canonical_document, canonical_explicit}}
use Rattle.yaml_recognizers.specs.CanonicalStreams.{canonical_section, canonical_sections, canonical_stream, document, flat_text, line}
use Rattle.yaml_recognizers.specs.{CanonicalStreams.{opens, section_text, sections_text, suffix}, Comments.{all_comments, closes_line}}
use Rattle.yaml_recognizers.specs.{Comments.read_line_end, Streams.{directed_with, explicit_with, marker_of, more_sections, order_mark}}
use Rattle.yaml_recognizers.specs.Streams.{percent, section_and, read_directed, read_explicit, read_section, read_sections, read_version}
use Rattle.yaml_recognizers.specs.Streams.{stream_of, suffix_with, version_with, with_mark}

-- what follows `---` is canonical there, before the rest
abbrev pub ExplicitOf : List ℕ → Explicit → List ℕ → Type 0
ExplicitOf text x rest = (text ≡ explicit_text x ++ rest) × (canonical_explicit x true rest ≡ true)

-- the section is canonical at the start of the text, before the rest
abbrev pub SectionOf : Bool → Bool → List ℕ → Section → List ℕ → Type 0
SectionOf opened bol text p rest = (text ≡ section_text p ++ rest) × (canonical_section p opened bol rest ≡ true)

-- a directive, with the document after it
abbrev DirectedOf : List ℕ → Document → List ℕ → Type 0
DirectedOf text d rest = (text ≡ document_text d ++ rest) × (canonical_document d true true rest ≡ true)

-- comments that close their line
abbrev ClosedOf : List ℕ → List LineEnd × List ℕ → Type 0
ClosedOf text c = (text ≡ comments_text c.0 ++ c.1) × (canonical_comments false c.0 c.1 ≡ true)

-- comments that are read after something on its line fit
closed_sound : (text : List ℕ) → closes_line (all_comments false text) ≡ true → ClosedOf text (all_comments false text)
closed_sound text h =
    let c : List LineEnd × List ℕ = all_comments false text in
    let cs : CommentsOf false text c = all_sound false text in
    (cs.0, tail_fit c.0 c.1 cs.1 h)

-- the version is at the start of the text
abbrev VersionOf : List ℕ → Version → List ℕ → Type 0
VersionOf text version rest = text ≡ version_text version ++ rest

-- a version that is read is there
version_sound : (text : List ℕ) → Sound (VersionOf text) (read_version text)
version_sound text =
    cond_both (begins (codes "1.1") text) (Some (yaml_1_1, drop 3 text))
    (if begins (codes "1.2") text then Some (yaml_1_2, drop 3 text) else None) (Sound (VersionOf text))
    (λ h. begins_split (codes "1.1") text h)
    (λ _. cond_both (begins (codes "1.2") text) (Some (yaml_1_2, drop 3 text)) None (Sound (VersionOf text))
    (λ h. begins_split (codes "1.2") text h) (λ _. tt))

module _ (node_at : Bool → List ℕ → Read Node)
    (node_sound : (bol : Bool) (text : List ℕ) → Sound (NodeOf 0 false bol text) (node_at bol text)) where
  -- after `---`
  after_dashes : (text after : List ℕ) → text ≡ codes "---" ++ after → ends_word after ≡ true
      → Sound (ExplicitOf text) (explicit_with node_at after (all_comments false after))
  after_dashes text after t w =
      let c : List LineEnd × List ℕ = all_comments false after in
      cond_both (omits 0 false c) (Some (nothing c.0, c.1))
      (on (node_at false after) (λ n rest. Some (content n, rest))) (Sound (ExplicitOf text))
      (λ o.
      let p : (closes_line c ≡ true) × (block_node_stops 0 false c.1 ≡ true) = and_parts _ _ o in
      let cs : ClosedOf after c = closed_sound after p.0 in
      (t ∙ ap (λ u. codes "---" ++ u) cs.0, and_from _ _ (subst (λ (u : List ℕ). ends_word u ≡ true) cs.0 w) cs.1))
      (λ _. sound_on (NodeOf 0 false false after) (ExplicitOf text) (node_at false after)
      (λ n rest. Some (content n, rest)) (node_sound false after)
      (λ n rest q. (t ∙ ap (λ u. codes "---" ++ u) q.0, and_from _ _ (subst (λ (u : List ℕ). ends_word u ≡ true) q.0 w) q.1)))

  explicit_sound : (text : List ℕ) → Sound (ExplicitOf text) (read_explicit node_at text)
  unfolding read_explicit
  explicit_sound text =
      cond_both (marker_of 45 text) (explicit_with node_at (drop 3 text) (all_comments false (drop 3 text))) None (Sound (ExplicitOf text))
      (λ h.
      let p : (begins (codes "---") text ≡ true) × (ends_word (drop 3 text) ≡ true) = and_parts _ _ h in
      after_dashes text (drop 3 text) (begins_split (codes "---") text p.0) p.1)
      (λ _. tt)

  -- after `%YAML`, its white and the version
  after_version : (text blank after : List ℕ) (version : Version) → text ≡ codes "%YAML" ++ (blank ++ (version_text version ++ after))
      → list_all white blank ≡ true → is_empty blank ≡ false
      → Sound (DirectedOf text) (directed_with node_at blank version (all_comments false after))
  after_version text blank after version t w b =
      let c : List LineEnd × List ℕ = all_comments false after in
      cond_both (closes_line c) (on (read_explicit node_at c.1) (λ x rest. Some (directed blank version c.0 x, rest)))
      None (Sound (DirectedOf text))
      (λ h.
      let cs : ClosedOf after c = closed_sound after h in
      sound_on (ExplicitOf c.1) (DirectedOf text) (read_explicit node_at c.1)
      (λ x rest. Some (directed blank version c.0 x, rest)) (explicit_sound c.1)
      (λ x rest q.
      let e : after ≡ comments_text c.0 ++ (explicit_text x ++ rest) = cs.0 ∙ ap (λ u. comments_text c.0 ++ u) q.0 in
      let regrouped : document_text (directed blank version c.0 x) ++ rest
      ≡ codes "%YAML" ++ (blank ++ (version_text version ++ (comments_text c.0 ++ (explicit_text x ++ rest)))) = simp append_assoc in (
        t ∙ (ap (λ u. codes "%YAML" ++ (blank ++ (version_text version ++ u))) e ∙ sym regrouped),
        and_from _ _ (and_from _ _ (and_from _ _ w (not_from_false _ b))
            (subst (λ (u : List ℕ). canonical_comments false c.0 u ≡ true) q.0 cs.1)) q.1,
      )))
      (λ _. tt)

  after_percent : (text blank after : List ℕ) → text ≡ codes "%YAML" ++ (blank ++ after) → list_all white blank ≡ true
      → Sound (DirectedOf text) (version_with node_at blank after)
  after_percent text blank after t w =
      cond_both (is_empty blank) None (on (read_version after)
      (λ version rest. directed_with node_at blank version (all_comments false rest))) (Sound (DirectedOf text))
      (λ _. tt)
      (λ b. sound_on (VersionOf after) (DirectedOf text) (read_version after)
      (λ version rest. directed_with node_at blank version (all_comments false rest)) (version_sound after)
      (λ version rest q. after_version text blank rest version (t ∙ ap (λ u. codes "%YAML" ++ (blank ++ u)) q) w b))

  directed_sound : (text : List ℕ) → Sound (DirectedOf text) (read_directed node_at text)
  directed_sound text =
      cond_both (begins (codes "%YAML") text) (version_with node_at (take_while white (drop 5 text))
      (drop_while white (drop 5 text))) None (Sound (DirectedOf text))
      (λ h.
      let t : text ≡ codes "%YAML" ++ drop 5 text = begins_split (codes "%YAML") text h in
      let s : drop 5 text ≡ take_while white (drop 5 text) ++ drop_while white (drop 5 text) = take_while_split white (drop 5 text) in
      after_percent text (take_while white (drop 5 text)) (drop_while white (drop 5 text))
      (t ∙ ap (λ u. codes "%YAML" ++ u) s) (take_while_every white (drop 5 text)))
      (λ _. tt)

  suffix_sound : (opened bol : Bool) (text : List ℕ) → bol ≡ true → marker_of 46 text ≡ true
      → Sound (SectionOf opened bol text) (suffix_with (all_comments false (drop 3 text)))
  suffix_sound opened bol text b h =
      let p : (begins (codes "...") text ≡ true) × (ends_word (drop 3 text) ≡ true) = and_parts _ _ h in
      let c : List LineEnd × List ℕ = all_comments false (drop 3 text) in
      cond_both (closes_line c) (Some (suffix c.0, c.1)) None (Sound (SectionOf opened bol text))
      (λ k.
      let cs : ClosedOf (drop 3 text) c = closed_sound (drop 3 text) k in (
        begins_split (codes "...") text p.0 ∙ ap (λ u. codes "..." ++ u) cs.0,
        and_from _ _ (and_from _ _ b (subst (λ (u : List ℕ). ends_word u ≡ true) cs.0 p.1)) cs.1,
      ))
      (λ _. tt)

  at_line_start : (x : Explicit) (bol : Bool) (rest : List ℕ) → bol ≡ true → canonical_explicit x true rest ≡ true
      → canonical_explicit x bol rest ≡ true
  at_line_start x bol rest b h = subst (λ (c : Bool). canonical_explicit x c rest ≡ true) (sym b) h

  in_directed : (d : Document) (opened bol : Bool) (rest : List ℕ) → opened ≡ true → bol ≡ true
      → canonical_document d true true rest ≡ true → canonical_document d opened bol rest ≡ true
  in_directed d opened bol rest o b h =
      subst (λ (a : Bool). canonical_document d a bol rest ≡ true) (sym o)
      (subst (λ (c : Bool). canonical_document d true c rest ≡ true) (sym b) h)

  -- a section that is read is canonical
  pub section_sound : (opened bol : Bool) (text : List ℕ) → Sound (SectionOf opened bol text) (read_section node_at opened bol text)
  unfolding read_section
  section_sound opened bol text =
      let P : Read Section → Type 0 = Sound (SectionOf opened bol text) in
      let bare_at : Read Section = if opened then on (node_at bol text) (λ n rest. Some (document (bare n), rest)) else None in
      let directed_at : Read Section = if opened && bol && first percent text
      then on (read_directed node_at text) (λ d rest. Some (document d, rest)) else bare_at in
      let explicit_at : Read Section = if bol && marker_of 45 text
      then on (read_explicit node_at text) (λ x rest. Some (document (explicit x), rest)) else directed_at in
      cond_both (is_line_end text) (on (read_line_end bol text) (λ e rest. Some (line e, rest)))
      (if bol && marker_of 46 text then suffix_with (all_comments false (drop 3 text)) else explicit_at) P
      (λ _. sound_on (LineOf bol text) (SectionOf opened bol text) (read_line_end bol text)
      (λ e rest. Some (line e, rest)) (line_sound bol text) (λ e rest q. q))
      (λ l. cond_both (bol && marker_of 46 text) (suffix_with (all_comments false (drop 3 text))) explicit_at P
      (λ h. let p : (bol ≡ true) × (marker_of 46 text ≡ true) = and_parts _ _ h in suffix_sound opened bol text p.0 p.1)
      (λ _. cond_both (bol && marker_of 45 text)
      (on (read_explicit node_at text) (λ x rest. Some (document (explicit x), rest))) directed_at P
      (λ h. let p : (bol ≡ true) × (marker_of 45 text ≡ true) = and_parts _ _ h in
      sound_on (ExplicitOf text) (SectionOf opened bol text) (read_explicit node_at text)
      (λ x rest. Some (document (explicit x), rest)) (explicit_sound text)
      (λ x rest q. (q.0, at_line_start x bol rest p.0 q.1)))
      (λ _. cond_both (opened && bol && first percent text) (on (read_directed node_at text) (λ d rest. Some (document d, rest))) bare_at P
      (λ h. let p : (opened && bol ≡ true) × (first percent text ≡ true) = and_parts _ _ h in
      let o : (opened ≡ true) × (bol ≡ true) = and_parts _ _ p.0 in
      sound_on (DirectedOf text) (SectionOf opened bol text) (read_directed node_at text)
      (λ d rest. Some (document d, rest)) (directed_sound text)
      (λ d rest q. (q.0, in_directed d opened bol rest o.0 o.1 q.1)))
      (λ _. cond_both opened (on (node_at bol text) (λ n rest. Some (document (bare n), rest))) None P
      (λ o. sound_on (NodeOf 0 false bol text) (SectionOf opened bol text) (node_at bol text)
      (λ n rest. Some (document (bare n), rest)) (node_sound bol text)
      (λ n rest q. (q.0, and_from _ _ (and_from _ _ o (not_from_false _ (subst (λ (u : List ℕ). is_line_end u ≡ false) q.0 l))) q.1)))
      (λ _. tt)))))

  abbrev AllOf : Bool → Bool → List ℕ → Option (List Section) → Type 0
  AllOf opened bol text None = Unit {0}
  AllOf opened bol text (Some ps) = (text ≡ sections_text ps) × (canonical_sections ps opened bol ≡ true)

  and_sound : (opened bol : Bool) (text : List ℕ) (p : Section) (rest : List ℕ) (r : Option (List Section))
      → SectionOf opened bol text p rest → AllOf (opens opened p) (starts_line bol (section_text p)) rest r
      → AllOf opened bol text (section_and p r)
  and_sound opened bol text p rest None s q = tt
  and_sound opened bol text p rest (Some ps) s q =
      (s.0 ∙ ap (λ u. section_text p ++ u) q.0, and_from _ _ (subst (λ (u : List ℕ). canonical_section p opened bol u ≡ true) q.0 s.1) q.1)

  more_sound : (opened bol : Bool) (text : List ℕ) (again : Section → List ℕ → Option (List Section))
      (r : Read Section) → Sound (SectionOf opened bol text) r
      → ((p : Section) (rest : List ℕ) → AllOf (opens opened p) (starts_line bol (section_text p)) rest
      (again p rest)) → AllOf opened bol text (more_sections again r)
  more_sound opened bol text again None s f = tt
  more_sound opened bol text again (Some r) s f = and_sound opened bol text r.0 r.1 (again r.0 r.1) s (f r.0 r.1)

  empty_is : (text : List ℕ) → is_empty text ≡ true → text ≡ []
  empty_is [] h = refl
  empty_is (c ∷ cs) h = absurd (false≢true h)

  sections_sound : (fuel : ℕ) (opened bol : Bool) (text : List ℕ) → AllOf opened bol text (read_sections node_at fuel opened bol text)
  unfolding read_sections
  sections_sound zero opened bol text = tt
  sections_sound (suc fuel) opened bol text =
      cond_both (is_empty text) (Some []) (more_sections
      (λ p rest. read_sections node_at fuel (opens opened p) (starts_line bol (section_text p)) rest)
      (read_section node_at opened bol text)) (AllOf opened bol text)
      (λ e. (empty_is text e, refl))
      (λ _. more_sound opened bol text (λ p rest.
      read_sections node_at fuel (opens opened p) (starts_line bol (section_text p)) rest)
      (read_section node_at opened bol text) (section_sound opened bol text)
      (λ p rest. sections_sound fuel (opens opened p) (starts_line bol (section_text p)) rest))

  -- the text is that of a canonical stream
  abbrev pub StreamOf : List ℕ → Option FlatStream → Type 0
  StreamOf text None = Unit {0}
  StreamOf text (Some s) = (text ≡ flat_text s) × (canonical_stream s ≡ true)

  marked_sound : (mark : Bool) (text after : List ℕ) (r : Option (List Section)) → text ≡ mark_text mark ++ after
      → AllOf true true after r → StreamOf text (with_mark mark r)
  marked_sound mark text after None t a = tt
  marked_sound mark text after (Some ps) t a = (t ∙ ap (λ u. mark_text mark ++ u) a.0, a.1)

  order_head : (text : List ℕ) → first order_mark text ≡ true → text ≡ 0xfeff ∷ drop 1 text
  order_head [] h = absurd (false≢true h)
  order_head (c ∷ cs) h = ap (λ x. x ∷ cs) (eqb-true c 0xfeff h)

  stream_sound : (text : List ℕ) → StreamOf text (stream_of node_at text)
  stream_sound text =
      cond_both (first order_mark text) (with_mark true
      (read_sections node_at (suc (length text)) true true (drop 1 text)))
      (with_mark false (read_sections node_at (suc (length text)) true true text)) (StreamOf text)
      (λ m. marked_sound true text (drop 1 text) (read_sections node_at (suc (length text)) true true (drop 1 text))
      (order_head text m) (sections_sound (suc (length text)) true true (drop 1 text)))
      (λ _. marked_sound false text text (read_sections node_at (suc (length text)) true true text) refl
      (sections_sound (suc (length text)) true true text))

  -- a stream that is read is canonical and has the text
  pub stream_is : (text : List ℕ) (s : FlatStream) → stream_of node_at text ≡ Some s → (text ≡ flat_text s) × (canonical_stream s ≡ true)
  stream_is text s e = subst (StreamOf text) e (stream_sound text)
