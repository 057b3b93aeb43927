-- The recognizer of streams by its steps, where the count of sections is no matter.
use Rattle.std.{proofs.Common.{ap, arith, length-append, refl, ◌<◌, ◌≡◌, ◌≤◌}, specs.Prelude.{Bool, List, None, Option, Some, [], drop}}
use Rattle.std.specs.Prelude.{false, if◌then◌else◌, length, suc, true, zero, ℕ, ◌∷◌}
use Rattle.yaml_recognizers.proofs.{Prelude.{Node, first, is_empty, starts_line}, Block.BlockNodesSound.NodeOf}
use Rattle.yaml_recognizers.proofs.{Documents.{StreamsComplete.section_long, StreamsSound.{SectionOf, section_sound}}, Basics.Reading.Sound}
use Rattle.yaml_recognizers.{proofs.Basics.Reading.{cond_same, sound_is}, specs.CanonicalStreams.{Section, opens, section_text}}
use Rattle.yaml_recognizers.specs.{Reading.Read, Streams.{more_sections, order_mark, section_and, read_section, read_sections, stream_of}}
use Rattle.yaml_recognizers.specs.Streams.{with_mark}

-- recognizers that agree on what is left read the same sections
more_same : (again again' : Section → List ℕ → Option (List Section)) (r : Read Section)
    → ((p : Section) (rest : List ℕ) → r ≡ Some (p, rest) → again p rest ≡ again' p rest)
    → more_sections again r ≡ more_sections again' r
more_same again again' None f = refl
more_same again again' (Some r) f = ap (section_and r.0) (f r.0 r.1 refl)

module _ (node_at : Bool → List ℕ → Read Node)
    (node_sound : (bol : Bool) (text : List ℕ) → Sound (NodeOf 0 false bol text) (node_at bol text)) where
  -- after a section less is left
  section_left : (opened bol : Bool) (text : List ℕ) (p : Section) (rest : List ℕ)
      → read_section node_at opened bol text ≡ Some (p, rest) → suc (length rest) ≤ length text
  section_left opened bol text p rest q =
      let s : SectionOf opened bol text p rest =
      sound_is (SectionOf opened bol text) (read_section node_at opened bol text) (p, rest)
      (section_sound node_at node_sound opened bol text) q in
      omega (arith, ap length s.0, length-append (section_text p) rest, section_long p opened bol rest s.1)

  -- with any count that is enough
  sections_same : (fuel fuel' : ℕ) (opened bol : Bool) (text : List ℕ) → length text < fuel → length text < fuel'
      → read_sections node_at fuel opened bol text ≡ read_sections node_at fuel' opened bol text
  unfolding read_sections
  sections_same zero fuel' opened bol text l l' = absurd (omega arith)
  sections_same (suc fuel) zero opened bol text l l' = absurd (omega arith)
  sections_same (suc fuel) (suc fuel') opened bol text l l' =
      cond_same (is_empty text) _ _ _ _ (λ _. refl)
      (λ _. more_same _ _ (read_section node_at opened bol text) (λ p rest q.
      let r : suc (length rest) ≤ length text = section_left opened bol text p rest q in
      sections_same fuel fuel' (opens opened p) (starts_line bol (section_text p)) rest (omega arith) (omega arith)))

  abbrev sections_in : Bool → Bool → List ℕ → Option (List Section)
  sections_in opened bol text = read_sections node_at (suc (length text)) opened bol text

  -- sections, from the first one
  pub sections_step : (opened bol : Bool) (text : List ℕ) → sections_in opened bol text
      ≡ (if is_empty text then Some [] else more_sections
      (λ p rest. sections_in (opens opened p) (starts_line bol (section_text p)) rest) (read_section node_at opened bol text))
  unfolding read_sections
  sections_step opened bol text =
      cond_same (is_empty text) _ _ _ _ (λ _. refl)
      (λ _. more_same _ _ (read_section node_at opened bol text) (λ p rest q.
      let r : suc (length rest) ≤ length text = section_left opened bol text p rest q in
      sections_same (length text) (suc (length rest)) (opens opened p) (starts_line bol (section_text p)) rest (omega arith) (omega arith)))

  drop_left : (text : List ℕ) → length (drop 1 text) ≤ length text
  drop_left [] = omega arith
  drop_left (x ∷ xs) = omega arith

  -- a stream, from its mark and sections
  pub stream_step : (text : List ℕ) → stream_of node_at text
      ≡ (if first order_mark text then with_mark true (sections_in true true (drop 1 text))
      else with_mark false (sections_in true true text))
  stream_step text =
      let l : length (drop 1 text) ≤ length text = drop_left text in
      cond_same (first order_mark text) _ _ _ _
      (λ _. ap (with_mark true) (sections_same (suc (length text)) (suc (length (drop 1 text))) true true
      (drop 1 text) (omega arith) (omega arith))) (λ _. refl)
