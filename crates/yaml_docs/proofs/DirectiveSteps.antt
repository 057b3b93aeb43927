-- The `%YAML` directive at a place of a text, from its parts.
use Rattle.std.{proofs.Common.{ap, append_assoc, arith, refl, sym, ◌∙◌, ◌≡◌}, specs.Prelude.{Bool, IfSome, List, None, Option, Some, []}}
use Rattle.std.specs.Prelude.{codes, drop, false, true, ℕ, ◌++◌, ◌+◌, ◌∷◌}
use Rattle.yaml_docs.proofs.Prelude.{IsCharBoundary, IsUtf8, len_utf8_bounds, between, rest, Node, LineEnd, comments_text, directed}
use Rattle.yaml_docs.proofs.Prelude.{directive_text, Version, yaml_1_1, yaml_1_2, version_text, begins, byte_len, is_empty, all_comments}
use Rattle.yaml_docs.proofs.Prelude.{closes_line, Read, on, directed_with, read_directed, read_explicit, read_version, all_sound}
use Rattle.yaml_docs.proofs.{Prelude.{begins_split, IsLineStart, IsSolidLine, Line}, TextPlaces.{StandsUpTo, place_after, spelled_end}}
use Rattle.{yaml_docs.specs.Directives.{IsDirective, IsVersion, NoDirective}, yaml_chars.specs.Classes.white}
use Rattle.yaml_recognizers.{specs.Prefixes.{drop_while, take_while}, proofs.Basics.Prefixes.take_while_split}
use Rattle.yaml_scan.specs.ScanPlaces.{AreTaken}

-- ---- the recognizer of directives by its parts

no_blank : (text : List ℕ) → begins (codes "%YAML") text ≡ true → is_empty (take_while white (drop 5 text)) ≡ true → NoDirective text
no_blank text h e = λ node_at. rw (h, e) refl

no_version : (text : List ℕ) → begins (codes "%YAML") text ≡ true
    → begins (codes "1.1") (drop_while white (drop 5 text)) ≡ false
    → begins (codes "1.2") (drop_while white (drop 5 text)) ≡ false
    → NoDirective text
no_version text h v w = λ node_at. by_blank node_at (is_empty (take_while white (drop 5 text))) refl
  where
    by_blank : (node_at : Bool → List ℕ → Read Node) (b : Bool) → is_empty (take_while white (drop 5 text)) ≡ b
        → read_directed node_at text ≡ None
    by_blank node_at true e = rw (h, e) refl
    by_blank node_at false e = rw (h, e, v, w) refl

version_read : (text : List ℕ) (node_at : Bool → List ℕ → Read Node) → begins (codes "%YAML") text ≡ true
    → is_empty (take_while white (drop 5 text)) ≡ false
    → (version : Version) (after : List ℕ) → read_version (drop_while white (drop 5 text)) ≡ Some (version, after)
    → read_directed node_at text ≡ directed_with node_at (take_while white (drop 5 text)) version (all_comments false after)
version_read text node_at h e version after v = rw (h, e, v) refl

first_read : (text : List ℕ) → begins (codes "1.1") text ≡ true → read_version text ≡ Some (yaml_1_1, drop 3 text)
first_read text h = rw h refl

second_read : (text : List ℕ) → begins (codes "1.1") text ≡ false → begins (codes "1.2") text ≡ true
    → read_version text ≡ Some (yaml_1_2, drop 3 text)
second_read text h k = rw (h, k) refl

some_byte : (x : ℕ) (xs : List ℕ) → byte_len (x ∷ xs) ≡ 0 → ⊥
some_byte x xs z = omega (arith, (len_utf8_bounds x).0, z)

-- ---- at places

module _ (bs : List ℕ) (at : ℕ) (u : IsUtf8 bs) (b : IsCharBoundary bs at) (h : begins (codes "%YAML") (rest bs at) ≡ true) where
  -- the directive's name is there
  pub name_there : StandsUpTo bs at (codes "%YAML") (drop 5 (rest bs at)) (at + 5)
  name_there = place_after bs at (codes "%YAML") (drop 5 (rest bs at)) u b (begins_split (codes "%YAML") (rest bs at) h)

  module _ (version_at : ℕ) (white_is : AreTaken white bs (at + 5) version_at) where
    take_while_is : take_while white (drop 5 (rest bs at)) ≡ between bs (at + 5) version_at
    take_while_is = ap (take_while white) (sym name_there.leaves) ∙ white_is.takes

    drop_while_is : drop_while white (drop 5 (rest bs at)) ≡ rest bs version_at
    drop_while_is = ap (drop_while white) (sym name_there.leaves) ∙ white_is.leaves

    -- the white space is empty exactly where its two ends are one place
    split_is : rest bs (at + 5) ≡ take_while white (drop 5 (rest bs at)) ++ rest bs version_at
    split_is =
        take_while_split white (rest bs (at + 5))
        ∙ (ap (λ t. t ++ drop_while white (rest bs (at + 5))) (ap (take_while white) name_there.leaves)
        ∙ ap (λ t. take_while white (drop 5 (rest bs at)) ++ t) white_is.leaves)

    apart : version_at ≡ at + 5 + byte_len (take_while white (drop 5 (rest bs at)))
    apart = spelled_end bs (at + 5) version_at (take_while white (drop 5 (rest bs at))) u name_there.boundary white_is.boundary split_is

    -- without whitespace after its name there is none
    pub none_without_blank : version_at ≡ at + 5 → NoDirective (rest bs at)
    none_without_blank e = no_blank (rest bs at) h
        (of_list (take_while white (drop 5 (rest bs at)))
        (let z : byte_len (take_while white (drop 5 (rest bs at))) ≡ 0 = omega (arith, apart, e) in z))
      where
        of_list : (xs : List ℕ) → byte_len xs ≡ 0 → is_empty xs ≡ true
        of_list [] z = refl
        of_list (x ∷ xs) z = absurd (some_byte x xs z)

    -- without a known version there is none
    pub none_without_version : begins (codes "1.1") (rest bs version_at) ≡ false
        → begins (codes "1.2") (rest bs version_at) ≡ false → NoDirective (rest bs at)
    none_without_version v w = no_version (rest bs at) h (ap (begins (codes "1.1")) drop_while_is ∙ v)
        (ap (begins (codes "1.2")) drop_while_is ∙ w)

    filled : (version_at ≡ at + 5 → ⊥) → is_empty (take_while white (drop 5 (rest bs at))) ≡ false
    filled n = of_list (take_while white (drop 5 (rest bs at))) refl
      where
        of_list : (xs : List ℕ) → take_while white (drop 5 (rest bs at)) ≡ xs → is_empty xs ≡ false
        of_list [] e = absurd (n (let z : byte_len (take_while white (drop 5 (rest bs at))) ≡ 0 = ap byte_len e in omega (arith, apart, z)))
        of_list (x ∷ xs) e = refl

    version_there : (version : Version) (word : List ℕ) (end : ℕ) → word ≡ version_text version
        → StandsUpTo bs version_at word (drop 3 (rest bs version_at)) end
        → rest bs version_at ≡ word ++ drop 3 (rest bs version_at) → (version_at ≡ at + 5 → ⊥)
        → read_version (rest bs version_at) ≡ Some (version, drop 3 (rest bs version_at)) → IsVersion bs at end
    version_there version word end w s e n r =
        record {
          boundary = s.boundary;
          blank = take_while white (drop 5 (rest bs at));
          version = version;
          spells = begins_split (codes "%YAML") (rest bs at) h ∙ ap (λ t. codes "%YAML" ++ t) (sym name_there.leaves ∙ split_is
              ∙ ap (λ t. take_while white (drop 5 (rest bs at)) ++ t)
              (e ∙ ap (λ x. x ++ drop 3 (rest bs version_at)) w ∙ ap (λ t. version_text version ++ t) (sym s.leaves)));
          reads = λ node_at. version_read (rest bs at) node_at h (filled n) version (rest bs end)
              (ap read_version drop_while_is ∙ r ∙ ap (λ t. Some (version, t)) (sym s.leaves));
        }

    -- version 1.1 is there
    pub first_there : (version_at ≡ at + 5 → ⊥) → begins (codes "1.1") (rest bs version_at) ≡ true → IsVersion bs at (version_at + 3)
    first_there n v =
        let e : rest bs version_at ≡ codes "1.1" ++ drop 3 (rest bs version_at) = begins_split (codes "1.1") (rest bs version_at) v in
        version_there yaml_1_1 (codes "1.1") (version_at + 3) refl
        (place_after bs version_at (codes "1.1") (drop 3 (rest bs version_at)) u white_is.boundary e) e n
        (first_read (rest bs version_at) v)

    -- version 1.2 is there
    pub second_there : (version_at ≡ at + 5 → ⊥) → begins (codes "1.1") (rest bs version_at) ≡ false
        → begins (codes "1.2") (rest bs version_at) ≡ true → IsVersion bs at (version_at + 3)
    second_there n w v =
        let e : rest bs version_at ≡ codes "1.2" ++ drop 3 (rest bs version_at) = begins_split (codes "1.2") (rest bs version_at) v in
        version_there yaml_1_2 (codes "1.2") (version_at + 3) refl
        (place_after bs version_at (codes "1.2") (drop 3 (rest bs version_at)) u white_is.boundary e) e n
        (second_read (rest bs version_at) w v)

-- ---- the comments after a version

-- what holds of a Some, from three facts
pub some_by_three : {A : Type 0} (r : Option A) (P Q R S : A → Type 0) → ((x : A) → P x → Q x → R x → S x)
    → IfSome r P → IfSome r Q → IfSome r R → IfSome r S
some_by_three (Some x) P Q R S f p q t = f x p q t
some_by_three None P Q R S f p q t = p

-- if the line goes on there is no directive
pub none_open : (bs : List ℕ) (at end : ℕ) → IsVersion bs at end
    → closes_line (all_comments false (rest bs end)) ≡ false → NoDirective (rest bs at)
none_open bs at end v h = λ node_at. v.reads node_at ∙ rw h refl

with_comments : (node_at : Bool → List ℕ → Read Node) (blank : List ℕ) (version : Version) (c : List LineEnd × List ℕ)
    (after : List ℕ) → closes_line c ≡ true → c.1 ≡ after
    → directed_with node_at blank version c ≡ on (read_explicit node_at after) (λ x rest'. Some (directed blank version c.0 x, rest'))
with_comments node_at blank version c after h e =
    rw h (ap (λ t. on (read_explicit node_at t) (λ x rest'. Some (directed blank version c.0 x, rest'))) e)

-- if the line ends there is one
pub directive_there : (bs : List ℕ) (at end : ℕ) (line : Line) → IsUtf8 bs → IsCharBoundary bs at
    → IsVersion bs at end → IsSolidLine false bs end line → IsLineStart bs line.start
    → closes_line (all_comments false (rest bs end)) ≡ true → IsDirective bs at line
directive_there bs at end line u b v s starts h =
    let c : List LineEnd × List ℕ = all_comments false (rest bs end) in
    let comments : rest bs end ≡ comments_text c.0 ++ rest bs line.start = (all_sound false (rest bs end)).0
    ∙ ap (λ t. comments_text c.0 ++ t) s.leaves in
    let regrouped : directive_text v.blank v.version c.0 ++ rest bs line.start
    ≡ codes "%YAML" ++ (v.blank ++ (version_text v.version ++ (comments_text c.0 ++ rest bs line.start))) = simp append_assoc in
    let whole : rest bs at ≡ directive_text v.blank v.version c.0 ++ rest bs line.start =
    v.spells ∙ (ap (λ t. codes "%YAML" ++ (v.blank ++ (version_text v.version ++ t))) comments ∙ sym regrouped) in
    record {
      boundary = s.boundary;
      starts = starts;
      first = s.spaces.boundary;
      blank = v.blank;
      version = v.version;
      comments = c.0;
      place = spelled_end bs at line.start (directive_text v.blank v.version c.0) u b s.boundary whole;
      reads = λ node_at. v.reads node_at ∙ with_comments node_at v.blank v.version c (rest bs line.start) h s.leaves;
    }
