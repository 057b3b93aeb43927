-- A part of a presentation, as segments of its text's bytes: what it spells, where its scalars are, and its comments.
use Rattle.std.proofs.Common.{◌≡◌, refl, sym, ◌∙◌, ap, ap₂, subst, inl, inr, arith, ◌≤◌, length, append_assoc}
use Rattle.std.proofs.Common.{append-nil, length-append, encode_utf8, encode_utf8_all}
use Rattle.std.specs.Prelude.{ℕ, map, ◌+◌, ◌⊎◌, Bool, true, false, ◌&&◌, ◌||◌, ◌==◌, List, [], ◌∷◌, ◌++◌, Option, Some, None, nat_lt}
use lib.Utf8.{encode}
use Rattle.std.proofs.lemmas.Bool.{and_parts, and_from, cond_both, or_cases, or_left, or_right, not_from_false, ne_eqb, or_from, false≢true}
use Rattle.std.{proofs.lemmas.{Bool.eqb-true, List.map-append, Str.{encodes-append, encode_ascii, length-encode}}, specs.List.list_all}
use Rattle.{yaml_chars.specs.Classes.{nb, line_break}, yaml_grammar.specs.{Texts.{is_empty, first, byte_len}, Events.{Event, Style}}}
use Rattle.yaml_grammar.specs.Events.{plain_style, single_style, double_style, literal_style, folded_style, omitted_style, document_start}
use Rattle.yaml_grammar.specs.Events.{document_end, seq_start, seq_end, map_start, map_end, scalar_event, as_seq, as_map, as_document}
use Rattle.{yaml_grammar.specs.Events.omitted_at, yaml_recognizers.proofs.Basics.Spaces.nb_unbroken as line_of}
use Rattle.{yaml_recognizers.proofs.OneStyle.Characters.every_joined, yaml_comments.specs.Presented.optional_comment}
use Rattle.yaml_comments.proofs.Segments.{Segment, quiet, comment, covered, block, marked, bytes, all_bytes, Range, range, ranges, written}
use Rattle.yaml_comments.proofs.Segments.{all_written, held, marked_fits, no_mark, no_break, line_ends, fits, all_fit}

-- ---- scalars of events

-- where a scalar is; one that is not written is nowhere
abbrev pub scalar_ranges : Style → ℕ → ℕ → List Range
scalar_ranges literal_style start end = record { header = true; start = start; end = end } ∷ []
scalar_ranges folded_style start end = record { header = true; start = start; end = end } ∷ []
scalar_ranges plain_style start end = record { header = false; start = start; end = end } ∷ []
scalar_ranges single_style start end = record { header = false; start = start; end = end } ∷ []
scalar_ranges double_style start end = record { header = false; start = start; end = end } ∷ []
scalar_ranges omitted_style start end = []

-- where the scalars of events are
abbrev pub ranges_of : List Event → List Range
ranges_of [] = []
ranges_of (scalar_event style start end value ∷ es) = scalar_ranges style start end ++ ranges_of es
ranges_of (document_start ∷ es) = ranges_of es
ranges_of (document_end ∷ es) = ranges_of es
ranges_of (seq_start ∷ es) = ranges_of es
ranges_of (seq_end ∷ es) = ranges_of es
ranges_of (map_start ∷ es) = ranges_of es
ranges_of (map_end ∷ es) = ranges_of es

-- an omitted value has no bytes
abbrev pub HasNoBytes : Style → ℕ → ℕ → Type 0
HasNoBytes omitted_style start end = start ≡ end
HasNoBytes literal_style start end = Unit {0}
HasNoBytes folded_style start end = Unit {0}
HasNoBytes plain_style start end = Unit {0}
HasNoBytes single_style start end = Unit {0}
HasNoBytes double_style start end = Unit {0}

-- the same of each that is omitted
abbrev pub Empties : List Event → Type 0
Empties [] = Unit {0}
Empties (scalar_event style start end value ∷ es) = HasNoBytes style start end × Empties es
Empties (document_start ∷ es) = Empties es
Empties (document_end ∷ es) = Empties es
Empties (seq_start ∷ es) = Empties es
Empties (seq_end ∷ es) = Empties es
Empties (map_start ∷ es) = Empties es
Empties (map_end ∷ es) = Empties es

-- the scalars of events, joined
ranges_of_joined : (es fs : List Event) → ranges_of (es ++ fs) ≡ ranges_of es ++ ranges_of fs
ranges_of_joined [] fs = refl
ranges_of_joined (scalar_event style start end value ∷ es) fs =
    ap (λ rs. scalar_ranges style start end ++ rs) (ranges_of_joined es fs)
    ∙ sym (append_assoc (scalar_ranges style start end) (ranges_of es) (ranges_of fs))
ranges_of_joined (document_start ∷ es) fs = ranges_of_joined es fs
ranges_of_joined (document_end ∷ es) fs = ranges_of_joined es fs
ranges_of_joined (seq_start ∷ es) fs = ranges_of_joined es fs
ranges_of_joined (seq_end ∷ es) fs = ranges_of_joined es fs
ranges_of_joined (map_start ∷ es) fs = ranges_of_joined es fs
ranges_of_joined (map_end ∷ es) fs = ranges_of_joined es fs

-- omitted values of events, joined
empties_joined : (es fs : List Event) → Empties es → Empties fs → Empties (es ++ fs)
empties_joined [] fs e f = f
empties_joined (scalar_event style start end value ∷ es) fs e f = (e.0, empties_joined es fs e.1 f)
empties_joined (document_start ∷ es) fs e f = empties_joined es fs e f
empties_joined (document_end ∷ es) fs e f = empties_joined es fs e f
empties_joined (seq_start ∷ es) fs e f = empties_joined es fs e f
empties_joined (seq_end ∷ es) fs e f = empties_joined es fs e f
empties_joined (map_start ∷ es) fs e f = empties_joined es fs e f
empties_joined (map_end ∷ es) fs e f = empties_joined es fs e f

-- ---- segments, joined

-- their bytes
bytes_joined : (one other : List Segment) → all_bytes (one ++ other) ≡ all_bytes one ++ all_bytes other
bytes_joined [] other = refl
bytes_joined (s ∷ ss) other = ap (λ t. bytes s ++ t) (bytes_joined ss other) ∙ sym (append_assoc (bytes s) (all_bytes ss) (all_bytes other))

-- their scalars
ranges_joined : (one other : List Segment) (at : ℕ) → ranges (one ++ other) at ≡ ranges one at ++ ranges other (at + length (all_bytes one))
ranges_joined [] other at = ap (ranges other) (omega arith)
ranges_joined (s ∷ ss) other at =
    let to : ℕ = at + length (bytes s) in
    let there : to + length (all_bytes ss) ≡ at + length (bytes s ++ all_bytes ss) =
    omega (arith, length-append (bytes s) (all_bytes ss)) in
    ap (λ rs. range s at ++ rs) (ranges_joined ss other to ∙ ap (λ n. ranges ss to ++ ranges other n) there)
    ∙ sym (append_assoc (range s at) (ranges ss to) (ranges other (at + length (bytes s ++ all_bytes ss))))

-- their comments
written_joined : (one other : List Segment) → all_written (one ++ other) ≡ all_written one ++ all_written other
written_joined [] other = refl
written_joined (s ∷ ss) other = ap (λ t. written s ++ t) (written_joined ss other)
    ∙ sym (append_assoc (written s) (all_written ss) (all_written other))

-- they fit
fit_joined : (one other : List Segment) (after : List ℕ) → all_fit one (all_bytes other ++ after) ≡ true → all_fit other after ≡ true
    → all_fit (one ++ other) after ≡ true
fit_joined [] other after h k = k
fit_joined (s ∷ ss) other after h k =
    let p : (fits s (all_bytes ss ++ (all_bytes other ++ after)) ≡ true) ×
    (all_fit ss (all_bytes other ++ after) ≡ true) = and_parts _ _ h in
    and_from _ _ (rw (bytes_joined ss other, append_assoc (all_bytes ss) (all_bytes other) after) p.0) (fit_joined ss other after p.1 k)

-- ---- texts and bytes

-- a text has as many bytes as it counts
bytes_counted : (cs : List ℕ) → length (encode_utf8_all cs) ≡ byte_len cs
bytes_counted [] = refl
bytes_counted (c ∷ cs) =
    omega (arith, bytes_counted cs, length-append (encode_utf8 c) (encode_utf8_all cs), length-encode c)

-- a test that passes all from 128 on passes the bytes of a character that it passes
char_bytes : (p : ℕ → Bool) → ((b : ℕ) → 128 ≤ b → p b ≡ true) → (c : ℕ) → p c ≡ true → list_all p (encode c) ≡ true
unfolding encode
char_bytes p high c h =
    cond_both (nat_lt c 128) _ _ (λ bs. list_all p bs ≡ true) (λ e. and_from _ _ h refl)
    (λ e. cond_both (nat_lt c 2048) _ _ (λ bs. list_all p bs ≡ true)
    (λ f. and_from _ _ (high _ (omega arith)) (and_from _ _ (high _ (omega arith)) refl))
    (λ f. cond_both (nat_lt c 65536) _ _ (λ bs. list_all p bs ≡ true)
    (λ g. and_from _ _ (high _ (omega arith)) (and_from _ _ (high _ (omega arith)) (and_from _ _ (high _ (omega arith)) refl)))
    (λ g. and_from _ _ (high _ (omega arith)) (and_from _ _ (high _ (omega arith)) (and_from _ _ (high _ (omega arith))
    (and_from _ _ (high _ (omega arith)) refl))))))

-- and those of a text
pub text_bytes : (p : ℕ → Bool) → ((b : ℕ) → 128 ≤ b → p b ≡ true) → (cs : List ℕ) → list_all p cs ≡ true
    → list_all p (encode_utf8_all cs) ≡ true
text_bytes p high [] h = refl
text_bytes p high (c ∷ cs) h =
    let q : (p c ≡ true) × (list_all p cs ≡ true) = and_parts _ _ h in
    every_joined p (encode_utf8 c) (encode_utf8_all cs) (char_bytes p high c q.0) (text_bytes p high cs q.1)

-- no byte from 128 on is a `#`
high_mark : (b : ℕ) → 128 ≤ b → no_mark b ≡ true
high_mark b l = not_from_false _ (ne_eqb b 35 (λ e. omega (arith, e)))

-- nor a break
high_break : (b : ℕ) → 128 ≤ b → no_break b ≡ true
high_break b l = not_from_false _ (or_from _ _ (ne_eqb b 10 (λ e. omega (arith, e))) (ne_eqb b 13 (λ e. omega (arith, e))))

-- the bytes of a text without `#` have none
pub unmarked_bytes : (cs : List ℕ) → list_all no_mark cs ≡ true → list_all no_mark (encode_utf8_all cs) ≡ true
unmarked_bytes cs h = text_bytes no_mark high_mark cs h

-- those of a line have no break
pub unbroken_bytes : (cs : List ℕ) → list_all no_break cs ≡ true → list_all no_break (encode_utf8_all cs) ≡ true
unbroken_bytes cs h = text_bytes no_break high_break cs h

-- a text that begins with a break does so in bytes
pub broken_bytes : (cs : List ℕ) → first line_break cs ≡ true → first line_break (encode_utf8_all cs) ≡ true
broken_bytes [] h = absurd (false≢true h)
broken_bytes (c ∷ cs) h = by (or_cases (c == 10) (c == 13) h)
  where
    by : (c == 10 ≡ true) ⊎ (c == 13 ≡ true) → first line_break (encode_utf8 c ++ encode_utf8_all cs) ≡ true
    by (inl e) = rw (eqb-true c 10 e, encode_ascii 10 (omega arith))
    by (inr e) = rw (eqb-true c 13 e, encode_ascii 13 (omega arith))

-- a line ends before a text where one does before its bytes
pub ended_bytes : (cs : List ℕ) → is_empty cs || first line_break cs ≡ true → line_ends (encode_utf8_all cs) ≡ true
ended_bytes [] h = refl
ended_bytes (c ∷ cs) h = or_right (is_empty (encode_utf8_all (c ∷ cs))) _ (broken_bytes (c ∷ cs) h)

-- ---- parts

-- the text is a row of segments with these scalars and comments, which fit before the text after it
pub record Parted (text : List ℕ) (at : ℕ) (events : List Event) (after : List ℕ) (comments : List (List ℕ)) : Type 0 where
  pub segments : List Segment
  pub spells : all_bytes segments ≡ encode_utf8_all text
  pub scalars : ranges segments at ≡ ranges_of events
  pub empties : Empties events
  pub fits : all_fit segments (encode_utf8_all after) ≡ true
  pub holds : all_written segments ≡ map encode_utf8_all comments
  pub lines : list_all (list_all nb) comments ≡ true

-- an empty text
pub nothing : (at : ℕ) (after : List ℕ) → Parted [] at [] after []
nothing at after = record { segments = []; spells = refl; scalars = refl; empties = tt; fits = refl; holds = refl; lines = refl }

-- comments on their lines, joined
lines_joined : (cs ds : List (List ℕ)) → list_all (list_all nb) cs ≡ true → list_all (list_all nb) ds ≡ true
    → list_all (list_all nb) (cs ++ ds) ≡ true
lines_joined [] ds h k = k
lines_joined (c ∷ cs) ds h k =
    let p : (list_all nb c ≡ true) × (list_all (list_all nb) cs ≡ true) = and_parts _ _ h in
    and_from _ _ p.0 (lines_joined cs ds p.1 k)

-- two parts, joined
pub join : {t u after rest : List ℕ} {at : ℕ} {es fs : List Event} {cs ds : List (List ℕ)} → rest ≡ u ++ after
    → Parted t at es rest cs → Parted u (at + byte_len t) fs after ds → Parted (t ++ u) at (es ++ fs) after (cs ++ ds)
join {t} {u} {after} {rest} {at} {es} {fs} {cs} {ds} e p q =
    let long : at + length (all_bytes p.segments) ≡ at + byte_len t =
    ap (λ bs. at + length bs) p.spells ∙ ap (λ n. at + n) (bytes_counted t) in
    record {
      segments = p.segments ++ q.segments;
      spells = bytes_joined p.segments q.segments ∙ (ap₂ (λ a b. a ++ b) p.spells q.spells ∙ sym (encodes-append t u));
      scalars = ranges_joined p.segments q.segments at
          ∙ (ap₂ (λ a b. a ++ b) p.scalars (ap (ranges q.segments) long ∙ q.scalars) ∙ sym (ranges_of_joined es fs));
      empties = empties_joined es fs p.empties q.empties;
      fits = fit_joined p.segments q.segments (encode_utf8_all after)
          (subst (λ bs. all_fit p.segments bs ≡ true)
          (ap encode_utf8_all e ∙ (encodes-append u after ∙ ap (λ b. b ++ encode_utf8_all after) (sym q.spells))) p.fits) q.fits;
      holds = written_joined p.segments q.segments
          ∙ (ap₂ (λ a b. a ++ b) p.holds q.holds ∙ sym (map-append encode_utf8_all cs ds));
      lines = lines_joined cs ds p.lines q.lines;
    }

-- another way to write the text
pub texted : {t u after : List ℕ} {at : ℕ} {es : List Event} {cs : List (List ℕ)} → t ≡ u → Parted t at es after cs
    → Parted u at es after cs
texted {t} {u} {after} {at} {es} {cs} e p = subst (λ x. Parted x at es after cs) e p

-- another way to write the place
pub moved : {t after : List ℕ} {at to : ℕ} {es : List Event} {cs : List (List ℕ)} → at ≡ to → Parted t at es after cs
    → Parted t to es after cs
moved {t} {after} {at} {to} {es} {cs} e p = subst (λ x. Parted t x es after cs) e p

-- another way to write the events
pub meant : {t after : List ℕ} {at : ℕ} {es fs : List Event} {cs : List (List ℕ)} → es ≡ fs → Parted t at es after cs
    → Parted t at fs after cs
meant {t} {after} {at} {es} {fs} {cs} e p = subst (λ x. Parted t at x after cs) e p

-- the same scalars between two events that are none
around : {t after : List ℕ} {at : ℕ} {es fs : List Event} {cs : List (List ℕ)} (end : Event) → ranges_of (es ++ end ∷ []) ≡ ranges_of fs
    → ranges_of (end ∷ []) ≡ [] → Empties fs → Parted t at es after cs → Parted t at fs after cs
around {t} {after} {at} {es} {fs} {cs} end e none empties p =
    let same : ranges_of (es ++ end ∷ []) ≡ ranges_of es =
    ranges_of_joined es (end ∷ []) ∙ (ap (λ rs. ranges_of es ++ rs) none ∙ append-nil (ranges_of es)) in
    record {
      segments = p.segments;
      spells = p.spells;
      scalars = p.scalars ∙ (sym same ∙ e);
      empties = empties;
      fits = p.fits;
      holds = p.holds;
      lines = p.lines;
    }

-- elements are a sequence
pub sequence_of : {t after : List ℕ} {at : ℕ} {es : List Event} {cs : List (List ℕ)} → Parted t at es after cs → Parted t at
    (as_seq es) after cs
sequence_of {t} {after} {at} {es} {cs} p = around seq_end refl refl (empties_joined es (seq_end ∷ []) p.empties tt) p

-- members are a mapping
pub mapping_of : {t after : List ℕ} {at : ℕ} {es : List Event} {cs : List (List ℕ)} → Parted t at es after cs → Parted t at
    (as_map es) after cs
mapping_of {t} {after} {at} {es} {cs} p = around map_end refl refl (empties_joined es (map_end ∷ []) p.empties tt) p

-- a node is a document
pub document_of : {t after : List ℕ} {at : ℕ} {es : List Event} {cs : List (List ℕ)} → Parted t at es after cs → Parted t at
    (as_document es) after cs
document_of {t} {after} {at} {es} {cs} p = around document_end refl refl (empties_joined es (document_end ∷ []) p.empties tt) p

-- a part with a value that is omitted in it
pub with_omitted : {t after : List ℕ} {at : ℕ} {es : List Event} {cs : List (List ℕ)} (to : ℕ) → Parted t at es after cs
    → Parted t at (es ++ omitted_at to) after cs
with_omitted {t} {after} {at} {es} {cs} to p = record {
  segments = p.segments;
  spells = p.spells;
  scalars = p.scalars ∙ sym (ranges_of_joined es (omitted_at to) ∙ append-nil (ranges_of es));
  empties = empties_joined es (omitted_at to) p.empties (refl, tt);
  fits = p.fits;
  holds = p.holds;
  lines = p.lines;
}

-- another way to write the comments
pub told : {t after : List ℕ} {at : ℕ} {es : List Event} {cs ds : List (List ℕ)} → cs ≡ ds → Parted t at es after cs
    → Parted t at es after ds
told {t} {after} {at} {es} {cs} {ds} e p = subst (λ x. Parted t at es after x) e p

-- a text without `#`, outside of scalars
pub unmarked : (t : List ℕ) (at : ℕ) (after : List ℕ) → list_all no_mark t ≡ true → Parted t at [] after []
unmarked t at after h = record {
  segments = quiet (encode_utf8_all t) ∷ [];
  spells = append-nil (encode_utf8_all t);
  scalars = refl;
  empties = tt;
  fits = and_from _ _ (unmarked_bytes t h) refl;
  holds = refl;
  lines = refl;
}

-- a flow scalar
pub scalar_part : (t : List ℕ) (at to : ℕ) (style : Style) (value after : List ℕ)
    → scalar_ranges style at to ≡ record { header = false; start = at; end = to } ∷ [] → HasNoBytes style at to → to ≡ at + byte_len t
    → Parted t at (scalar_event style at to value ∷ []) after []
scalar_part t at to style value after h empty e = record {
  segments = covered (encode_utf8_all t) ∷ [];
  spells = append-nil (encode_utf8_all t);
  scalars = ap (λ n. record { header = false; start = at; end = n } ∷ []) (ap (λ n. at + n) (bytes_counted t) ∙ sym e)
      ∙ sym (append-nil (scalar_ranges style at to) ∙ h);
  empties = (empty, tt);
  fits = refl;
  holds = refl;
  lines = refl;
}

-- an nb is no break
nb_unbroken : (cs : List ℕ) → list_all nb cs ≡ true → list_all no_break cs ≡ true
nb_unbroken [] h = refl
nb_unbroken (c ∷ cs) h =
    let p : (nb c ≡ true) × (list_all nb cs ≡ true) = and_parts _ _ h in
    and_from _ _ (not_from_false _ (line_of c p.0)) (nb_unbroken cs p.1)

-- a comment
pub comment_part : (c : List ℕ) (at : ℕ) (after : List ℕ) → list_all nb c ≡ true → is_empty after || first line_break after ≡ true
    → Parted (35 ∷ c) at [] after (c ∷ [])
comment_part c at after h e = record {
  segments = comment (encode_utf8_all c) ∷ [];
  spells = ap (λ t. 35 ∷ t) (append-nil (encode_utf8_all c))
      ∙ ap (λ b. b ++ encode_utf8_all c) (sym (encode_ascii 35 (omega arith)));
  scalars = refl;
  empties = tt;
  fits = and_from _ _ (and_from _ _ (unbroken_bytes c (nb_unbroken c h)) (ended_bytes after e)) refl;
  holds = refl;
  lines = and_from _ _ h refl;
}

-- ---- block scalars

-- a comment that may be left out is on its line
abbrev pub option_is_nb : Option (List ℕ) → Bool
option_is_nb None = true
option_is_nb (Some c) = list_all nb c

-- its bytes
abbrev encoded : Option (List ℕ) → Option (List ℕ)
encoded None = None
encoded (Some c) = Some (encode_utf8_all c)

-- they are spelled
marked_spelled : (c : Option (List ℕ)) (rest : List ℕ) → marked (encoded c) ++ encode_utf8_all rest ≡ encode_utf8_all (marked c ++ rest)
marked_spelled None rest = refl
marked_spelled (Some c) rest = ap (λ t. 35 ∷ t) (sym (encodes-append c rest))
    ∙ ap (λ b. b ++ encode_utf8_all (c ++ rest)) (sym (encode_ascii 35 (omega arith)))

-- they are on a line
marked_line : (c : Option (List ℕ)) → option_is_nb c ≡ true → marked_fits (encoded c) ≡ true
marked_line None n = refl
marked_line (Some c) n = unbroken_bytes c (nb_unbroken c n)

-- they hold the comment
marked_holds : (c : Option (List ℕ)) → held (encoded c) ++ [] ≡ map encode_utf8_all (optional_comment c)
marked_holds None = refl
marked_holds (Some c) = refl

-- it is on its line
marked_lines : (c : Option (List ℕ)) → option_is_nb c ≡ true → list_all (list_all nb) (optional_comment c) ≡ true
marked_lines None n = refl
marked_lines (Some c) n = and_from _ _ n refl

-- what follows the header begins with a break in bytes, or is the end of the text
ends_in_bytes : (rest after : List ℕ) → first line_break rest || (is_empty rest && is_empty after) ≡ true
    → first line_break (encode_utf8_all rest) || (is_empty (encode_utf8_all rest) && is_empty (encode_utf8_all after)) ≡ true
ends_in_bytes [] [] f = refl
ends_in_bytes [] (c ∷ cs) f = absurd (false≢true f)
ends_in_bytes (c ∷ cs) after f = or_left _ _ (broken_bytes (c ∷ cs) (elim (or_cases (line_break c) (false && is_empty after) f)
    [ inl e ↦ e | inr e ↦ absurd (false≢true e) ]))

-- a block scalar: its header, the comment on it, and what follows, which begins with a break or is the end of the text
pub block_part : (head : List ℕ) (c : Option (List ℕ)) (rest : List ℕ) (at to : ℕ) (style : Style) (value after : List ℕ)
    → scalar_ranges style at to ≡ record { header = true; start = at; end = to } ∷ [] → HasNoBytes style at to
    → to ≡ at + byte_len (head ++ (marked c ++ rest))
    → list_all no_mark head && list_all no_break head ≡ true → option_is_nb c ≡ true
    → first line_break rest || (is_empty rest && is_empty after) ≡ true
    → Parted (head ++ (marked c ++ rest)) at (scalar_event style at to value ∷ []) after (optional_comment c)
block_part head c rest at to style value after h empty e l n f =
    let p : (list_all no_mark head ≡ true) × (list_all no_break head ≡ true) = and_parts _ _ l in
    let spelled : encode_utf8_all head ++ (marked (encoded c) ++ encode_utf8_all rest) ≡ encode_utf8_all (head ++ (marked c ++ rest)) =
    ap (λ t. encode_utf8_all head ++ t) (marked_spelled c rest) ∙ sym (encodes-append head (marked c ++ rest)) in
    record {
      segments = block (encode_utf8_all head) (encoded c) (encode_utf8_all rest) ∷ [];
      spells = append-nil _ ∙ spelled;
      scalars = ap (λ m. record { header = true; start = at; end = m } ∷ [])
          (ap (λ bs. at + length bs) spelled ∙ (ap (λ m. at + m) (bytes_counted (head ++ (marked c ++ rest))) ∙ sym e))
          ∙ sym (append-nil (scalar_ranges style at to) ∙ h);
      empties = (empty, tt);
      fits = and_from _ _ (and_from _ _ (and_from _ _
          (and_from _ _ (unmarked_bytes head p.0) (unbroken_bytes head p.1)) (marked_line c n))
          (ends_in_bytes rest after f)) refl;
      holds = marked_holds c;
      lines = marked_lines c n;
    }
