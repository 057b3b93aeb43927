-- A flow mapping on one line, and the closing line, are a document that reads as the mapping of its members: a
-- presentation of it, which fits and means it.
use Rattle.std.{proofs.Common.{◌≡◌, refl, sym, ◌∙◌, ap, subst, ◌≤◌, append_assoc}, specs.Prelude.{ℕ, ◌+◌, Bool, true, false, not}}
use Rattle.std.specs.Prelude.{List, [], ◌∷◌, ◌++◌, codes, map, Option, Some, None}
use Rattle.conf_session.proofs.Prelude.{list_all, and_parts, and_from, false≢true, append-nil, byte_len, IsText, starts_line, mapping}
use Rattle.conf_session.proofs.Prelude.{scalar_of, shapes, members_shapes, IsTreeOf, Presents, CanRead, Limits, Good, Gives}
use Rattle.conf_session.proofs.LinesPresented.{scalar_as, scalar_spelled, starts_joined, scalar_meant, document_meant, Unambiguous}
use Rattle.conf_session.{proofs.LinesPresented.{plain_fits, quoted_fits, single_fits, bare_tells, AreSafe}, specs.CommandLines.Spelling}
use Rattle.conf_session.specs.CommandLines.{bare, phrase, quoted, single_quoted, members_of_lines, bare_char, begins_bare}
use Rattle.conf_session.specs.FlowLine.{Word, word_text, Field, gap, field_text, fields_text, flow_line_text, line_of, flow_char}
use Rattle.{conf_session.specs.FlowLine.{stands_in_flow, is_apart, StandsInFlow, StandInFlow}, yaml_chars.specs.Classes.flow_indicator}
use Rattle.yaml_grammar.specs.{BlockNodes.flow, FlowScalars.{outer, inner}, Separation.{Sep, gap_text, gap_fits}}
use Rattle.yaml_grammar.specs.{Separation.inline, FlowNodes.{Flow, scalar, map as flow_map, Entries, last, next, Entry, entry, given}}
use Rattle.yaml_grammar.specs.FlowNodes.{flow_text, entry_text, entries_text, value_text, is_plain, flow_fits, value_fits, entry_fits}
use Rattle.yaml_grammar.specs.{FlowNodes.{entries_fit, entries_events}, Streams.{Stream, bare as bare_document, suffixes}}
use Rattle.{yaml_grammar.specs.Streams.{stream_text, stream_events, fits}, yaml_recognizers.proofs.OneStyle.Presented.{feed, one_space}}

-- ---- presentations

abbrev sep : Bool → Option Sep
sep true = Some one_space
sep false = None

abbrev word_on : Word → Flow
word_on w = scalar (scalar_as w.spelling w.value)

abbrev entry_of : Word → Word → Bool → Entry
entry_of key word behind = entry None (word_on key) (given None (sep behind) (word_on word))

abbrev entry_on : Field → Entry
entry_on f = entry_of f.key f.word f.behind

abbrev entries_on : Field → List Field → Bool → Entries
entries_on f [] end = last (entry_on f) (sep end)
entries_on f (g ∷ gs) end = next (entry_on f) None (sep g.before) (entries_on g gs end)

abbrev mapping_on : Field → List Field → Bool → Flow
mapping_on f fs end = flow_map (sep f.before) (entries_on f fs end)

abbrev stream_on : Field → List Field → Bool → Stream
stream_on f fs end =
    record {
      mark = false;
      prefix = [];
      document = Some (bare_document (flow (inline []) (mapping_on f fs end) (feed ∷ [])));
      parts = suffixes (feed ∷ []) [] [] None ∷ [];
    }

-- ---- what they spell

sep_spelled : (b : Bool) → gap_text (sep b) ≡ gap b
sep_spelled true = refl
sep_spelled false = refl

word_spelled : (w : Word) → flow_text (word_on w) ≡ word_text w
word_spelled w = scalar_spelled w.spelling w.value

entry_spelled : (key word : Word) (behind : Bool)
    → entry_text (entry_of key word behind) ≡ word_text key ++ (codes ":" ++ (gap behind ++ word_text word))
entry_spelled key word true = λ i. word_spelled key i ++ (58 ∷ 32 ∷ word_spelled word i)
entry_spelled key word false = λ i. word_spelled key i ++ (58 ∷ word_spelled word i)

-- a text, a comma, a gap and another text
comma_joined : (a g b : List ℕ) → (((a ++ []) ++ codes ",") ++ g) ++ b ≡ a ++ (codes "," ++ (g ++ b))
comma_joined a g b =
    ap (λ t. ((t ++ codes ",") ++ g) ++ b) (append-nil a) ∙ append_assoc (a ++ codes ",") g b ∙ append_assoc a (codes ",") (g ++ b)

entries_spelled : (f : Field) (fs : List Field) (end : Bool)
    → gap f.before ++ entries_text (entries_on f fs end) ≡ fields_text f fs ++ gap end
entries_spelled f [] end =
    ap (λ t. gap f.before ++ t) (λ i. entry_spelled f.key f.word f.behind i ++ sep_spelled end i)
    ∙ sym (append_assoc (gap f.before) (word_text f.key ++ (codes ":" ++ (gap f.behind ++ word_text f.word))) (gap end))
entries_spelled f (g ∷ gs) end =
    let own = word_text f.key ++ (codes ":" ++ (gap f.behind ++ word_text f.word)) in
    ap (λ t. gap f.before ++ t)
    (comma_joined (entry_text (entry_on f)) (gap_text (sep g.before)) (entries_text (entries_on g gs end))
    ∙ ap (λ t. t ++ (codes "," ++ (gap_text (sep g.before) ++ entries_text (entries_on g gs end))))
    (entry_spelled f.key f.word f.behind)
    ∙ ap (λ t. own ++ (codes "," ++ t))
    (ap (λ t. t ++ entries_text (entries_on g gs end)) (sep_spelled g.before) ∙ entries_spelled g gs end))
    ∙ sym (append_assoc (gap f.before) own (codes "," ++ (fields_text g gs ++ gap end)))
    ∙ sym (append_assoc (field_text f) (codes "," ++ fields_text g gs) (gap end))

mapping_spelled : (f : Field) (fs : List Field) (end : Bool)
    → flow_text (mapping_on f fs end) ≡ codes "{" ++ ((fields_text f fs ++ gap end) ++ codes "}")
mapping_spelled f fs end =
    ap (λ t. 123 ∷ (t ++ codes "}"))
    (ap (λ t. t ++ entries_text (entries_on f fs end)) (sep_spelled f.before) ∙ entries_spelled f fs end)

stream_spelled : (f : Field) (fs : List Field) (end : Bool) → stream_text (stream_on f fs end) ≡ flow_line_text f fs end
stream_spelled f fs end =
    ap (λ t. (t ++ codes "\n") ++ codes "...\n") (mapping_spelled f fs end)
    ∙ ap (λ t. 123 ∷ t)
    (append_assoc ((fields_text f fs ++ gap end) ++ codes "}") (codes "\n") (codes "...\n")
    ∙ append_assoc (fields_text f fs ++ gap end) (codes "}") (codes "\n...\n")
    ∙ append_assoc (fields_text f fs) (gap end) (codes "}\n...\n"))

-- ---- what fits

sep_fits : (b : Bool) (n : ℕ) (key : Bool) (after : List ℕ) → gap_fits n key (sep b) after ≡ true
sep_fits true n key after = refl
sep_fits false n key after = refl

-- no line begins behind a gap
sep_starts : (b : Bool) → starts_line false (gap_text (sep b)) ≡ false
sep_starts true = refl
sep_starts false = refl

flow_safe : (xs : List ℕ) → list_all flow_char xs ≡ true → AreSafe inner xs
flow_safe [] h = refl
flow_safe (x ∷ xs) h =
    let q : (flow_char x ≡ true) × (list_all flow_char xs ≡ true) = and_parts _ _ h in
    let own : (bare_char x ≡ true) × (not (flow_indicator x) ≡ true) = and_parts _ _ q.0 in
    let safe_outside = and_parts _ _ (and_parts _ _ (bare_tells x own.0)).0 in
    and_from _ _ (and_from _ _ own.0 (and_from _ _ safe_outside.0 own.1)) (flow_safe xs q.1)

word_fits : (w : Word) (n : ℕ) (after : List ℕ) → stands_in_flow w.spelling w.value ≡ true
    → flow_fits (word_on w) n inner false after ≡ true
word_fits w n after h = by w.spelling h
  where
    by : (spelling : Spelling) → stands_in_flow spelling w.value ≡ true
        → flow_fits (scalar (scalar_as spelling w.value)) n inner false after ≡ true
    by bare h =
        let p : (begins_bare w.value ≡ true) × (list_all flow_char w.value ≡ true) = and_parts _ _ h in
        plain_fits n inner w.value after p.0 (flow_safe w.value p.1)
    by phrase h = absurd (false≢true h)
    by quoted h = quoted_fits n inner false w.value after h
    by single_quoted h = single_fits n inner false w.value after h

-- behind the `:` of a key as it is, a space stands
value_on_fits : (key word : Word) (behind : Bool) (n : ℕ) (after : List ℕ) → stands_in_flow word.spelling word.value ≡ true
    → is_apart key.spelling behind ≡ true
    → value_fits (given None (sep behind) (word_on word)) n inner false (is_plain (word_on key)) after ≡ true
value_on_fits key word behind n after fit apart = by key.spelling behind apart
  where
    own : flow_fits (word_on word) n inner false after ≡ true
    own = word_fits word n after fit

    by : (spelling : Spelling) (behind : Bool) → is_apart spelling behind ≡ true
        → value_fits (given None (sep behind) (word_on word)) n inner false (is_plain (scalar (scalar_as spelling key.value))) after ≡ true
    by phrase behind apart = absurd (false≢true apart)
    by bare true apart = and_from _ _ refl own
    by bare false apart = absurd (false≢true apart)
    by quoted true apart = and_from _ _ refl own
    by quoted false apart = and_from _ _ refl own
    by single_quoted true apart = and_from _ _ refl own
    by single_quoted false apart = and_from _ _ refl own

entry_on_fits : (f : Field) (n : ℕ) (after : List ℕ) → StandsInFlow f → entry_fits (entry_on f) n inner false false after ≡ true
entry_on_fits f n after is =
    and_from _ _ (and_from _ _ refl (word_fits f.key n (value_text (given None (sep f.behind) (word_on f.word)) ++ after) is.key))
    (value_on_fits f.key f.word f.behind n after is.word is.apart)

entries_on_fit : (f : Field) (fs : List Field) (end : Bool) (n : ℕ) (after : List ℕ) → StandInFlow (f ∷ fs)
    → entries_fit (entries_on f fs end) n inner false false after ≡ true
entries_on_fit f [] end n after are = and_from _ _ (entry_on_fits f n _ are.0) (sep_fits end n false after)
entries_on_fit f (g ∷ gs) end n after are =
    and_from _ _
    (and_from _ _ (and_from _ _ (entry_on_fits f n _ are.0) refl) (sep_fits g.before n false (entries_text (entries_on g gs end) ++ after)))
    (subst (λ b. entries_fit (entries_on g gs end) n inner false b after ≡ true) (sym (sep_starts g.before))
    (entries_on_fit g gs end n after are.1))

mapping_on_fits : (f : Field) (fs : List Field) (end : Bool) (n : ℕ) (bol : Bool) (after : List ℕ) → StandInFlow (f ∷ fs)
    → flow_fits (mapping_on f fs end) n outer bol after ≡ true
mapping_on_fits f fs end n bol after are =
    and_from _ _ (sep_fits f.before n false (entries_text (entries_on f fs end) ++ (codes "}" ++ after)))
    (subst (λ b. entries_fit (entries_on f fs end) n inner false b (codes "}" ++ after) ≡ true) (sym (sep_starts f.before))
    (entries_on_fit f fs end n (codes "}" ++ after) are))

stream_fits : (f : Field) (fs : List Field) (end : Bool) → StandInFlow (f ∷ fs) → fits (stream_on f fs end) ≡ true
stream_fits f fs end are =
    and_from _ _
    (and_from _ _ refl (and_from _ _ (and_from _ _ refl (mapping_on_fits f fs end 0 true _ are)) refl))
    (rw (starts_joined true (flow_text (mapping_on f fs end)) (codes "\n")) refl)

-- ---- what they mean

entries_meant : (f : Field) (fs : List Field) (end : Bool) (at : ℕ)
    → shapes (entries_events (entries_on f fs end) false at) ≡ members_shapes (members_of_lines (map line_of (f ∷ fs)))
entries_meant f [] end at =
    λ i. scalar_of (scalar_meant f.key.spelling f.key.value i) ∷ scalar_of (scalar_meant f.word.spelling f.word.value i) ∷ []
entries_meant f (g ∷ gs) end at =
    let next_at = at + byte_len (entry_text (entry_on f)) + byte_len (gap_text None) + 1 + byte_len (gap_text (sep g.before)) in
    λ i. scalar_of (scalar_meant f.key.spelling f.key.value i) ∷ scalar_of (scalar_meant f.word.spelling f.word.value i)
    ∷ entries_meant g gs end next_at i

stream_meant : (f : Field) (fs : List Field) (end : Bool)
    → IsTreeOf (stream_events (stream_on f fs end)) (mapping (members_of_lines (map line_of (f ∷ fs))))
stream_meant f fs end = document_meant (members_of_lines (map line_of (f ∷ fs))) _ (entries_meant f fs end _)

-- ---- what the document gives

-- a flow mapping gives the mapping of its members
pub flow_line_gives : Unambiguous → (f : Field) (fs : List Field) (end : Bool) (limits : Limits) → StandInFlow (f ∷ fs)
    → IsText (flow_line_text f fs end) → byte_len (flow_line_text f fs end) ≤ limits.bytes
    → Good (mapping (members_of_lines (map line_of (f ∷ fs)))) limits
    → Gives (flow_line_text f fs end) limits (mapping (members_of_lines (map line_of (f ∷ fs))))
flow_line_gives one f fs end limits are source short good =
    let presents : Presents (stream_on f fs end) (flow_line_text f fs end) =
    record { fits = stream_fits f fs end are; spells = stream_spelled f fs end } in
    let can : CanRead (flow_line_text f fs end) (stream_events (stream_on f fs end)) =
    record { presentation = stream_on f fs end; presents = presents; means = refl } in
    record {
      short = short;
      events = stream_events (stream_on f fs end);
      reads = record { source = source; some = can; every = λ p q. one (flow_line_text f fs end) p (stream_on f fs end) q presents };
      tree = stream_meant f fs end;
      good = good;
    }
