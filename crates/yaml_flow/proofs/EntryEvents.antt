-- The events of an entry, and of a collection, by the parts that are read.
use Rattle.std.proofs.Common.{◌≡◌, ap, append_assoc, refl, sym, ◌∙◌, ℕ, ◌+◌}
use Rattle.std.specs.Prelude.{Bool, true, false, List, [], ◌∷◌, ◌++◌, Option, Some, None, if◌then◌else◌}
use Rattle.yaml_flow.proofs.Prelude.{false≢true, append-nil, Event, map_start, map_end, Flow, Value, absent, empty, given, entry, Entries}
use Rattle.yaml_flow.proofs.Prelude.{flow_text, flow_events, value_text, value_events, entry_text, entry_events, entries_events, asked_text}
use Rattle.yaml_flow.proofs.Prelude.{has_colon, is_pair, Sep, gap_text, byte_len, Bracket, DoneEntry, entries_onto, collection_of}
use Rattle.yaml_recognizers.proofs.Meanings.EventPrefixes.{done_end, done_events, done_place, entries_prefix}
use Rattle.yaml_recognizers.proofs.Basics.LineStarts.{byte_len_joined}
use Rattle.yaml_flow.specs.Frames.{bracket_start, bracket_end, bracket_prefix, entries_start, entry_start, pair_start, pair_end}

-- ---- an entry

-- a pair, or an entry of a mapping
pub pair_events : (in_seq : Bool) (ask : Option Sep) (key : Flow) (v : Value) (at : ℕ) → (in_seq ≡ true → is_pair ask v ≡ true)
    → entry_events (entry ask key v) in_seq at
    ≡ (pair_start in_seq ++ flow_events key (at + byte_len (asked_text ask)))
    ++ (value_events v (at + byte_len (asked_text ask) + byte_len (flow_text key)) ++ pair_end in_seq)
pair_events true ask key v at h =
    let prefix : List Event = flow_events key (at + byte_len (asked_text ask)) in
    let more : List Event = value_events v (at + byte_len (asked_text ask) + byte_len (flow_text key)) in
    ap (λ (b : Bool). if b then map_start ∷ ((prefix ++ more) ++ map_end ∷ []) else prefix) (h refl)
    ∙ ap (λ es. map_start ∷ es) (append_assoc prefix more (map_end ∷ []))
pair_events false ask key v at h =
    ap (λ es. flow_events key (at + byte_len (asked_text ask)) ++ es)
    (sym (append-nil (value_events v (at + byte_len (asked_text ask) + byte_len (flow_text key)))))

-- a value that is there makes a pair
pub with_colon : (ask : Option Sep) (v : Value) → has_colon v ≡ true → is_pair ask v ≡ true
with_colon None absent h = absurd (false≢true h)
with_colon None (empty gap) h = refl
with_colon None (given before after f) h = refl
with_colon (Some sep) absent h = refl
with_colon (Some sep) (empty gap) h = refl
with_colon (Some sep) (given before after f) h = refl

-- ---- a collection

prefix_then : (e : Event) (xs ys zs : List Event) → e ∷ ((xs ++ ys) ++ zs) ≡ (e ∷ xs) ++ (ys ++ zs)
prefix_then e xs ys zs = ap (λ es. e ∷ es) (append_assoc xs ys zs)

events_of_kind : (in_seq : Bool) (gap : Option Sep) (es : Entries) (from : ℕ)
    → flow_events (collection_of in_seq gap es) from
    ≡ bracket_start in_seq ∷ (entries_events es in_seq (from + 1 + byte_len (gap_text gap)) ++ bracket_end in_seq ∷ [])
events_of_kind true gap es from = refl
events_of_kind false gap es from = refl

-- the events of a collection, from its bracket and entries
pub collection_events : (b : Bracket) (es : Entries) (from : ℕ)
    → flow_events (collection_of b.in_seq b.gap (entries_onto b.done es)) from
    ≡ bracket_prefix b from ++ (entries_events es b.in_seq (entry_start b from) ++ bracket_end b.in_seq ∷ [])
collection_events b es from =
    events_of_kind b.in_seq b.gap (entries_onto b.done es) from
    ∙ (ap (λ xs. bracket_start b.in_seq ∷ (xs ++ bracket_end b.in_seq ∷ [])) (entries_prefix b.done es b.in_seq (entries_start b from))
    ∙ prefix_then (bracket_start b.in_seq) (done_events b.done b.in_seq (entries_start b from))
    (entries_events es b.in_seq (entry_start b from)) (bracket_end b.in_seq ∷ []))

-- an entry that is read is one of those that are done
pub done_more : (xs : List DoneEntry) (x : DoneEntry) (in_seq : Bool) (at : ℕ)
    → done_events (xs ++ x ∷ []) in_seq at ≡ done_events xs in_seq at ++ entry_events x.entry in_seq (done_end xs at)
done_more [] x in_seq at = append-nil (entry_events x.entry in_seq at)
done_more (y ∷ ys) x in_seq at =
    ap (λ es. entry_events y.entry in_seq at ++ es) (done_more ys x in_seq (done_place y at))
    ∙ sym (append_assoc (entry_events y.entry in_seq at) (done_events ys in_seq (done_place y at))
    (entry_events x.entry in_seq (done_end ys (done_place y at))))

-- one entry more at the end of those that are read
pub done_end_more : (xs : List DoneEntry) (x : DoneEntry) (at : ℕ) → done_end (xs ++ x ∷ []) at ≡ done_place x (done_end xs at)
done_end_more [] x at = refl
done_end_more (y ∷ ys) x at = done_end_more ys x (done_place y at)

-- ---- lengths

-- the length of an entry's text
pub entry_length : (ask : Option Sep) (key : Flow) (v : Value)
    → byte_len (entry_text (entry ask key v)) ≡ byte_len (asked_text ask) + byte_len (flow_text key) + byte_len (value_text v)
entry_length ask key v =
    byte_len_joined (asked_text ask ++ flow_text key) (value_text v)
    ∙ ap (λ k. k + byte_len (value_text v)) (byte_len_joined (asked_text ask) (flow_text key))

-- that of a value that is left out
pub empty_length : (gap : Option Sep) → byte_len (value_text (empty gap)) ≡ byte_len (gap_text gap) + 1
empty_length gap = byte_len_joined (gap_text gap) (58 ∷ [])

-- that of a value
pub given_length : (before after : Option Sep) (f : Flow)
    → byte_len (value_text (given before after f)) ≡ byte_len (gap_text before) + 1 + byte_len (gap_text after) + byte_len (flow_text f)
given_length before after f =
    byte_len_joined ((gap_text before ++ 58 ∷ []) ++ gap_text after) (flow_text f)
    ∙ ap (λ k. k + byte_len (flow_text f)) (byte_len_joined (gap_text before ++ 58 ∷ []) (gap_text after)
    ∙ ap (λ k. k + byte_len (gap_text after)) (byte_len_joined (gap_text before) (58 ∷ [])))
