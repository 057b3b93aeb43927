-- The events of what is read of a collection are a prefix of the collection's events.
use Rattle.std.{proofs.Common.{ap, append_assoc, refl, sym, ◌∙◌, ◌≡◌}, specs.Prelude.{Bool, List, [], ℕ, ◌++◌, ◌+◌, ◌∷◌}}
use Rattle.yaml_recognizers.proofs.Prelude.{Indented, Items, Pair, Pairs, indented_end, indented_events, indented_text, item, items_end}
use Rattle.yaml_recognizers.proofs.Prelude.{items_events, pair, pair_end, pair_events, pair_text, pairs_end, pairs_events, Event, Entries}
use Rattle.yaml_recognizers.{proofs.Prelude.{entries_events, entry_events, entry_text, gap_text, byte_len}, specs.BlockFrames.joined_items}
use Rattle.yaml_recognizers.specs.{BlockFrames.joined_pairs, FlowFrames.{DoneEntry, entries_onto}}

-- ---- brackets

-- the place after an entry that is read, and its comma
abbrev pub done_place : DoneEntry → ℕ → ℕ
done_place x at = at + byte_len (entry_text x.entry) + byte_len (gap_text x.before) + 1 + byte_len (gap_text x.after)

-- the place after all entries that are read
abbrev pub done_end : List DoneEntry → ℕ → ℕ
done_end [] at = at
done_end (x ∷ xs) at = done_end xs (done_place x at)

-- the events of the entries that are read
abbrev pub done_events : List DoneEntry → Bool → ℕ → List Event
done_events [] in_seq at = []
done_events (x ∷ xs) in_seq at = entry_events x.entry in_seq at ++ done_events xs in_seq (done_place x at)

-- they are a prefix of the events of all entries
pub entries_prefix : (done : List DoneEntry) (es : Entries) (in_seq : Bool) (at : ℕ)
    → entries_events (entries_onto done es) in_seq at ≡ done_events done in_seq at ++ entries_events es in_seq (done_end done at)
entries_prefix [] es in_seq at = refl
entries_prefix (x ∷ xs) es in_seq at =
    ap (λ r. entry_events x.entry in_seq at ++ r) (entries_prefix xs es in_seq (done_place x at))
    ∙ sym (append_assoc (entry_events x.entry in_seq at) (done_events xs in_seq (done_place x at))
    (entries_events es in_seq (done_end xs (done_place x at))))

-- ---- sequences and mappings

-- the place of the next item
abbrev pub item_place : ℕ → Indented → ℕ → ℕ
item_place k i at = at + 1 + byte_len (indented_text i k) + k

-- the place after all items that are read
abbrev pub done_items_end : ℕ → List Indented → ℕ → ℕ
done_items_end k [] at = at
done_items_end k (i ∷ done) at = done_items_end k done (item_place k i at)

-- the events of the items that are read
abbrev pub done_items_events : ℕ → List Indented → ℕ → List Event
done_items_events k [] at = []
done_items_events k (i ∷ done) at = indented_events i k (at + 1) ++ done_items_events k done (item_place k i at)

-- they are a prefix of the events of all items
pub items_prefix : (k : ℕ) (done : List Indented) (is : Items) (at : ℕ)
    → items_events (joined_items done is) k at ≡ done_items_events k done at ++ items_events is k (done_items_end k done at)
items_prefix k [] is at = refl
items_prefix k (i ∷ done) is at =
    ap (λ r. indented_events i k (at + 1) ++ r) (items_prefix k done is (item_place k i at))
    ∙ sym (append_assoc (indented_events i k (at + 1)) (done_items_events k done (item_place k i at))
    (items_events is k (done_items_end k done (item_place k i at))))

-- where the sequence ends is where its last item does
pub items_end_last : (k : ℕ) (done : List Indented) (i : Indented) (at : ℕ)
    → items_end (joined_items done (item i)) k at ≡ indented_end i k (done_items_end k done at + 1)
items_end_last k [] i at = refl
items_end_last k (d ∷ done) i at = items_end_last k done i (item_place k d at)

-- the place of the next pair
abbrev pub pair_place : ℕ → Pair → ℕ → ℕ
pair_place k p at = at + byte_len (pair_text p k) + k

-- the place after all pairs that are read
abbrev pub done_pairs_end : ℕ → List Pair → ℕ → ℕ
done_pairs_end k [] at = at
done_pairs_end k (p ∷ done) at = done_pairs_end k done (pair_place k p at)

-- the events of the pairs that are read
abbrev pub done_pairs_events : ℕ → List Pair → ℕ → List Event
done_pairs_events k [] at = []
done_pairs_events k (p ∷ done) at = pair_events p k at ++ done_pairs_events k done (pair_place k p at)

-- they are a prefix of the events of all pairs
pub pairs_prefix : (k : ℕ) (done : List Pair) (ps : Pairs) (at : ℕ)
    → pairs_events (joined_pairs done ps) k at ≡ done_pairs_events k done at ++ pairs_events ps k (done_pairs_end k done at)
pairs_prefix k [] ps at = refl
pairs_prefix k (p ∷ done) ps at =
    ap (λ r. pair_events p k at ++ r) (pairs_prefix k done ps (pair_place k p at))
    ∙ sym (append_assoc (pair_events p k at) (done_pairs_events k done (pair_place k p at))
    (pairs_events ps k (done_pairs_end k done (pair_place k p at))))

-- the end of pairs is the end of the last one
pub pairs_end_last : (k : ℕ) (done : List Pair) (p : Pair) (at : ℕ)
    → pairs_end (joined_pairs done (pair p)) k at ≡ pair_end p k (done_pairs_end k done at)
pairs_end_last k [] p at = refl
pairs_end_last k (d ∷ done) p at = pairs_end_last k done p (pair_place k d at)
