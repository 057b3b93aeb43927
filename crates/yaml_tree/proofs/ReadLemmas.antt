-- What bytes give whose events are those of a tree, and what others are refused for.
use Rattle.std.proofs.Common.{◌≡◌, ℕ, ◌<◌, ◌≤◌, List, sym, subst}
use Rattle.yaml_tree.proofs.Prelude.{chars, ReadFault, TooLong, NotUtf8, Syntax, Documents, KeyNotText, KeyTwice, TooDeep, LargeInStyle}
use Rattle.yaml_tree.proofs.Prelude.{OutOfMemory, events_of, Event, Limits, Good, Tree, IsTreeOf, depth, byte_len-chars}
use Rattle.yaml_tree.{proofs.{NestedLemmas.collection_key, PresentedLemmas.document_nested}, specs.Building.{HasNoTree, RefusesDeep}}
use Rattle.{yaml_tree.specs.Reading.{IsRead, Refuses, document_count}, yaml_docs.specs.Reading.ReadsAs}

-- a good tree whose events the bytes read as is given by the bytes
pub tree_read : (bytes : List ℕ) (limits : Limits) (es : List Event) (t : Tree) → ReadsAs bytes limits.bytes es
    → IsTreeOf (events_of es) t → Good t limits
    → IsRead bytes limits t
tree_read bytes limits es t reads is good = record {
  utf8 = reads.text.utf8;
  gives = record {
    short = subst (λ n. n ≤ limits.bytes) (sym (byte_len-chars bytes reads.text.utf8)) reads.text.short;
    events = events_of es;
    reads = reads.reads;
    tree = is;
    good = good;
  };
}

-- ---- what bytes are refused for whose events are those of one document

abbrev One : List ℕ → Limits → List Event → Type 0
One bytes limits es = ReadsAs bytes limits.bytes es × (document_count (events_of es) ≡ 1)

key_refused : (bytes : List ℕ) (limits : Limits) (es : List Event) → One bytes limits es → ((t : Tree) → IsTreeOf (events_of es) t → ⊥)
    → Refuses bytes limits KeyNotText
key_refused bytes limits es h none =
    let reads = h.0 in
    let held = document_nested (chars bytes) (events_of es) reads.reads h.1 in
    (reads.text, events_of es, reads.reads, h.1, collection_key (events_of es) held.value held.are none)

-- a fault of a tree that is not too deep is right for the bytes
pub shallow_refused : (bytes : List ℕ) (limits : Limits) (es : List Event) (fault : ReadFault)
    → ReadsAs bytes limits.bytes es → document_count (events_of es) ≡ 1
    → HasNoTree (events_of es) fault → Refuses bytes limits fault
shallow_refused bytes limits es TooLong reads one h = absurd h
shallow_refused bytes limits es (NotUtf8 at) reads one h = absurd h
shallow_refused bytes limits es (Syntax line column why) reads one h = absurd h
shallow_refused bytes limits es (Documents count) reads one h = absurd h
shallow_refused bytes limits es KeyNotText reads one h = key_refused bytes limits es (reads, one) h
shallow_refused bytes limits es KeyTwice reads one h = absurd h
shallow_refused bytes limits es TooDeep reads one h = absurd h
shallow_refused bytes limits es LargeInStyle reads one h = absurd h
shallow_refused bytes limits es OutOfMemory reads one h = tt

-- a fault of a tree that is too deep is right for the bytes
pub deep_refused : (bytes : List ℕ) (limits : Limits) (es : List Event) (fault : ReadFault)
    → ReadsAs bytes limits.bytes es → document_count (events_of es) ≡ 1
    → ((t : Tree) → IsTreeOf (events_of es) t → limits.depth < depth t) → RefusesDeep (events_of es) fault → Refuses bytes limits fault
deep_refused bytes limits es TooLong reads one deep h = absurd h
deep_refused bytes limits es (NotUtf8 at) reads one deep h = absurd h
deep_refused bytes limits es (Syntax line column why) reads one deep h = absurd h
deep_refused bytes limits es (Documents count) reads one deep h = absurd h
deep_refused bytes limits es KeyNotText reads one deep h = key_refused bytes limits es (reads, one) h
deep_refused bytes limits es KeyTwice reads one deep h =
    record { text = reads.text; events = events_of es; reads = reads.reads; tree = h.0; is_tree = h.1; first = h.2 }
deep_refused bytes limits es TooDeep reads one deep h =
    record { text = reads.text; events = events_of es; reads = reads.reads; tree = h.0; is_tree = h.1; first = (h.2, deep h.0 h.1) }
deep_refused bytes limits es LargeInStyle reads one deep h = absurd h
deep_refused bytes limits es OutOfMemory reads one deep h = tt

-- what is refused where keys are looked at is refused where the tree is too deep
pub keys_refused : (es : List Event) (fault : ReadFault) → HasNoTree (events_of es) fault → RefusesDeep (events_of es) fault
keys_refused es TooLong h = absurd h
keys_refused es (NotUtf8 at) h = absurd h
keys_refused es (Syntax line column why) h = absurd h
keys_refused es (Documents count) h = absurd h
keys_refused es KeyNotText h = h
keys_refused es KeyTwice h = absurd h
keys_refused es TooDeep h = absurd h
keys_refused es LargeInStyle h = absurd h
keys_refused es OutOfMemory h = tt
