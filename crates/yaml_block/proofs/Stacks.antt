-- The events that a step appends, and the stack of open collections.
use Rattle.std.proofs.{Common.{◌≡◌, refl, sym, ◌∙◌, ap, subst, arith, ℕ, ◌-◌, length, append_assoc}, lemmas.List.Elements.All-append}
use Rattle.std.{proofs.lemmas.List.{Elements.All-nil, Edits.insert-append_right}, specs.Prelude.{List, [], ◌∷◌, ◌++◌, slice_index_or}}
use Rattle.yaml_block.proofs.Prelude.{append-nil, All, insert, map-append, length-append, BlockFrame, BorrowsPlain, event_of, events_of}
use Rattle.yaml_block.{proofs.Prelude.{Event, MapStart, Appended}, specs.declared.{frame.Collection.Collection, reader.Reader.Reader}}
use Rattle.{yaml_block.specs.States.{Grown, Holds, Keeps, Stack}, yaml_flow.proofs.Stacks.snoc_same}
use Rattle.yaml_grammar.specs.Events as grammar

-- ---- events

one : (text : List ℕ) (e : Event) → BorrowsPlain text e → All (BorrowsPlain text) (e ∷ [])
one text e b k d l = let z : k ≡ 0 = omega arith in subst (λ (j : ℕ). BorrowsPlain text (slice_index_or (e ∷ []) j d))
    (sym z) b

-- no event is appended yet
pub appended_none : (text : List ℕ) (base : List Event) → Appended text base base []
appended_none text base = record {
  more = [];
  is = simp append-nil;
  means = refl;
  borrows =
      All-nil (BorrowsPlain text);
}

-- further events are appended
pub appended_more : (text : List ℕ) (base old new : List Event) (evs more : List grammar.Event)
    → Appended text base old evs → Appended text old new more → Appended text base new (evs ++ more)
appended_more text base old new evs more a b = record {
  more = a.more ++ b.more;
  is = b.is ∙ ap (λ es. es ++ b.more) a.is ∙ append_assoc base a.more b.more;
  means = map-append event_of a.more b.more ∙ (ap (λ es. es ++ events_of b.more) a.means
      ∙ ap (λ es. evs ++ es) b.means);
  borrows = All-append (BorrowsPlain text) a.more b.more a.borrows b.borrows;
}

single : (text : List ℕ) (old new : List Event) (e : Event) → new ≡ old ++ e ∷ [] → BorrowsPlain text e
    → Appended text old new (event_of e ∷ [])
single text old new e n b = record { more = e ∷ []; is = n; means = refl; borrows = one text e b }

-- one event more is appended
pub appended_one : (text : List ℕ) (base old new : List Event) (evs : List grammar.Event) (e : Event)
    → Appended text base old evs → new ≡ old ++ e ∷ [] → BorrowsPlain text e
    → Appended text base new (evs ++ event_of e ∷ [])
appended_one text base old new evs e a n b = appended_more text base old new evs (event_of e ∷ []) a
    (single text old new e n b)

inserted : (old more : List Event) (e : Event) → insert (old ++ more) (length old) e ≡ old ++ e ∷ more
inserted old more e = insert-append_right old more (length old) (length old) e refl (omega arith)
    ∙ ap (λ n. old ++ insert more n e) (let z : length old - length old ≡ 0 = omega arith in z)

before : (text : List ℕ) (old mid new : List Event) (more : List grammar.Event) → Appended text old mid more
    → new ≡ insert mid (length old) MapStart
    → Appended text old new (grammar.map_start ∷ more)
before text old mid new more a n = record {
  more = MapStart ∷ a.more;
  is = n ∙ (ap (λ es. insert es (length old) MapStart) a.is ∙ inserted old a.more MapStart);
  means = ap (λ es. grammar.map_start ∷ es) a.means;
  borrows = All-append (BorrowsPlain text) (MapStart ∷ []) a.more (one text MapStart tt) a.borrows;
}

-- events are appended before others
pub appended_before : (text : List ℕ) (base old mid new : List Event) (evs more : List grammar.Event)
    → Appended text base old evs → Appended text old mid more
    → new ≡ insert mid (length old) MapStart → Appended text base new (evs ++ grammar.map_start ∷ more)
appended_before text base old mid new evs more a b n = appended_more text base old new evs (grammar.map_start ∷ more)
    a (before text old mid new more b n)

-- events inserted before others make the list longer
pub grown_before : (text : List ℕ) (old mid new : List Event) (more : List grammar.Event) → Appended text old mid more
    → new ≡ insert mid (length old) MapStart → Grown old new
grown_before text old mid new more a n = let b = before text old mid new more a n in record {
  more = b.more;
  is =
      b.is;
}

-- appended events make the list longer
pub grown_appended : (text : List ℕ) (old new : List Event) (more : List grammar.Event) → Appended text old new more
    → Grown old new
grown_appended text old new more a = record { more = a.more; is = a.is }

-- a list that stays as it is has grown by nothing
pub grown_same : (old new : List Event) → new ≡ old → Grown old new
grown_same old new e = record { more = []; is = e ∙ sym (append-nil old) }

-- a list that grows twice has grown
pub grown_grown : (a b c : List Event) → Grown a b → Grown b c → Grown a c
grown_grown a b c g h = record {
  more = g.more ++ h.more;
  is = h.is
      ∙ (ap (λ es. es ++ h.more) g.is ∙ append_assoc a g.more h.more);
}

-- ---- the stack

-- a collection is pushed on the stack
pub opened : (text : List ℕ) (base : List Event) (fs : List BlockFrame) (evs evs' : List grammar.Event)
    (old new : Reader) (f : BlockFrame) (c : Collection) → Holds text base fs evs old
    → new.collections.items ≡ old.collections.items ++ c ∷ [] → Keeps c f → Appended text base new.events evs'
    → Holds text base (f ∷ fs) evs' new
opened text base fs evs evs' old new f c h e k a =
    record { stack = (old.collections.items, c, e, k, h.stack); appended = a }

-- what is popped
pub record Popped (fs : List BlockFrame) (around : List Collection) (innermost : Collection) : Type 0 where
  pub frame : BlockFrame
  pub others : List BlockFrame
  pub is : fs ≡ frame ∷ others
  pub keeps : Keeps innermost frame
  pub stack : Stack others around

-- the innermost collection is taken from the stack
pub popped : (fs : List BlockFrame) (items around : List Collection) (innermost : Collection) → Stack fs items
    → items ≡ around ++ innermost ∷ [] → Popped fs around innermost
popped [] items around innermost s e =
    absurd (omega (arith, ap length (sym s ∙ e), length-append around (innermost ∷ [])))
popped (f ∷ fs) items around innermost s e =
    let both = snoc_same s.0 around s.1 innermost (sym s.2 ∙ e) in
    record {
      frame = f;
      others = fs;
      is = refl;
      keeps = subst (λ c. Keeps c f) both.1 s.3;
      stack =
          subst (λ cs. Stack fs cs) both.0 s.4;
    }

-- an empty stack has no open collection
pub emptied : (fs : List BlockFrame) (items : List Collection) → Stack fs items → length items ≡ 0 → fs ≡ []
emptied [] items s l = refl
emptied (f ∷ fs) items s l = absurd (omega (arith, ap length s.2, length-append s.0 (s.1 ∷ []), l))
