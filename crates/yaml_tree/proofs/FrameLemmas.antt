-- The events of a tree, taken one after another, give that tree; and events that give a tree are those of it.
use Rattle.std.proofs.Common.{◌≡◌, ℕ, List, [], ◌∷◌, ◌++◌, Option, Some, None, append_assoc, refl, sym, ap, subst, ◌∙◌}
use Rattle.yaml_tree.proofs.Prelude.{append-nil, Tree, text, sequence, mapping, Elements, no_element, element, Members, no_member, member}
use Rattle.yaml_tree.proofs.Prelude.{Shape, document_from, document_to, seq_from, seq_to, map_from, map_to, scalar_of, tree_shapes}
use Rattle.yaml_tree.{proofs.Prelude.{elements_shapes, members_shapes, join_elements, join_members}, specs.Frames.{Frame, awaiting, root}}
use Rattle.yaml_tree.specs.Frames.{whole, in_seq, at_key, at_value, elements_and, members_and, frames_with, step, finished_tree}

-- ---- several events

-- the frames after one more event, where there are frames
abbrev pub after : Option (List Frame) → Shape → Option (List Frame)
after None s = None
after (Some fs) s = step fs s

-- the frames after a list of events
abbrev pub run : Option (List Frame) → List Shape → Option (List Frame)
run o [] = o
run o (s ∷ ss) = run (after o s) ss

-- a run that was stopped stays stopped
pub run-None : (ss : List Shape) → run None ss ≡ None
run-None [] = refl
run-None (s ∷ ss) = run-None ss

-- ---- more at the end

-- elements before no others
pub join_elements-none : (ts : Elements) → join_elements ts no_element ≡ ts
join_elements-none no_element = refl
join_elements-none (element t ts) = ap (element t) (join_elements-none ts)

-- members before no others
pub join_members-none : (ms : Members) → join_members ms no_member ≡ ms
join_members-none no_member = refl
join_members-none (member key t ms) = ap (member key t) (join_members-none ms)

-- one more at the end, before others
pub join_elements-one : (ts us : Elements) (u : Tree)
    → join_elements (elements_and ts u) us ≡ join_elements ts (element u us)
join_elements-one no_element us u = refl
join_elements-one (element t ts) us u = ap (element t) (join_elements-one ts us u)

-- one member more at the end, before others
pub join_members-one : (ms ns : Members) (name : List ℕ) (u : Tree)
    → join_members (members_and ms name u) ns ≡ join_members ms (member name u ns)
join_members-one no_member ns name u = refl
join_members-one (member key t ms) ns name u = ap (member key t) (join_members-one ms ns name u)

-- the shapes of elements with one more at the end
pub elements_and-shapes : (ts : Elements) (u : Tree) → elements_shapes (elements_and ts u) ≡ elements_shapes ts ++ tree_shapes u
elements_and-shapes no_element u = append-nil (tree_shapes u)
elements_and-shapes (element t ts) u =
    ap (λ ss. tree_shapes t ++ ss) (elements_and-shapes ts u) ∙ sym (append_assoc (tree_shapes t) (elements_shapes ts) (tree_shapes u))

-- the shapes of members with one more at the end
pub members_and-shapes : (ms : Members) (key : List ℕ) (u : Tree)
    → members_shapes (members_and ms key u) ≡ members_shapes ms ++ scalar_of key ∷ tree_shapes u
members_and-shapes no_member key u = ap (λ ss. scalar_of key ∷ ss) (append-nil (tree_shapes u))
members_and-shapes (member k t ms) key u =
    ap (λ ss. scalar_of k ∷ (tree_shapes t ++ ss)) (members_and-shapes ms key u)
    ∙ ap (λ ss. scalar_of k ∷ ss) (sym (append_assoc (tree_shapes t) (members_shapes ms) (scalar_of key ∷ tree_shapes u)))

-- ---- a tree's events put the tree into the innermost part

-- the part, with the values of a collection in it one after another
mutual
  tree_run : (t : Tree) (fs : List Frame) (rest : List Shape) → run (Some fs) (tree_shapes t ++ rest) ≡ run (frames_with fs t) rest
  tree_run (text value) fs rest = refl
  tree_run (sequence ts) fs rest =
      ap (run (Some (in_seq no_element ∷ fs))) (append_assoc (elements_shapes ts) (seq_to ∷ []) rest)
      ∙ elements_run ts no_element fs (seq_to ∷ rest)
  tree_run (mapping ms) fs rest =
      ap (run (Some (at_key no_member ∷ fs))) (append_assoc (members_shapes ms) (map_to ∷ []) rest)
      ∙ members_run ms no_member fs (map_to ∷ rest)

  elements_run : (ts us : Elements) (fs : List Frame) (rest : List Shape)
      → run (Some (in_seq us ∷ fs)) (elements_shapes ts ++ rest) ≡ run (Some (in_seq (join_elements us ts) ∷ fs)) rest
  elements_run no_element us fs rest = ap (λ vs. run (Some (in_seq vs ∷ fs)) rest) (sym (join_elements-none us))
  elements_run (element t ts) us fs rest =
      ap (run (Some (in_seq us ∷ fs))) (append_assoc (tree_shapes t) (elements_shapes ts) rest)
      ∙ tree_run t (in_seq us ∷ fs) (elements_shapes ts ++ rest)
      ∙ elements_run ts (elements_and us t) fs rest
      ∙ ap (λ vs. run (Some (in_seq vs ∷ fs)) rest) (join_elements-one us ts t)

  members_run : (ms ns : Members) (fs : List Frame) (rest : List Shape)
      → run (Some (at_key ns ∷ fs)) (members_shapes ms ++ rest) ≡ run (Some (at_key (join_members ns ms) ∷ fs)) rest
  members_run no_member ns fs rest = ap (λ vs. run (Some (at_key vs ∷ fs)) rest) (sym (join_members-none ns))
  members_run (member key t ms) ns fs rest =
      ap (run (Some (at_value ns key ∷ fs))) (append_assoc (tree_shapes t) (members_shapes ms) rest)
      ∙ tree_run t (at_value ns key ∷ fs) (members_shapes ms ++ rest)
      ∙ members_run ms (members_and ns key t) fs rest
      ∙ ap (λ vs. run (Some (at_key vs ∷ fs)) rest) (join_members-one ns ms key t)

-- the events of a document build its tree
pub document_run : (t : Tree) → run (Some []) (document_from ∷ (tree_shapes t ++ document_to ∷ [])) ≡ Some (whole t ∷ [])
document_run t = tree_run t (awaiting ∷ []) (document_to ∷ [])

-- ---- the events that the open parts were made by

-- the events that frames were built from
abbrev pub written : List Frame → List Shape
written [] = []
written (awaiting ∷ fs) = written fs ++ document_from ∷ []
written (root t ∷ fs) = written fs ++ document_from ∷ tree_shapes t
written (whole t ∷ fs) = written fs ++ document_from ∷ (tree_shapes t ++ document_to ∷ [])
written (in_seq ts ∷ fs) = written fs ++ seq_from ∷ elements_shapes ts
written (at_key ms ∷ fs) = written fs ++ map_from ∷ members_shapes ms
written (at_value ms key ∷ fs) = written fs ++ map_from ∷ (members_shapes ms ++ scalar_of key ∷ [])

-- that a step which is made writes the events ss more
abbrev Writes : Option (List Frame) → List Shape → Type 0
Writes None ss = Unit {0}
Writes (Some gs) ss = written gs ≡ ss

written_joined : (fs : List Frame) (s : Shape) (xs ys : List Shape) → written fs ++ s ∷ (xs ++ ys) ≡ written fs ++ s ∷ xs ++ ys
written_joined fs s xs ys = sym (append_assoc (written fs) (s ∷ xs) ys)

put_writes : (fs : List Frame) (t : Tree) → Writes (frames_with fs t) (written fs ++ tree_shapes t)
put_writes [] t = tt
put_writes (awaiting ∷ fs) t = written_joined fs document_from [] (tree_shapes t)
put_writes (root u ∷ fs) t = tt
put_writes (whole u ∷ fs) t = tt
put_writes (in_seq ts ∷ fs) t = ap (λ ss. written fs ++ seq_from ∷ ss) (elements_and-shapes ts t)
    ∙ written_joined fs seq_from (elements_shapes ts) (tree_shapes t)
put_writes (at_key ms ∷ fs) (text key) = written_joined fs map_from (members_shapes ms) (scalar_of key ∷ [])
put_writes (at_key ms ∷ fs) (sequence ts) = tt
put_writes (at_key ms ∷ fs) (mapping ns) = tt
put_writes (at_value ms key ∷ fs) t =
    ap (λ ss. written fs ++ map_from ∷ ss) (members_and-shapes ms key t
    ∙ sym (append_assoc (members_shapes ms) (scalar_of key ∷ []) (tree_shapes t)))
    ∙ written_joined fs map_from (members_shapes ms ++ scalar_of key ∷ []) (tree_shapes t)

same_writes : (o : Option (List Frame)) (xs ys : List Shape) → xs ≡ ys → Writes o xs → Writes o ys
same_writes o xs ys e h = subst (Writes o) e h

step_writes : (fs : List Frame) (s : Shape) → Writes (step fs s) (written fs ++ s ∷ [])
step_writes fs document_from = refl
step_writes [] document_to = tt
step_writes (awaiting ∷ fs) document_to = tt
step_writes (root t ∷ fs) document_to = written_joined fs document_from (tree_shapes t) (document_to ∷ [])
step_writes (whole t ∷ fs) document_to = tt
step_writes (in_seq ts ∷ fs) document_to = tt
step_writes (at_key ms ∷ fs) document_to = tt
step_writes (at_value ms key ∷ fs) document_to = tt
step_writes fs seq_from = refl
step_writes [] seq_to = tt
step_writes (awaiting ∷ fs) seq_to = tt
step_writes (root t ∷ fs) seq_to = tt
step_writes (whole t ∷ fs) seq_to = tt
step_writes (in_seq ts ∷ fs) seq_to =
    same_writes (frames_with fs (sequence ts)) _ _ (written_joined fs seq_from (elements_shapes ts) (seq_to ∷ []))
    (put_writes fs (sequence ts))
step_writes (at_key ms ∷ fs) seq_to = tt
step_writes (at_value ms key ∷ fs) seq_to = tt
step_writes fs map_from = refl
step_writes [] map_to = tt
step_writes (awaiting ∷ fs) map_to = tt
step_writes (root t ∷ fs) map_to = tt
step_writes (whole t ∷ fs) map_to = tt
step_writes (in_seq ts ∷ fs) map_to = tt
step_writes (at_key ms ∷ fs) map_to =
    same_writes (frames_with fs (mapping ms)) _ _ (written_joined fs map_from (members_shapes ms) (map_to ∷ []))
    (put_writes fs (mapping ms))
step_writes (at_value ms key ∷ fs) map_to = tt
step_writes fs (scalar_of value) = put_writes fs (text value)

abbrev Wrote : Option (List Frame) → List Shape → Option (List Frame) → Type 0
Wrote o ss None = Unit {0}
Wrote None ss (Some gs) = ⊥
Wrote (Some fs) ss (Some gs) = written gs ≡ written fs ++ ss

after_wrote : (o : Option (List Frame)) (s : Shape) → (p : Option (List Frame)) → after o s ≡ p → Wrote o (s ∷ []) p
after_wrote o s None e = tt
after_wrote None s (Some gs) e = cc
after_wrote (Some fs) s (Some gs) e = subst (λ p. Writes p (written fs ++ s ∷ [])) e (step_writes fs s)

joined : (o : Option (List Frame)) (s : Shape) (ss : List Shape) (p q : Option (List Frame)) → Wrote o (s ∷ []) p
    → Wrote p ss q → Wrote o (s ∷ ss) q
joined o s ss p None h k = tt
joined o s ss None (Some gs) h k = absurd k
joined None s ss (Some fs) (Some gs) h k = absurd h
joined (Some es) s ss (Some fs) (Some gs) h k = k ∙ ap (λ xs. xs ++ ss) h ∙ append_assoc (written es) (s ∷ []) ss

run_wrote : (o : Option (List Frame)) (ss : List Shape) → Wrote o ss (run o ss)
run_wrote None ss = subst (Wrote None ss) (sym (run-None ss)) tt
run_wrote (Some fs) [] = sym (append-nil (written fs))
run_wrote (Some fs) (s ∷ ss) =
    joined (Some fs) s ss (step fs s) (run (step fs s) ss) (after_wrote (Some fs) s (step fs s) refl) (run_wrote (step fs s) ss)

-- a run from nothing has read just the events that its frames were built from
pub run_written : (ss : List Shape) (gs : List Frame) → run (Some []) ss ≡ Some gs → ss ≡ written gs
run_written ss gs e =
    let wrote : written gs ≡ [] ++ ss = subst (Wrote (Some []) ss) e (run_wrote (Some []) ss) in
    sym wrote

-- frames that hold a finished tree hold nothing else
pub finished_whole : (fs : List Frame) (t : Tree) → finished_tree fs ≡ Some t → fs ≡ whole t ∷ []
finished_whole [] t e = cc
finished_whole (awaiting ∷ fs) t e = cc
finished_whole (root u ∷ fs) t e = cc
finished_whole (whole u ∷ []) t e = let same : u ≡ t = cc in ap (λ v. whole v ∷ []) same
finished_whole (whole u ∷ f ∷ fs) t e = cc
finished_whole (in_seq ts ∷ fs) t e = cc
finished_whole (at_key ms ∷ fs) t e = cc
finished_whole (at_value ms key ∷ fs) t e = cc
