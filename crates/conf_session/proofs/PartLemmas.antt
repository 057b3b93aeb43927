-- The parts of a batch: how they are found in a sequence, and how their texts are read, in order.
use Rattle.std.{proofs.Common.{◌≡◌, refl, sym, ap, subst, ◌∙◌, append_assoc, append-nil, arith}, specs.Prelude.{List, [], ◌∷◌, ◌++◌}}
use Rattle.std.specs.Prelude.{length, map, Option, Some, None, option_map}
use Rattle.conf_session.proofs.Prelude.{map-append, ReadFault, Tree, tree_of, elements_of, Edit, edit_of, AreKeptElements}
use Rattle.conf_session.specs.{Said.{Part, part_seen, parts_seen}, SaidConditions.{all_in, first_and_rest}, Requests.{IsReadAs, AreReadAs}}
use Rattle.conf_session.specs.Requests.{RefusesPart, IsFirstRefused}
use Rattle.yaml_data.specs.declared.tree.Tree as code_tree
use Rattle.conf_state.specs.declared.command.Edit as code_edit
use Rattle.conf_session.specs.declared.parts.Part as code_part

-- ---- what elements are read as, one after the other

-- what was read before, and what the elements that are left are read as
abbrev pub behind : {A : Type 0} → List A → Option (List A) → Option (List A)
behind {A} done rest = option_map (λ (more : List A). done ++ more) rest

behind-one : {A : Type 0} (done : List A) (x : A) (rest : Option (List A))
    → behind (done ++ x ∷ []) rest ≡ behind done (first_and_rest (Some x) rest)
behind-one done x None = refl
behind-one done x (Some more) = ap Some (append_assoc done (x ∷ []) more)

-- the elements before those that are left were read, and `seen` says what as
pub record FoundSoFar {A B : Type 0} (seen : A → B) (read : Tree → Option B) (all : List code_tree.Tree) (done : List A)
    (left : List code_tree.Tree) : Type 0 where
  pub whole : behind (map seen done) (all_in read (elements_of left)) ≡ all_in read (elements_of all)
  pub kept : AreKeptElements (elements_of left)

module _ {A B : Type 0} (seen : A → B) (read : Tree → Option B) (all : List code_tree.Tree) where
  -- one more element is read
  pub one-found : (done : List A) (t : code_tree.Tree) (left : List code_tree.Tree) (x : A) → Some (seen x) ≡ read (tree_of t)
      → FoundSoFar seen read all done (t ∷ left) → (new : List A) → new ≡ done ++ x ∷ [] → FoundSoFar seen read all new left
  one-found done t left x is so new more =
      let rest = all_in read (elements_of left) in
      record {
        whole =
            ap (λ xs. behind (map seen xs) rest) more
            ∙ ap (λ xs. behind xs rest) (map-append seen done (x ∷ []))
            ∙ behind-one (map seen done) (seen x) rest
            ∙ ap (λ o. behind (map seen done) (first_and_rest o rest)) is
            ∙ so.whole;
        kept = so.kept.1;
      }

  -- no element is left
  pub all-found : (done : List A) (left : List code_tree.Tree) → length left ≡ 0 → FoundSoFar seen read all done left
      → Some (map seen done) ≡ all_in read (elements_of all)
  all-found done [] none so = ap Some (sym (append-nil (map seen done))) ∙ so.whole
  all-found done (t ∷ ts) none so = absurd (omega arith)

-- ---- the texts that are read

pub record ReadSoFar (all : List code_part.Part) (done : List code_edit.Edit) (left : List code_part.Part) : Type 0 where
  pub before : List Part
  pub whole : parts_seen all ≡ before ++ parts_seen left
  pub read : AreReadAs before (map edit_of done)

read-one : (parts : List Part) (edits : List Edit) (part : Part) (edit : Edit) → AreReadAs parts edits
    → IsReadAs part edit → AreReadAs (parts ++ part ∷ []) (edits ++ edit ∷ [])
read-one [] [] part edit read is = (is, tt)
read-one [] (e ∷ es) part edit read is = absurd read
read-one (p ∷ ps) [] part edit read is = absurd read
read-one (p ∷ ps) (e ∷ es) part edit read is = (read.0, read-one ps es part edit read.1 is)

-- one more part is an edit
pub one-read : (all : List code_part.Part) (done : List code_edit.Edit) (p : code_part.Part)
    (left : List code_part.Part) (e : code_edit.Edit) → IsReadAs (part_seen p) (edit_of e)
    → ReadSoFar all done (p ∷ left) → (new : List code_edit.Edit) → new ≡ done ++ e ∷ [] → ReadSoFar all new left
one-read all done p left e is so new more = record {
  before = so.before ++ part_seen p ∷ [];
  whole = so.whole ∙ sym (append_assoc so.before (part_seen p ∷ []) (parts_seen left));
  read = subst (AreReadAs (so.before ++ part_seen p ∷ []))
      (sym (ap (map edit_of) more ∙ map-append edit_of done (e ∷ [])))
      (read-one so.before (map edit_of done) (part_seen p) (edit_of e) so.read is);
}

-- the next text is refused
pub text-not-read : (all : List code_part.Part) (done : List code_edit.Edit) (p : code_part.Part)
    (left : List code_part.Part) (fault : ReadFault) → RefusesPart (part_seen p) fault
    → ReadSoFar all done (p ∷ left) → IsFirstRefused (parts_seen all) fault
text-not-read all done p left fault refuses so = record {
  before = so.before;
  edits = map edit_of done;
  part = part_seen p;
  further = parts_seen left;
  is = so.whole;
  read = so.read;
  refuses = refuses;
}

-- no part is left
pub all-read : (all : List code_part.Part) (done : List code_edit.Edit) (left : List code_part.Part) → length left ≡ 0
    → ReadSoFar all done left → AreReadAs (parts_seen all) (map edit_of done)
all-read all done [] none so = subst (λ ps. AreReadAs ps (map edit_of done)) (sym (so.whole ∙ append-nil so.before)) so.read
all-read all done (p ∷ ps) none so = absurd (omega arith)
