-- A part of lines that is read, as a part of others.
use Rattle.std.proofs.Common.{◌≡◌, ℕ, ◌+◌, ◌≤◌, true, false, List, ◌++◌, codes, refl, zero-add}
use Rattle.yaml_styled.proofs.Prelude.{spaces, Tree, text, sequence, mapping, no_element, element, no_member, member, lines_after_dash}
use Rattle.yaml_styled.proofs.{Prelude.{value_at, indented, value_indented, indented_scalar_lines, is_filled}, SoundLemmas.looser}
use Rattle.yaml_styled.{proofs.TakingLemmas.took_as, specs.{Taking.{Took, took_both}, Parts.{lines_of, IsRead}}}

module _ {Is Are : Tree → Type 0} {written lines : Tree → List ℕ} {counts indents : Tree → ℕ} {most more : ℕ}
    {a b : List ℕ} {k l : ℕ} where
  -- the same lines, read as something else
  pub read_as : most ≤ more → ((t : Tree) → Is t → Are t)
      → ((t : Tree) → Is t → written t ≡ lines t) → ((t : Tree) → Is t → counts t ≡ indents t)
      → IsRead Is written counts most a k b l → IsRead Are lines indents more a k b l
  read_as within others same equal read = record {
    tree = read.tree;
    is = others read.tree read.is;
    took = took_as (same read.tree read.is) (equal read.tree read.is) read.took;
    sound = looser within read.sound;
  }

-- after a `- `, the lines of a tree are indented by two more
pub after_dash : (t : Tree) (i : ℕ) → lines_of t (i + 2) ≡ lines_after_dash t i
after_dash (text value) i = refl
after_dash (sequence ts) i = refl
after_dash (mapping ms) i = refl

-- a value beside its key
pub beside_key : (t : Tree) (i : ℕ) → is_filled t ≡ false → codes " " ++ lines_of t (i + 2) ≡ value_at t i
beside_key (text value) i e = refl
beside_key (sequence no_element) i e = refl
beside_key (sequence (element t ts)) i e = cc
beside_key (mapping no_member) i e = refl
beside_key (mapping (member key t ms)) i e = cc

pub beside_key_lines : (t : Tree) → is_filled t ≡ false → 0 + indented t ≡ value_indented t
beside_key_lines (text value) e = zero-add (indented_scalar_lines value)
beside_key_lines (sequence no_element) e = refl
beside_key_lines (sequence (element t ts)) e = cc
beside_key_lines (mapping no_member) e = refl
beside_key_lines (mapping (member key t ms)) e = cc

-- a value below its key
pub below_key : (t : Tree) (i : ℕ) → is_filled t ≡ true → codes "\n" ++ spaces (i + 2) ++ lines_of t (i + 2) ≡ value_at t i
below_key (text value) i e = cc
below_key (sequence no_element) i e = cc
below_key (sequence (element t ts)) i e = refl
below_key (mapping no_member) i e = cc
below_key (mapping (member key t ms)) i e = refl

pub below_key_lines : (t : Tree) → is_filled t ≡ true → 1 + indented t ≡ value_indented t
below_key_lines (text value) e = cc
below_key_lines (sequence no_element) e = cc
below_key_lines (sequence (element t ts)) e = refl
below_key_lines (mapping no_member) e = cc
below_key_lines (mapping (member key t ms)) e = refl

module _ {Is : Tree → Type 0} {i most : ℕ} where
  -- a value beside its key is read
  pub value_beside : {a b c : List ℕ} {k l m : ℕ} → Took a k (codes " ") 0 b l
      → IsRead (λ t. Is t × (is_filled t ≡ false)) (λ t. lines_of t (i + 2)) indented most b l c m
      → IsRead (λ t. Is t × (is_filled t ≡ false)) (λ t. value_at t i) value_indented most a k c m
  value_beside space read = record {
    tree = read.tree;
    is = read.is;
    took = took_as (beside_key read.tree i read.is.1) (beside_key_lines read.tree read.is.1) (took_both space read.took);
    sound = read.sound;
  }

  -- a value below its key is read
  pub value_below : {a b c d : List ℕ} {k l m n : ℕ} → Took a k (codes "\n") 0 b l → Took b l (spaces (i + 2)) 1 c m
      → IsRead (λ t. Is t × (is_filled t ≡ true)) (λ t. lines_of t (i + 2)) indented most c m d n
      → IsRead (λ t. Is t × (is_filled t ≡ true)) (λ t. value_at t i) value_indented most a k d n
  value_below feed lead read = record {
    tree = read.tree;
    is = read.is;
    took = took_as (below_key read.tree i read.is.1) (below_key_lines read.tree read.is.1)
        (took_both (took_both feed lead) read.took);
    sound = read.sound;
  }
