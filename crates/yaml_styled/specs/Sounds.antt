-- What holds of a tree that is read: all is text, no key comes twice, and it is not too deep.
use Rattle.std.specs.Prelude.{◌≡◌, ℕ, ◌≤◌, true}
use Rattle.yaml_styled.specs.Prelude.{Tree, Elements, Members, IsTextTree, AreTextElements, AreTextMembers, depth, elements_depth}
use Rattle.yaml_styled.specs.Prelude.{members_depth, distinct, elements_distinct, values_distinct}

-- of a tree
pub record Sound (t : Tree) (most : ℕ) : Type 0 where
  pub texts : IsTextTree t
  pub keys : distinct t ≡ true
  pub shallow : depth t ≤ most

-- of the elements of a sequence
pub record SoundElements (ts : Elements) (most : ℕ) : Type 0 where
  pub texts : AreTextElements ts
  pub keys : elements_distinct ts ≡ true
  pub shallow : elements_depth ts ≤ most

-- of the values of a mapping, whose own keys may be the same
pub record SoundMembers (ms : Members) (most : ℕ) : Type 0 where
  pub texts : AreTextMembers ms
  pub keys : values_distinct ms ≡ true
  pub shallow : members_depth ms ≤ most
