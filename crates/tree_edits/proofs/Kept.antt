-- Parts of a tree that may be kept may be kept.
use Rattle.std.proofs.Common.{◌≡◌, ℕ, suc, ◌≤◌, true, List, [], ◌∷◌, Ok, subst, arith}
use Rattle.tree_edits.proofs.Prelude.{Tree, at, at_from, at_step-Ok, byte_len, child, child-distinct, child-within, depth, distinct}
use Rattle.tree_edits.proofs.Prelude.{style_text}

-- u is no larger than t, and its keys differ if those of t do
pub record IsPart (t u : Tree) : Type 0 where
  pub bytes : byte_len (style_text u) ≤ byte_len (style_text t)
  pub levels : depth u ≤ depth t
  pub keys : distinct t ≡ true → distinct u ≡ true

IsPart-same : (t u : Tree) → t ≡ u → IsPart t u
IsPart-same t u is = subst (IsPart t) is (record { bytes = omega arith; levels = omega arith; keys = λ d. d })

-- what a path leads to
at_from-IsPart : (path : List (List ℕ)) (step : ℕ) (t u : Tree) → at_from step t path ≡ Ok u → IsPart t u
at_from-IsPart [] step t u is = IsPart-same t u cc
at_from-IsPart (token ∷ path) step t u is =
    let below = at_step-Ok step (child t token) (λ w. at_from (suc step) w path) u is in
    let inside = at_from-IsPart path (suc step) below.0 u below.2 in
    let here = child-within t below.0 token below.1 in
    record {
      bytes = omega (arith, inside.bytes, here.0);
      levels = omega (arith, inside.levels, here.1);
      keys = λ d. inside.keys (child-distinct t below.0 token d below.1);
    }

pub at-IsPart : (path : List (List ℕ)) (t u : Tree) → at t path ≡ Ok u → IsPart t u
at-IsPart path t u is = at_from-IsPart path 1 t u is
