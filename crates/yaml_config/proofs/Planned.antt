-- What a plan of an edit knows of its tokens: all but the last one lead to the node that the edit changes.
use Rattle.std.proofs.Common.{◌≡◌, ℕ, ◌+◌, ◌*◌, ◌≤◌, List, [], ◌∷◌, ◌++◌, length, Global, sym, ap, subst, ◌∙◌, arith}
use Rattle.std.{proofs.lemmas.List.length-map, specs.declared.borrow.CowStr.CowStr}
use Rattle.yaml_config.proofs.Prelude.{cow_str_bytes, IsLastAndRest, chars, style_text, byte_len, Tree, depth, texts, texts-append}
use Rattle.yaml_config.{proofs.Located.Located-within, specs.{Kept.{IsKept, own_limits}, Changes.{Changes, Located, shifted_change}}}
use Rattle.yaml_config.specs.declared.change.{Change.Change, Slot.{Slot, TheVariants.Value}}

-- the tokens split into the last one and those before it, as texts
pub record IsSplit (tokens : List (CowStr Global)) (last : CowStr Global) (parents : List (CowStr Global)) : Type 0 where
  pub path : texts tokens ≡ texts parents ++ chars (cow_str_bytes last) ∷ []
  pub before : length (texts parents) ≡ length parents
  pub count : length tokens ≡ length (texts parents) + 1

pub split : (tokens : List (CowStr Global)) (last : CowStr Global) (parents : List (CowStr Global))
    → IsLastAndRest tokens last parents → IsSplit tokens last parents
split tokens last parents is =
    let same : length (texts parents) ≡ length parents = length-map parents (λ (x : CowStr Global). chars (cow_str_bytes x)) in
    record {
      path = ap texts is.0 ∙ texts-append parents (last ∷ []);
      before = same;
      count = omega (arith, same, is.1);
    }

-- the node to which tokens lead is as small as a configuration
pub node-small : (tokens : List (List ℕ)) (slot : Slot) (t u : Tree) → Located tokens Value t slot u → IsKept t
    → (depth u ≤ own_limits.depth) × (byte_len (style_text u) ≤ own_limits.style)
node-small tokens slot t u low kept =
    let inside = Located-within tokens Value slot t u low in
    (omega (arith, inside.1, kept.deep), omega (arith, inside.0, kept.long))

-- the change that is made as far in as the tokens lead
pub changes-shifted : (parents : List (CowStr Global)) (change shifted : Change) (t w : Tree) → length (texts parents) ≡ length parents
    → shifted ≡ shifted_change (2 * length parents) change → Changes (shifted_change (2 * length (texts parents)) change) t w
    → Changes shifted t w
changes-shifted parents change shifted t w before is whole =
    subst (λ ch. Changes ch t w) (sym (is ∙ ap (λ k. shifted_change (2 * k) change) (sym before))) whole
