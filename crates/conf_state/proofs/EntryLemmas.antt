-- What the map's calls do to a state's configurations.
use Rattle.std.proofs.Common.{◌≡◌, ℕ, Bool, true, false, cond, if◌then◌else◌, List, [], ◌∷◌, String, Global, Option, Some, option_map}
use Rattle.std.{proofs.Common.{string_bytes, bytes_eq, IsUtf8, IsAscii, encode_utf8_all, refl, sym, ap, ◌∙◌}, specs.Bool.Decides}
use Rattle.conf_state.proofs.Prelude.{same_from_decides, bytes_eq-Decides, encodes-chars, IsUtf8-string_bytes, lookup, set_value, chars}
use Rattle.conf_state.{proofs.Prelude.{same_text, tree_of, same_text-Decides}, specs.Configs.{is_name, put_under, cut_from}}
use Rattle.conf_state.specs.{Kept.{entries_of, ArePlain}, States.{Entry, config_named, put_config, cut_config}}
use Rattle.yaml_data.specs.declared.tree.Tree.{Tree}
use Rattle.yaml_grammar.specs.Trees as grammar

-- texts that differ differ in a character
same_chars : (q k : List ℕ) → IsUtf8 q → IsUtf8 k → Decides (same_text (chars q) (chars k)) (q ≡ k)
same_chars q k utf8 other =
    let same = same_text-Decides (chars q) (chars k) in (
      λ e. sym (encodes-chars q utf8) ∙ ap encode_utf8_all (same.0 e) ∙ encodes-chars k other,
      λ e. same.1 (ap chars e),
    )

-- a test of bytes is one of characters
pub same_key : (q k : List ℕ) → IsUtf8 q → IsUtf8 k → bytes_eq q k ≡ same_text (chars q) (chars k)
same_key q k utf8 other = same_from_decides _ _ (bytes_eq-Decides q k) (same_chars q k utf8 other)

module _ (q : List ℕ) (utf8 : IsUtf8 q) where
  -- a lookup in the map finds the configuration of the name
  pub lookup-named : (es : List (String Global × Tree)) → ArePlain es
      → option_map tree_of (lookup (is_name q) es) ≡ config_named (entries_of es) (chars q)
  lookup-named [] plain = refl
  lookup-named (e ∷ es) plain =
      by (bytes_eq q (string_bytes e.0)) _ _ (lookup-named es plain.1)
      ∙ ap (λ b. if b then Some (tree_of e.1) else config_named (entries_of es) (chars q))
      (same_key q (string_bytes e.0) utf8 (IsUtf8-string_bytes e.0))
    where
      by : (b : Bool) (found : Option Tree) (named : Option grammar.Tree) → option_map tree_of found ≡ named
          → option_map tree_of (cond b (Some e.1) found) ≡ (if b then Some (tree_of e.1) else named)
      by true found named same = refl
      by false found named same = same

  -- taking a name out of the map takes its configuration out
  pub cut_from-named : (es : List (String Global × Tree)) → ArePlain es
      → entries_of (cut_from q es) ≡ cut_config (entries_of es) (chars q)
  cut_from-named [] plain = refl
  cut_from-named (e ∷ es) plain =
      by (bytes_eq q (string_bytes e.0)) _ _ (cut_from-named es plain.1)
      ∙ ap (λ b. if b then entries_of es else (chars (string_bytes e.0), tree_of e.1) ∷ cut_config (entries_of es)
      (chars q)) (same_key q (string_bytes e.0) utf8 (IsUtf8-string_bytes e.0))
    where
      by : (b : Bool) (rest : List (String Global × Tree)) (cut : List Entry) → entries_of rest ≡ cut
          → entries_of (cond b es (e ∷ rest)) ≡ (if b then entries_of es else (chars (string_bytes e.0), tree_of e.1) ∷ cut)
      by true rest others same = refl
      by false rest others same = ap (λ xs. (chars (string_bytes e.0), tree_of e.1) ∷ xs) same

  -- a configuration changed in its place is put under its name
  pub set_value-named : (es : List (String Global × Tree)) (old t : Tree) → ArePlain es → lookup (is_name q) es ≡ Some old
      → entries_of (set_value (is_name q) es t) ≡ put_config (entries_of es) (chars q) (tree_of t)
  set_value-named [] old t plain is = cc
  set_value-named (e ∷ es) old t plain is =
      by (bytes_eq q (string_bytes e.0)) refl is (set_value-named es old t plain.1)
      ∙ ap (λ b. if b then (chars (string_bytes e.0), tree_of t) ∷ entries_of es
      else (chars (string_bytes e.0), tree_of e.1) ∷ put_config (entries_of es) (chars q) (tree_of t))
      (same_key q (string_bytes e.0) utf8 (IsUtf8-string_bytes e.0))
    where
      by : (b : Bool) → bytes_eq q (string_bytes e.0) ≡ b → cond b (Some e.1) (lookup (is_name q) es) ≡ Some old
          → (lookup (is_name q) es ≡ Some old → entries_of (set_value (is_name q) es t) ≡ put_config (entries_of es) (chars q) (tree_of t))
          → entries_of (cond b ((e.0, t) ∷ es) (e ∷ set_value (is_name q) es t))
          ≡ (if b then (chars (string_bytes e.0), tree_of t) ∷ entries_of es
          else (chars (string_bytes e.0), tree_of e.1) ∷ put_config (entries_of es) (chars q) (tree_of t))
      by true named is rest = refl
      by false named is rest = ap (λ xs. (chars (string_bytes e.0), tree_of e.1) ∷ xs) (rest is)

module _ (name : String Global) (utf8 : IsUtf8 (string_bytes name)) (t : Tree) where
  -- an insertion into the map puts the tree under the name
  pub put_under-named : (es : List (String Global × Tree)) → ArePlain es
      → entries_of (put_under name t es) ≡ put_config (entries_of es) (chars (string_bytes name)) (tree_of t)
  put_under-named [] plain = refl
  put_under-named (e ∷ es) plain =
      by (bytes_eq (string_bytes name) (string_bytes e.0)) _ _ (put_under-named es plain.1)
      ∙ ap (λ b. if b then (chars (string_bytes e.0), tree_of t) ∷ entries_of es
      else (chars (string_bytes e.0), tree_of e.1) ∷ put_config (entries_of es) (chars (string_bytes name)) (tree_of t))
      (same_key (string_bytes name) (string_bytes e.0) utf8 (IsUtf8-string_bytes e.0))
    where
      by : (b : Bool) (rest : List (String Global × Tree)) (put : List Entry) → entries_of rest ≡ put
          → entries_of (cond b ((e.0, t) ∷ es) (e ∷ rest))
          ≡ (if b then (chars (string_bytes e.0), tree_of t) ∷ entries_of es else (chars (string_bytes e.0), tree_of e.1) ∷ put)
      by true rest others same = refl
      by false rest others same = ap (λ xs. (chars (string_bytes e.0), tree_of e.1) ∷ xs) same

-- putting the tree that is there under its name changes nothing
pub put_config-same : (es : List Entry) (name : List ℕ) (t : grammar.Tree) → config_named es name ≡ Some t → put_config es name t ≡ es
put_config-same [] name t is = cc
put_config-same (e ∷ es) name t is = by (same_text name e.0) is (put_config-same es name t)
  where
    by : (b : Bool) → (if b then Some e.1 else config_named es name) ≡ Some t → (config_named es name ≡ Some t → put_config es name t ≡ es)
        → (if b then (e.0, t) ∷ es else e ∷ put_config es name t) ≡ e ∷ es
    by true found rest = let same : e.1 ≡ t = cc in ap (λ x. (e.0, x) ∷ es) (sym same)
    by false found rest = ap (λ xs. e ∷ xs) (rest found)

-- ---- names stay ASCII

-- a name that is taken out leaves the others ASCII
pub plain_cut_from : (q : List ℕ) (es : List (String Global × Tree)) → ArePlain es → ArePlain (cut_from q es)
plain_cut_from q [] plain = tt
plain_cut_from q (e ∷ es) plain = by (bytes_eq q (string_bytes e.0)) _ (plain_cut_from q es plain.1)
  where
    by : (b : Bool) (rest : List (String Global × Tree)) → ArePlain rest → ArePlain (cond b es (e ∷ rest))
    by true rest others = plain.1
    by false rest others = (plain.0, others)

-- a configuration changed in its place leaves the names ASCII
pub plain_set_value : (q : List ℕ) (t : Tree) (es : List (String Global × Tree)) → ArePlain es → ArePlain (set_value (is_name q) es t)
plain_set_value q t [] plain = tt
plain_set_value q t (e ∷ es) plain = by (bytes_eq q (string_bytes e.0)) _ (plain_set_value q t es plain.1)
  where
    by : (b : Bool) (rest : List (String Global × Tree)) → ArePlain rest → ArePlain (cond b ((e.0, t) ∷ es) (e ∷ rest))
    by true rest others = plain
    by false rest others = (plain.0, others)

-- an ASCII name that is put in leaves all of them ASCII
pub plain_put_under : (name : String Global) (t : Tree) (es : List (String Global × Tree))
    → IsAscii (string_bytes name) → ArePlain es → ArePlain (put_under name t es)
plain_put_under name t [] ascii plain = (ascii, tt)
plain_put_under name t (e ∷ es) ascii plain =
    by (bytes_eq (string_bytes name) (string_bytes e.0)) _ (plain_put_under name t es ascii plain.1)
  where
    by : (b : Bool) (rest : List (String Global × Tree)) → ArePlain rest → ArePlain (cond b ((e.0, t) ∷ es) (e ∷ rest))
    by true rest others = plain
    by false rest others = (plain.0, others)
