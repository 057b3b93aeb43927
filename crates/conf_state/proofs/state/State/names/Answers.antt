use Rattle.std.proofs.Common.{List, [], ◌∷◌, String, Global, string_bytes, ◌≡◌, refl, ap, ◌∙◌}
use Rattle.conf_state.{proofs.Prelude.chars, specs.{States.names_of, Kept.{names_from, entries_of}}}
use Rattle.yaml_data.specs.declared.tree.Tree.{Tree}
use Rattle.conf_state.proofs.state.State.names.Goals as goal

same_names : (es : List (String Global × Tree)) → names_from es ≡ names_of (entries_of es)
same_names [] = refl
same_names (e ∷ es) = ap (λ names. chars (string_bytes e.0) ∷ names) (same_names es)

pub returns : goal.returns
returns c =
    ap names_from c.iter.ensures ∙ same_names c.self.inside.configs ∙ ap (λ s. names_of s.configs) c.self.view_is
