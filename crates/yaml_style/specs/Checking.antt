-- What the findings of bytes are.
use Rattle.std.specs.Prelude.{◌≡◌, ℕ, List}
use Rattle.yaml_style.specs.{Prelude.{chars, config_limits, IsRead}, declared.finding.Finding.Finding, Findings.findings}
use Rattle.yaml_grammar.specs.{Style.style_text, Trees.Tree}

-- the bytes give a tree, and these are the findings of their text
pub record IsChecked (bytes : List ℕ) (all : List Finding) : Type 0 where
  pub tree : Tree
  pub reads : IsRead bytes config_limits tree
  pub found : all ≡ findings (chars bytes) (style_text tree)
