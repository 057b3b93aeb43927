-- Files of configurations, one after the other.
use Rattle.std.proofs.Common.{◌++◌, codes, ap, sym, ◌∙◌, ◌≡◌, ℕ, List, [], ◌∷◌, Option, Result, Ok, Err, refl, subst}
use Rattle.std.{proofs.lemmas.Str.encodes-chars, specs.Prelude.encode_utf8_all}
use Rattle.conf_tools.specs.{Prelude.{Entry, IsUtf8, TreeForm, chars, config_named}, ConfigFiles.{PutsAll, PutsConfig, file_ending}}
use Rattle.conf_tools.specs.{ConfigFiles.file_path, Worlds.WorldModel, declared.texts.ToolFault.ToolFault}

-- the path of a file, part by part
pub path-made : (form : TreeForm) (into name copy first second third ending : List ℕ) → IsUtf8 name → copy ≡ into
    → first ≡ copy ++ codes "/" → second ≡ first ++ name → third ≡ second ++ ending → ending ≡ file_ending form
    → third ≡ file_path form into (chars name)
path-made form into name copy first second third ending utf8 same one two three ends =
    three ∙ ap (λ e. second ++ e) ends
    ∙ ap (λ b. b ++ file_ending form) (two ∙ ap (λ n. first ++ n) (sym (encodes-chars name utf8))
    ∙ ap (λ b. b ++ encode_utf8_all (chars name)) (one ∙ ap (λ b. b ++ codes "/") same))

module _ {W D F P : Type 0} (world : WorldModel W D F P) (remaining : F → Option (List ℕ)) (form : TreeForm) (into : List ℕ)
    (configs : List Entry) where
  -- whatever the names that are left lead to, is what all names lead to
  pub record LeadsPut (rest : List (List ℕ)) (now : W) (all : List (List ℕ)) (old : W) : Type 0 where
    pub leads : (new : W) (result : Result (Unit {0}) ToolFault)
        → PutsAll world remaining form into configs rest now result new
        → PutsAll world remaining form into configs all old result new

  pub one-put : (name : List ℕ) (left rest all : List (List ℕ)) → left ≡ name ∷ rest → (now next old : W) → LeadsPut left now all old
      → PutsConfig world remaining form into name (config_named configs name) now (Ok tt) next → LeadsPut rest next all old
  one-put name left rest all split now next old leads puts = record {
    leads = λ new result others.
        (subst (λ names. LeadsPut names now all old) split leads).leads new result (next, Ok tt, puts, others);
  }

  pub put-failed : (name : List ℕ) (left rest all : List (List ℕ)) → left ≡ name ∷ rest → (now next old : W)
      → LeadsPut left now all old → (fault : ToolFault)
      → PutsConfig world remaining form into name (config_named configs name) now (Err fault) next
      → PutsAll world remaining form into configs all old (Err fault) next
  put-failed name left rest all split now next old leads fault puts =
      (subst (λ names. LeadsPut names now all old) split leads).leads next (Err fault) (next, Err fault, puts, (refl, refl))

  pub all-put : (left all : List (List ℕ)) → left ≡ [] → (now old : W) → LeadsPut left now all old
      → PutsAll world remaining form into configs all old (Ok tt) now
  all-put left all none now old leads = (subst (λ names. LeadsPut names now all old) none leads).leads now (Ok tt) (refl, refl)
