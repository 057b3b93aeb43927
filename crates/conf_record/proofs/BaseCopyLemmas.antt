-- A configuration that is built from its lines is the one of the base.
use Rattle.std.proofs.Common.{◌≡◌, Bool, true, false, if◌then◌else◌, List, [], ◌∷◌, ◌++◌, codes, decimal, Some, is_some, encode_utf8_all}
use Rattle.std.proofs.Common.{append-nil, length, ◌≤◌, ℕ, refl, sym, ap, subst, ◌∙◌, arith}
use Rattle.conf_record.proofs.Prelude.{encodes-append, Good, same_text, Tree, members_after, Size, config_limits, same_text-true, members}
use Rattle.conf_record.proofs.Prelude.{base_bytes, entry_lines, IsState, Entry, Contents, config_named, put_config, named-put-same}
use Rattle.conf_record.{proofs.{BaseSpanLemmas.bytes_length, EntryLemmas.{within, whole_base}}, specs.BaseSpans.{entry_bytes, IsBuilt}}
use Rattle.{conf_record.specs.{Entries.IsEntry, Documents.{IsBase, BasesAreRead, OneBase}}, conf_state.proofs.EditLemmas.found-good}
use Rattle.conf_record.specs.{Formats.format_start, declared.format.Format.TheVariants.Second}
use Rattle.conf_state.proofs.LimitLemmas.{AreConfigs-put, names_differ-put}

-- configurations one of which is replaced by one with the same lines
same_lines : (es : List Entry) (name : List ℕ) (t u : Tree) → config_named es name ≡ Some t → entry_bytes name t ≡ entry_bytes name u
    → encode_utf8_all (members_after (members (put_config es name u)) 2) ≡ encode_utf8_all (members_after (members es) 2)
same_lines [] name t u found same = cc
same_lines (e ∷ es) name t u found same = by (same_text name e.0) refl found (same_lines es name t u)
  where
    one_more : (k : List ℕ) (v : Tree) (xs : List Entry)
        → encode_utf8_all (members_after (members ((k, v) ∷ xs)) 2) ≡ entry_bytes k v ++ encode_utf8_all (members_after (members xs) 2)
    one_more k v xs = encodes-append (entry_lines k v) (members_after (members xs) 2)

    by : (b : Bool) → same_text name e.0 ≡ b → (if b then Some e.1 else config_named es name) ≡ Some t
        → (config_named es name ≡ Some t → entry_bytes name t ≡ entry_bytes name u
        → encode_utf8_all (members_after (members (put_config es name u)) 2) ≡ encode_utf8_all (members_after (members es) 2))
        → encode_utf8_all (members_after (members (if b then (e.0, u) ∷ es else e ∷ put_config es name u)) 2)
        ≡ encode_utf8_all (members_after (members (e ∷ es)) 2)
    by true here is rest =
        let is_it : e.1 ≡ t = cc is in
        let k = same_text-true name e.0 here in
        one_more e.0 u es
        ∙ ap (λ bs. bs ++ encode_utf8_all (members_after (members es) 2))
        (ap (λ n. entry_bytes n u) (sym k) ∙ sym same ∙ ap (λ n. entry_bytes n t) k ∙ ap (entry_bytes e.0) (sym is_it))
        ∙ sym (one_more e.0 e.1 es)
    by false here is rest =
        one_more e.0 e.1 (put_config es name u) ∙ ap (λ bs. entry_bytes e.0 e.1 ++ bs) (rest is same) ∙ sym (one_more e.0 e.1 es)

none_there : (es : List Entry) (name : List ℕ) (t : Tree) → config_named es name ≡ Some t → es ≡ [] → ⊥
none_there [] name t found none = cc
none_there (e ∷ es) name t found none = cc

none_put : (es : List Entry) (name : List ℕ) (t : Tree) → put_config es name t ≡ [] → ⊥
none_put [] name t none = cc
none_put (e ∷ es) name t none = by (same_text name e.0) none
  where
    by : (b : Bool) → (if b then (e.0, t) ∷ es else e ∷ put_config es name t) ≡ [] → ⊥
    by true none = cc
    by false none = cc

-- a good configuration that has the lines of the one under its name is that one
pub built_is : BasesAreRead → OneBase → (s : Contents) (name : List ℕ) (t u : Tree) → IsState s → config_named s.configs name ≡ Some t
    → Good u config_limits → entry_bytes name t ≡ entry_bytes name u → config_named s.configs name ≡ Some u
built_is read one s name t u kept found good same =
    let es = s.configs in
    let new = put_config es name u in
    let other : Contents = record { configs = new; count = s.count } in
    let end = codes "...\n" in
    let lines = encode_utf8_all (members_after (members es) 2) ++ end in
    let text = format_start Second
    ++ (codes "at: \"" ++ (encode_utf8_all (decimal s.count) ++ (codes "\"\nconfigs:\n" ++ lines))) in
    let whole : text ≡ base_bytes s = whole_base Second text lines es s.count (none_there es name t found) kept.numbered refl refl in
    let swapped : text ≡ base_bytes other = whole_base Second text lines new s.count (none_put es name u) kept.numbered refl
    (ap (λ bs. bs ++ end) (sym (same_lines es name t u found same))) in
    let bytes : base_bytes other ≡ base_bytes s = sym swapped ∙ whole in
    let size = bytes_length Second other ∙ ap (λ bs. length bs) bytes ∙ sym (bytes_length Second s) in
    let short = kept.short in
    let keeps : IsState other = record {
      configs = AreConfigs-put es name u (found-good es name kept.configs (ap is_some found)) good kept.configs;
      distinct = names_differ-put es name u kept.distinct;
      short = omega (arith, size, short);
      numbered = kept.numbered;
    } in
    let is : other ≡ s = one (base_bytes s) s other (read Second s kept) (subst (λ bs. IsBase bs other) bytes (read Second other keeps)) in
    ap (λ c. config_named c.configs name) (sym is) ∙ named-put-same es name u

-- what is read of lines, to their end, is built
pub built_from : (at lines key rest name : List ℕ) (t : Tree) (size : Size) → lines ≡ at → IsEntry lines key t size rest → rest ≡ []
    → key ≡ name → size.bytes ≤ 4194304 → IsBuilt at name t
built_from at lines key rest name t size there read none named small =
    record {
      written = sym there ∙ read.written ∙ ap (λ r. entry_bytes key t ++ r) none ∙ append-nil (entry_bytes key t)
          ∙ ap (λ n. entry_bytes n t) named;
      within = within t size read.size_is read.sound small;
    }
