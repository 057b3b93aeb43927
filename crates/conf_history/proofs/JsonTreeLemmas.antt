-- The lines of JSON in a log are JSON texts of trees.
use Rattle.std.proofs.Common.{◌≡◌, ℕ, List, [], ◌∷◌, ◌++◌, codes, decimal, Option, Some, None, refl, ap, ◌∙◌, append_assoc, append-nil}
use Rattle.yaml_grammar.specs.Trees.{Tree, sequence, Members, no_member, member}
use Rattle.yaml_forms.specs.Json.{json_text, json_string, more_elements, json_elements, more_members}
use Rattle.conf_history.specs.Prelude.{Edit, import_as, set_at, delete_at, Command, single, batch, noted, text_under}
use Rattle.conf_history.specs.{AboutKeys.usual_keys, JsonLogs.{edit_json, edits_json, edits_in, text_json, texts_json, note_json}}
use Rattle.conf_history.specs.JsonTrees.{LinesAreJson, edit_tree, edit_trees, behind_text, behind_texts, behind_note}

-- ---- texts that are joined

two-parts : (n key t end : List ℕ) → n ++ key ++ t ++ end ≡ (n ++ (key ++ (t ++ []))) ++ end
two-parts n key t end = simp (append_assoc, append-nil)

three-parts : (n key t more u end : List ℕ) → n ++ key ++ t ++ more ++ u ++ end ≡ (n ++ (key ++ (t ++ (more ++ (u ++ []))))) ++ end
three-parts n key t more u end = simp (append_assoc, append-nil)

whole-parts : (n note key edits : List ℕ)
    → n ++ note ++ key ++ edits ++ codes "]}" ≡ (n ++ (note ++ (key ++ ((edits ++ codes "]") ++ [])))) ++ codes "}"
whole-parts n note key edits = simp (append_assoc, append-nil)

-- ---- edits

edit-is : (edit : Edit) → edit_json edit ≡ json_text (edit_tree edit)
edit-is (import_as name tree) =
    ap (λ cs. codes "{\"import\":" ++ cs) (two-parts (json_string name) (codes ",\"tree\":") (json_text tree) (codes "}"))
edit-is (set_at name path value) =
    ap (λ cs. codes "{\"set\":" ++ cs)
    (three-parts (json_string name) (codes ",\"path\":") (json_string path) (codes ",\"value\":") (json_text value) (codes "}"))
edit-is (delete_at name path) =
    ap (λ cs. codes "{\"delete\":" ++ cs) (two-parts (json_string name) (codes ",\"path\":") (json_string path) (codes "}"))

-- further edits, each after a comma
edits-more : (edits : List Edit) → edits_json (codes ",") edits ≡ more_elements (edit_trees edits)
edits-more [] = refl
edits-more (edit ∷ edits) =
    ap (λ cs. codes "," ++ cs ++ edits_json (codes ",") edits) (edit-is edit)
    ∙ ap (λ cs. codes "," ++ json_text (edit_tree edit) ++ cs) (edits-more edits)

edits-are : (edits : List Edit) → edits_json [] edits ≡ json_elements (edit_trees edits)
edits-are [] = refl
edits-are (edit ∷ edits) =
    ap (λ cs. cs ++ edits_json (codes ",") edits) (edit-is edit) ∙ ap (λ cs. json_text (edit_tree edit) ++ cs) (edits-more edits)

text-is : (key : List ℕ) (found : Option (List ℕ)) (ms : Members)
    → text_json key found ++ more_members ms ≡ more_members (behind_text key found ms)
text-is key None ms = refl
text-is key (Some content) ms = refl

texts-are : (keys : List (List ℕ)) (about : Tree) (ms : Members)
    → texts_json keys about ++ more_members ms ≡ more_members (behind_texts keys about ms)
texts-are [] about ms = refl
texts-are (key ∷ keys) about ms =
    let first = text_json key (text_under about key) in
    append_assoc first (texts_json keys about) (more_members ms)
    ∙ ap (λ cs. first ++ cs) (texts-are keys about ms) ∙ text-is key (text_under about key) (behind_texts keys about ms)

note-is : (command : Command) (ms : Members) → note_json command ++ more_members ms ≡ more_members (behind_note command ms)
note-is (single edit) ms = refl
note-is (batch edits) ms = refl
note-is (noted command about) ms =
    append_assoc (texts_json usual_keys about ++ codes ",\"about\":") (json_text about) (more_members ms)
    ∙ append_assoc (texts_json usual_keys about) (codes ",\"about\":") (json_text about ++ more_members ms)
    ∙ texts-are usual_keys about (member (codes "about") about ms)

pub lines-are-json : LinesAreJson
lines-are-json number command =
    let digits = json_string (decimal number) in
    let note = note_json command in
    let key = codes ",\"edits\":[" in
    let edits = edits_json [] (edits_in command) in
    let trees = edit_trees (edits_in command) in
    ap (λ cs. codes "{\"at\":" ++ cs ++ codes "\n") (whole-parts digits note key edits)
    ∙ ap (λ cs. codes "{\"at\":" ++ ((digits ++ (note ++ (key ++ ((cs ++ codes "]") ++ [])))) ++ codes "}") ++ codes "\n")
    (edits-are (edits_in command))
    ∙ ap (λ cs. codes "{\"at\":" ++ ((digits ++ cs) ++ codes "}") ++ codes "\n")
    (note-is command (member (codes "edits") (sequence trees) no_member))
