-- Lines of configurations make the base of a state.
use Rattle.std.proofs.Common.{◌≡◌, ℕ, ◌≤◌, List, [], ◌∷◌, ◌++◌, codes, decimal, length, String, Global, encode_utf8_all, append_assoc}
use Rattle.std.proofs.Common.{append-nil, true, nat_lt, refl, sym, ap, ap₂, subst, ◌∙◌, arith}
use Rattle.conf_record.proofs.Prelude.{decimal_is_IsNumeral, encodes-append, spaces, Tree, text, mapping, key_lines, value_at}
use Rattle.conf_record.proofs.Prelude.{members_after, element_size, Size, tree_of, GoesOn, goes_on_both, IsStyled, members, text_of}
use Rattle.conf_record.proofs.Prelude.{entries_of, Entry, Contents, count_limit, line, number_line, Good, list_all, config_limits}
use Rattle.conf_record.proofs.{FormatLemmas.{lines_in, bytes_in}, PieceLemmas.entries_of-one, SizeLemmas.element_least}
use Rattle.conf_record.{proofs.WrittenLemmas.{ascii_bytes, before, after}, specs.Formats.{format_start, base_in}}
use Rattle.conf_record.specs.{declared.format.Format.{Format, TheVariants.{Second, Third}}, Entries.{IsEntry, AreEntries}}
use Rattle.yaml_styled.specs.{Parts.IsTree, Sounds.Sound}
use Rattle.yaml_data.specs.declared.tree.Tree as code

-- a key after its spaces, and the value after it
pub entry_lines_of : (lines row value rest name : List ℕ) (t : Tree) → lines ≡ codes "  " ++ row
    → GoesOn row (key_lines 2 name) value → GoesOn value (value_at t 2) rest
    → GoesOn lines (spaces 2 ++ key_lines 2 name ++ value_at t 2) rest
entry_lines_of lines row value rest name t cut key read =
    let spaced = cut ∙ ap (λ bs. bs ++ row) (sym (ascii_bytes (codes "  ") refl)) in
    goes_on_both lines value rest (spaces 2 ++ key_lines 2 name) (value_at t 2)
    (goes_on_both lines row value (spaces 2) (key_lines 2 name) spaced key) read

-- what was read is a configuration, if it is no longer than one
pub within : (t : Tree) (size : Size) → size ≡ element_size t → Sound t 128 → size.bytes ≤ 4194304 → Good t config_limits
within t size is sound small =
    let bytes = ap (λ s. s.bytes) is in
    record { texts = sound.texts; keys = sound.keys; deep = sound.shallow; long = omega (arith, bytes, small, element_least t) }

-- the configuration of the code that was read so
pub entry_of : (lines row value rest name : List ℕ) (made : code.Tree) (size : Size) → lines ≡ codes "  " ++ row
    → GoesOn row (key_lines 2 name) value → IsStyled (λ t. IsTree made t) (λ t. value_at t 2) size value rest
    → IsEntry lines name (tree_of made) size rest
entry_of lines row value rest name made size cut key read =
    let same = sym read.is in
    let all = entry_lines_of lines row value rest name read.tree cut key read.goes_on in
    record {
      written = subst (λ t. GoesOn lines (spaces 2 ++ key_lines 2 name ++ value_at t 2) rest) same all;
      size_is = read.size_is ∙ ap element_size same;
      sound = subst (λ t. Sound t 128) same read.sound;
    }

-- one configuration more
members_after-more : (es : List Entry) (name : List ℕ) (t : Tree)
    → members_after (members es) 2 ++ (spaces 2 ++ key_lines 2 name ++ value_at t 2) ≡ members_after (members (es ++ (name, t) ∷ [])) 2
members_after-more [] name t = sym (append-nil _)
members_after-more (e ∷ es) name t =
    append_assoc (spaces 2 ++ key_lines 2 e.0 ++ value_at e.1 2) (members_after (members es) 2)
    (spaces 2 ++ key_lines 2 name ++ value_at t 2)
    ∙ ap (λ cs. (spaces 2 ++ key_lines 2 e.0 ++ value_at e.1 2) ++ cs) (members_after-more es name t)

-- configurations, and then one more
pub entries_and : (lines left rest : List ℕ) (es : List Entry) (name : List ℕ) (t : Tree) → AreEntries lines es left
    → GoesOn left (spaces 2 ++ key_lines 2 name ++ value_at t 2) rest → AreEntries lines (es ++ (name, t) ∷ []) rest
entries_and lines left rest es name t first second =
    subst (λ written. GoesOn lines written rest) (members_after-more es name t)
    (goes_on_both lines left rest (members_after (members es) 2) (spaces 2 ++ key_lines 2 name ++ value_at t 2) first second)

-- a configuration of the code, under its name
abbrev pub Part : Type 0
Part = String Global × code.Tree

-- the same of the code's
pub entries_pushed : (lines rest : List ℕ) (ps new : List Part) (p : Part) (name : List ℕ) (t : Tree) → new ≡ ps ++ p ∷ []
    → text_of p.0 ≡ name → tree_of p.1 ≡ t → AreEntries lines (entries_of ps ++ (name, t) ∷ []) rest
    → AreEntries lines (entries_of new) rest
entries_pushed lines rest ps new p name t pushed named is are =
    let same = ap entries_of pushed ∙ entries_of-one ps p ∙ ap₂ (λ n u. entries_of ps ++ (n, u) ∷ []) named is in
    subst (λ es. AreEntries lines es rest) (sym same) are

-- some parts are some configurations
pub some_entries : (ps : List Part) → (length ps ≡ 0 → ⊥) → entries_of ps ≡ [] → ⊥
some_entries [] some e = some refl
some_entries (p ∷ ps) some e = cc

-- ---- the whole

-- configurations as the value of their key
below_configs : (es : List Entry) → (es ≡ [] → ⊥) → codes "\n" ++ members_after (members es) 2 ≡ value_at (mapping (members es)) 0
below_configs [] some = absurd (some refl)
below_configs (e ∷ es) some = refl

regrouped : (ds ms : List ℕ)
    → ds ++ (codes "\"\nconfigs:\n" ++ (ms ++ codes "...\n"))
    ≡ (((ds ++ codes "\"\n") ++ codes "configs:") ++ (codes "\n" ++ ms)) ++ codes "...\n"
regrouped ds ms =
    sym (append_assoc ((ds ++ codes "\"\n") ++ codes "configs:") (codes "\n" ++ ms) (codes "...\n")
    ∙ append_assoc (ds ++ codes "\"\n") (codes "configs:") ((codes "\n" ++ ms) ++ codes "...\n")
    ∙ append_assoc ds (codes "\"\n") (codes "configs:" ++ ((codes "\n" ++ ms) ++ codes "...\n")))

-- the lines of the format are ASCII
ascii_start : (format : Format) → list_all (λ c. nat_lt c 128) (format_start format) ≡ true
ascii_start Second = refl
ascii_start Third = refl

-- lines after the first ones
behind : (start number configs : List ℕ)
    → start ++ (number ++ codes "configs:" ++ configs ++ codes "...\n") ≡ start ++ number ++ codes "configs:" ++ configs ++ codes "...\n"
behind start number configs =
    sym (append_assoc start (number ++ codes "configs:" ++ configs) (codes "...\n"))
    ∙ ap (λ cs. cs ++ codes "...\n") (sym (append_assoc start (number ++ codes "configs:") configs)
    ∙ ap (λ cs. cs ++ configs) (sym (append_assoc start number (codes "configs:"))))

-- the lines of a format, a count and configurations make the base of their state
pub whole_base : (format : Format) (bytes lines : List ℕ) (es : List Entry) (count : ℕ) → (es ≡ [] → ⊥) → count ≤ count_limit
    → bytes ≡ format_start format
    ++ (codes "at: \"" ++ (encode_utf8_all (decimal count) ++ (codes "\"\nconfigs:\n" ++ lines)))
    → AreEntries lines es (codes "...\n") → bytes ≡ base_in format (record { configs = es; count = count })
whole_base format bytes lines es count some small is follows =
    let ds = decimal count in
    let ms = members_after (members es) 2 in
    let ends = ms ++ codes "...\n" in
    let all = (decimal_is_IsNumeral count (omega arith)).0.1 in
    let closed = follows ∙ sym (after ms (codes "...\n") refl) in
    let start = format_start format in
    let number = line (codes "at") (text ds) in
    let s : Contents = record { configs = es; count = count } in
    is
    ∙ ap (λ bs. start ++ (codes "at: \"" ++ (encode_utf8_all ds ++ bs)))
    (ap (λ bs. codes "\"\nconfigs:\n" ++ bs) closed ∙ sym (before (codes "\"\nconfigs:\n") ends refl))
    ∙ ap (λ bs. start ++ (codes "at: \"" ++ bs)) (sym (encodes-append ds (codes "\"\nconfigs:\n" ++ ends)))
    ∙ ap (λ bs. start ++ bs) (sym (before (codes "at: \"") (ds ++ (codes "\"\nconfigs:\n" ++ ends)) refl))
    ∙ sym (before start (codes "at: \"" ++ (ds ++ (codes "\"\nconfigs:\n" ++ ends))) (ascii_start format))
    ∙ ap (λ xs. encode_utf8_all (start ++ (codes "at: \"" ++ xs))) (regrouped ds ms)
    ∙ ap (λ xs. encode_utf8_all (start ++ (xs ++ codes "configs:" ++ (codes "\n" ++ ms) ++ codes "...\n"))) (number_line ds all)
    ∙ ap (λ xs. encode_utf8_all (start ++ (number ++ codes "configs:" ++ xs ++ codes "...\n"))) (below_configs es some)
    ∙ ap encode_utf8_all (behind start number (value_at (mapping (members es)) 0) ∙ lines_in format s)
    ∙ sym (bytes_in format s)
