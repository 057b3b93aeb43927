-- What commands that are spelled one key a line say.
use Rattle.std.{proofs.Common.{◌≡◌, refl, sym, ap, subst, ◌∙◌, inl, inr, arith, ◌<◌, ◌≤◌, append_assoc, append-nil}, specs.Prelude.{ℕ, map}}
use Rattle.std.specs.{Prelude.{true, false, List, [], ◌∷◌, ◌++◌, codes, length, Option, Some, option_map}, Borrow.Bor}
use Rattle.conf_session.proofs.Prelude.{chars, IsUtf8, and_from, spaces, text, sequence, mapping, Elements, no_member, member, with_last}
use Rattle.conf_session.proofs.Prelude.{about-None, members_distinct, byte_len-chars, IsKept, set_at, delete_at, member_line, lines_of}
use Rattle.conf_session.proofs.Prelude.{scalar_most, Tree, has_key, not_from_false, number_from_digits, Condition, test_at, absent_at}
use Rattle.conf_session.proofs.{Prelude.{count_is, length-append}, RowLemmas.{spelled_chars, elements_differ}, SaidLemmas.said-without}
use Rattle.conf_session.proofs.SaidLemmas.{none-before, none-about, after-if, said-noted, has-last, distinct-last, about-distinct}
use Rattle.conf_session.specs.Said.{Part, Said, import_text, plain, single_part, batch_of_parts, get_at, said_by, part_from, part_of}
use Rattle.conf_session.specs.Said.{parts_of, command_said, parts_said, change_said, conditional, noted_said, with_conditions, with_about}
use Rattle.conf_session.specs.{SaidConditions.{first_and_rest, all_in, condition_from, condition_in}, CommandLines.{Spelling, Line}}
use Rattle.conf_session.specs.CommandLines.{spelled, stands, IsField, line_text, lines_text, members_of_lines, IsSpelled, AreLines, Entry}
use Rattle.conf_session.specs.CommandLines.{entry_text, entry_members, elements_text, elements_of_entries, IsEntry, AreEntries, AreSaid}
use Rattle.conf_session.specs.CommandLines.{AreElementLines, SaysPart, SpellsPart, ArePartLines, IsPartLines, AreConditionLines}
use Rattle.conf_session.specs.CommandLines.{IsConditionLines, Row, one_line, list_under, pairs_under, row_text, rows_text, row_key}
use Rattle.conf_session.specs.CommandLines.{row_tree, members_of_rows, IsRow, AreRows, Layout, layout_text, layout_members, IsLayout}
use Rattle.conf_session.specs.CommandLines.{IsCommandLines, IsChangeLines, SayChangeAfter, EndsChange, SaysBatch}
use Rattle.yaml_config.proofs.TextTreeLemmas.{chars-IsText}
use Rattle.conf_record.specs.declared.edit_members.EditMembers.TheVariants as cut

-- ---- lines of keys as mappings

-- a line, and what follows it
pub field_line : (key value lines rest : List ℕ) (spelling : Spelling)
    → lines ≡ key ++ (codes ": " ++ (spelled spelling value ++ 10 ∷ rest))
    → lines ≡ line_text (record { key = key; spelling = spelling; value = value }) ++ rest
field_line key value lines rest spelling is =
    is ∙ ap (λ t. key ++ (codes ": " ++ t)) (sym (append_assoc (spelled spelling value) (codes "\n") rest))
    ∙ sym (append_assoc key (codes ": " ++ (spelled spelling value ++ codes "\n")) rest)

-- a line before others of its mapping
next_line : (indent : ℕ) (l m : Line) (ms : List Line) (lines between rest : List ℕ) → lines ≡ line_text l ++ between
    → between ≡ spaces indent ++ (lines_text indent m ms ++ rest)
    → lines ≡ lines_text indent l (m ∷ ms) ++ rest
next_line indent l m ms lines between rest is follows =
    is ∙ ap (λ t. line_text l ++ t) (follows ∙ sym (append_assoc (spaces indent) (lines_text indent m ms) rest))
    ∙ sym (append_assoc (line_text l) (spaces indent ++ lines_text indent m ms) rest)

-- lines at the margin, as its pairs
lines_in_rows : (l : Line) (ls : List Line) → lines_text 0 l ls ≡ rows_text (map one_line (l ∷ ls))
lines_in_rows l [] = sym (append-nil (line_text l))
lines_in_rows l (m ∷ ms) = ap (λ t. line_text l ++ t) (lines_in_rows m ms)

members_in_rows : (ls : List Line) → members_of_rows (map one_line ls) ≡ members_of_lines ls
members_in_rows [] = refl
members_in_rows (l ∷ ls) = ap (member l.key (text l.value)) (members_in_rows ls)

lines_are_rows : (ls : List Line) → AreLines ls → AreRows (map one_line ls)
lines_are_rows [] are = tt
lines_are_rows (l ∷ ls) are = (are.0, lines_are_rows ls are.1)

-- a line and what follows it, by its parts
abbrev member_of : (key value : List ℕ) → Spelling → List ℕ → List ℕ
member_of key value spelling rest = key ++ (codes ": " ++ (spelled spelling value ++ 10 ∷ rest))

-- ---- a change, and what is behind its lines

rows_joined : (rs more : List Row) → rows_text (rs ++ more) ≡ rows_text rs ++ rows_text more
rows_joined [] more = refl
rows_joined (r ∷ rs) more =
    ap (λ t. row_text r ++ t) (rows_joined rs more) ∙ sym (append_assoc (row_text r) (rows_text rs) (rows_text more))

rows_both : (rs more : List Row) → AreRows rs → AreRows more → AreRows (rs ++ more)
rows_both [] more one other = other
rows_both (r ∷ rs) more one other = (one.0, rows_both rs more one.1 other)

members_last : (rs : List Row) (r : Row) → members_of_rows (rs ++ r ∷ []) ≡ with_last (members_of_rows rs) (row_key r) (row_tree r)
members_last [] r = refl
members_last (s ∷ rs) r = ap (member (row_key s) (row_tree s)) (members_last rs r)

-- the pairs of a change, and an about behind them
abbrev noted_layout : Layout → Entry → Layout
noted_layout layout e = record { first = layout.first; more = layout.more ++ pairs_under (codes "about") e ∷ [] }

-- a change, by what is behind its lines
pub change_lines : (lines rest : List ℕ) (layout : Layout) (change said : Said) → IsLayout layout → lines ≡ layout_text layout ++ rest
    → change ≡ command_said (layout_members layout) → change ≡ change_said (layout_members layout)
    → has_key (codes "if") (layout_members layout) ≡ false → has_key (codes "about") (layout_members layout) ≡ false
    → ((cs : List Condition) → with_conditions (Some cs) change ≡ conditional cs change)
    → ((about : Tree) → with_about about change ≡ noted_said about change)
    → ((about : Tree) (cs : List Condition) → with_about about (conditional cs change) ≡ conditional cs (noted_said about change))
    → EndsChange rest change said → IsChangeLines lines said
change_lines lines rest layout change said are is says within apart no_about after noted both (inl (ends, same)) =
    let ms = layout_members layout in
    let none = none-about ms no_about in
    record {
      command = record {
        layout = layout;
        are = are;
        is = is ∙ ap (λ t. layout_text layout ++ t) ends;
        says = same ∙ says ∙ sym (said-without ms none);
      };
      apart = apart;
      after = λ t cs read.
          ap (conditional cs) same ∙ sym (after cs) ∙ after-if t ms cs change read within
          ∙ sym (said-without (member (codes "if") t ms) (none-before (codes "if") t ms refl none));
    }
change_lines lines rest layout change said are is says within apart no_about after noted both (inr (about, so, same)) =
    let ms = layout_members layout in
    let rows : List Row = layout.first ∷ layout.more in
    let e = so.entry in
    let row : Row = pairs_under (codes "about") e in
    let last : layout_members (noted_layout layout e) ≡ with_last ms (codes "about") about =
    members_last rows row ∙ ap (with_last ms (codes "about")) (sym so.says) in
    let none = about-None about so.good in
    let own : IsRow row = (record { word = refl; short = refl }, so.are) in
    record {
      command = record {
        layout = noted_layout layout e;
        are = record {
          are = rows_both rows (row ∷ []) are.are (own, tt);
          differ = ap members_distinct last ∙ distinct-last ms (codes "about") about are.differ no_about (about-distinct about so.good);
        };
        is =
            is ∙ ap (λ t. layout_text layout ++ t) so.is
            ∙ sym (append_assoc (layout_text layout) (row_text row) (codes "...\n"))
            ∙ ap (λ t. (layout_text layout ++ t) ++ codes "...\n") (sym (append-nil (row_text row)))
            ∙ ap (λ t. t ++ codes "...\n") (sym (rows_joined rows (row ∷ [])));
        says =
            same ∙ sym (noted about) ∙ ap (with_about about) says ∙ sym (said-noted ms about none)
            ∙ ap (λ ns. said_by (mapping ns)) (sym last);
      };
      apart = ap (has_key (codes "if")) last ∙ has-last ms (codes "if") (codes "about") about apart refl;
      after = λ t cs read.
          ap (conditional cs) same ∙ sym (both about cs)
          ∙ ap (with_about about) (sym (after cs) ∙ after-if t ms cs change read within)
          ∙ sym (said-noted (member (codes "if") t ms) about none)
          ∙ ap (λ ns. said_by (mapping (member (codes "if") t ns))) (sym last);
    }

-- ---- parts

-- the lines of an import
pub import_spelled : (n v : Bor (List ℕ)) (name source : List ℕ) → IsSpelled n.now name → IsSpelled v.now source
    → SpellsPart (lines_of (cut.Import n v) (codes "text: ")) (import_text (chars name) (chars source))
unfolding said_by command_said part_from
import_spelled n v name source one two =
    let a : Line = record { key = codes "import"; spelling = one.spelling; value = name } in
    let b : Line = record { key = codes "text"; spelling = two.spelling; value = source } in
    let entry : Entry = record { first = a; more = b ∷ [] } in
    let said : SaysPart entry (import_text name source) = record {
      is = record {
        are = (
          record { word = refl; short = refl; stands = one.stands },
          (record { word = refl; short = refl; stands = two.stands }, tt),
        );
        differ = refl;
      };
      within = refl;
      alone = refl;
      change = refl;
      apart = refl;
      no_about = refl;
    } in
    let name_is = sym (spelled_chars one.spelling name one.stands) in
    let source_is = sym (spelled_chars two.spelling source two.stands) in
    record {
      entry = entry;
      says = subst (SaysPart entry) (λ i. import_text (name_is i) (source_is i)) said;
      is = λ indent. λ i. member_line (codes "import: ") (one.is i) ++ (spaces indent ++ member_line (codes "text: ") (two.is i));
    }

-- the pairs of a set
abbrev pub set_entry : (one two three : Spelling) (name path value : List ℕ) → Entry
set_entry one two three name path value =
    record {
      first = record { key = codes "set"; spelling = one; value = name };
      more =
          record { key = codes "path"; spelling = two; value = path }
          ∷ record { key = codes "value"; spelling = three; value = value } ∷ [];
    }

-- say it
pub set_says : (one two three : Spelling) (name path value : List ℕ) → stands one name ≡ true → stands two path ≡ true
    → stands three value ≡ true
    → SaysPart (set_entry one two three name path value) (plain (set_at (chars name) (chars path) (text (chars value))))
unfolding said_by command_said part_from
set_says one two three name path value n p v =
    let entry = set_entry one two three name path value in
    let said : SaysPart entry (plain (set_at name path (text value))) = record {
      is = record {
        are = (
          record { word = refl; short = refl; stands = n },
          (record { word = refl; short = refl; stands = p }, (record { word = refl; short = refl; stands = v }, tt)),
        );
        differ = refl;
      };
      within = refl;
      alone = refl;
      change = refl;
      apart = refl;
      no_about = refl;
    } in
    let name_is = sym (spelled_chars one name n) in
    let path_is = sym (spelled_chars two path p) in
    let value_is = sym (spelled_chars three value v) in
    subst (SaysPart entry) (λ i. plain (set_at (name_is i) (path_is i) (text (value_is i)))) said

-- the lines of a set
pub set_spelled : (n p v : Bor (List ℕ)) (name path value : List ℕ) → IsSpelled n.now name → IsSpelled p.now path → IsSpelled v.now value
    → SpellsPart (lines_of (cut.Set n p v) (codes "text: ")) (plain (set_at (chars name) (chars path) (text (chars value))))
set_spelled n p v name path value one two three =
    record {
      entry = set_entry one.spelling two.spelling three.spelling name path value;
      says = set_says one.spelling two.spelling three.spelling name path value one.stands two.stands three.stands;
      is = λ indent. λ i.
          member_line (codes "set: ") (one.is i)
          ++ (spaces indent ++ (member_line (codes "path: ") (two.is i) ++ (spaces indent ++ member_line (codes "value: ") (three.is i))));
    }

-- the pairs of a delete
abbrev pub delete_entry : (one two : Spelling) (name path : List ℕ) → Entry
delete_entry one two name path =
    record {
      first = record { key = codes "delete"; spelling = one; value = name };
      more = record { key = codes "path"; spelling = two; value = path } ∷ [];
    }

-- say it
pub delete_says : (one two : Spelling) (name path : List ℕ) → stands one name ≡ true → stands two path ≡ true
    → SaysPart (delete_entry one two name path) (plain (delete_at (chars name) (chars path)))
unfolding said_by command_said part_from
delete_says one two name path n p =
    let entry = delete_entry one two name path in
    let said : SaysPart entry (plain (delete_at name path)) = record {
      is = record {
        are = (record { word = refl; short = refl; stands = n }, (record { word = refl; short = refl; stands = p }, tt));
        differ = refl;
      };
      within = refl;
      alone = refl;
      change = refl;
      apart = refl;
      no_about = refl;
    } in
    let name_is = sym (spelled_chars one name n) in
    let path_is = sym (spelled_chars two path p) in
    subst (SaysPart entry) (λ i. plain (delete_at (name_is i) (path_is i))) said

-- the lines of a delete
pub delete_spelled : (n p : Bor (List ℕ)) (name path : List ℕ) → IsSpelled n.now name → IsSpelled p.now path
    → SpellsPart (lines_of (cut.Delete n p) (codes "text: ")) (plain (delete_at (chars name) (chars path)))
delete_spelled n p name path one two =
    record {
      entry = delete_entry one.spelling two.spelling name path;
      says = delete_says one.spelling two.spelling name path one.stands two.stands;
      is = λ indent. λ i. member_line (codes "delete: ") (one.is i) ++ (spaces indent ++ member_line (codes "path: ") (two.is i));
    }

-- ---- commands

-- the lines of a get
pub get_lines : (name path lines after_name : List ℕ) → IsField lines (codes "get: ") name after_name
    → IsField after_name (codes "path: ") path (codes "...\n")
    → IsCommandLines lines (get_at name path)
unfolding said_by command_said part_from
get_lines name path lines after_name one two =
    let a : Line = record { key = codes "get"; spelling = one.spelling; value = name } in
    let b : Line = record { key = codes "path"; spelling = two.spelling; value = path } in
    record {
      layout = record { first = one_line a; more = one_line b ∷ [] };
      are = record {
        are = (
          record { word = refl; short = refl; stands = one.stands },
          (record { word = refl; short = refl; stands = two.stands }, tt),
        );
        differ = refl;
      };
      is =
          next_line 0 a b [] lines after_name (codes "...\n") (field_line (codes "get") name lines after_name one.spelling one.is)
          (field_line (codes "path") path after_name (codes "...\n") two.spelling two.is)
          ∙ ap (λ t. t ++ codes "...\n") (lines_in_rows a (b ∷ []));
      says = refl;
    }

-- a part alone, by what is behind its lines
pub part_lines : (lines rest : List ℕ) (part : Part) (said : Said) → IsPartLines lines part rest → EndsChange rest (single_part part) said
    → IsChangeLines lines said
part_lines lines rest part said so ends =
    let e = so.spells.entry in
    let says = so.spells.says in
    let layout : Layout = record { first = one_line e.first; more = map one_line e.more } in
    let same : layout_members layout ≡ entry_members e = members_in_rows (e.first ∷ e.more) in
    change_lines lines rest layout (single_part part) said
    (record { are = lines_are_rows (e.first ∷ e.more) says.is.are; differ = ap members_distinct same ∙ says.is.differ })
    (so.is ∙ ap (λ t. t ++ rest) (so.spells.is 0 ∙ lines_in_rows e.first e.more))
    (sym (ap command_said same ∙ says.alone)) (sym (ap change_said same ∙ says.change))
    (ap (has_key (codes "if")) same ∙ says.apart) (ap (has_key (codes "about")) same ∙ says.no_about)
    (λ conditions. refl) (λ about. refl) (λ about conditions. refl) ends

-- ---- elements

elements_joined : (es more : List Entry) → elements_text (es ++ more) ≡ elements_text es ++ elements_text more
elements_joined [] more = refl
elements_joined (e ∷ es) more =
    ap (λ t. codes "  - " ++ (entry_text 4 e ++ t)) (elements_joined es more)
    ∙ ap (λ t. codes "  - " ++ t) (sym (append_assoc (entry_text 4 e) (elements_text es) (elements_text more)))

module _ {A : Type 0} (read : Tree → Option A) where
  said_joined : (es more : List Entry) (xs ys : List A) → AreSaid read es xs → AreSaid read more ys
      → AreSaid read (es ++ more) (xs ++ ys)
  said_joined [] more [] ys one other = other
  said_joined [] more (x ∷ xs) ys one other = absurd one
  said_joined (e ∷ es) more [] ys one other = absurd one
  said_joined (e ∷ es) more (x ∷ xs) ys one other = (one.0, one.1, said_joined es more xs ys one.2 other)

  -- they are entries
  pub are_entries : (es : List Entry) (xs : List A) → AreSaid read es xs → AreEntries es
  are_entries [] xs said = tt
  are_entries (e ∷ es) [] said = absurd said
  are_entries (e ∷ es) (x ∷ xs) said = (said.0, are_entries es xs said.2)

  -- all of them are read
  pub all_said : (es : List Entry) (xs : List A) → AreSaid read es xs → all_in read (elements_of_entries es) ≡ Some xs
  all_said [] [] said = refl
  all_said [] (x ∷ xs) said = absurd said
  all_said (e ∷ es) [] said = absurd said
  all_said (e ∷ es) (x ∷ xs) said = λ i. first_and_rest (said.1 i) (all_said es xs said.2 i)

  -- no element yet
  pub no_element_lines : (lines : List ℕ) → AreElementLines read lines [] lines
  no_element_lines lines = record { entries = []; said = tt; is = refl }

  -- one element
  pub one_element_line : (lines after : List ℕ) (x : A) (e : Entry) → IsEntry e → read (mapping (entry_members e)) ≡ Some x
      → lines ≡ codes "  - " ++ (entry_text 4 e ++ after) → AreElementLines read lines (x ∷ []) after
  one_element_line lines after x e are reads is = record {
    entries = e ∷ [];
    said = (are, reads, tt);
    is = is ∙ ap (λ t. codes "  - " ++ (t ++ after)) (sym (append-nil (entry_text 4 e)));
  }

  -- elements before others
  pub element_lines_joined : (lines left after : List ℕ) (xs ys : List A) → AreElementLines read lines xs left
      → AreElementLines read left ys after → AreElementLines read lines (xs ++ ys) after
  element_lines_joined lines left after xs ys one other = record {
    entries = one.entries ++ other.entries;
    said = said_joined one.entries other.entries xs ys one.said other.said;
    is =
        one.is ∙ ap (λ t. elements_text one.entries ++ t) other.is
        ∙ sym (append_assoc (elements_text one.entries) (elements_text other.entries) after)
        ∙ ap (λ t. t ++ after) (sym (elements_joined one.entries other.entries));
  }

  -- an element takes some characters
  pub element_taken : (lines after : List ℕ) (x : A) → AreElementLines read lines (x ∷ []) after → length after < length lines
  element_taken lines after x so = by so.entries so.said so.is
    where
      by : (es : List Entry) → AreSaid read es (x ∷ []) → lines ≡ elements_text es ++ after → length after < length lines
      by [] said is = absurd said
      by (e ∷ es) said is =
          let whole = ap length is in
          let apart = length-append (elements_text (e ∷ es)) after in
          omega (arith, whole, apart)

-- ---- batches

-- one more element
pub one_part_line : (lines left after : List ℕ) (own : ℕ → List ℕ) (parts : List Part) (part : Part) → ArePartLines lines parts left
    → left ≡ codes "  - " ++ (own 4 ++ after) → SpellsPart own part → ArePartLines lines (parts ++ part ∷ []) after
one_part_line lines left after own parts part so is spells =
    element_lines_joined part_of lines left after parts (part ∷ []) so
    (one_element_line part_of left after part spells.entry spells.says.is spells.says.within
    (is ∙ ap (λ t. codes "  - " ++ (t ++ after)) (spells.is 4)))

batch_says : (ts : Elements) (parts : List Part) → parts_of ts ≡ Some parts
    → batch_of_parts parts ≡ command_said (member (codes "batch") (sequence ts) no_member)
unfolding command_said
batch_says ts parts is = ap parts_said (sym is)

-- all elements of a batch, by what is behind them
pub batch_lines : (elements left : List ℕ) (parts : List Part) (said : Said) → ArePartLines elements parts left
    → SaysBatch parts left said → IsChangeLines (codes "batch:\n" ++ elements) said
batch_lines elements left parts said so ends = by so.entries parts so.said so.is ends
  where
    by : (es : List Entry) (ps : List Part) → AreSaid part_of es ps → elements ≡ elements_text es ++ left
        → SaysBatch ps left said → IsChangeLines (codes "batch:\n" ++ elements) said
    by [] [] are is ends = absurd (ends.0 refl)
    by [] (p ∷ ps) are is ends = absurd are
    by (e ∷ es) ps are is ends =
        let read = all_said part_of (e ∷ es) ps are in
        let row : Row = list_under (codes "batch") e es in
        let layout : Layout = record { first = row; more = [] } in
        let entries = are_entries part_of (e ∷ es) ps are in
        change_lines (codes "batch:\n" ++ elements) left layout (batch_of_parts ps) said
        (record {
          are = ((record { word = refl; short = refl }, entries), tt);
          differ = and_from _ _ (and_from _ _ refl (elements_differ (e ∷ es) entries)) refl;
        })
        (ap (λ t. codes "batch:\n" ++ t) is ∙ ap (λ t. t ++ left) (sym (append-nil (row_text row))))
        (batch_says (elements_of_entries (e ∷ es)) ps read) (ap parts_said (sym read)) refl refl
        (λ conditions. refl) (λ about. refl) (λ about conditions. refl) ends.1

-- ---- conditions

-- the lines of a test
pub test_lines : (name path value lines after_name after_path rest : List ℕ) → IsField lines (codes "  - test: ") name after_name
    → IsField after_name (codes "    path: ") path after_path → IsField after_path (codes "    value: ") value rest
    → IsConditionLines lines (test_at (chars name) (chars path) (text (chars value))) rest
unfolding condition_from
test_lines name path value lines after_name after_path rest one two three =
    let a : Line = record { key = codes "test"; spelling = one.spelling; value = name } in
    let b : Line = record { key = codes "path"; spelling = two.spelling; value = path } in
    let d : Line = record { key = codes "value"; spelling = three.spelling; value = value } in
    let entry : Entry = record { first = a; more = b ∷ d ∷ [] } in
    let is : IsEntry entry = record {
      are = (
        record { word = refl; short = refl; stands = one.stands },
        (record { word = refl; short = refl; stands = two.stands }, (record { word = refl; short = refl; stands = three.stands }, tt)),
      );
      differ = refl;
    } in
    let read : condition_in (mapping (entry_members entry)) ≡ Some (test_at name path (text value)) = refl in
    let name_is = sym (spelled_chars one.spelling name one.stands) in
    let path_is = sym (spelled_chars two.spelling path two.stands) in
    let value_is = sym (spelled_chars three.spelling value three.stands) in
    let test_key = member_of (codes "test") name one.spelling after_name in
    let path_key = member_of (codes "path") path two.spelling after_path in
    let value_key = member_of (codes "value") value three.spelling rest in
    one_element_line condition_in lines rest (test_at (chars name) (chars path) (text (chars value))) entry is
    (read ∙ λ i. Some (test_at (name_is i) (path_is i) (text (value_is i))))
    (one.is ∙ ap (λ t. codes "  - " ++ t)
    (next_line 4 a b (d ∷ []) test_key after_name rest (field_line (codes "test") name test_key after_name one.spelling refl)
    (two.is ∙ ap (λ t. spaces 4 ++ t)
    (next_line 4 b d [] path_key after_path rest (field_line (codes "path") path path_key after_path two.spelling refl)
    (three.is ∙ ap (λ t. spaces 4 ++ t) (field_line (codes "value") value value_key rest three.spelling refl))))))

-- the lines of an absent with a path
pub absent_lines : (name path lines after_name rest : List ℕ) → IsField lines (codes "  - absent: ") name after_name
    → IsField after_name (codes "    path: ") path rest → IsConditionLines lines (absent_at (chars name) (chars path)) rest
unfolding condition_from
absent_lines name path lines after_name rest one two =
    let a : Line = record { key = codes "absent"; spelling = one.spelling; value = name } in
    let b : Line = record { key = codes "path"; spelling = two.spelling; value = path } in
    let entry : Entry = record { first = a; more = b ∷ [] } in
    let is : IsEntry entry = record {
      are = (
        record { word = refl; short = refl; stands = one.stands },
        (record { word = refl; short = refl; stands = two.stands }, tt),
      );
      differ = refl;
    } in
    let read : condition_in (mapping (entry_members entry)) ≡ Some (absent_at name path) = refl in
    let name_is = sym (spelled_chars one.spelling name one.stands) in
    let path_is = sym (spelled_chars two.spelling path two.stands) in
    let absent_key = member_of (codes "absent") name one.spelling after_name in
    let path_key = member_of (codes "path") path two.spelling rest in
    one_element_line condition_in lines rest (absent_at (chars name) (chars path)) entry is
    (read ∙ λ i. Some (absent_at (name_is i) (path_is i)))
    (one.is ∙ ap (λ t. codes "  - " ++ t)
    (next_line 4 a b [] absent_key after_name rest (field_line (codes "absent") name absent_key after_name one.spelling refl)
    (two.is ∙ ap (λ t. spaces 4 ++ t) (field_line (codes "path") path path_key rest two.spelling refl))))

-- the line of an absent without one
pub missing_line : (name lines rest : List ℕ) → IsField lines (codes "  - absent: ") name rest
    → IsConditionLines lines (absent_at (chars name) []) rest
unfolding condition_from
missing_line name lines rest one =
    let a : Line = record { key = codes "absent"; spelling = one.spelling; value = name } in
    let entry : Entry = record { first = a; more = [] } in
    let is : IsEntry entry = record { are = (record { word = refl; short = refl; stands = one.stands }, tt); differ = refl } in
    let read : condition_in (mapping (entry_members entry)) ≡ Some (absent_at name []) = refl in
    let name_is = sym (spelled_chars one.spelling name one.stands) in
    one_element_line condition_in lines rest (absent_at (chars name) []) entry is
    (read ∙ λ i. Some (absent_at (name_is i) []))
    (one.is ∙ ap (λ t. codes "  - " ++ t)
    (field_line (codes "absent") name (member_of (codes "absent") name one.spelling rest) rest one.spelling refl))

-- the line of a count
pub count_line : (digits lines rest : List ℕ) (count : ℕ) → number_from_digits (chars digits) ≡ Some count
    → IsField lines (codes "  - count: ") digits rest → IsConditionLines lines (count_is count) rest
unfolding condition_from
count_line digits lines rest count number one =
    let a : Line = record { key = codes "count"; spelling = one.spelling; value = digits } in
    let entry : Entry = record { first = a; more = [] } in
    let is : IsEntry entry = record { are = (record { word = refl; short = refl; stands = one.stands }, tt); differ = refl } in
    let read : condition_in (mapping (entry_members entry)) ≡ option_map count_is (number_from_digits digits) = refl in
    let digits_are = sym (spelled_chars one.spelling digits one.stands) in
    one_element_line condition_in lines rest (count_is count) entry is
    (read ∙ ap (λ ds. option_map count_is (number_from_digits ds)) digits_are ∙ ap (option_map count_is) number)
    (one.is ∙ ap (λ t. codes "  - " ++ t)
    (field_line (codes "count") digits (member_of (codes "count") digits one.spelling rest) rest one.spelling refl))

-- conditions, and the command after them
pub conditional_lines : (lines left : List ℕ) (conditions : List Condition) (said : Said) → AreConditionLines lines conditions left
    → SayChangeAfter conditions left said → IsCommandLines (codes "if:\n" ++ lines) said
conditional_lines lines left conditions said so after = by so.entries conditions so.said so.is after
  where
    by : (es : List Entry) (cs : List Condition) → AreSaid condition_in es cs → lines ≡ elements_text es ++ left
        → SayChangeAfter cs left said → IsCommandLines (codes "if:\n" ++ lines) said
    by [] [] are is after = absurd (after.some refl)
    by [] (c ∷ cs) are is after = absurd are
    by (e ∷ es) cs are is after =
        let command = after.command.command in
        let layout = command.layout in
        let entries = are_entries condition_in (e ∷ es) cs are in
        record {
          layout = record { first = list_under (codes "if") e es; more = layout.first ∷ layout.more };
          are = record {
            are = ((record { word = refl; short = refl }, entries), command.are.are);
            differ = and_from _ _
                (and_from _ _ (not_from_false (has_key (codes "if") (layout_members layout)) after.command.apart)
                (elements_differ (e ∷ es) entries)) command.are.differ;
          };
          is = ap (λ t. codes "if:\n" ++ t)
              (is ∙ ap (λ t. elements_text (e ∷ es) ++ t) command.is
              ∙ sym (append_assoc (elements_text (e ∷ es)) (layout_text layout) (codes "...\n")));
          says = after.says ∙ after.command.after (sequence (elements_of_entries (e ∷ es))) cs (all_said condition_in (e ∷ es) cs are);
        }

-- ---- a short text is a configuration

-- it is within the limits of its own
pub short_kept : (value : List ℕ) → IsUtf8 value → length value ≤ 4194304 → IsKept (text (chars value))
short_kept value utf8 short =
    let bytes = byte_len-chars value utf8 in
    let most = scalar_most (chars value) in
    record { texts = chars-IsText value utf8; keys = refl; deep = omega arith; long = omega (arith, bytes, most, short) }
