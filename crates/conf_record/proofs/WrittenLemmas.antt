-- Lines as a store writes them make the record of a command.
use Rattle.std.proofs.Common.{◌≡◌, ℕ, ◌+◌, ◌≤◌, ◌<◌, Bool, true, false, ◌&&◌, nat_le, nat_lt, if◌then◌else◌, zero, suc, List, [], ◌∷◌, ◌++◌}
use Rattle.std.proofs.Common.{length, length-append, codes, decimal, Option, Some, None, IsUtf8, Bor, encode_utf8_all, append_assoc}
use Rattle.std.proofs.Common.{append-nil, refl, sym, ap, subst, ◌∙◌, arith}
use Rattle.conf_record.proofs.Prelude.{nat_tests, decimal_is_IsNumeral, chars-IsAscii, encodes-append, encodes-chars, encodes-IsAscii}
use Rattle.conf_record.proofs.Prelude.{list_all, chars, digits_value, line_feed, space_char, double_quote, quoted_chars, scalar_lines}
use Rattle.conf_record.proofs.Prelude.{value_at, elements_after, members_at, members_after, IsText, byte_len, same_text, spaces, Tree, text}
use Rattle.conf_record.proofs.Prelude.{Members, no_member, member, stands_alone, element_size, Size, byte_len-encoded, every-IsAscii}
use Rattle.conf_record.proofs.Prelude.{same_text-true, tree_of, text_bytes, Text, tree_of-Text, config_limits, chars-IsText, count_limit}
use Rattle.conf_record.proofs.Prelude.{Edit, import_as, set_at, delete_at, Command, single, batch, noted, line, number_line}
use Rattle.conf_record.{proofs.{DocumentLemmas.record_is, EditLines.edit_lines}, specs.{Documents.IsRecord, LineValues.IsValueLine}}
use Rattle.conf_record.specs.{LineValues.FollowsNumber, declared.lines.LineValue.LineValue, EditLines.{member_line, lines_of}}
use Rattle.conf_record.specs.Records.{edit_members, edit_elements, command_members, record_text, record_bytes, FitsRecord}
use Rattle.conf_record.specs.{RecordsRead.{number_from_digits, ReadsRecord, IsEdit, AreEdits, IsCommand}, SmallCommands.IsSmallEdit}
use Rattle.conf_record.specs.{SmallCommands.{AreSmallEdits, IsSmallCommand}, Written.{IsLineOf, IsConfigLine, IsNameLine, IsPathLine}}
use Rattle.conf_record.specs.Written.{IsWrittenAs, ElementsWritten, IsWritten}
use Rattle.yaml_writer.specs.{declared.scalar_style.ScalarStyle.TheVariants.{Plain, Double}, ScalarStyles.value_style}
use Rattle.yaml_writer.proofs.{StyleLemmas.{value_plain, value_double}, SizeSums.{IsLiteral, one_line}, QuotedLemmas.stands_alone-below}
use Rattle.{yaml_writer.proofs.QuotedLemmas.quoted_chars-alone, yaml_data.proofs.TextLemmas.IsUtf8-text_bytes}
use Rattle.conf_state.specs.Rooms.{record_limit}
use Rattle.yaml_data.specs.declared.tree.Tree as code
use Rattle.conf_record.specs.declared.edit_members.EditMembers.TheVariants as cut

-- a line of the code
abbrev pub Line : Type 0
Line = Bor (List ℕ)

-- ---- texts in UTF-8

-- ASCII is its own bytes, by a test that computes
pub ascii_bytes : (cs : List ℕ) → list_all (λ c. nat_lt c 128) cs ≡ true → encode_utf8_all cs ≡ cs
ascii_bytes cs e = encodes-IsAscii cs (every-IsAscii (λ c. nat_lt c 128) below cs e)
  where
    below : (c : ℕ) → nat_lt c 128 ≡ true → c < 128
    below c passed = grind (arith, nat_tests)

-- ASCII before a text
pub before : (cs xs : List ℕ) → list_all (λ c. nat_lt c 128) cs ≡ true → encode_utf8_all (cs ++ xs) ≡ cs ++ encode_utf8_all xs
before cs xs e = encodes-append cs xs ∙ ap (λ bs. bs ++ encode_utf8_all xs) (ascii_bytes cs e)

-- ASCII after a text
pub after : (xs cs : List ℕ) → list_all (λ c. nat_lt c 128) cs ≡ true → encode_utf8_all (xs ++ cs) ≡ encode_utf8_all xs ++ cs
after xs cs e = encodes-append xs cs ∙ ap (λ bs. encode_utf8_all xs ++ bs) (ascii_bytes cs e)

-- ---- numbers

small_count : (n : ℕ) → nat_le n count_limit ≡ true → n ≤ count_limit
small_count n e = grind (arith, nat_tests)

-- digits that give a number are its decimal text, and the number is a count
pub number_spelled : (bs : List ℕ) (n : ℕ) → IsUtf8 bs → Some n ≡ number_from_digits (chars bs)
    → (n ≤ count_limit) × (bs ≡ encode_utf8_all (decimal n))
number_spelled bs n utf8 e =
    let v = digits_value 10 (chars bs) in
    let told = by v (nat_le v count_limit) refl (same_text (chars bs) (decimal v)) refl e in
    (told.0, sym (encodes-chars bs utf8) ∙ ap encode_utf8_all told.1)
  where
    by : (v : ℕ) (a : Bool) → nat_le v count_limit ≡ a → (b : Bool) → same_text (chars bs) (decimal v) ≡ b
        → Some n ≡ (if a && b then Some v else None)
        → (n ≤ count_limit) × (chars bs ≡ decimal n)
    by v true small true same e =
        let is : v ≡ n = cc in
        (subst (λ m. m ≤ count_limit) is (small_count v small), same_text-true (chars bs) (decimal v) same ∙ ap decimal is)
    by v true small false same e = absurd (let none : (◌≡◌ {A = Option ℕ} (Some n) None) = e in cc)
    by v false small b same e = absurd (let none : (◌≡◌ {A = Option ℕ} (Some n) None) = e in cc)

-- ---- a text on one line

-- a plain text is its own line
pub plain_line : (line : List ℕ) → IsUtf8 line → Plain ≡ value_style (chars line) → IsLineOf line (chars line)
plain_line line utf8 is =
    let cs = chars line in
    record {
      written = λ i.
          ap encode_utf8_all (sym (value_plain i cs (sym is))) ∙ after cs (codes "\n") refl
          ∙ ap (λ bs. bs ++ codes "\n") (encodes-chars line utf8);
      flat = one_line cs (λ literal. subst IsLiteral (sym is) literal);
    }

-- so is a text in double quotes of which no character needs an escape
pub quoted_line : (quoted bytes : List ℕ) → quoted ≡ bytes ++ double_quote ∷ [] → list_all stands_alone bytes ≡ true
    → Double ≡ value_style (chars bytes)
    → IsLineOf (double_quote ∷ quoted) (chars bytes)
quoted_line quoted bytes is alone double =
    let cs = chars bytes in
    let ascii = every-IsAscii stands_alone stands_alone-below bytes alone in
    let itself : quoted_chars cs ≡ bytes = ap quoted_chars (chars-IsAscii bytes ascii) ∙ quoted_chars-alone bytes alone in
    let mark = codes "\"" in
    record {
      written = λ i.
          ap encode_utf8_all (sym (value_double i cs (sym double)))
          ∙ ap (λ xs. encode_utf8_all (mark ++ xs ++ mark ++ codes "\n")) itself
          ∙ after (mark ++ bytes ++ mark) (codes "\n") refl
          ∙ ap (λ bs. bs ++ codes "\n") (after (mark ++ bytes) mark refl
          ∙ ap (λ bs. bs ++ mark) (before mark bytes refl ∙ ap (λ bs. mark ++ bs) (encodes-IsAscii bytes ascii)))
          ∙ ap (λ bs. (double_quote ∷ bs) ++ codes "\n") (sym is);
      flat = one_line cs (λ literal. subst IsLiteral (sym double) literal);
    }

-- ---- a text on one line as a configuration

-- a text after its key, on one line
text_value : (line value : List ℕ) → IsLineOf line value → (i : ℕ)
    → encode_utf8_all (value_at (text value) i) ≡ space_char ∷ (line ++ line_feed ∷ [])
text_value line value is i = before (codes " ") (scalar_lines (i + 2) value) refl ∙ ap (λ bs. space_char ∷ bs) (is.written (i + 2))

module _ (line value : List ℕ) (is : IsLineOf line value) where
  line_bytes : byte_len (scalar_lines 2 value) ≡ length line + 1
  line_bytes = omega (arith, byte_len-encoded (scalar_lines 2 value), ap length (is.written 2), length-append line (line_feed ∷ []))

  -- it is within the limits if the line is short
  line_config : (t : Tree) → t ≡ text value → IsText value → length line < config_limits.style → IsConfigLine line t
  line_config t seen texts short = subst (IsConfigLine line) (sym seen) (record {
    written = text_value line value is;
    kept = record { texts = texts; keys = refl; deep = omega arith; long = omega (arith, line_bytes) };
    small = record { deep = omega arith; bytes = omega (arith, line_bytes) };
  })

  -- and has as many bytes as the line and its line feed
  pub line_size : (t : Tree) → t ≡ text value → ◌≡◌ {A = Size} (record { bytes = length line + 1; lines = 0 }) (element_size t)
  line_size t seen = (λ i. record { bytes = sym line_bytes i; lines = sym is.flat i }) ∙ ap element_size (sym seen)

-- a value on a line as a configuration
pub value_line : (line : List ℕ) (value : LineValue) → IsValueLine line value → IsConfigLine line (text (chars value.text.now))
value_line line value on = line_config line (chars value.text.now) on.is (text (chars value.text.now)) refl on.texts on.short

-- a text of the code that is written as the line
pub text_config : (line bytes : List ℕ) (copy : Text) → text_bytes copy ≡ bytes → IsLineOf line (chars bytes)
    → length line < config_limits.style
    → IsConfigLine line (tree_of (code.Text copy))
    × (◌≡◌ {A = Size} (record { bytes = length line + 1; lines = 0 }) (element_size (tree_of (code.Text copy))))
text_config line bytes copy same is short =
    let seen : tree_of (code.Text copy) ≡ text (chars bytes) = tree_of-Text copy ∙ ap (λ bs. text (chars bs)) same in
    let texts = subst (λ bs. IsText (chars bs)) same (chars-IsText (text_bytes copy) (IsUtf8-text_bytes copy)) in (
      line_config line (chars bytes) is (tree_of (code.Text copy)) seen texts short,
      line_size line (chars bytes) is (tree_of (code.Text copy)) seen,
    )

-- the size of a value by the bytes of its line
pub value_size : (bytes length : ℕ) (size : Size) → bytes ≡ length + 1
    → ◌≡◌ {A = Size} (record { bytes = length + 1; lines = 0 }) size → ◌≡◌ {A = Size} (record { bytes = bytes; lines = 0 }) size
value_size bytes length size is so = (λ i. record { bytes = is i; lines = 0 }) ∙ so

-- ---- the lines of an edit

spaces_ascii : (n : ℕ) → list_all (λ c. nat_lt c 128) (spaces n) ≡ true
spaces_ascii zero = refl
spaces_ascii (suc n) = spaces_ascii n

-- a key after n spaces, its value on one line, and what follows it
member_written : (n : ℕ) (key value more line : List ℕ) → list_all (λ c. nat_lt c 128) key ≡ true
    → encode_utf8_all value ≡ space_char ∷ (line ++ line_feed ∷ [])
    → encode_utf8_all (((spaces n ++ key) ++ value) ++ more) ≡ spaces n ++ (member_line (key ++ codes " ") line ++ encode_utf8_all more)
member_written n key value more line ascii is =
    let s = spaces n in
    ap encode_utf8_all (append_assoc (s ++ key) value more ∙ append_assoc s key (value ++ more))
    ∙ before s (key ++ (value ++ more)) (spaces_ascii n)
    ∙ ap (λ bs. s ++ bs) (before key (value ++ more) ascii
    ∙ ap (λ bs. key ++ bs) (encodes-append value more ∙ ap (λ bs. bs ++ encode_utf8_all more) is))
    ∙ simp append_assoc

-- the same of the last member
last_written : (n : ℕ) (key value line : List ℕ) → list_all (λ c. nat_lt c 128) key ≡ true
    → encode_utf8_all value ≡ space_char ∷ (line ++ line_feed ∷ [])
    → encode_utf8_all (((spaces n ++ key) ++ value) ++ []) ≡ spaces n ++ member_line (key ++ codes " ") line
last_written n key value line ascii is =
    member_written n key value [] line ascii is ∙ ap (λ bs. spaces n ++ bs) (append-nil (member_line (key ++ codes " ") line))

pub import_written : (n l : Line) (name : List ℕ) (tree : Tree) → IsNameLine n.now name → IsConfigLine l.now tree
    → IsWrittenAs (lines_of (cut.Import n l) (codes "tree: ")) (import_as name tree)
import_written n l name tree named valued = record {
  written = λ i.
      member_written 0 (codes "import:") (value_at (text name) i)
      (members_after (member (codes "tree") tree no_member) i) n.now refl (text_value n.now name named.is i)
      ∙ ap (λ bs. member_line (codes "import: ") n.now ++ bs)
      (last_written i (codes "tree:") (value_at tree i) l.now refl (valued.written i));
  is = valued.kept;
  small = (named.good, valued.small);
}

pub set_written : (n p l : Line) (name path : List ℕ) (value : Tree) → IsNameLine n.now name → IsPathLine p.now path
    → IsConfigLine l.now value
    → IsWrittenAs (lines_of (cut.Set n p l) (codes "tree: ")) (set_at name path value)
set_written n p l name path value named pathed valued = record {
  written = λ i.
      let last : Members = member (codes "value") value no_member in
      member_written 0 (codes "set:") (value_at (text name) i)
      (members_after (member (codes "path") (text path) last) i) n.now refl (text_value n.now name named.is i)
      ∙ ap (λ bs. member_line (codes "set: ") n.now ++ bs)
      (member_written i (codes "path:") (value_at (text path) i) (members_after last i) p.now refl (text_value p.now path pathed.is i)
      ∙ ap (λ bs. spaces i ++ (member_line (codes "path: ") p.now ++ bs))
      (last_written i (codes "value:") (value_at value i) l.now refl (valued.written i)));
  is = (pathed.texts, valued.kept);
  small = (named.good, pathed.short, valued.small);
}

pub delete_written : (n p : Line) (name path : List ℕ) → IsNameLine n.now name → IsPathLine p.now path
    → IsWrittenAs (lines_of (cut.Delete n p) (codes "tree: ")) (delete_at name path)
delete_written n p name path named pathed = record {
  written = λ i.
      member_written 0 (codes "delete:") (value_at (text name) i)
      (members_after (member (codes "path") (text path) no_member) i) n.now refl (text_value n.now name named.is i)
      ∙ ap (λ bs. member_line (codes "delete: ") n.now ++ bs)
      (last_written i (codes "path:") (value_at (text path) i) p.now refl (text_value p.now path pathed.is i));
  is = pathed.texts;
  small = (named.good, pathed.short);
}

-- ---- the lines of a command

at_margin : (edit : Edit) → members_at (edit_members edit) 0 ≡ members_after (edit_members edit) 0
at_margin (import_as name tree) = refl
at_margin (set_at name path value) = refl
at_margin (delete_at name path) = refl

-- the lines of an edit alone, and the end
pub alone_written : (lines end : List ℕ) (own : ℕ → List ℕ) (edit : Edit) → lines ≡ own 0 ++ end → end ≡ codes "...\n"
    → IsWrittenAs own edit → IsWritten lines (single edit)
alone_written lines end own edit is ends so = record {
  written =
      is ∙ ap (λ bs. own 0 ++ bs) ends ∙ ap (λ bs. bs ++ codes "...\n") (sym (so.written 0))
      ∙ sym (after (members_at (edit_members edit) 0) (codes "...\n") refl)
      ∙ ap (λ xs. encode_utf8_all (xs ++ codes "...\n")) (at_margin edit);
  is = so.is;
  small = so.small;
}

-- elements, and one more after them
elements-one : (es : List Edit) (e : Edit)
    → elements_after (edit_elements (es ++ e ∷ [])) 2
    ≡ elements_after (edit_elements es) 2 ++ (codes "  - " ++ members_at (edit_members e) 4)
elements-one [] e = append-nil (codes "  - " ++ members_at (edit_members e) 4)
elements-one (d ∷ ds) e =
    let first = codes "  - " ++ members_at (edit_members d) 4 in
    ap (λ xs. first ++ xs) (elements-one ds e)
    ∙ sym (append_assoc first (elements_after (edit_elements ds) 2) (codes "  - " ++ members_at (edit_members e) 4))

are-one : (es : List Edit) (e : Edit) → AreEdits es → IsEdit e → AreEdits (es ++ e ∷ [])
are-one [] e are is = (is, tt)
are-one (d ∷ ds) e are is = (are.0, are-one ds e are.1 is)

small-one : (es : List Edit) (e : Edit) → AreSmallEdits es → IsSmallEdit e → AreSmallEdits (es ++ e ∷ [])
small-one [] e are is = (is, tt)
small-one (d ∷ ds) e are is = (are.0, small-one ds e are.1 is)

-- one more element
pub one_written : (lines left after : List ℕ) (own : ℕ → List ℕ) (es : List Edit) (e : Edit) → ElementsWritten lines es left
    → left ≡ codes "  - " ++ (own 4 ++ after) → IsWrittenAs own e → ElementsWritten lines (es ++ e ∷ []) after
one_written lines left after own es e so is new =
    let before_it = elements_after (edit_elements es) 2 in
    let members = members_at (edit_members e) 4 in
    record {
      written =
          so.written
          ∙ ap (λ bs. encode_utf8_all before_it ++ bs)
          (is ∙ ap (λ bs. codes "  - " ++ (bs ++ after)) (sym (new.written 4))
          ∙ ap (λ bs. bs ++ after) (sym (before (codes "  - ") members refl)))
          ∙ sym (append_assoc (encode_utf8_all before_it) (encode_utf8_all (codes "  - " ++ members)) after)
          ∙ ap (λ bs. bs ++ after) (sym (encodes-append before_it (codes "  - " ++ members)))
          ∙ ap (λ xs. encode_utf8_all xs ++ after) (sym (elements-one es e));
      are = are-one es e so.are new.is;
      small = small-one es e so.small new.small;
    }

-- all elements of a batch, and the end
pub batch_written : (elements : List ℕ) (es : List Edit) → (es ≡ [] → ⊥) → ElementsWritten elements es (codes "...\n")
    → IsWritten (codes "batch:\n" ++ elements) (batch es)
batch_written elements es some so =
    let lines = elements_after (edit_elements es) 2 in
    record {
      written =
          ap (λ bs. codes "batch:\n" ++ bs) so.written
          ∙ ap (λ bs. bs ++ codes "...\n") (sym (before (codes "batch:\n") lines refl))
          ∙ sym (after (codes "batch:\n" ++ lines) (codes "...\n") refl)
          ∙ ap (λ xs. encode_utf8_all (xs ++ codes "...\n")) (edit_lines es some);
      is = so.are;
      small = so.small;
    }

-- ---- the whole

-- the line of a number and the lines of a command make its record
whole_record : (bytes lines : List ℕ) (command : Command) (number : ℕ) → number ≤ count_limit
    → bytes ≡ codes "---\nat: \"" ++ (encode_utf8_all (decimal number) ++ (codes "\"\n" ++ lines))
    → lines ≡ encode_utf8_all (members_after (command_members command) 0 ++ codes "...\n") → bytes ≡ record_bytes command number
unfolding record_bytes record_text
whole_record bytes lines command number small is follows =
    let ds = decimal number in
    let ms = members_after (command_members command) 0 in
    let ends = ms ++ codes "...\n" in
    let all = (decimal_is_IsNumeral number (omega arith)).0.1 in
    is
    ∙ ap (λ bs. codes "---\nat: \"" ++ (encode_utf8_all ds ++ bs))
    (ap (λ bs. codes "\"\n" ++ bs) follows ∙ sym (before (codes "\"\n") ends refl))
    ∙ ap (λ bs. codes "---\nat: \"" ++ bs) (sym (encodes-append ds (codes "\"\n" ++ ends)))
    ∙ sym (before (codes "---\nat: \"") (ds ++ (codes "\"\n" ++ ends)) refl)
    ∙ ap (λ xs. encode_utf8_all (codes "---\nat: \"" ++ xs)) (sym (append_assoc ds (codes "\"\n" ++ ms) (codes "...\n")))
    ∙ ap (λ xs. encode_utf8_all (codes "---\nat: \"" ++ (xs ++ codes "...\n"))) (sym (append_assoc ds (codes "\"\n") ms))
    ∙ ap (λ xs. encode_utf8_all (codes "---\n" ++ (xs ++ ms) ++ codes "...\n")) (number_line ds all)

-- a record of so many bytes fits
short_fits : (bytes : List ℕ) (command : Command) (number : ℕ) → bytes ≡ record_bytes command number
    → length bytes ≤ record_limit → FitsRecord command number
unfolding record_bytes
short_fits bytes (single edit) number is short = tt
short_fits bytes (batch edits) number is short =
    let counted = byte_len-encoded (record_text (batch edits) number) in
    let same = ap length is in
    omega (arith, counted, same)
short_fits bytes (noted command about) number is short =
    let counted = byte_len-encoded (record_text (noted command about) number) in
    let same = ap length is in
    omega (arith, counted, same)

-- bytes with the lines of a command after the number are its record
pub follows_is : ((command : Command) (number : ℕ) → IsCommand command → IsSmallCommand command → number ≤ count_limit
    → FitsRecord command number → ReadsRecord (record_text command number) command number)
    → (bytes : List ℕ) (number : ℕ) (lines : List ℕ) (command : Command) → FollowsNumber bytes number lines
    → IsWritten lines command → IsRecord bytes command number
follows_is small bytes number lines command follows written =
    let same = whole_record bytes lines command number follows.small follows.is written.written in
    let fits = short_fits bytes command number same follows.short in
    subst (λ bs. IsRecord bs command number) (sym same)
    (record_is command command number number (small command number written.is written.small follows.small fits))
