-- Records: the documents that hold commands, each with the number under which it was accepted.
use Rattle.std.specs.Prelude.{◌≤◌, ℕ, List, [], ◌∷◌, codes, decimal, encode_utf8_all}
use Rattle.conf_record.specs.Prelude.{byte_len, Tree, text, sequence, mapping, Elements, no_element, element, Members, no_member, member}
use Rattle.conf_record.specs.Prelude.{Edit, import_as, set_at, delete_at, Command, single, batch, noted, closed_document, record_limit}

-- the members of an edit
abbrev pub edit_members : Edit → Members
edit_members (import_as name tree) = member (codes "import") (text name) (member (codes "tree") tree no_member)
edit_members (set_at name path value) =
    member (codes "set") (text name) (member (codes "path") (text path) (member (codes "value") value no_member))
edit_members (delete_at name path) =
    member (codes "delete") (text name) (member (codes "path") (text path) no_member)

-- a mapping for each edit
abbrev pub edit_elements : List Edit → Elements
edit_elements [] = no_element
edit_elements (edit ∷ edits) = element (mapping (edit_members edit)) (edit_elements edits)

-- members with one more at the end
abbrev pub with_last : Members → List ℕ → Tree → Members
with_last no_member key t = member key t no_member
with_last (member other u ms) key t = member other u (with_last ms key t)

-- what comes after the number; an about comes last
abbrev pub command_members : Command → Members
command_members (single edit) = edit_members edit
command_members (batch edits) = member (codes "batch") (sequence (edit_elements edits)) no_member
command_members (noted command about) = with_last (command_members command) (codes "about") about

-- the mapping of a record
abbrev pub record_tree : Command → ℕ → Tree
record_tree command number = mapping (member (codes "at") (text (decimal number)) (command_members command))

-- the record of a command under a number
unfoldable pub record_text : Command → ℕ → List ℕ
record_text command number = closed_document (record_tree command number)

-- the same in UTF-8
unfoldable pub record_bytes : Command → ℕ → List ℕ
record_bytes command number = encode_utf8_all (record_text command number)

-- the record of a batch, or of a command with an about, is not too long; that of a single edit never is
abbrev pub FitsRecord : Command → ℕ → Type 0
FitsRecord (single edit) number = Unit {0}
FitsRecord command number = byte_len (record_text command number) ≤ record_limit
