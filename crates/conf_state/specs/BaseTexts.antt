-- The base text of a state: one document that holds all of it.
use Rattle.std.specs.Prelude.{ℕ, ◌+◌, ◌==◌, if◌then◌else◌, length, List, [], ◌∷◌, ◌++◌, codes, decimal, encode_utf8_all}
use Rattle.conf_state.specs.Prelude.{byte_len, spaces, Tree, text, mapping, Members, no_member, member, style_text, key_lines, value_at}
use Rattle.conf_state.specs.States.{Entry, Contents}

-- the configurations as a mapping of names to trees
abbrev pub members : List Entry → Members
members [] = no_member
members (e ∷ es) = member e.0 e.1 (members es)

-- the mapping of a base text
abbrev pub base_tree : Contents → Tree
base_tree s =
    mapping (member (codes "store") (text (codes "confstore-2"))
    (member (codes "at") (text (decimal s.count))
    (member (codes "configs") (mapping (members s.configs)) no_member)))

-- a document in the one style, between its first line and the line that closes it
abbrev pub closed_document : Tree → List ℕ
closed_document t = codes "---\n" ++ style_text t ++ codes "...\n"

unfoldable pub base_text : Contents → List ℕ
base_text s = closed_document (base_tree s)

-- the same in UTF-8
unfoldable pub base_bytes : Contents → List ℕ
base_bytes s = encode_utf8_all (base_text s)

-- its bytes
unfoldable pub base_length : Contents → ℕ
base_length s = byte_len (base_text s)

-- ---- the same, counted part by part

-- a configuration in a base text: its name and its tree, at the indentation 2
abbrev pub entry_lines : List ℕ → Tree → List ℕ
entry_lines name t = spaces 2 ++ key_lines 2 name ++ value_at t 2

unfoldable pub entry_length : List ℕ → Tree → ℕ
entry_length name t = byte_len (entry_lines name t)

abbrev pub entries_length : List Entry → ℕ
entries_length [] = 0
entries_length (e ∷ es) = entry_length e.0 e.1 + entries_length es

-- what is around the configurations has 42 bytes and the digits of the count, and 4 bytes more for none of them, or 1
abbrev pub framed_length : ℕ → ℕ → ℕ
framed_length count entries = 42 + length (decimal count) + (if entries == 0 then 4 else 1 + entries)
