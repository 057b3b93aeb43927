-- The keys of a mapping, or the indexes of a sequence, a line each.
use Rattle.std.specs.Prelude.{◌≡◌, ℕ, ◌+◌, Bool, not, ◌&&◌, ◌==◌, if◌then◌else◌, List, [], ◌++◌, codes, decimal, encode_utf8_all}
use Rattle.yaml_forms.specs.Prelude.{list_all, double_quote, first, Tree, text, sequence, mapping, Elements, no_element, element, Members}
use Rattle.yaml_forms.specs.{Prelude.{no_member, member, shown, in_double_quotes}, declared.keys_fault.KeysFault.KeysFault}
use Rattle.yaml_forms.specs.declared.keys_fault.KeysFault.TheVariants.{NotCollection, OutOfMemory}

-- the key is a line as it is: it begins with something else than `"`, and each of its characters is shown as itself
abbrev pub stands_in_line : List ℕ → Bool
stands_in_line key = first (λ c. not (c == double_quote)) key && list_all shown key

-- the key as it is, or in double quotes as the one style writes it
abbrev pub key_in_line : List ℕ → List ℕ
key_in_line key = if stands_in_line key then key else in_double_quotes key

-- the keys, with a line feed after each
abbrev pub member_lines : Members → List ℕ
member_lines no_member = []
member_lines (member key t ms) = key_in_line key ++ codes "\n" ++ member_lines ms

-- the indexes in decimal digits, with a line feed after each; the first element has the index i
abbrev pub index_lines : ℕ → Elements → List ℕ
index_lines i no_element = []
index_lines i (element t ts) = decimal i ++ codes "\n" ++ index_lines (i + 1) ts

-- the tree is a collection, and the bytes are the lines of its keys or indexes in UTF-8
abbrev pub HasKeys : Tree → List ℕ → Type 0
HasKeys (text value) bytes = ⊥
HasKeys (sequence ts) bytes = bytes ≡ encode_utf8_all (index_lines 0 ts)
HasKeys (mapping ms) bytes = bytes ≡ encode_utf8_all (member_lines ms)

-- the fault of a tree whose keys aren't shown: a text has none, and memory may run out with a collection
abbrev pub LacksKeys : Tree → KeysFault → Type 0
LacksKeys (text value) NotCollection = Unit {0}
LacksKeys (text value) OutOfMemory = ⊥
LacksKeys (sequence ts) NotCollection = ⊥
LacksKeys (sequence ts) OutOfMemory = Unit {0}
LacksKeys (mapping ms) NotCollection = ⊥
LacksKeys (mapping ms) OutOfMemory = Unit {0}
