-- Base texts in each format: their lines, their trees, their bytes and their length.
use Rattle.std.proofs.Common.{◌≡◌, ◌≤◌, ℕ, ◌+◌, Some, List, ◌++◌, codes, decimal, encode_utf8_all, refl, sym, ap, ◌∙◌, arith}
use Rattle.conf_record.proofs.Prelude.{value_at, text, mapping, members, base_text, base_bytes, base_tree, line, base_lines, Contents, Tree}
use Rattle.conf_record.proofs.Prelude.{byte_len, byte_len-append, framed_text_bytes, closed_document, base_length, count_limit, IsState}
use Rattle.conf_record.proofs.RecordLemmas.{FramedGood, framed_document, base_tells, third_tells, base_good, third_good}
use Rattle.conf_record.specs.{RecordsRead.base_of, Formats.{format_line, third_tree, third_text, third_bytes, base_text_in, base_in}}
use Rattle.conf_record.specs.declared.format.Format.{Format, TheVariants.{Second, Third}}

-- the lines of a base text: those of the frame, the format, the count and the configurations
pub lines_in : (format : Format) (s : Contents) → codes "---\n" ++ format_line format ++ line (codes "at") (text (decimal s.count))
    ++ codes "configs:" ++ value_at (mapping (members s.configs)) 0 ++ codes "...\n" ≡ base_text_in format s
unfolding base_text third_text
lines_in Second s =
    base_lines (codes "store: confstore-2\n") (line (codes "at") (text (decimal s.count))) (value_at (mapping (members s.configs)) 0)
lines_in Third s =
    base_lines (codes "store: confstore-3\n") (line (codes "at") (text (decimal s.count))) (value_at (mapping (members s.configs)) 0)

-- its bytes
pub bytes_in : (format : Format) (s : Contents) → base_in format s ≡ encode_utf8_all (base_text_in format s)
unfolding base_bytes third_bytes
bytes_in Second s = refl
bytes_in Third s = refl

-- its tree
abbrev pub tree_in : Format → Contents → Tree
tree_in Second s = base_tree s
tree_in Third s = third_tree s

pub text_in : (format : Format) (s : Contents) → base_text_in format s ≡ closed_document (tree_in format s)
unfolding base_text third_text
text_in Second s = refl
text_in Third s = refl

-- a base's bytes are those of its tree between `---` and `...`
pub framed_in : (format : Format) (s : Contents) → framed_text_bytes (tree_in format s) ≡ base_in format s
framed_in format s =
    ap encode_utf8_all (framed_document (tree_in format s) ∙ sym (text_in format s)) ∙ sym (bytes_in format s)

-- that tree is read as the state, and keeps the limits of a text that is read
pub tells_in : (format : Format) (s : Contents) → s.count ≤ count_limit → base_of (tree_in format s) ≡ Some s
tells_in Second s small = base_tells s small
tells_in Third s small = third_tells s small

pub good_in : (format : Format) (s : Contents) → IsState s → FramedGood (tree_in format s)
good_in Second s kept = base_good s kept
good_in Third s kept = third_good s kept

-- each format has as many bytes
pub length_in : (format : Format) (s : Contents) → byte_len (base_text_in format s) ≡ base_length s
unfolding base_length
length_in Second s = refl
length_in Third s =
    let rest = line (codes "at") (text (decimal s.count)) in
    let configs = value_at (mapping (members s.configs)) 0 in
    ap byte_len (sym (lines_in Third s)) ∙ same rest configs ∙ ap byte_len (lines_in Second s)
  where
    same : (rest configs : List ℕ)
        → byte_len (codes "---\n" ++ format_line Third ++ rest ++ codes "configs:" ++ configs ++ codes "...\n")
        ≡ byte_len (codes "---\n" ++ format_line Second ++ rest ++ codes "configs:" ++ configs ++ codes "...\n")
    same rest configs =
        let tail = rest ++ codes "configs:" ++ configs ++ codes "...\n" in
        byte_len-append (codes "---\nstore: confstore-3\n") tail ∙ sym (byte_len-append (codes "---\nstore: confstore-2\n") tail)
