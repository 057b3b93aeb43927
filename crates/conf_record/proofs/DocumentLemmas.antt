-- What is written reads back, bytes are one document at most, and where documents close.
use Rattle.std.{proofs.{Common.{◌≡◌, refl, sym, ◌∙◌, ap, subst, arith, ◌≤◌, take-append-drop}, lemmas.Option.same_Some}, specs.Prelude.ℕ}
use Rattle.std.specs.Prelude.{◌+◌, true, List, [], ◌∷◌, ◌++◌, length, take, drop, replicate, map, encode_utf8_all}
use Rattle.conf_record.proofs.Prelude.{concat, chars, IsUtf8, all_scalars, and_parts, and_from, nat_tests, chars-encodes, code_point}
use Rattle.conf_record.proofs.Prelude.{IsText, byte_len, Pieces, Tree, Limits, own_limits, IsRead, byte_len-chars, framed_text_bytes}
use Rattle.conf_record.proofs.Prelude.{all_framed_bytes, TornInPieces, TornPieces, Command, Contents, base_limit, IsState}
use lib.Utf8.{scalar}
use Rattle.conf_record.specs.{Records.{record_tree, record_text, record_bytes}, RecordsRead.{record_of, base_of, ReadsRecord, ReadsBase}}
use Rattle.conf_record.specs.Documents.{IsRecord, IsBase, record_pieces, records_bytes, OneBase, OneRecord, RecordsTear}
use Rattle.conf_record.proofs.{RecordLemmas.framed_document, FormatLemmas.{bytes_in, length_in}}
use Rattle.conf_record.specs.{Formats.{base_in, base_text_in}, declared.format.Format.Format}

-- ---- texts as bytes

text_scalars : (cs : List ℕ) → IsText cs → all_scalars cs ≡ true
text_scalars [] is = refl
text_scalars (c ∷ cs) is =
    let parts = and_parts _ _ is in
    and_from _ _ (one c parts.0) (text_scalars cs parts.1)
  where
    one : (c : ℕ) → code_point c ≡ true → scalar c ≡ true
    one c e = grind (arith, nat_tests)

text_utf8 : (cs : List ℕ) → IsText cs → IsUtf8 (encode_utf8_all cs)
text_utf8 cs is = (cs, (text_scalars cs is, refl))

text_chars : (cs : List ℕ) → IsText cs → chars (encode_utf8_all cs) ≡ cs
text_chars cs is = chars-encodes cs (text_scalars cs is)

-- bytes of a record's text are that record
pub record_is : (command other : Command) (n number : ℕ) → ReadsRecord (record_text command n) other number
    → IsRecord (record_bytes command n) other number
unfolding record_bytes
record_is command other n number reads = record {
  utf8 = text_utf8 (record_text command n) reads.gives.reads.source;
  reads = subst (λ cs. ReadsRecord cs other number) (sym (text_chars (record_text command n) reads.gives.reads.source)) reads;
}

-- bytes of a base's text are that base
pub base_is : (format : Format) (s other : Contents) → ReadsBase (base_text_in format s) other → IsBase (base_in format s) other
base_is format s other reads =
    let text = base_text_in format s in
    let is : IsBase (encode_utf8_all text) other = record {
      utf8 = text_utf8 text reads.gives.reads.source;
      reads = subst (λ cs. ReadsBase cs other) (sym (text_chars text reads.gives.reads.source)) reads;
    } in
    subst (λ bytes. IsBase bytes other) (sym (bytes_in format s)) is

-- ---- one document at most

-- bytes give one tree at most
abbrev pub BytesGiveOne : Type 0
BytesGiveOne = (bytes : List ℕ) (limits : Limits) (t u : Tree) → IsRead bytes limits t → IsRead bytes limits u → t ≡ u

module _ (give_one : BytesGiveOne) where
  -- bytes hold one base at most
  pub one_base : OneBase
  one_base bytes s other first second =
      let same = give_one bytes own_limits first.reads.tree second.reads.tree
      (record { utf8 = first.utf8; gives = first.reads.gives }) (record { utf8 = second.utf8; gives = second.reads.gives }) in
      same_Some other s (sym second.reads.tells ∙ sym (ap base_of same) ∙ first.reads.tells)

  -- bytes hold one record at most
  pub one_record : OneRecord
  one_record bytes command other number another first second =
      let same = give_one bytes own_limits first.reads.tree second.reads.tree
      (record { utf8 = first.utf8; gives = first.reads.gives }) (record { utf8 = second.utf8; gives = second.reads.gives }) in
      let pair = same_Some (other, another) (command, number) (sym second.reads.tells ∙ sym (ap record_of same) ∙ first.reads.tells) in
      (ap (λ p. p.0) pair, ap (λ p. p.1) pair)

-- ---- closings

-- a record's bytes are those of its tree between `---` and `...`
pub record_framed : (command : Command) (number : ℕ) → framed_text_bytes (record_tree command number) ≡ record_bytes command number
unfolding record_bytes record_text
record_framed command number = ap encode_utf8_all (framed_document (record_tree command number))

-- the trees of consecutive records
abbrev trees : ℕ → List Command → List Tree
trees count [] = []
trees count (command ∷ commands) = record_tree command (count + 1) ∷ trees (count + 1) commands

trees_pieces : (count : ℕ) (commands : List Command) → map framed_text_bytes (trees count commands) ≡ record_pieces count commands
trees_pieces count [] = refl
trees_pieces count (command ∷ commands) = λ i. record_framed command (count + 1) i ∷ trees_pieces (count + 1) commands i

-- the first of them are the records of the first commands
first_pieces : (count : ℕ) (commands : List Command) (whole further : List Tree) → trees count commands ≡ whole ++ further
    → map framed_text_bytes whole ≡ record_pieces count (take (length whole) commands)
first_pieces count commands [] further e = refl
first_pieces count [] (t ∷ ts) further e = absurd (cc e)
first_pieces count (command ∷ commands) (t ∷ ts) further e =
    let one : record_tree command (count + 1) ≡ t = cc e in
    let more : trees (count + 1) commands ≡ ts ++ further = cc e in
    let here = ap framed_text_bytes (sym one) ∙ record_framed command (count + 1) in
    let rest = first_pieces (count + 1) commands ts further more in
    λ i. here i ∷ rest i

-- records that a crash has cut are pieces, by the law on cut trees
pub records_tear : TornInPieces → RecordsTear
records_tear torn count commands kept zeros =
    let ts = trees count commands in
    let all : all_framed_bytes ts ≡ records_bytes count commands = ap concat (trees_pieces count commands) in
    let bytes = records_bytes count commands in
    let t : TornPieces ts (take kept bytes) zeros =
    torn ts (take kept bytes) (drop kept bytes) zeros (all ∙ sym (take-append-drop kept bytes)) in
    record {
      whole = length t.whole;
      rest = t.kept ++ replicate zeros 0;
      pieces = subst (λ ps. Pieces (take kept bytes ++ replicate zeros 0) ps (t.kept ++ replicate zeros 0))
          (first_pieces count commands t.whole t.further t.all) t.pieces;
    }

-- ---- the length of a base

-- the bytes of a state's base keep the limit
pub base_fits : (format : Format) (s : Contents) → IsState s → ReadsBase (base_text_in format s) s → length (base_in format s) ≤ base_limit
base_fits format s kept reads =
    let cs = base_text_in format s in
    let long = length_in format s in
    let bytes = ap length (bytes_in format s) in
    let size : byte_len (chars (encode_utf8_all cs)) ≡ length (encode_utf8_all cs) =
    byte_len-chars (encode_utf8_all cs) (text_utf8 cs reads.gives.reads.source) in
    let same : byte_len (chars (encode_utf8_all cs)) ≡ byte_len cs = ap byte_len (text_chars cs reads.gives.reads.source) in
    let short = kept.short in
    omega (arith, size, same, short, long, bytes)
