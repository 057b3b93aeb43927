-- Texts that are appended one after the other.
use Rattle.std.{specs.Prelude.{ℕ, List, [], ◌++◌, String, string_bytes, encode_utf8_all}, proofs.Common.{sym, ap, ◌∙◌, subst, append-nil}}
use Rattle.std.proofs.{Common.{append_assoc, arith, length-append}, lemmas.Str.encodes-append}
use Rattle.conf_store.specs.{Prelude.Global, Room.AppendsWithin}

pub AppendsWithin-none : (s : String Global) → AppendsWithin s [] s
AppendsWithin-none s = record {
  room = omega arith;
  long = λ fits. omega arith;
  bytes = λ fits. sym (append-nil (string_bytes s));
}

pub AppendsWithin-joined : (a b c : String Global) (xs ys : List ℕ) → AppendsWithin a xs b → AppendsWithin b ys c
    → AppendsWithin a (xs ++ ys) c
AppendsWithin-joined a b c xs ys first second =
    let both = length-append xs ys in
    record {
      room = (let one = first.room in let two = second.room in omega (arith, one, two));
      long = λ fits. (let one = first.long (omega (arith, fits, both)) in let room = first.room in
          let two = second.long (omega (arith, fits, both, one, room)) in omega (arith, one, two, both));
      bytes = λ fits. (let one = first.long (omega (arith, fits, both)) in let room = first.room in
          second.bytes (omega (arith, fits, both, one, room))
          ∙ ap (λ bs. bs ++ ys) (first.bytes (omega (arith, fits, both))) ∙ append_assoc (string_bytes a) xs ys);
    }

pub AppendsWithin-both : (a b c : String Global) (xs ys : List ℕ) → AppendsWithin a (encode_utf8_all xs) b
    → AppendsWithin b (encode_utf8_all ys) c
    → AppendsWithin a (encode_utf8_all (xs ++ ys)) c
AppendsWithin-both a b c xs ys first second =
    subst (λ bs. AppendsWithin a bs c) (sym (encodes-append xs ys))
    (AppendsWithin-joined a b c (encode_utf8_all xs) (encode_utf8_all ys) first second)
