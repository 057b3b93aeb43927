-- What is read as a record or a base of the first format, and today as the same.
use Rattle.std.proofs.Common.{◌≡◌, ℕ, Bool, true, false, ◌&&◌, if◌then◌else◌, List, [], ◌∷◌, codes, Option, Some, None, option_map, refl}
use Rattle.std.proofs.Common.{ap, ap₂, sym, subst}
use Rattle.conf_store.proofs.Prelude.{and_parts, same_text, Tree, text, sequence, mapping, Members, no_member, member, good_name, Edit}
use Rattle.conf_store.proofs.Prelude.{Command, single, name_of, Contents, keys_are, values, number_from_digits, entries, base_keys}
use Rattle.conf_store.proofs.Prelude.{import_keys, set_keys, delete_keys, has_good_path, if_good, import_of, set_of, delete_of, with_number}
use Rattle.conf_store.proofs.Prelude.{is_about, about_in, without_about, plain_from, with_about, command_from, numbered_of, record_of}
use Rattle.conf_store.proofs.{Prelude.{contents_of, base_of, same_text-true}, FirstStepLemmas.as_edit}
use Rattle.conf_store.specs.First as first

-- a mapping with more keys than one is no batch
not_batch : (k l : List ℕ) (ls : List (List ℕ)) (ms : Members) → keys_are (k ∷ l ∷ ls) ms ≡ true → keys_are (codes "batch" ∷ []) ms ≡ false
not_batch k l ls no_member is = cc
not_batch k l ls (member key t no_member) is = let more = (and_parts (same_text key k) false is).1 in cc
not_batch k l ls (member key t (member other u ms)) is = by (same_text key (codes "batch"))
  where
    by : (b : Bool) → (b && false) ≡ false
    by true = refl
    by false = refl

some_same : {A : Type 0} (x y : A) → Some x ≡ Some y → x ≡ y
some_same x y e = cc

pair_as : (c d : first.Command) (k n : ℕ) → ◌≡◌ {A = Option (first.Command × ℕ)} (Some (c, k)) (Some (d, n))
    → ◌≡◌ {A = Option (Command × ℕ)} (Some (single (as_edit c), k)) (Some (single (as_edit d), n))
pair_as c d k n e = ap (λ (p : first.Command × ℕ). Some (single (as_edit p.0), p.1)) (some_same (c, k) (d, n) e)

-- a command that is read by the old rules, with its number
numbered : (c d : first.Command) (digits : List ℕ) (n : ℕ) (o : Option Edit) → o ≡ Some (as_edit c)
    → has_good_path (as_edit c) ≡ first.has_good_path c → name_of (as_edit c) ≡ first.name_of c
    → first.command_with_number c digits ≡ Some (d, n) → with_number (option_map single (if_good o)) digits ≡ Some (single (as_edit d), n)
numbered c d digits n o is path name read =
    by (good_name (first.name_of c) && first.has_good_path c) refl (number_from_digits digits) refl read
  where
    by : (b : Bool) → (good_name (first.name_of c) && first.has_good_path c) ≡ b → (m : Option ℕ) → number_from_digits digits ≡ m
        → (if b then option_map {U = first.Command × ℕ} (λ number. (c, number)) m else None) ≡ Some (d, n)
        → with_number (option_map single (if_good o)) digits ≡ Some (single (as_edit d), n)
    by false good m told e = cc
    by true good None told e = let none : (◌≡◌ {A = Option (first.Command × ℕ)} None (Some (d, n))) = e in cc
    by true good (Some k) told e =
        let same : (◌≡◌ {A = Option (first.Command × ℕ)} (Some (c, k)) (Some (d, n))) = e in
        rw (is, name, path, good, told) (pair_as c d k n same)

import-more : (t : Tree) (ts : List Tree) (d : first.Command) (n : ℕ) → first.import_of (t ∷ ts) ≡ Some (d, n)
    → (digits : List ℕ) × (t ≡ text digits) × (with_number (option_map single (if_good (import_of ts))) digits
    ≡ Some (single (as_edit d), n))
import-more (text digits) (text name ∷ tree ∷ []) d n is =
    (digits, refl, numbered (first.import_as name tree) d digits n _ refl refl refl is)
import-more (text digits) [] d n is = cc
import-more (text digits) (text name ∷ []) d n is = cc
import-more (text digits) (text name ∷ tree ∷ u ∷ us) d n is = cc
import-more (text digits) (sequence s ∷ us) d n is = cc
import-more (text digits) (mapping s ∷ us) d n is = cc
import-more (sequence s) us d n is = cc
import-more (mapping s) us d n is = cc

set-more : (t : Tree) (ts : List Tree) (d : first.Command) (n : ℕ) → first.set_of (t ∷ ts) ≡ Some (d, n)
    → (digits : List ℕ) × (t ≡ text digits) × (with_number (option_map single (if_good (set_of ts))) digits ≡ Some (single (as_edit d), n))
set-more (text digits) (text name ∷ text path ∷ value ∷ []) d n is =
    (digits, refl, numbered (first.set_at name path value) d digits n _ refl refl refl is)
set-more (text digits) [] d n is = cc
set-more (text digits) (text name ∷ []) d n is = cc
set-more (text digits) (text name ∷ text path ∷ []) d n is = cc
set-more (text digits) (text name ∷ text path ∷ value ∷ u ∷ us) d n is = cc
set-more (text digits) (text name ∷ sequence s ∷ us) d n is = cc
set-more (text digits) (text name ∷ mapping s ∷ us) d n is = cc
set-more (text digits) (sequence s ∷ us) d n is = cc
set-more (text digits) (mapping s ∷ us) d n is = cc
set-more (sequence s) us d n is = cc
set-more (mapping s) us d n is = cc

delete-more : (t : Tree) (ts : List Tree) (d : first.Command) (n : ℕ) → first.delete_of (t ∷ ts) ≡ Some (d, n)
    → (digits : List ℕ) × (t ≡ text digits) × (with_number (option_map single (if_good (delete_of ts))) digits
    ≡ Some (single (as_edit d), n))
delete-more (text digits) (text name ∷ text path ∷ []) d n is =
    (digits, refl, numbered (first.delete_at name path) d digits n _ refl refl refl is)
delete-more (text digits) [] d n is = cc
delete-more (text digits) (text name ∷ []) d n is = cc
delete-more (text digits) (text name ∷ text path ∷ u ∷ us) d n is = cc
delete-more (text digits) (text name ∷ sequence s ∷ us) d n is = cc
delete-more (text digits) (text name ∷ mapping s ∷ us) d n is = cc
delete-more (text digits) (sequence s ∷ us) d n is = cc
delete-more (text digits) (mapping s ∷ us) d n is = cc
delete-more (sequence s) us d n is = cc
delete-more (mapping s) us d n is = cc

-- a member under another key is no about
other-key : (key wanted : List ℕ) (t : Tree) → same_text key wanted ≡ true → same_text wanted (codes "about") ≡ false
    → is_about key t ≡ false
other-key key wanted t same other = rw (same_text-true key wanted same, other) refl

-- the members end with no about
record IsWhole (ms : Members) : Type 0 where
  none : about_in ms ≡ None
  same : without_about ms ≡ ms

whole-read : (ms : Members) → IsWhole ms → command_from ms ≡ plain_from ms
whole-read ms whole = ap₂ (λ about left. with_about about (plain_from left)) whole.none whole.same

-- the members of a command of the first format are such
import-whole : (ms : Members) → keys_are import_keys ms ≡ true → IsWhole ms
import-whole no_member e = cc
import-whole (member key t no_member) e = let more = (and_parts (same_text key (codes "import")) false e).1 in cc
import-whole (member key t (member other u no_member)) e =
    let more = (and_parts (same_text key (codes "import")) (same_text other (codes "tree") && true) e).1 in
    let last = (and_parts (same_text other (codes "tree")) true more).0 in
    let other-one = other-key other (codes "tree") u last refl in record { none = rw other-one refl; same = rw other-one refl }
import-whole (member key t (member other u (member another v ms))) e =
    let more = (and_parts (same_text key (codes "import")) (same_text other (codes "tree") && false) e).1 in
    let none = (and_parts (same_text other (codes "tree")) false more).1 in cc

delete-whole : (ms : Members) → keys_are delete_keys ms ≡ true → IsWhole ms
delete-whole no_member e = cc
delete-whole (member key t no_member) e = let more = (and_parts (same_text key (codes "delete")) false e).1 in cc
delete-whole (member key t (member other u no_member)) e =
    let more = (and_parts (same_text key (codes "delete")) (same_text other (codes "path") && true) e).1 in
    let last = (and_parts (same_text other (codes "path")) true more).0 in
    let other-one = other-key other (codes "path") u last refl in record { none = rw other-one refl; same = rw other-one refl }
delete-whole (member key t (member other u (member another v ms))) e =
    let more = (and_parts (same_text key (codes "delete")) (same_text other (codes "path") && false) e).1 in
    let none = (and_parts (same_text other (codes "path")) false more).1 in cc

set-whole : (ms : Members) → keys_are set_keys ms ≡ true → IsWhole ms
set-whole no_member e = cc
set-whole (member key t no_member) e = let more = (and_parts (same_text key (codes "set")) false e).1 in cc
set-whole (member key t (member other u no_member)) e =
    let more = (and_parts (same_text key (codes "set")) (same_text other (codes "path") && false) e).1 in
    let none = (and_parts (same_text other (codes "path")) false more).1 in cc
set-whole (member key t (member other u (member another v no_member))) e =
    let more = (and_parts (same_text key (codes "set"))
    (same_text other (codes "path") && (same_text another (codes "value") && true)) e).1 in
    let most = (and_parts (same_text other (codes "path")) (same_text another (codes "value") && true) more).1 in
    let last = (and_parts (same_text another (codes "value")) true most).0 in
    let other-one = other-key another (codes "value") v last refl in record { none = rw other-one refl; same = rw other-one refl }
set-whole (member key t (member other u (member another v (member further w ms)))) e =
    let more = (and_parts (same_text key (codes "set"))
    (same_text other (codes "path") && (same_text another (codes "value") && false)) e).1 in
    let most = (and_parts (same_text other (codes "path")) (same_text another (codes "value") && false) more).1 in
    let none = (and_parts (same_text another (codes "value")) false most).1 in cc

pub record-more : (t : Tree) (d : first.Command) (n : ℕ) → first.record_of t ≡ Some (d, n) → record_of t ≡ Some (single (as_edit d), n)
unfolding record_of first.record_of
record-more (text value) d n is = cc
record-more (sequence ts) d n is = cc
record-more (mapping no_member) d n is = cc
record-more (mapping (member key t ms)) d n is =
    by (same_text key (codes "at")) refl (keys_are import_keys ms) refl (keys_are set_keys ms) refl (keys_are delete_keys ms) refl is
  where
    by : (a : Bool) → same_text key (codes "at") ≡ a → (i : Bool) → keys_are import_keys ms ≡ i → (s : Bool)
        → keys_are set_keys ms ≡ s → (x : Bool) → keys_are delete_keys ms ≡ x
        → (if a && i then first.import_of (t ∷ values ms) else if a && s then first.set_of (t ∷ values ms)
        else if a && x then first.delete_of (t ∷ values ms) else None) ≡ Some (d, n)
        → numbered_of key t ms ≡ Some (single (as_edit d), n)
    by false at i im s se x de e = cc
    by true at true im s se x de e =
        let m = import-more t (values ms) d n e in
        subst (λ u. numbered_of key u ms ≡ Some (single (as_edit d), n)) (sym m.1)
        (rw (at, whole-read ms (import-whole ms im), not_batch (codes "import") (codes "tree") [] ms im, im) m.2)
    by true at false im true se x de e =
        let m = set-more t (values ms) d n e in
        subst (λ u. numbered_of key u ms ≡ Some (single (as_edit d), n)) (sym m.1)
        (rw (at, whole-read ms (set-whole ms se), not_batch (codes "set") (codes "path") (codes "value" ∷ []) ms se, im, se) m.2)
    by true at false im false se true de e =
        let m = delete-more t (values ms) d n e in
        subst (λ u. numbered_of key u ms ≡ Some (single (as_edit d), n)) (sym m.1)
        (rw (at, whole-read ms (delete-whole ms de), not_batch (codes "delete") (codes "path") [] ms de, im, se, de) m.2)
    by true at false im false se false de e = cc

contents-more : (ts : List Tree) (s : Contents) → first.contents_of ts ≡ Some s → contents_of ts ≡ Some s
contents-more (text mark ∷ text digits ∷ mapping configs ∷ []) s is = by (same_text mark (codes "confstore-1")) refl is
  where
    by : (b : Bool) → same_text mark (codes "confstore-1") ≡ b
        → (if b then option_map {U = Contents} (λ number. record { configs = entries configs; count = number })
        (number_from_digits digits) else None) ≡ Some s
        → contents_of (text mark ∷ text digits ∷ mapping configs ∷ []) ≡ Some s
    by true mark_is e = rw mark_is e
    by false mark_is e = cc
contents-more [] s is = cc
contents-more (text mark ∷ []) s is = cc
contents-more (text mark ∷ text digits ∷ []) s is = cc
contents-more (text mark ∷ text digits ∷ mapping configs ∷ u ∷ us) s is = cc
contents-more (text mark ∷ text digits ∷ text v ∷ us) s is = cc
contents-more (text mark ∷ text digits ∷ sequence v ∷ us) s is = cc
contents-more (text mark ∷ sequence v ∷ us) s is = cc
contents-more (text mark ∷ mapping v ∷ us) s is = cc
contents-more (sequence v ∷ us) s is = cc
contents-more (mapping v ∷ us) s is = cc

pub base-more : (t : Tree) (s : Contents) → first.base_of t ≡ Some s → base_of t ≡ Some s
unfolding base_of first.base_of
base-more (text value) s is = cc
base-more (sequence ts) s is = cc
base-more (mapping ms) s is = by (keys_are base_keys ms) is
  where
    by : (b : Bool) → (if b then first.contents_of (values ms) else None) ≡ Some s → (if b then contents_of (values ms) else None) ≡ Some s
    by true e = contents-more (values ms) s e
    by false e = cc
