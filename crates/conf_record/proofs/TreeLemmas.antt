-- What a tree is as a record or a base.
use Rattle.std.proofs.Common.{◌≡◌, refl, sym, ◌∙◌, ap, ap₂, subst, nat_lt, ℕ, Bool, true, false, List, [], ◌∷◌, codes, if◌then◌else◌}
use Rattle.std.proofs.{Common.{Option, Some, None, option_map, IfSome, IfNone}, lemmas.Option.{none-some, same_Some}}
use Rattle.conf_record.proofs.Prelude.{and_parts, list_all, chars, same_text, Tree, text, sequence, mapping, Members, member, own_limits}
use Rattle.conf_record.proofs.Prelude.{IsRead, Pair, members_of, Command, single, command_of, entries_of, IsState, Contents, ascii}
use Rattle.conf_record.{proofs.{DocumentLemmas.BytesGiveOne, PieceLemmas.Named}, specs.RecordsRead.{number_from_digits, keys_are, values}}
use Rattle.conf_record.specs.RecordsRead.{import_of, set_of, delete_of, edit_under, edit_from, batch_of, command_from, plain_from}
use Rattle.conf_record.specs.RecordsRead.{with_number, record_of, batch_keys, set_keys, delete_keys, base_keys, base_of, contents_of}
use Rattle.conf_record.specs.{Documents.{IsRecord, IsNoRecord, IsBase, IsNoBase}, Reading.{texts, is_text, command_and_number}}
use Rattle.conf_state.specs.declared.command.Command as code

-- ---- records

with_number-Some : (read : Option Command) (digits : List ℕ) (n : ℕ) → number_from_digits digits ≡ Some n
    → with_number read digits ≡ option_map (λ command. (command, n)) read
with_number-Some None digits n told = refl
with_number-Some (Some command) digits n told = ap (option_map (λ number. (command, number))) told

with_number-None : (read : Option Command) (digits : List ℕ) → number_from_digits digits ≡ None → with_number read digits ≡ None
with_number-None None digits told = refl
with_number-None (Some command) digits told = ap (option_map (λ number. (command, number))) told

-- a mapping that begins with a number is read by the members after it
pub record_numbered : (key digits : List ℕ) (ms : Members) (n : ℕ) → same_text key (codes "at") ≡ true → number_from_digits digits ≡ Some n
    → record_of (mapping (member key (text digits) ms)) ≡ option_map (λ command. (command, n)) (command_from ms)
unfolding record_of
record_numbered key digits ms n is told = rw is (with_number-Some (command_from ms) digits n told)

-- one with another first key is no record
pub record_other : (key : List ℕ) (t : Tree) (ms : Members) → same_text key (codes "at") ≡ false
    → record_of (mapping (member key t ms)) ≡ None
unfolding record_of
record_other key (text digits) ms other = rw other refl
record_other key (sequence ts) ms other = refl
record_other key (mapping ns) ms other = refl

-- nor is one with a first value that is no text
pub record_textless : (key : List ℕ) (t : Tree) (ms : Members) → is_text t ≡ false → record_of (mapping (member key t ms)) ≡ None
unfolding record_of
record_textless key (text value) ms e = cc
record_textless key (sequence ts) ms e = refl
record_textless key (mapping ns) ms e = refl

-- or no number
pub record_numberless : (key digits : List ℕ) (ms : Members) → number_from_digits digits ≡ None
    → record_of (mapping (member key (text digits) ms)) ≡ None
unfolding record_of
record_numberless key digits ms told = by (same_text key (codes "at"))
  where
    by : (b : Bool) → (if b then with_number (command_from ms) digits else None) ≡ None
    by true = with_number-None (command_from ms) digits told
    by false = refl

-- ---- edits and batches

-- members with the keys of a batch are read as one
pub plain_batch : (ms : Members) → keys_are batch_keys ms ≡ true → plain_from ms ≡ batch_of (values ms)
plain_batch ms e = rw e refl

-- others are read as an edit
pub plain_single : (ms : Members) → keys_are batch_keys ms ≡ false → plain_from ms ≡ option_map single (edit_from ms)
plain_single ms e = rw e refl

module _ (key : List ℕ) (ms : Members) where
  -- members with the keys of an import are read as one
  pub under_import : keys_are (codes "import" ∷ key ∷ []) ms ≡ true → edit_under key ms ≡ import_of (values ms)
  under_import e = rw e refl

  module _ (e : keys_are (codes "import" ∷ key ∷ []) ms ≡ false) where
    -- members with the keys of a set are read as one
    pub under_set : keys_are set_keys ms ≡ true → edit_under key ms ≡ set_of (values ms)
    under_set f = rw (e, f) refl

    -- members with the keys of a delete are read as one
    pub under_delete : keys_are set_keys ms ≡ false → keys_are delete_keys ms ≡ true → edit_under key ms ≡ delete_of (values ms)
    under_delete f g = rw (e, f, g) refl

    -- members with other keys are no edit
    pub under_none : keys_are set_keys ms ≡ false → keys_are delete_keys ms ≡ false → edit_under key ms ≡ None
    under_none f g = rw (e, f, g) refl

-- keys of ASCII are themselves as texts, by a test that computes
pub texts_ascii : (keys : List (List ℕ)) → list_all (list_all (λ c. nat_lt c 128)) keys ≡ true → texts keys ≡ keys
texts_ascii [] e = refl
texts_ascii (key ∷ keys) e =
    let parts = and_parts (list_all (λ c. nat_lt c 128) key) (list_all (list_all (λ c. nat_lt c 128)) keys) e in
    ap₂ (λ k ks. k ∷ ks) (ascii key parts.0) (texts_ascii keys parts.1)

-- the keys of an import as texts
pub import_texts : (key : List ℕ) → texts (codes "import" ∷ key ∷ []) ≡ codes "import" ∷ chars key ∷ []
import_texts key = λ i. ascii (codes "import") refl i ∷ chars key ∷ []

-- what a test of the keys has returned holds of the keys that were wanted
pub asked : (ks wanted : List (List ℕ)) (ps items : List Pair) (r b : Bool) → r ≡ keys_are ks (members_of ps)
    → ks ≡ wanted → ps ≡ items → r ≡ b
    → keys_are wanted (members_of items) ≡ b
asked ks wanted ps items r b e same here is =
    ap (λ x. keys_are x (members_of items)) (sym same) ∙ ap (λ x. keys_are ks (members_of x)) (sym here) ∙ sym e ∙ is

-- ---- bases

-- a mapping with the keys of a base is read as one
pub base_keyed : (ms : Members) → keys_are base_keys ms ≡ true → base_of (mapping ms) ≡ contents_of (values ms)
unfolding base_of
base_keyed ms e = rw e refl

-- a mapping with other keys is no base
pub base_other : (ms : Members) → keys_are base_keys ms ≡ false → base_of (mapping ms) ≡ None
unfolding base_of
base_other ms e = rw e refl

-- the state of these configurations and this count
abbrev pub state_of : List Named → ℕ → Contents
state_of configs count = record { configs = entries_of configs; count = count }

-- ---- documents, where bytes give one tree at most

module _ (give_one : BytesGiveOne) (bytes : List ℕ) (t : Tree) (is : IsRead bytes own_limits t) where
  same_as_record : (command : Command) (number : ℕ) (r : IsRecord bytes command number) → t ≡ r.reads.tree
  same_as_record command number r = give_one bytes own_limits t r.reads.tree is (record { utf8 = r.utf8; gives = r.reads.gives })

  same_as_base : (state : Contents) (r : IsBase bytes state) → t ≡ r.reads.tree
  same_as_base state r = give_one bytes own_limits t r.reads.tree is (record { utf8 = r.utf8; gives = r.reads.gives })

  -- a tree that is no record's was given by bytes that are none
  pub no_record : (read : Option (code.Command × ℕ)) → command_and_number read ≡ record_of t → IfNone read (IsNoRecord bytes)
  no_record None e = λ command number r.
      none-some (command, number) (e ∙ ap record_of (same_as_record command number r) ∙ r.reads.tells)
  no_record (Some r) e = tt

  -- bytes are the record that their tree is read as
  pub one_record : (read : Option (code.Command × ℕ)) → command_and_number read ≡ record_of t
      → IfSome read (λ r. IsRecord bytes (command_of r.0) r.1)
  one_record None e = tt
  one_record (Some r) e = record { utf8 = is.utf8; reads = record { tree = t; gives = is.gives; tells = sym e } }

  -- bytes whose tree is no base are none
  pub no_parts : None ≡ base_of t → IsNoBase bytes
  no_parts e = λ state r. none-some state (e ∙ ap base_of (same_as_base state r) ∙ r.reads.tells)

  module _ (configs : List Named) (count : ℕ) (parts : Some (state_of configs count) ≡ base_of t) where
    pub one_base : (read : Option Contents) → IfSome read (λ state. (state ≡ state_of configs count) × IsState state)
        → IfSome read (λ state. IsBase bytes state)
    one_base None e = tt
    one_base (Some s) e =
        record { utf8 = is.utf8; reads = record { tree = t; gives = is.gives; tells = sym parts ∙ ap Some (sym e.0); kept = e.1 } }

    pub no_base : (read : Option Contents) → IfNone read (IsState (state_of configs count) → ⊥) → IfNone read (IsNoBase bytes)
    no_base (Some s) never = tt
    no_base None never = λ state r.
        never (subst IsState (same_Some state (state_of configs count)
        (sym r.reads.tells ∙ sym (ap base_of (same_as_base state r)) ∙ sym parts)) r.reads.kept)
