-- Keys of members, and keys that differ.
use Rattle.std.proofs.Common.{◌≡◌, ℕ, Bool, true, false, not, ◌&&◌, ◌||◌, List, [], ◌∷◌, ◌++◌, length, drop, Bor, refl, ap, ap₂, ◌∙◌}
use Rattle.std.proofs.Math.Seq.{drop-append_seam}
use Rattle.yaml_styled.proofs.Prelude.{chars, IsUtf8, same_text, Tree, Members, no_member, member, has_key, nothing, key_members}
use Rattle.yaml_styled.{proofs.Prelude.{keys_differ, text_bytes, same_text-Decides, same_bytes}, specs.{Parts.members_and, Names.named}}
use Rattle.{yaml_styled.specs.Names.keys_alone, yaml_data.specs.declared.text.Text.Text}

abbrev pub Key : Type 0
Key = Bor (List ℕ)

-- what stands for a key that is not there
abbrev pub no_key : Key
no_key = record { ref_ptr = (0, 0); now = [] }

-- ---- members without their values

has_key-alone : (key : List ℕ) (ms : Members) → has_key key (keys_alone ms) ≡ has_key key ms
has_key-alone key no_member = refl
has_key-alone key (member k t ms) = ap (λ b. same_text key k || b) (has_key-alone key ms)

pub keys_differ-alone : (ms : Members) → keys_differ (keys_alone ms) ≡ keys_differ ms
keys_differ-alone no_member = refl
keys_differ-alone (member key t ms) = ap₂ (λ a b. not a && b) (has_key-alone key ms) (keys_differ-alone ms)

pub keys_alone-and : (ms : Members) (key : List ℕ) (t : Tree)
    → keys_alone (members_and ms key t) ≡ members_and (keys_alone ms) key nothing
keys_alone-and no_member key t = refl
keys_alone-and (member k u ms) key t = ap (member k nothing) (keys_alone-and ms key t)

-- one key more
pub named-and : (keys : List Key) (key : Key) → named (keys ++ key ∷ []) ≡ members_and (named keys) (chars key.now) nothing
named-and [] key = refl
named-and (k ∷ keys) key = ap (member (chars k.now) nothing) (named-and keys key)

pub key_members-and : {A : Type 0} (ps : List (Text × A)) (p : Text × A)
    → key_members (ps ++ p ∷ []) ≡ members_and (key_members ps) (chars (text_bytes p.0)) nothing
key_members-and [] p = refl
key_members-and (q ∷ qs) p = ap (member (chars (text_bytes q.0)) nothing) (key_members-and qs p)

-- the keys after others are those that are left without them
pub own_keys : (all before own : List Key) (from : ℕ) → from ≡ length before → all ≡ before ++ own → drop from all ≡ own
own_keys all before own from e is = ap₂ drop e is ∙ drop-append_seam before own

-- texts of different lengths differ
pub other_length : (a b : List ℕ) → IsUtf8 a → IsUtf8 b → (length a ≡ length b → ⊥) → (same : Bool)
    → same_text (chars a) (chars b) ≡ same → false ≡ same
other_length a b utf8 utf8' other true e =
    absurd (other (ap length (same_bytes a b utf8 utf8' ((same_text-Decides (chars a) (chars b)).0 e))))
other_length a b utf8 utf8' other false e = refl
