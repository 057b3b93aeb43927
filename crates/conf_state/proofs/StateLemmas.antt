-- The limits of a state stay kept: at the start, and with each configuration put in or taken out.
use Rattle.std.proofs.Common.{◌≡◌, ℕ, ◌+◌, ◌<◌, ◌≤◌, true, List, [], String, Global, IsUtf8, Ok, ap, sym, subst, ◌∙◌, refl, arith}
use Rattle.conf_state.proofs.{Prelude.{length-decimal-le, chars, Good, config_limits}, BaseLemmas.base_length-framed}
use Rattle.conf_state.proofs.{CountLemmas.next_state-short, EntryLemmas.{cut_from-named, plain_cut_from}, LimitLemmas.names_differ-put}
use Rattle.conf_state.{proofs.LimitLemmas.{names_differ-cut, AreConfigs-put, AreConfigs-cut}, specs.{Configs.cut_from, Names.good_name}}
use Rattle.conf_state.specs.{Kept.{entries_of, ArePlain, IsKept}, Limits.{AreConfigs, IsState}, BaseTexts.entries_length, Steps.next_state}
use Rattle.conf_state.specs.{declared.room.Room.Room, States.{Entry, Contents, names_of, names_differ, put_config, cut_config, count_limit}}
use Rattle.yaml_data.specs.declared.tree.Tree.{Tree}
use Rattle.yaml_grammar.specs.Trees as grammar

-- a state without configurations keeps its limits
pub kept_nothing : (count : ℕ) → count ≤ count_limit → IsKept [] count 0
kept_nothing count numbered = record {
  plain = tt;
  state = record {
    configs = tt;
    distinct = refl;
    short = omega (arith, base_length-framed count [] (omega arith), length-decimal-le 20 count (omega arith) (omega arith) (omega arith));
    numbered = numbered;
  };
  counted = refl;
}

-- so does an empty one
pub kept_empty : IsKept [] 0 0
kept_empty = kept_nothing 0 (omega arith)

module _ (es : List (String Global × Tree)) (count bytes : ℕ) (kept : IsKept es count bytes) (below : count < count_limit) where
  -- with other configurations
  module _ (configs : List Entry) (all : AreConfigs configs) (distinct : names_differ (names_of configs) ≡ true)
      (room : Room) (after : Contents)
      (ok : next_state (record { configs = entries_of es; count = count }) room configs ≡ Ok after) where
    pub kept_new : (new : List (String Global × Tree)) (length : ℕ) → ArePlain new → entries_of new ≡ configs
        → length ≡ entries_length configs → IsKept new (count + 1) length
    kept_new new length plain seen counts = record {
      plain = plain;
      state = subst (λ cs. IsState (record { configs = cs; count = count + 1 })) (sym seen) (record {
        configs = all;
        distinct = distinct;
        short = next_state-short (record { configs = entries_of es; count = count }) room configs after ok;
        numbered = omega arith;
      });
      counted = counts ∙ ap entries_length (sym seen);
    }

  -- with a configuration put in, or changed in its place
  module _ (name : List ℕ) (t : grammar.Tree) (named : good_name name ≡ true) (good : Good t config_limits) (room : Room) (after : Contents)
      (ok : next_state (record { configs = entries_of es; count = count }) room (put_config (entries_of es) name t) ≡ Ok after) where
    pub kept_put : (new : List (String Global × Tree)) (length : ℕ) → ArePlain new → entries_of new ≡ put_config (entries_of es) name t
        → length ≡ entries_length (put_config (entries_of es) name t) → IsKept new (count + 1) length
    kept_put =
        kept_new (put_config (entries_of es) name t) (AreConfigs-put (entries_of es) name t named good kept.state.configs)
        (names_differ-put (entries_of es) name t kept.state.distinct) room after ok

  -- with a configuration taken out
  module _ (name : List ℕ) (utf8 : IsUtf8 name) (room : Room) (after : Contents)
      (ok : next_state (record { configs = entries_of es; count = count }) room (cut_config (entries_of es) (chars name)) ≡ Ok after) where
    pub kept_cut : (new : List (String Global × Tree)) (length : ℕ) → new ≡ cut_from name es
        → length ≡ entries_length (cut_config (entries_of es) (chars name)) → IsKept new (count + 1) length
    kept_cut new length is counts =
        kept_new (cut_config (entries_of es) (chars name)) (AreConfigs-cut (entries_of es) (chars name) kept.state.configs)
        (names_differ-cut (entries_of es) (chars name) kept.state.distinct) room after ok new length
        (subst ArePlain (sym is) (plain_cut_from name es kept.plain)) (ap entries_of is ∙ cut_from-named name utf8 es kept.plain) counts

-- the same configurations keep the limits
pub kept_same : (es : List (String Global × Tree)) (count bytes : ℕ) → IsKept es count bytes
    → (new : List (String Global × Tree)) → ArePlain new → entries_of new ≡ entries_of es → IsKept new count bytes
kept_same es count bytes kept new plain seen = record {
  plain = plain;
  state = subst (λ cs. IsState (record { configs = cs; count = count })) (sym seen) kept.state;
  counted = kept.counted ∙ ap entries_length (sym seen);
}
