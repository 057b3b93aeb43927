-- The bytes and trees of README's first example.
use Rattle.std.{proofs.Common.{◌≡◌, ℕ, false, List, [], ◌∷◌, None, Some, refl, sym, subst, codes, arith}, specs.Str.{IsUtf8, chars}}
use Rattle.std.specs.Prelude.{Ok}
use Rattle.{conf_tools.specs.Prelude.IsRead, json_pointer.specs.Pointers.path_of, tree_path.specs.Paths.{set, put}}
use Rattle.{yaml_config.specs.Limits.config_limits, yaml_grammar.specs.{BlockNodes.{flow, keyed, pair, pairs}, FlowNodes.scalar}}
use Rattle.yaml_grammar.specs.{FlowScalars.plain, Reads.{Gives, Good, Presents}, Separation.{inline, lf}, Streams.{Stream, bare}}
use Rattle.yaml_grammar.specs.{Streams.stream_events, Texts.spaces, Trees.{Tree, mapping, member, no_member, text}}

abbrev pub port_is : List ℕ → Tree
port_is value = mapping (member (codes "port") (text value) no_member)

chars-so : chars (codes "port: 80\n") ≡ codes "port: 80\n"
unfolding chars
chars-so = refl

pub word-so : chars (codes "81") ≡ codes "81"
unfolding chars
word-so = refl

pub path-so : path_of (chars (codes "/port")) ≡ Ok (codes "port" ∷ [])
unfolding chars
path-so = refl

pub set-so : set (port_is (codes "80")) (codes "port" ∷ []) (text (codes "81")) ≡ Ok (port_is (codes "81"))
unfolding put
set-so = refl

good-so : Good (port_is (codes "80")) config_limits
good-so = record { texts = (refl, refl, tt); keys = refl; deep = omega arith; long = omega arith }

-- `port: 80` as a presentation of the grammar: a block mapping of two plain scalars
abbrev presented : Stream
presented = record {
  mark = false;
  prefix = [];
  document = Some (bare (pairs [] 0 (pair (keyed (scalar (plain (codes "port") [])) []
      (flow (inline (spaces 1)) (scalar (plain (codes "80") [])) (record { blank = []; comment = None; stop = Some lf } ∷ []))))));
  parts = [];
}

presents-so : Presents presented (codes "port: 80\n")
presents-so = record { fits = refl; spells = refl }

-- all presentations of a text mean the same
abbrev pub AreUnambiguous : Type 0
AreUnambiguous = (source : List ℕ) (one other : Stream) → Presents one source → Presents other source
    → stream_events one ≡ stream_events other

utf8-so : IsUtf8 (codes "port: 80\n")
unfolding lib.Utf8.encode
utf8-so = (codes "port: 80\n", (refl, refl))

pub port-read : AreUnambiguous → IsRead (codes "port: 80\n") config_limits (port_is (codes "80"))
port-read unambiguous =
    let gives : Gives (codes "port: 80\n") config_limits (port_is (codes "80")) = record {
      short = omega arith;
      events = stream_events presented;
      reads = record {
        source = refl;
        some = record { presentation = presented; presents = presents-so; means = refl };
        every = λ p presents. unambiguous (codes "port: 80\n") p presented presents presents-so;
      };
      tree = refl;
      good = good-so;
    } in
    record {
      utf8 = utf8-so;
      gives = subst (λ (t : List ℕ). Gives t config_limits (port_is (codes "80"))) (sym chars-so) gives;
    }
