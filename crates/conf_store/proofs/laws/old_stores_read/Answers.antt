use Rattle.std.proofs.Common.{inr, ℕ, ◌+◌, List, [], ◌∷◌, arith}
use Rattle.conf_store.proofs.{Prelude.{All-nil, IsNoRecord, chars, single, Contents, IsRecord, IsBase}, FirstStepLemmas.gives-wider}
use Rattle.conf_store.proofs.{FirstStepLemmas.{as_edit, as_commands, after-accepted, state-wider}, MeaningLemmas.no-others}
use Rattle.conf_store.{proofs.FirstReadLemmas.{record-more, base-more}, specs.Meaning.{AreRecords, PiecesMean}}
use Rattle.yaml_data.specs.OwnLimits.{own_limits}
use Rattle.conf_store.specs.First as first
use Rattle.conf_store.proofs.laws.old_stores_read.Goals as goal

record-reads : (bytes : List ℕ) (c : first.Command) (n : ℕ) → first.IsRecord bytes c n → IsRecord bytes (single (as_edit c)) n
record-reads bytes c n r =
    record {
      utf8 = r.utf8;
      reads = record {
        tree = r.reads.tree;
        gives = gives-wider (chars bytes) r.reads.tree first.own_limits own_limits (omega arith) (omega arith) (omega arith) r.reads.gives;
        tells = record-more r.reads.tree c n r.reads.tells;
      };
    }

base-reads : (bytes : List ℕ) (s : Contents) → first.IsBase bytes s → IsBase bytes s
base-reads bytes s r =
    record {
      utf8 = r.utf8;
      reads = record {
        tree = r.reads.tree;
        gives = gives-wider (chars bytes) r.reads.tree first.own_limits own_limits (omega arith) (omega arith) (omega arith) r.reads.gives;
        tells = base-more r.reads.tree s r.reads.tells;
        kept = state-wider s r.reads.kept;
      };
    }

records-read : (count : ℕ) (pieces : List (List ℕ)) (cs : List first.Command) → first.AreRecords count pieces cs
    → AreRecords count pieces (as_commands cs)
records-read count [] [] are = are
records-read count [] (c ∷ cs) are = are
records-read count (piece ∷ pieces) [] are = are
records-read count (piece ∷ pieces) (c ∷ cs) are = (record-reads piece c (count + 1) are.0, records-read (count + 1) pieces cs are.1)

pieces-mean : (pieces : List (List ℕ)) (s : Contents) → first.PiecesMean pieces s → PiecesMean pieces s
pieces-mean pieces s m =
    record {
      base = m.base;
      records = m.records;
      are = m.are;
      start = m.start;
      is_base = base-reads m.base m.start m.is_base;
      commands = as_commands m.commands;
      are_records = records-read m.start.count m.records m.commands m.are_records;
      leads = after-accepted m.start s m.commands m.leads;
    }

pub returns : goal.returns
returns c = λ several bytes s m.
    record {
      short = m.short;
      pieces = m.pieces;
      others = [];
      rest = m.rest;
      cut = no-others bytes m.pieces m.rest m.cut;
      mean = pieces-mean m.pieces s m.mean;
      hole = tt;
      lost = inr (All-nil IsNoRecord);
    }
