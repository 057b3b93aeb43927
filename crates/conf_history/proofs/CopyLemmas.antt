-- A store with the base and the records of another one: what was read, what was made of it, and what a crash leaves.
use Rattle.std.{proofs.Common.{◌≡◌, ◌⊎◌, inl, inr, ⊎_elim, refl, sym, ◌∙◌, ap, subst, arith, length-append}, specs.Prelude.{ℕ, Bool, List}}
use Rattle.std.specs.Prelude.{[], ◌++◌, length, Option, Some, None, ◌≤◌}
use Rattle.conf_history.proofs.Prelude.{concat, Consumes-whole, append-nil, piece_or_rest, Folder, DiskModel, LeavesOnly-weaker, IsStoreOf}
use Rattle.conf_history.proofs.Prelude.{LeavesStoreOr, Command, Contents, FileMeans, no_closing, no-others, concat-append, All-nil}
use Rattle.conf_history.{proofs.{Prelude.{IsNoRecord, Means, store_limit}, WalkLemmas.end-read}, specs.Walks.{ArePerformed, Ends, Walked}}
use Rattle.conf_history.specs.declared.fault.SalvageFault.{SalvageFault, TheVariants.{History, StoreExists, Device, OutOfMemory}}
use Rattle.conf_history.specs.Copies.{BacksUp, CopiesPieces, CreatesFile, IsCopied, LeavesOldOrCopy, ReadsCopy, RefusesBackup, RefusesFile}

-- the pieces that were performed mean the state
copy-means : (s : Contents) (pieces : List (List ℕ)) (start : Contents) (commands : List Command) (copy : List ℕ)
    → copy ≡ concat pieces → ArePerformed pieces start commands s → length copy ≤ store_limit → (note : Bool) → Means note copy s
copy-means s pieces start commands copy is performed short note = record {
  short = short;
  pieces = pieces;
  others = [];
  rest = [];
  cut = no-others copy pieces [] (record {
    joined = is ∙ sym (append-nil (concat pieces));
    closed = performed.closed;
    unclosed = no_closing;
  });
  mean = performed.mean;
  hole = tt;
  lost = inr (All-nil IsNoRecord);
}

-- a file was read to its end, and the copy is its pieces
pub reads-copy : (several : Bool) (given left : Option (List ℕ)) (walk : Walked) (pieces : List (List ℕ)) (start : Contents)
    (commands : List Command) (copy : List ℕ) → copy ≡ concat pieces
    → Ends several None given left walk pieces start commands → ReadsCopy several given left copy
reads-copy several given left walk pieces start commands copy is (inl (inl (at, b))) = absurd (cc at)
reads-copy several given left walk pieces start commands copy is (inr (none, t)) = record {
  s = walk.state;
  holds = Consumes-whole given left t.bytes (λ bytes. CopiesPieces several bytes copy walk.state) t.taken t.at_end
      (record {
        pieces = pieces;
        others = t.others;
        rest = t.rest;
        cut = t.cut;
        mean = t.performed.mean;
        hole = t.hole;
        lost = t.lost;
        is = is;
      });
  means = copy-means walk.state pieces start commands copy is t.performed
      (let both = ap length t.cut.joined ∙ length-append (concat (pieces ++ t.others)) t.rest in
      let front = ap length (concat-append pieces t.others) ∙ length-append (concat pieces) (concat t.others) in
      let own = ap length is in omega (arith, t.short, both, front, own));
  at_end = t.at_end;
  read = (t.bytes, t.taken, t.short);
}
reads-copy several given left walk pieces start commands copy is (inl (inr (none, e))) =
    let rest = piece_or_rest walk.pieces in
    record {
      s = walk.state;
      holds = Consumes-whole given left (concat pieces ++ rest) (λ bytes. CopiesPieces several bytes copy walk.state) e.taken e.at_end
          (record {
            pieces = pieces;
            others = [];
            rest = rest;
            cut = no-others (concat pieces ++ rest) pieces rest
                (record { joined = refl; closed = e.performed.closed; unclosed = e.unclosed });
            mean = e.performed.mean;
            hole = tt;
            lost = inr (All-nil IsNoRecord);
            is = is;
          });
      means = copy-means walk.state pieces start commands copy is e.performed
          (omega (arith, e.short, length-append (concat pieces) rest, ap length is));
      at_end = e.at_end;
      read = end-read given left walk pieces start commands e;
    }

module _ (several : Bool) (given left : Option (List ℕ)) (copy : List ℕ) (reads : ReadsCopy several given left copy) where
  -- a file was made of the copy
  pub backs-up : (old new : Folder) → CreatesFile old copy new → BacksUp several given left old new
  backs-up old new creates = record {
    copy = copy;
    reads = reads;
    creates = creates;
    now = λ image is. subst (λ store. FileMeans image.several store reads.s) (sym (creates.left image is)) (reads.means image.several);
  }

  -- or none was
  pub refuses-copy : (old new : Folder) (fault : SalvageFault) → RefusesFile old copy fault new → RefusesBackup several given left old
      new fault
  refuses-copy old new (History read) refused = absurd refused
  refuses-copy old new StoreExists refused = record { copy = copy; reads = reads; refused = refused }
  refuses-copy old new Device refused = record { copy = copy; reads = reads; refused = refused }
  refuses-copy old new OutOfMemory refused = record { copy = copy; reads = reads; refused = refused }

  -- what a crash leaves of that
  pub copy-leaves : {D : Type 0} (model : DiskModel D) (old new : D) → LeavesStoreOr model (Some copy) old new
      → LeavesOldOrCopy several model given left old new
  copy-leaves model old new run =
      LeavesOnly-weaker model old new (λ image. IsStoreOf (model.folder old) image ⊎ (image.store ≡ Some copy))
      (λ image. IsStoreOf (model.folder old) image ⊎ IsCopied several given left image.store) run
      (λ image. ⊎_elim (λ was. inl was) (λ same. inr (record { copy = copy; reads = reads; is = same })))
