-- A store that was opened where there was no file is an empty one.
use Rattle.std.{proofs.Common.{◌≡◌, ℕ, List, refl, sym, ◌∙◌, ap, subst}, specs.Prelude.{Option, Some, None}}
use Rattle.conf_tools.proofs.Prelude.{Folder, Reads, Tells, bytes_under, several_waited, DiskModel, Missing, Store, Contents, AllImagesMean}
use Rattle.conf_tools.{proofs.Prelude.{empty_state, StoreView, stored_of}, specs.{Changes.MakesStore, Stores.{OpensOn, OpensTo}}}
use Rattle.conf_state.specs.BaseTexts.{base_bytes}

was-missing : (file : Option (List ℕ)) (max : ℕ) → Tells file max Missing → file ≡ None
was-missing None max tells = refl
was-missing (Some bytes) max tells = absurd tells

-- it was looked for, and the store was opened and closed
pub made-empty : {D : Type 0} (model : DiskModel D) (old mid new : D) (store : StoreView D) (max : ℕ) → model.honest
    → Reads (model.folder old) Store max Missing → model.folder mid ≡ model.folder old → OpensOn model mid store → new ≡ store.disk
    → MakesStore model.folder old new
made-empty {D} model old mid new store max h reads same opens is =
    let missing = was-missing (bytes_under (model.folder old) Store) max reads in
    let opened = subst (λ (f : Option (List ℕ)). OpensTo (several_waited (model.folder mid)) f (stored_of store)
    (bytes_under (model.folder store.disk) Store))
    (ap (λ (f : Folder). bytes_under f Store) same ∙ missing) (opens.opens h) in
    let empty : store.state ≡ empty_state = opened.means in
    subst (λ (d : D). MakesStore model.folder old d) (sym is) (record {
      missing = missing;
      reads = opened.reads ∙ ap (λ (s : Contents). Some (base_bytes s)) empty;
      images = subst (λ (s : Contents). AllImagesMean (model.folder store.disk) s) empty (opens.images h);
    })
