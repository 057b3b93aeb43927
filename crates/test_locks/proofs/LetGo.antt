-- A run lets its locks go.
use Rattle.std.proofs.Common.{◌≡◌, ◌≢◌, ◌⊎◌, ◌<◌, ◌+◌, ◌≤◌, ℕ, List, [], ◌∷◌, get_or, length, Option, Some, None, inl, inr, ⊎_elim, sym}
use Rattle.std.proofs.{Common.{◌∙◌, ap, subst, arith, false}, lemmas.{Bool.{cases_eq, cases_lt}, List.get_or_past}}
use Rattle.conf_locks.specs.Locks.{Locks, LetGoFile, LetGoFolder, LetGoShare, Call, after, IsFree, MayBeCalled, HoldsNone, Reaches}
use Rattle.conf_locks.{specs.Locks.with_entry, proofs.{Going.{reach-same, reach-then}, Staying.entry-same}}
use Rattle.test_locks.{specs.Tables.{LetsFileGo, LetsFolderGo, no_file}, proofs.Entries.entry-other}
use Rattle.test_locks.specs.declared.table.LockFile as file

none-some : (run : ℕ) → None ≢ Some run
none-some run is = cc

-- the entry of one that was let go, and of those that had none
entry-none : (run i k : ℕ) (holder : ℕ → Option ℕ) → (k ≡ i) ⊎ (holder k ≢ Some run) → with_entry i None holder k ≢ Some run
entry-none run i k holder either is = elim (cases_eq k i) [
  | inl same ↦ none-some run
      (sym (entry-same i None holder) ∙ ap (λ (j : ℕ). with_entry i None holder j) (sym same) ∙ is)
  | inr differ ↦ ⊎_elim (λ same. absurd (differ same)) (λ other. other (sym (entry-other i k None holder differ) ∙ is)) either
]

pub holder-none : (run i k : ℕ) (m n : Locks) → LetsFileGo run i m n → (k ≡ i) ⊎ (m.holder k ≢ Some run) → n.holder k ≢ Some run
holder-none run i k m n (inl so) either is =
    entry-none run i k m.holder either (sym (ap (λ (l : Locks). l.holder k) so.1) ∙ is)
holder-none run i k m n (inr so) either is =
    let held : m.holder k ≡ Some run = sym (ap (λ (l : Locks). l.holder k) so.1) ∙ is in
    ⊎_elim (λ same. so.0 (ap m.holder (sym same) ∙ held)) (λ other. other held) either

reaches-one : (run : ℕ) (call : Call) (m n : Locks) → IsFree run call m → n ≡ after run call m
    → MayBeCalled run call m → Reaches m n
reaches-one run call m n free is may =
    record { events = (record { run = run; call = call }) ∷ []; made = (may, free, tt); is = sym is }

pub reaches-file : (run i : ℕ) (m n : Locks) → LetsFileGo run i m n → Reaches m n
reaches-file run i m n (inl so) = reaches-one run (LetGoFile i) m n so.0 so.1 tt
reaches-file run i m n (inr so) = subst (Reaches m) (sym so.1) (reach-same m)

reaches-folder : (run : ℕ) (m n : Locks) → LetsFolderGo run m n → Reaches m n
reaches-folder run m n (inl so) = reaches-one run LetGoFolder m n so.0 so.1 tt
reaches-folder run m n (inr so) = subst (Reaches m) (sym so.1) (reach-same m)

reaches-share : (run : ℕ) (m n : Locks) → n ≡ after run LetGoShare m → Reaches m n
reaches-share run m n is = reaches-one run LetGoShare m n tt is tt

pub reaches-all : (run : ℕ) (a b c d : Locks) → Reaches a b → LetsFolderGo run b c → d ≡ after run LetGoShare c → Reaches a d
reaches-all run a b c d first second third =
    reach-then a c d (reach-then a b c first (reaches-folder run b c second)) (reaches-share run c d third)

folder-holder : (run : ℕ) (m n : Locks) → LetsFolderGo run m n → n.holder ≡ m.holder
folder-holder run m n (inl so) = ap (λ (l : Locks). l.holder) so.1
folder-holder run m n (inr so) = ap (λ (l : Locks). l.holder) so.1

folder-alone : (run : ℕ) (m n : Locks) → LetsFolderGo run m n → n.alone ≢ Some run
folder-alone run m n (inl so) is = none-some run (sym (ap (λ (l : Locks). l.alone) so.1) ∙ is)
folder-alone run m n (inr so) is = so.0 (sym (ap (λ (l : Locks). l.alone) so.1) ∙ is)

share-same : (run : ℕ) (m n : Locks) → n ≡ after run LetGoShare m
    → (n.holder ≡ m.holder) × (n.alone ≡ m.alone) × (n.shared run ≡ false)
share-same run m n so = (
  ap (λ (l : Locks). l.holder) so,
  ap (λ (l : Locks). l.alone) so,
  ap (λ (l : Locks). l.shared run) so ∙ entry-same run false m.shared,
)

pub holds-none : (run : ℕ) (b c d : Locks) → ((k : ℕ) → b.holder k ≢ Some run) → LetsFolderGo run b c → d ≡ after run LetGoShare c
    → HoldsNone run d
holds-none run b c d files folder share =
    let same = share-same run c d share in
    record {
      file = λ k is. files k (sym (ap (λ (h : ℕ → Option ℕ). h k) (same.0 ∙ folder-holder run b c folder)) ∙ is);
      alone = λ is. folder-alone run b c folder (sym same.1 ∙ is);
      shared = same.2;
    }

-- nobody holds a file that is not there
pub none-past : (run place : ℕ) (files : List file.LockFile)
    → ((k : ℕ) → k < place → (get_or files k no_file).holder ≢ Some run) → length files ≤ place
    → (k : ℕ) → (get_or files k no_file).holder ≢ Some run
none-past run place files below past k is = elim (cases_lt k place) [
  | inl lt ↦ below k lt is
  | inr ge ↦ none-some run
      (sym (ap (λ (f : file.LockFile). f.holder) (get_or_past files k no_file (omega (arith, ge, past)))) ∙ is)
]

pub below-next : (run i : ℕ) (m n : Locks) → LetsFileGo run i m n → ((k : ℕ) → k < i → m.holder k ≢ Some run)
    → (k : ℕ) → k < i + 1 → n.holder k ≢ Some run
below-next run i m n goes below k lt = elim (cases_lt k i) [
  | inl less ↦ holder-none run i k m n goes (inr (below k less))
  | inr ge ↦ let same : k ≡ i = omega (arith, lt, ge) in holder-none run i k m n goes (inl same)
]
