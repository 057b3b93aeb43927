-- What a test chooses of a crash, a crash may leave.
use Rattle.std.{specs.Prelude.{option_map, if◌then◌else◌, Contains}, proofs.Common.{◌≡◌, ◌⊎◌, ◌<◌, ◌≤◌, ◌+◌, zero, suc, arith, add-one}}
use Rattle.std.proofs.Common.{take, refl, sym, ap, subst, inl, inr, ℕ, List, [], ◌∷◌, ◌++◌, length, get_or, Option, Some, None, Bool, true}
use Rattle.std.proofs.{Common.false, lemmas.{Bool.cases_lt, List.{get_or_default, get_or_past, Elements.Contains-append_right}}}
use Rattle.{conf_disk.specs.Image.IsWorn, file_calls.specs.{Machine.{File, Machine, file_at, stages}, Crash.IsLeft}}
use Rattle.test_files.specs.Crashes.{worn, torn_bytes, left_of, MayBeLeft}

worn-is : (pending : List ℕ) (kept : List Bool) → IsWorn pending (worn pending kept)
worn-is [] [] = tt
worn-is [] (kept ∷ rest) = tt
worn-is (byte ∷ pending) [] = tt
worn-is (byte ∷ pending) (true ∷ rest) = (inl refl, worn-is pending rest)
worn-is (byte ∷ pending) (false ∷ rest) = (inr refl, worn-is pending rest)

torn-left : (file : Option File) (kept : List Bool) → IsLeft file (option_map (torn_bytes kept) file)
torn-left None kept = tt
torn-left (Some file) kept = record { left = worn file.version.pending kept; worn = worn-is file.version.pending kept; is = refl }

-- an element, or else one that is there
among-or : {X : Type 0} (xs : List X) (k : ℕ) (x : X) → Contains xs x → Contains xs (get_or xs k x)
among-or xs k x there = elim (cases_lt k (length xs)) [
  | inl lt ↦ (k, lt, get_or_default xs k (get_or xs k x) x lt)
  | inr ge ↦ subst (Contains xs) (sym (get_or_past xs k x ge)) there
]

pub may-be-left : (m : Machine) (stage : ℕ) (kept : List Bool) → MayBeLeft m (left_of m stage kept)
may-be-left m stage kept =
    let names = get_or (stages m) stage m.now in
    record {
      image = record {
        given = option_map (torn_bytes kept) (file_at m names.given);
        beside = option_map (torn_bytes kept) (file_at m names.beside);
      };
      left = record {
        names = names;
        among = among-or (stages m) stage m.now (Contains-append_right m.earlier (m.now ∷ []) m.now (0, omega arith, refl));
        given = torn-left (file_at m names.given) kept;
        beside = torn-left (file_at m names.beside) kept;
      };
      given = refl;
    }

-- one byte more
worn-suc : (bytes : List ℕ) (kept : List Bool) (i : ℕ) → i < length kept → i < length bytes
    → worn bytes (take (suc i) kept) ≡ worn bytes (take i kept) ++ (if get_or kept i false then get_or bytes i 0 else 0) ∷ []
worn-suc bytes [] i lt le = absurd (omega (arith, lt))
worn-suc [] (k ∷ kept) i lt le = absurd (omega (arith, le))
worn-suc (byte ∷ bytes) (k ∷ kept) zero lt le = refl
worn-suc (byte ∷ bytes) (k ∷ kept) (suc i) lt le =
    ap (λ (l : List ℕ). (if k then byte else 0) ∷ l) (worn-suc bytes kept i (omega (arith, lt)) (omega (arith, le)))

pub worn-more : (bytes : List ℕ) (kept : List Bool) (i : ℕ) → i < length kept → i < length bytes
    → worn bytes (take (i + 1) kept) ≡ worn bytes (take i kept) ++ (if get_or kept i false then get_or bytes i 0 else 0) ∷ []
worn-more bytes kept i lt le = rw add-one (worn-suc bytes kept i lt le)

-- no more than all
pub worn-all : (bytes : List ℕ) (kept : List Bool) (i : ℕ) → (length kept ≤ i) ⊎ (length bytes ≤ i)
    → worn bytes (take i kept) ≡ worn bytes kept
worn-all bytes [] i past = ap (worn bytes) (take-none i)
  where
    take-none : (i : ℕ) → ◌≡◌ {A = List Bool} (take i []) []
    take-none zero = refl
    take-none (suc i) = refl
worn-all [] (k ∷ kept) zero past = refl
worn-all [] (k ∷ kept) (suc i) past = refl
worn-all (byte ∷ bytes) (k ∷ kept) zero (inl past) = absurd (omega (arith, past))
worn-all (byte ∷ bytes) (k ∷ kept) zero (inr past) = absurd (omega (arith, past))
worn-all (byte ∷ bytes) (k ∷ kept) (suc i) (inl past) =
    ap (λ (l : List ℕ). (if k then byte else 0) ∷ l) (worn-all bytes kept i (inl (omega (arith, past))))
worn-all (byte ∷ bytes) (k ∷ kept) (suc i) (inr past) =
    ap (λ (l : List ℕ). (if k then byte else 0) ∷ l) (worn-all bytes kept i (inr (omega (arith, past))))
