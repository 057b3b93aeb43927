-- What the machine was while calls were made.
use Rattle.std.{specs.Prelude.{◌≡◌, ℕ, ◌≤◌, List, length, take}, proofs.{Common.{sym, ◌∙◌, ap, arith}, lemmas.List.take_all}}
use Rattle.{file_calls.specs.Machine.Machine, test_files.specs.Replay.{Entry, History, machine_after, machine_in}}

-- it was this machine when so many of the calls were made, or more
pub record WasSince (history : History) (t : ℕ) (m : Machine) : Type 0 where
  pub count : ℕ
  pub since : t ≤ count
  pub until : count ≤ length history.entries
  pub is : m ≡ machine_after (take count history.entries) history.first

pub was_now : (history : History) (t : ℕ) → t ≤ length history.entries → WasSince history t (machine_in history)
was_now history t le = record {
  count = length history.entries;
  since = le;
  until = omega arith;
  is = ap (λ (l : List Entry). machine_after l history.first)
      (sym (take_all (length history.entries) history.entries (omega arith)));
}

pub was_only_now : (history : History) (m : Machine) → WasSince history (length history.entries) m → m ≡ machine_in history
was_only_now history m was =
    was.is ∙ ap (λ (l : List Entry). machine_after l history.first) (take_all was.count history.entries was.since)
