-- Two answers that the promise of a scenario's function allows are equal. Assumes nothing.
use Rattle.std.specs.Prelude.{Result, Ok, Err}
use Rattle.basis.specs.Prelude.{ℕ, ◌≡◌, ap, List}
use Rattle.basis.specs.Refusals.{refused_by}
use Rattle.basis.specs.declared.refusal.Refusal.{Refusal}
use Rattle.scenario.proofs.Names.{accepted, sheet_in, found_told, read_told, written_told, read_slot, read_scenario, write_scenario, SlotRead, written_same}
use Rattle.basis.proofs.Refusals.{refused_by_one_to_one}
use Rattle.basis.proofs.Same.{same_by}

-- an answer of the code stands for one answer of the definition
pub slot_one_to_one : (a b : Result SlotRead Refusal) → found_told a ≡ found_told b → a ≡ b
slot_one_to_one (Ok a) (Ok b) e = ap Ok (λ i. record { next = (e i).next; entries = (e i).entries })
slot_one_to_one (Ok a) (Err s) e = let z : accepted ≡ refused_by s = λ i. (e i).outcome in cc
slot_one_to_one (Err r) (Ok b) e = let z : refused_by r ≡ accepted = λ i. (e i).outcome in cc
slot_one_to_one (Err r) (Err s) e = ap Err (refused_by_one_to_one r s (λ i. (e i).outcome))

-- `read_slot`
pub read_slot_same : (sheet s : List ℕ) (at : ℕ) (a b : Result SlotRead Refusal) → found_told a ≡ read_slot (sheet_in sheet) s at → found_told b ≡ read_slot (sheet_in sheet) s at → a ≡ b
read_slot_same sheet s at = same_by found_told slot_one_to_one (read_slot (sheet_in sheet) s at)

-- `read_scenario`: the answer, and the list after it
pub read_scenario_same : (sheet s l : List ℕ) (a b : Result ℕ Refusal) (m n : List ℕ)
    → read_told a m ≡ read_scenario (sheet_in sheet) s l → read_told b n ≡ read_scenario (sheet_in sheet) s l → (a ≡ b) × (m ≡ n)
read_scenario_same sheet s l = written_same (read_scenario (sheet_in sheet) s l)

-- `write_scenario`: the answer, and the buffer after it
pub write_scenario_same : (sheet l out : List ℕ) (a b : Result ℕ Refusal) (m n : List ℕ)
    → written_told a m ≡ write_scenario (sheet_in sheet) l out → written_told b n ≡ write_scenario (sheet_in sheet) l out → (a ≡ b) × (m ≡ n)
write_scenario_same sheet l out = written_same (write_scenario (sheet_in sheet) l out)
