-- A machine kept in a list, as a program that links the library keeps it: any calls on the list, one after another, and its accepted slots since it was last made fresh.
use Rattle.std.specs.Prelude.{◌≡◌, ◌∷◌, ◌++◌}
use Rattle.basis.specs.Prelude.{ℕ, List, [], take, eqb}
use Rattle.basis.specs.Words.{pick}
use Rattle.sheet.specs.Lists.{sheet_in}
use Rattle.green.specs.Calls.{Done, run_done}
use Rattle.green.specs.Demand.{InTime}
use Rattle.exports.specs.Answers.{fresh_in, slot_on, run_on}

-- A call on the list: fresh, one slot, or a run, with any release list and any code buffer.
pub data ListCall : Type 0 where
  make_fresh : ListCall
  one_slot : List ℕ → List ℕ → ListCall
  a_run : List ℕ → List ℕ → ListCall

-- What the answers of these calls hold: the number that is told,
abbrev pub number_told : {A : Type 0} → (ℕ × ℕ) × A → ℕ
number_told a = a.0.0

-- the list after a fresh,
abbrev pub list_of_fresh : (ℕ × ℕ) × List ℕ → List ℕ
list_of_fresh a = a.1

-- the list and the codes after a slot,
abbrev pub list_of_slot : (ℕ × ℕ) × (List ℕ × List ℕ) → List ℕ
list_of_slot a = a.1.0

abbrev pub codes_of_slot : (ℕ × ℕ) × (List ℕ × List ℕ) → List ℕ
codes_of_slot a = a.1.1

-- and the slots done, the list and the codes after a run.
abbrev pub done_of_run : (ℕ × ℕ) × (ℕ × (List ℕ × List ℕ)) → ℕ
done_of_run a = a.1.0

abbrev pub list_of_run : (ℕ × ℕ) × (ℕ × (List ℕ × List ℕ)) → List ℕ
list_of_run a = a.1.1.0

abbrev pub codes_of_run : (ℕ × ℕ) × (ℕ × (List ℕ × List ℕ)) → List ℕ
codes_of_run a = a.1.1.1

-- The list after a call: what `giachimu_fresh`, `giachimu_slot` or `giachimu_run` has made of it.
abbrev pub list_after : List ℕ → List ℕ → ListCall → List ℕ
list_after sheet list make_fresh = list_of_fresh (fresh_in sheet list)
list_after sheet list (one_slot releases codes) = list_of_slot (slot_on sheet list releases codes)
list_after sheet list (a_run releases codes) = list_of_run (run_on sheet list releases codes)

-- The accepted slots since fresh after a call, where it found these: an accepted fresh, which tells 0, begins anew; an accepted slot is one more; and of a run there are as
-- many more as it tells were done.
abbrev pub slots_after : List ℕ → List ℕ → List Done → ListCall → List Done
slots_after sheet list found make_fresh = pick (eqb (number_told (fresh_in sheet list)) 0) [] found
slots_after sheet list found (one_slot releases codes) =
    found ++ pick (eqb (number_told (slot_on sheet list releases codes)) 0) (record { releases = releases; codes = take (sheet_in sheet).count (codes_of_slot (slot_on sheet list releases codes)) } ∷ []) []
slots_after sheet list found (a_run releases codes) =
    found ++ run_done (sheet_in sheet).count releases (codes_of_run (run_on sheet list releases codes)) (done_of_run (run_on sheet list releases codes))

-- The accepted slots since fresh after some calls.
unfoldable pub since_fresh : List ℕ → List ℕ → List Done → List ListCall → List Done
since_fresh sheet list found [] = found
since_fresh sheet list found (c ∷ cs) = since_fresh sheet (list_after sheet list c) (slots_after sheet list found c) cs

-- Demand 3 of a sheet's list: from an accepted fresh on any list, whatever calls follow on it, each job is finished within its row's bound, and no deadline is missed.
abbrev pub NoListedJobIsLate : List ℕ → Type 0
NoListedJobIsLate sheet =
    (list : List ℕ) → number_told (fresh_in sheet list) ≡ 0 → (calls : List ListCall) → InTime (sheet_in sheet) (sheet_in sheet).count (since_fresh sheet (list_of_fresh (fresh_in sheet list)) [] calls)
