-- States as lists of plain numbers, of each row remaining and since; a sheet's list is that of crate sheet.
use Rattle.std.specs.Prelude.{◌+◌, ◌*◌}
use Rattle.basis.specs.Prelude.{ℕ, zero, suc, Bool, true, List, length, set, ltb, eqb}
use Rattle.basis.specs.Limits.{most_rows}
use Rattle.basis.specs.Words.{pick, all_of}
use Rattle.basis.specs.Refusals.{outcome, is_accepted, or_else, room_for}
use Rattle.basis.specs.Upto.{upto}
use Rattle.sheet.specs.Lists.{number_at, filled}
use Rattle.sheet.specs.declared.row.Sheet.{Sheet}
use Rattle.records.specs.declared.record.RowState.{RowState}
use Rattle.records.specs.Records.{record_of}
use Rattle.machine.specs.States.{State, no_state, state_of, record_at}
use Rattle.machine.specs.declared.places.Done.{Done}
use Rattle.machine.specs.Answers.{FreshAnswer, SlotAnswer, RunAnswer, fresh_answer, slot_answer, run_answer, fresh, slot, run}

-- The numbers of a record.
abbrev pub record_wide : ℕ
record_wide = 2

-- Record k of a state's list.
unfoldable pub record_in : List ℕ → ℕ → RowState
record_in l k = record_of (record { remaining = number_at l (k * record_wide); since = number_at l (k * record_wide + 1) })

-- The places that a list needs for the state of so many rows.
abbrev pub state_long : ℕ → ℕ
state_long n = n * record_wide

-- The number at place i does not stand from a place on, or it is zero.
unfoldable pub zero_at : ℕ → List ℕ → ℕ → Bool
zero_at from l i = pick (ltb i from) true (eqb (number_at l i) 0)

-- From a place on every number is zero.
unfoldable pub zero_from : ℕ → List ℕ → Bool
zero_from from l = all_of (length l) (zero_at from l)

-- Past the last record there is room for, every number is zero.
abbrev pub spare_is_zero : List ℕ → Bool
spare_is_zero l = zero_from (state_long most_rows) l

-- The state that a list hands over; one with a number out there that is not zero hands over the state of zeros, which is legal for no sheet.
unfoldable pub state_in : List ℕ → State
state_in l = pick (spare_is_zero l) (state_of (upto most_rows (record_in l) no_state.rows)) no_state

-- The list with record k made s,
unfoldable pub put_record : List ℕ → ℕ → RowState → List ℕ
put_record l k s = set (set l (k * record_wide) s.job.remaining) (k * record_wide + 1) s.job.since

-- and with its first n records made f 0, f 1, ..; the numbers past them are as they were.
unfoldable pub put_to : ℕ → (ℕ → RowState) → List ℕ → List ℕ
put_to zero f l = l
put_to (suc n) f l = put_record (put_to n f l) n (f n)

-- A state of n rows put into a list: its records, and the numbers past them as they were.
unfoldable pub put_state : ℕ → State → List ℕ → List ℕ
put_state n t l = put_to n (record_at t) l

-- A list whose every number is zero, as long as this one.
abbrev pub cleared : List ℕ → List ℕ
cleared l = filled (λ i. 0) l

-- The answer of fresh put into a list: 15 comes after its refusals, where there is no room for a record for each row; past the records every number is zero, and beside a refusal the list is as it was.
abbrev pub fresh_listed : ℕ → FreshAnswer State → List ℕ → FreshAnswer (List ℕ)
fresh_listed n a list =
    let o = or_else a.outcome (room_for (state_long n) (length list)) in
    fresh_answer o (pick (is_accepted o) (put_state n a.state (cleared list)) list)

-- Fresh, in a list: 10, then 15.
unfoldable pub fresh_on : Sheet → List ℕ → FreshAnswer (List ℕ)
fresh_on h list = fresh_listed h.count (fresh h) list

-- The answer of a slot put into a list: the next state, and beside a refusal the list is as it was.
abbrev pub slot_listed : ℕ → SlotAnswer State → List ℕ → SlotAnswer (List ℕ)
slot_listed n a list = slot_answer a.outcome (pick (is_accepted a.outcome) (put_state n a.state list) list) a.codes

-- One slot of the state in a list.
unfoldable pub slot_in : Sheet → List ℕ → List ℕ → List ℕ → SlotAnswer (List ℕ)
slot_in h list releases codes = slot_listed h.count (slot h (state_in list) releases codes) list

-- The answer of a run put into a list: the list with the state after the slots done, which is as it was where none is done.
abbrev pub run_listed : ℕ → RunAnswer State → List ℕ → RunAnswer (List ℕ)
run_listed n a list = run_answer a.done a.outcome (pick (eqb a.done 0) list (put_state n a.state list)) a.codes

-- A run of the state in a list.
unfoldable pub run_in : Sheet → List ℕ → List ℕ → List ℕ → RunAnswer (List ℕ)
run_in h list releases codes = run_listed h.count (run h (state_in list) releases codes) list

-- What the code of a run in place answers, with the state, by value or in its list, and the code buffer after it.
abbrev pub ran_in : {S : Type 0} → Done → S → List ℕ → RunAnswer S
ran_in r t codes = run_answer r.done (outcome r.ended) t codes
