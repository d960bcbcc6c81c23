-- Wrong rules of a scenario, each the rule of wish 1 but for one thing, and the files and lists that tell them.
use Rattle.std.specs.Prelude.{Result, ◌+◌, ◌-◌, ◌/◌, ◌∷◌, ◌++◌}
use Rattle.basis.specs.Prelude.{ℕ, zero, suc, List, [], length, set, take, drop, ltb, leb}
use Rattle.basis.specs.Words.{pick}
use Rattle.basis.specs.Refusals.{Outcome, accepted, refused}
use Rattle.basis.specs.Readers.{Reader, after, ◌>>=◌, ◌>>◌, give, refuse_at, here, marked}
use Rattle.numbers.specs.Numbers.{number, up_to, spell}
use Rattle.sheet.specs.declared.row.Sheet.{Sheet}
use Rattle.scenario.specs.Form.{Held, no_slots, slot_before, mark_bytes, budget_at, no_releases, row, releases, until_end}
use Rattle.scenario.specs.Written.{releases_in, releases_bytes}
use Rattle.basis.specs.Lent.{Answer, answer, written_told, nothing_by, written_by}
use Rattle.scenario.specs.Answers.{read_told, filled_by, check_list}
use Rattle.basis.specs.declared.refusal.Refusal.{Refusal}

-- The code's answer with the list or the buffer after it.
abbrev pub read_answer : Result ℕ Refusal × List ℕ → Answer
read_answer (r, l) = read_told r l

abbrev pub written_answer : Result ℕ Refusal × List ℕ → Answer
written_answer (r, out) = written_told r out

-- k releases by another rule of a count, and of the least row after one.
unfoldable pub releases_by : (ℕ → Reader ℕ) → (ℕ → ℕ) → Sheet → ℕ → ℕ → List ℕ → Reader (List ℕ)
releases_by count next h zero least l = give l
releases_by count next h (suc k) least l = do
  r ← row h.count least
  c ← count (budget_at h r)
  releases_by count next h k (next r) (set l r c)

-- A repeated row is accepted.
unfoldable pub repeated_row : Sheet → List ℕ → Reader (List ℕ)
repeated_row h l = do
  k ← number
  releases_by (λ most. up_to most 12 12) (λ r. r) h k 0 l

-- A count up to most, zero among the rest.
unfoldable pub from_zero : ℕ → Reader ℕ
from_zero most = do
  first ← here
  c ← number
  pick (leb c most) (give c) (refuse_at 12 first)

-- A count of zero is accepted.
unfoldable pub zero_count : Sheet → List ℕ → Reader (List ℕ)
zero_count h l = do
  k ← number
  releases_by from_zero (λ r. r + 1) h k 0 l

-- k releases of which only the order of the rows is looked at.
unfoldable pub in_order : ℕ → ℕ → Reader (Unit {0})
in_order zero least = give (tt {0})
in_order (suc k) least = do
  place ← here
  r ← number
  pick (ltb r least) (refuse_at 20 place) (give (tt {0}))
  c ← number
  in_order k (r + 1)

-- The order of all the rows of a slot is looked at before any row: 20 before 14.
unfoldable pub order_first : Sheet → List ℕ → Reader (List ℕ)
order_first h l s at = after (number s at) (λ k n. after (in_order k 0 s n) (λ done m. releases h k 0 l s n))

-- Slots by another rule of a slot.
unfoldable pub slots_by : Reader (List ℕ) → ℕ → Reader Held
slots_by slot zero = give no_slots
slots_by slot (suc f) =
    until_end no_slots
    (do
      l ← slot
      x ← slots_by slot f
      give (slot_before l x))

-- A scenario read by another rule of a slot.
unfoldable pub read_by : (Sheet → List ℕ → Reader (List ℕ)) → Sheet → List ℕ → List ℕ → Answer
read_by slot h s l =
    filled_by
    ((do
      marked mark_bytes
      slots_by (slot h (no_releases h.count)) (length s)) s 0)
    l

-- 15 before another refusal, where there is not room for so much.
unfoldable pub fifteen_first : ℕ → Answer → Answer
fifteen_first long a = fifteen_by a.outcome
  where
    fifteen_by : Outcome → Answer
    fifteen_by accepted = a
    fifteen_by (refused _ _) = pick (ltb (length a.lent) long) (nothing_by (refused 15 0) a.lent) a

-- The place after what was written is cleared.
unfoldable pub past_cleared : ℕ → Answer → Answer
past_cleared long a = answer a.outcome a.count (set a.lent long 0)

-- A slot whose number of releases is one short.
unfoldable pub slot_short : List ℕ → List ℕ
slot_short l = spell (releases_in l - 1) ++ releases_bytes 0 l

-- k such slots of n entries each.
unfoldable pub slots_short : ℕ → ℕ → List ℕ → List ℕ
slots_short n zero l = []
slots_short n (suc k) l = slot_short (take n l) ++ slots_short n k (drop n l)

-- A slot's number of releases is written one short.
unfoldable pub one_short : Sheet → List ℕ → List ℕ → Answer
one_short h l out = written_by (check_list h l) (mark_bytes ++ slots_short h.count (length l / h.count) l) out

-- A slot with row 1 twice.
abbrev pub row_twice : List ℕ
row_twice = 2 ∷ 1 ∷ 1 ∷ 1 ∷ 1 ∷ []

-- A slot with a count of zero.
abbrev pub zero_slot : List ℕ
zero_slot = 1 ∷ 0 ∷ 0 ∷ []

-- A slot with row 2, which there is not, and then row 1.
abbrev pub no_such_row : List ℕ
no_such_row = 2 ∷ 2 ∷ 1 ∷ 1 ∷ 1 ∷ []

-- A slot without a release.
abbrev pub empty_slot : List ℕ
empty_slot = 0 ∷ []

-- Both rows, each released for its budget.
abbrev pub both_rows : List ℕ
both_rows = 2 ∷ 200 ∷ []

-- Row 0 released for more than its budget.
abbrev pub over_row : List ℕ
over_row = 3 ∷ 0 ∷ []

-- A list of three entries and a buffer of twelve bytes, each 9.
abbrev pub three_nines : List ℕ
three_nines = 9 ∷ 9 ∷ 9 ∷ []

abbrev pub twelve_nines : List ℕ
twelve_nines = 9 ∷ 9 ∷ 9 ∷ 9 ∷ 9 ∷ 9 ∷ 9 ∷ 9 ∷ 9 ∷ 9 ∷ 9 ∷ 9 ∷ []
