-- The test of one length, by the formulas of document 01, in its order. Numbers of equations are those of document 000, whose D_i - S_i is R_i here, since rows
-- are judged from the top and a row's bound is known before it is used.
use Rattle.std.specs.Prelude.{◌+◌, ◌-◌}
use Rattle.basis.specs.Prelude.{ℕ, min, Bool}
use Rattle.sheet.specs.Legal.{row_at}
use Rattle.sheet.specs.declared.row.Row.{Row}
use Rattle.sheet.specs.declared.row.Sheet.{Sheet}
use Rattle.bound.specs.Quantities.{slots, plus, minus, lesser, times, into, on, together, less, Duration, Amount}

-- T, a row's separation, as a duration.
abbrev pub T : Row → Duration
T row = slots row.separation

-- D, its deadline.
abbrev pub D : Row → Duration
D row = slots row.deadline

-- C, its budget.
abbrev pub C : Row → Duration
C row = slots row.budget

-- q = m - m_k + 1: the processors that other rows fill in a slot in which row k waits; the first factor of (4).
unfoldable pub q : Sheet → ℕ → ℕ
q h k = h.processors - (row_at h k).threads + 1

-- X = L - C_k + 1: the slots that row k waits at least, where it is not finished after L; the second factor of (4).
unfoldable pub X : Sheet → ℕ → Duration → Duration
X h k L = plus (minus L (C (row_at h k))) (slots 1)

-- x = L + R_i - C_i, of a row above with its bound; L + D_i - S_i - C_i below (7).
unfoldable pub x : Row → Duration → Duration → Duration
x row R L = minus (plus L R) (C row)

-- N = x divided by T_i, rounded down; N_i(L) below (7).
abbrev pub N : Row → Duration → ℕ
N row x = into x (T row)

-- W_i = N × C_i + min(C_i, x - N × T_i); W_i(L) below (7).
unfoldable pub W : Row → Duration → Duration
W row x = plus (times (N row x) (C row)) (lesser (C row) (minus x (times (N row x) (T row))))

-- The duration of a row above: min(W_i, X); (7).
unfoldable pub duration_of : Row → Duration → Duration → Duration → Duration
duration_of row R L X = lesser (W row (x row R L)) X

-- The amount of row i above row k: its duration times min(m_i, q); (6), as theorem 2 uses it.
unfoldable pub amount_of : Sheet → (ℕ → Duration) → ℕ → Duration → ℕ → Amount
amount_of h R k L i = on (duration_of (row_at h i) (R i) L (X h k L)) (min (row_at h i).threads (q h k))

-- The sum of the amounts of the first n rows; of all rows above row k, the left side of (4).
unfoldable pub amounts : Sheet → (ℕ → Duration) → ℕ → Duration → ℕ → Amount
amounts h R k L n = together n (amount_of h R k L)

-- q × X: X on q processors; the right side of (4).
unfoldable pub room : Sheet → ℕ → Duration → Amount
room h k L = on (X h k L) (q h k)

-- A test says of a sheet, the bounds of the rows above, a row and a length whether it passes.
abbrev pub Test : Type 0
Test = Sheet → (ℕ → Duration) → ℕ → Duration → Bool

-- L passes where the sum of the amounts of the rows above is less than q × X; (4), which theorem 2 puts to fixed priority.
unfoldable pub passes : Test
passes h R k L = less (amounts h R k L k) (room h k L)
