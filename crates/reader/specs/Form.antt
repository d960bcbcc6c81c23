-- The form of a sheet, read from left to right: the first fault decides.
use Rattle.std.specs.Prelude.{◌∷◌}
use Rattle.basis.specs.Prelude.{ℕ, zero, suc, List, [], Bool}
use Rattle.basis.specs.Limits.{Limits, limits, longest_label}
use Rattle.basis.specs.Words.{pick, within}
use Rattle.basis.specs.Readers.{Reader, ◌>>=◌, ◌>>◌, give, refuse_at, here, byte, enough, end, marked}
use Rattle.numbers.specs.Numbers.{up_to_by, up_to}
use Rattle.sheet.specs.declared.row.Row.{Row}

-- A row with its label.
pub record Entry : Type 0 where
  pub label : List ℕ
  pub row : Row

-- The row of an entry.
abbrev pub entry_row : Entry → Row
entry_row e = e.row

-- The label of an entry.
abbrev pub entry_label : Entry → List ℕ
entry_label e = e.label

-- What a sheet holds.
pub record Held : Type 0 where
  pub processors : ℕ
  pub entries : List Entry

-- The four fixed bytes of the mark.
abbrev pub mark_bytes : List ℕ
mark_bytes = 0x47 ∷ 0x53 ∷ 0x48 ∷ 0x01 ∷ []

-- A byte that a label may have.
abbrev pub is_plain : ℕ → Bool
is_plain b = within 0x21 0x7E b

-- k bytes of a label; 6 at the first that is out of range.
unfoldable pub plain : ℕ → Reader (List ℕ)
plain zero = give []
plain (suc k) = do
  place ← here
  b ← byte
  pick (is_plain b)
      (do
        bs ← plain k
        give (b ∷ bs))
      (refuse_at 6 place)

-- What stands before the rows.
pub record Head : Type 0 where
  pub processors : ℕ
  pub count : ℕ

-- The form by any limits.
module _ (lim : Limits) where
  -- A label: its length, enough bytes, each byte.
  unfoldable pub label_by : Reader (List ℕ)
  label_by = do
    k ← up_to_by lim.groups lim.label 6 6
    enough k
    plain k

  -- A row on m processors: label, threads, separation, deadline, budget.
  unfoldable pub entry_by : ℕ → Reader Entry
  entry_by m = do
    l ← label_by
    t ← up_to_by lim.groups m 7 8
    T ← up_to_by lim.groups lim.separation 7 8
    D ← up_to_by lim.groups T 7 8
    C ← up_to_by lim.groups D 7 8
    give (record { label = l; row = record { threads = t; separation = T; deadline = D; budget = C } })

  -- n rows.
  unfoldable pub entries_by : ℕ → ℕ → Reader (List Entry)
  entries_by m zero = give []
  entries_by m (suc n) = do
    e ← entry_by m
    es ← entries_by m n
    give (e ∷ es)

  -- n rows, and nothing after them.
  unfoldable pub body_by : ℕ → ℕ → Reader Held
  body_by m n = do
    es ← entries_by m n
    end
    give (record { processors = m; entries = es })

  -- The mark, processors m, rows n.
  unfoldable pub head_by : Reader Head
  head_by = do
    marked mark_bytes
    m ← up_to_by lim.groups lim.processors 4 4
    n ← up_to_by lim.groups lim.rows 5 5
    give (record { processors = m; count = n })

  -- A whole sheet.
  unfoldable pub sheet_by : Reader Held
  sheet_by = do
    h ← head_by
    body_by h.processors h.count

-- The form by the limits of the project.
abbrev pub label : Reader (List ℕ)
label = label_by limits

abbrev pub entry : ℕ → Reader Entry
entry = entry_by limits

abbrev pub entries : ℕ → ℕ → Reader (List Entry)
entries = entries_by limits

abbrev pub body : ℕ → ℕ → Reader Held
body = body_by limits

abbrev pub head : Reader Head
head = head_by limits

abbrev pub sheet : Reader Held
sheet = sheet_by limits

-- The length of row i's label, before its first byte: what stands after the rows above it.
unfoldable pub label_head : ℕ → Reader ℕ
label_head i = do
  h ← head
  entries h.processors i
  up_to longest_label 6 6
