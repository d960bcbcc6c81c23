-- An accepted sheet is legal: every range of the table holds of what is handed over, and rows past n are zero. Assumes nothing.
use Rattle.basis.specs.Prelude.{ℕ, ◌+◌, ◌-◌, ◌<◌, ◌≡◌, refl, ap, ◌∙◌, true, ⊎_elim, List, map, arith, length, get_or, length-map, get_or-append, get_or-eq_default, get_or-replicate, length-replicate, get_or-append-add}
use Rattle.reader.proofs.Names.{most_processors, most_rows, accepted, refused, Step, ok, refuse, lt_or_le, bounded, Held, entry_row, sheet, no_row, row_at, legal, ZeroPast, LegalRow, Legal, no_rows, padded, no_sheet, sheet_held, reading_of, reading, Row}
use Rattle.reader.proofs.Inside.LabelPlaces.{whole, entries_legal}
use Rattle.reader.proofs.Inside.Heads.{headed}
use Rattle.sheet.proofs.Legality.{legal_says}

-- the rows of the sheet by value are those that were read, and zeros past them
module _ (h : Held) where
  pub row_held : (i : ℕ) → i < length h.entries → row_at (sheet_held h) i ≡ get_or (map entry_row h.entries) i no_row
  row_held i l = get_or-append (map entry_row h.entries) _ no_row i (omega (arith, length-map h.entries entry_row))

  pub zero_past : ZeroPast (sheet_held h)
  zero_past i l =
      let rs : List Row = map entry_row h.entries in
      let k : ℕ = i - length rs in
      let e : i ≡ length rs + k = omega (arith, length-map h.entries entry_row) in
      ap (λ (j : ℕ). get_or (padded rs) j no_row) e ∙ get_or-append-add rs (no_rows (most_rows - length rs)) k no_row ∙ ⊎_elim
      (λ g. get_or-replicate (most_rows - length rs) k no_row no_row g)
      (λ g. get_or-eq_default (no_rows (most_rows - length rs)) no_row (omega (arith, length-replicate (most_rows - length rs) no_row)))
      (lt_or_le k (most_rows - length rs))

-- where the sheet was read
pub read_is_legal : (s : List ℕ) (h : Held) (n : ℕ) → sheet s 0 ≡ ok h n → Legal (sheet_held h)
read_is_legal s h n e =
    let w = whole s h n e in
    let t = headed s w.top w.from w.before in
    let mb = bounded most_processors 4 4 _ _ _ _ t.processors in
    let nb = bounded most_rows 5 5 _ _ _ _ t.count in
    let row : (i : ℕ) → i < length h.entries → LegalRow h.processors (row_at (sheet_held h) i) =
    λ i l. rw (row_held h i l, ← w.wide) (entries_legal w.top.processors w.top.count i s w.from h.entries w.to w.all (omega arith)) in
    record { some_processors = omega arith; at_most_processors = omega arith; some_rows = omega arith; at_most_rows = omega arith; rows = row }

-- what the reader accepts was read
pub accepted_read : (s : List ℕ) → (reading s).0 ≡ accepted → (h : Held) × (n : ℕ) × (sheet s 0 ≡ ok h n)
accepted_read s e = go (sheet s 0) e
  where
    go : (x : Step Held) → (reading_of x).0 ≡ accepted → (h : Held) × (n : ℕ) × (x ≡ ok h n)
    go (ok h n) f = (h, n, refl)
    go (refuse k p) f = let z : ◌≡◌ {A = ℕ} 0 1 = cc in absurd (omega arith)

-- and is legal, and zero past its rows
pub accepted_is_legal : (s : List ℕ) → (reading s).0 ≡ accepted → (legal (reading s).1 ≡ true) × ZeroPast (reading s).1
accepted_is_legal s e = let (h, n, q) = accepted_read s e in rw q (legal_says (sheet_held h) (read_is_legal s h n q), zero_past h)

-- beside a refusal stands no sheet
pub refused_is_no_sheet : (s : List ℕ) (k p : ℕ) → (reading s).0 ≡ refused k p → (reading s).1 ≡ no_sheet
refused_is_no_sheet s k p e = go (sheet s 0) e
  where
    go : (x : Step Held) → (reading_of x).0 ≡ refused k p → (reading_of x).1 ≡ no_sheet
    go (ok h n) f = let z : ◌≡◌ {A = ℕ} 0 1 = cc in absurd (omega arith)
    go (refuse j q) f = refl
