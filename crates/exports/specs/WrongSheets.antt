-- Wrong answers of the calls for a sheet that is written, each right but for one thing, and what is lent to them.
use Rattle.std.specs.Prelude.{◌-◌, ◌∷◌}
use Rattle.basis.specs.Prelude.{ℕ, List, [], length, replicate}
use Rattle.basis.specs.Refusals.{or_else, room_for}
use Rattle.basis.specs.Upto.{upto, pair_cell}
use Rattle.sheet.specs.Lists.{sheet_in, filled}
use Rattle.reader.specs.Form.{mark_bytes}
use Rattle.reader.specs.Answers.{reading, label_in}
use Rattle.reader.specs.Lists.{labels_long, label_cell}
use Rattle.writer.specs.Form.{sheet_bytes}
use Rattle.writer.specs.Answers.{held_by}
use Rattle.exports.specs.Answers.{answered}
use Rattle.exports.specs.Sheets.{sheet_written}

-- What the call for the labels tells, with another list where nothing is refused.
unfoldable pub labels_given : List ℕ → List ℕ → List ℕ → (ℕ × ℕ) × List ℕ
labels_given s done list = answered (or_else (reading s).0 (room_for (labels_long (reading s).1.count) (length list))) done list

-- Where a label starts is told as its length, and its length as where it starts.
unfoldable pub labels_swapped : List ℕ → List ℕ → (ℕ × ℕ) × List ℕ
labels_swapped s list = labels_given s (filled (pair_cell (λ k. (label_in s k).long) (λ k. (label_in s k).start)) list) list

-- The places past the rows are left as they were.
unfoldable pub past_kept : List ℕ → List ℕ → (ℕ × ℕ) × List ℕ
past_kept s list = labels_given s (upto (labels_long (reading s).1.count) (label_cell s) list) list

-- What the call for the bytes tells.
abbrev pub Told : Type 0
Told = (ℕ × ℕ) × (ℕ × List ℕ)

-- The length is told beside a refusal too.
unfoldable pub length_beside : List ℕ → List ℕ → List ℕ → ℕ × List ℕ → Told
length_beside sheet s labels lent =
    let r = sheet_written sheet s labels lent in
    (r.0, (length (sheet_bytes (held_by (sheet_in sheet) s labels)), r.1.1))

-- The mark is not counted among the bytes.
unfoldable pub mark_not_counted : List ℕ → List ℕ → List ℕ → ℕ × List ℕ → Told
mark_not_counted sheet s labels lent =
    let r = sheet_written sheet s labels lent in
    (r.0, (r.1.0 - length mark_bytes, r.1.1))

-- A list of three places, each 9.
abbrev pub three_nines : List ℕ
three_nines = 9 ∷ 9 ∷ 9 ∷ []

-- A length of 9, with a buffer of so many bytes, each 9.
abbrev pub lent_nines : ℕ → ℕ × List ℕ
lent_nines n = (9, replicate n 9)
