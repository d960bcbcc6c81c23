-- Two answers that the promise of the writer allows are equal. Assumes nothing.
use Rattle.basis.specs.Prelude.{ℕ, ◌≡◌, List}
use Rattle.writer.proofs.Names.{written_same, written_told, sheet_in, write_sheet}
use Rattle.std.specs.Prelude.{Result}
use Rattle.basis.specs.declared.refusal.Refusal.{Refusal}

-- `write_sheet`: the answer, and the buffer after it
pub write_sheet_same : (sheet s labels out : List ℕ) (a b : Result ℕ Refusal) (m n : List ℕ)
    → written_told a m ≡ write_sheet (sheet_in sheet) s labels out → written_told b n ≡ write_sheet (sheet_in sheet) s labels out → (a ≡ b) × (m ≡ n)
write_sheet_same sheet s labels out = written_same (write_sheet (sheet_in sheet) s labels out)
