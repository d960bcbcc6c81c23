-- Wrong tables are shut out: for a named number no answer with the fault meets the promise. Assumes nothing.
use Rattle.basis.specs.Prelude.{refl}
use Rattle.basis.specs.Faults.{NoneMeets}
use Rattle.basis.proofs.Faults.{values_apart}
use Rattle.sheet.specs.declared.row.Sheet.{Sheet}
use Rattle.tables.specs.Tables.{fixed_sheet}
use Rattle.tables.specs.Wrong.{short_e, sheet_a_past}

pub short_e_is_shut_out : NoneMeets (short_e 4) (fixed_sheet 4)
unfolding short_e fixed_sheet
short_e_is_shut_out = values_apart (short_e 4) (fixed_sheet 4) (λ (h : Sheet). h.count) refl

pub sheet_a_past_is_shut_out : NoneMeets (sheet_a_past 6) (fixed_sheet 6)
unfolding sheet_a_past fixed_sheet
sheet_a_past_is_shut_out = values_apart (sheet_a_past 6) (fixed_sheet 6) (λ (h : Sheet). h.count) refl
