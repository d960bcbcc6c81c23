-- `fixed_sheet` meets its promise: each way out is a sheet of the list. Assumes nothing.
use Rattle.tables.proofs.Inside.SheetNumbers.{by_number, past_six}
use Rattle.tables.proofs.fixed.fixed_sheet.Goals as goal

pub returns-in-0 : goal.returns-in-0
returns-in-0 c = search by_number

pub returns-in-1 : goal.returns-in-1
returns-in-1 c = search by_number

pub returns-in-2 : goal.returns-in-2
returns-in-2 c = search by_number

pub returns-in-3 : goal.returns-in-3
returns-in-3 c = search by_number

pub returns-in-4 : goal.returns-in-4
returns-in-4 c = search by_number

pub returns-in-5 : goal.returns-in-5
returns-in-5 c = search by_number

pub returns-in_default : goal.returns-in_default
returns-in_default c = search past_six
