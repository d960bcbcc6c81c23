pub mod SheetNumbers
