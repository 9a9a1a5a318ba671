pub mod JournalTexts
pub mod Printing
