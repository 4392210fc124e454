pub mod Digits
pub mod FieldsOfLines
pub mod JsonTexts
