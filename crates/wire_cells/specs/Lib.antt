pub mod CellFormat
