pub use Rattle.wire_cells.specs.CellFormat
pub use Rattle.wire_cover.specs.CoverFormat
pub use Rattle.wire_fields.specs.Faults
pub mod Files
pub use Rattle.wire_fields.specs.Reading
pub use Rattle.wire_trail.specs.StepFormat
pub use Rattle.wire_trail.specs.Words
