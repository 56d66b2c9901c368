pub use Rattle.wire_cells.proofs.Cells
pub use Rattle.wire_trail.proofs.Steps
