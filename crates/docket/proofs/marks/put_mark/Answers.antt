use Rattle.std.proofs.Common.{sym}
use Rattle.std.proofs.lemmas.List.{set_past}
use Rattle.docket.proofs.marks.put_mark.Goals as goal

pub returns-else-place-marks : goal.returns-else-place-marks
returns-else-place-marks c = sym (set_past _ _ _ c.if-place-marks.false)
