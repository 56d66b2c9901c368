use Rattle.docket.proofs.Faults.{refused}
use Rattle.docket.proofs.docket.Docket.settle.Goals as goal

pub returns-in_err-check_settle : goal.returns-in_err-check_settle
returns-in_err-check_settle g c =
    refused _ _ _ _ _ _ c.from_residual.ensures.1 c.in_err-check_settle.ensures
