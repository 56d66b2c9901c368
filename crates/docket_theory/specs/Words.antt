-- A verdict as a word.
use Rattle.std.specs.Prelude.{ℕ, List, codes}
use Rattle.docket_theory.specs.declared.Verdict.{Verdict}
use Rattle.docket_theory.specs.declared.Verdict.TheVariants.{Reached, Shut, Undecided}

abbrev pub verdict_word : Verdict → List ℕ
verdict_word Reached = codes "reached"
verdict_word Shut = codes "shut"
verdict_word Undecided = codes "undecided"
