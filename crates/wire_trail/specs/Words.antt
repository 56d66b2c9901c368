-- A step in words.
use Rattle.std.specs.Prelude.{ℕ, List, ◌++◌, codes, decimal}
use Rattle.wire_trail.specs.declared.step.Step.{Step}
use Rattle.wire_trail.specs.declared.step.Step.TheVariants.{Wait, Start, Finish}

abbrev pub step_words : Step → List ℕ
step_words (Wait n) = codes "wait " ++ decimal n
step_words (Start d k) = codes "start cell " ++ (decimal d ++ (codes " event " ++ decimal k))
step_words (Finish k) = codes "finish event " ++ decimal k
