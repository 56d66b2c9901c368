use Rattle.std.proofs.Common.{◌≡◌, take, string_bytes}
use Rattle.lines.specs.Lines.{lines_text}
use Rattle.lines.proofs.text_of_all.Given as goal

abbrev pub invariant-loop-line : goal.invariant-loop-line
invariant-loop-line l = string_bytes l.out ≡ lines_text (take l.line-index l.lines)
