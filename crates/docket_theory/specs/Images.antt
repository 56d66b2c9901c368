-- What a step makes of the readings of a set: the images that the docket's duties are about. An image is refused when a call for it
-- is, by that call's slip.
use Rattle.std.specs.Prelude.{ℕ, zero, suc, ◌-◌, true, cond, pos, neg_ℤ, Some, None, Ok, Option, Result, slice_index_or}
use Rattle.slip.specs.declared.Slip.{Slip}
use Rattle.clocks.specs.declared.Gap.{Gap}
use Rattle.clocks.specs.declared.Sign.{Sign}
use Rattle.clocks.specs.declared.Sign.TheVariants.{Below, AtMost}
use Rattle.wire.specs.declared.cell.Cell.{Cell}
use Rattle.wire.specs.declared.cell.End.{End}
use Rattle.wire.specs.declared.cell.Ends.{Ends}
use Rattle.model.specs.declared.outgoing.Move.{Move}
use Rattle.model.specs.declared.outgoing.Move.TheVariants.{Wait, Finish, Start}
use Rattle.model.specs.Cells.{unbounded, cell_at, face}
use Rattle.model.specs.Plans.{Plan}
use Rattle.clockset.specs.Calls.{Calls, ◌⨾◌}
use Rattle.docket_theory.specs.declared.Duty.{Duty}
use Rattle.docket_theory.specs.declared.Duty.TheVariants.{Opening, Leave}

abbrev pub sign_of : End → Sign
sign_of e = cond e.open Below AtMost

-- clock i is at least the end: clock 0 less clock i is at most minus its units
abbrev pub low_gap : ℕ → End → Gap
low_gap i e = record { first = 0; second = i; sign = sign_of e; constant = neg_ℤ (pos e.units) }

-- clock i is at most the end
abbrev pub high_gap : ℕ → End → Gap
high_gap i e = record { first = i; second = 0; sign = sign_of e; constant = pos e.units }

abbrev pub cut_low : {S : Type 0} → Calls S → ℕ → Option End → S → Result S Slip
cut_low k i None a = Ok a
cut_low k i (Some e) a = k.gap a (low_gap i e)

abbrev pub cut_high : {S : Type 0} → Calls S → ℕ → Option End → S → Result S Slip
cut_high k i None a = Ok a
cut_high k i (Some e) a = k.gap a (high_gap i e)

-- a set cut by the ends of clock i, the low end first
abbrev pub cut_clock : {S : Type 0} → Calls S → ℕ → Ends → S → Result S Slip
cut_clock k i ends a = cut_low k i ends.low a ⨾ cut_high k i ends.high

-- a set cut by the ends of clocks 1 to n of a cell
unfoldable pub cut_to : {S : Type 0} → Calls S → Cell → ℕ → S → Result S Slip
cut_to k c zero a = Ok a
cut_to k c (suc n) a = cut_to k c n a ⨾ cut_clock k (suc n) (slice_index_or c.ends n unbounded)

-- a set cut by the cell's invariant
abbrev pub cut_by : {S : Type 0} → Calls S → Cell → S → Result S Slip
cut_by k c a = cut_to k c 6 a

-- from cell c into cell d: the exit set of c is reset, and the invariant of d cuts
abbrev pub entering : {S : Type 0} → Calls S → Plan → ℕ → ℕ → S → Result S Slip
entering k m c d a = k.reset a (cell_at m.cells c).exits ⨾ cut_by k (cell_at m.cells d)

-- the cell that a step out of cell c leads to
abbrev pub target : Plan → ℕ → Move → ℕ
target m c Wait = c
target m c (Finish e) = face m.cells true c (e - 1)
target m c (Start d e) = d

abbrev pub moved : {S : Type 0} → Calls S → Plan → ℕ → Move → S → Result S Slip
moved k m c Wait a = k.delay a ⨾ cut_by k (cell_at m.cells c)
moved k m c (Finish e) a = entering k m c (face m.cells true c (e - 1)) a
moved k m c (Start d e) a = entering k m c d a

-- what a step out of cell c makes of a set: the invariant of c cuts first
abbrev pub image : {S : Type 0} → Calls S → Plan → ℕ → S → Move → Result S Slip
image k m c a move = cut_by k (cell_at m.cells c) a ⨾ moved k m c move

-- zero cut by the first cell's invariant
abbrev pub opening_image : {S : Type 0} → Calls S → Plan → Result S Slip
opening_image k m = cut_by k (cell_at m.cells m.first) k.zero

abbrev pub duty_image : {S : Type 0} → Calls S → Plan → Duty S → Result S Slip
duty_image k m Opening = opening_image k m
duty_image k m (Leave e move) = image k m e.cell e.set move

abbrev pub duty_target : {S : Type 0} → Plan → Duty S → ℕ
duty_target m Opening = m.first
duty_target m (Leave e move) = target m e.cell move
