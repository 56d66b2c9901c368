use Rattle.std.proofs.Common.{arith, w32, SFits, rules}
use borrow.Author.Differences.{ints}
use Rattle.std.proofs.lemmas.Nat.{and_le_r}
use Rattle.weight.proofs.Codes.{not_top, plus_small, sum_is}
use Rattle.weight.proofs.bound.BoundWeight.sum.Goals as goal

pub overflow_sub-result : goal.overflow_sub-result
overflow_sub-result c =
    let x = c.args.self.code in
    let y = c.args.other.code in
    let fx : SFits w32 x = search rules in
    let fy : SFits w32 y = search rules in
    let small = plus_small x y (not_top x c.if-is_free.ensures) (not_top y c.if-is_free-2.ensures) c.requires in
    omega (arith, ints, and_le_r)

pub returns : goal.returns
returns c =
    let x = c.args.self.code in
    let y = c.args.other.code in
    let fx : SFits w32 x = search rules in
    let fy : SFits w32 y = search rules in
    sum_is x y fx fy (not_top x c.if-is_free.ensures) (not_top y c.if-is_free-2.ensures) c.requires
