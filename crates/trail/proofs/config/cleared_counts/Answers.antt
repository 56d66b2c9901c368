use Rattle.std.proofs.Common.{ℕ, ◌+◌, cond, get_or, rules, arith}
use Rattle.std.proofs.lemmas.List.FromFn.{fill_by_all}
use Rattle.clocks.specs.Readings.{in_mask}
use Rattle.trail.proofs.Counts.{made_at}
use Rattle.trail.proofs.config.cleared_counts.Goals as goal

pub returns : goal.returns
returns c =
    let h : ℕ → ℕ = λ k. cond (in_mask c.args.set (k + 1)) 0 (get_or c.args.counts.now k 0) in
    let made = c.from_fn.ensures.items in
    fill_by_all h c.from_fn.result 6 0 made.long (λ k lt. made_at h _ c.from_fn.result 6 0 (λ k y q h. search rules) made.each k k (omega arith) lt)
