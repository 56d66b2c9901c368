use Rattle.std.proofs.Common.{◌≡◌, ℕ, ◌+◌, ◌<◌, ◌≤◌, get_or, refl, sym, ap, ◌∙◌, rules, arith}
use Rattle.std.proofs.lemmas.Grind.{get_or_default_zero}
use Rattle.std.proofs.lemmas.Iterator.Adapters.{serves_from_places}
use Rattle.std.proofs.lemmas.List.FromFn.{fill_by_all}
use Rattle.clocks.specs.Readings.{later}
use Rattle.trail.proofs.Counts.{fits_at, mapped_at, list_gives}
use Rattle.trail.proofs.config.later_counts.Goals as goal

pub map-requires : goal.map-requires
map-requires c =
    (omega arith, (omega arith, (omega arith, serves_from_places (record { runs = list_gives c.args.counts.now }) (λ x q h. search rules) (λ x k lt is. let low : x + c.args.n ≤ 1000000000 = omega (arith, is, get_or_default_zero c.args.counts.now k x lt, fits_at c.args.n c.args.counts.now k c.requires (omega arith)) in search rules))))

pub returns : goal.returns
returns c =
    let v = c.args.counts.now in
    let n = c.args.n in
    let at : (k : ℕ) → k < 6 → get_or c.map.result k 0 ≡ get_or c.args.counts.now k 0 + c.args.n =
    λ k lt. mapped_at (λ x. x + c.args.n) _ c.args.counts.now c.map.result 6 0 (λ x y q h. search rules) c.map.ensures.items.each k k (omega arith) lt in
    fill_by_all (λ k. get_or v k 0 + n) c.map.result 6 0 c.map.ensures.items.long at ∙ sym (ap (later n) (fill_by_all (λ k. get_or v k 0) v 6 0 c.told-counts (λ k lt. refl)))
