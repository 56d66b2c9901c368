use Rattle.std.proofs.Common.{◌≡◌, ℕ, ◌+◌, ◌*◌, ◌<◌, List, get_or, ap, subst, rules, arith}
use Rattle.std.proofs.lemmas.List.{map-id}
use Rattle.weight.specs.declared.order_sign.OrderSign.TheVariants.{Below}
use Rattle.weight.proofs.Chains.{made_at}
use Rattle.zone_theory.proofs.Tables.{tabled_from}
use Rattle.kinds_export.specs.declared.orders.OrderCodes.{OrderCodes}
use Rattle.kinds_export.specs.Codes.{code_of, codes_of}
use Rattle.kinds_export.proofs.orders.OrderCodesFromOrderSet.from.Goals as goal
use borrow.Author.Tests.{tests}

pub returns : goal.returns
unfolding codes_of
returns c =
    let xs = c.args.set.signs in
    let ys = c.from_fn.result in
    let items = c.from_fn.ensures.items in
    let code : ℕ → ℕ = λ p. code_of (get_or xs p Below) in
    let one : (i : ℕ) → i < 49 → get_or ys i 0 ≡ code i
    = λ i lt. subst (λ (l : List ℕ). get_or l i 0 ≡ code i) (map-id ys) (made_at _ _ ys 49 items (λ y. y) code 0 (λ k y q h called. search (rules, tests)) i lt) in
    let f : List ℕ → OrderCodes = λ bs. record { codes = bs } in
    ap f (tabled_from 0 (λ i j. code (7 * i + j)) ys items.long (λ i j hi hj. one (7 * i + j) (omega arith)))
