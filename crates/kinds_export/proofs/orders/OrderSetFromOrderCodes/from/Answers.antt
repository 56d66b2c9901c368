use Rattle.std.proofs.Common.{◌≡◌, ℕ, ◌<◌, List, map, length, get_or, sym, ap, subst, ◌∙◌, rules, arith}
use Rattle.std.proofs.lemmas.List.{ext_get_or, get_or-map, length-map, map-id}
use Rattle.weight.specs.declared.order_sign.OrderSign.{OrderSign}
use Rattle.weight.specs.declared.order_sign.OrderSign.TheVariants.{Below}
use Rattle.weight.proofs.Chains.{made_at}
use Rattle.order_set.specs.declared.OrderSet.{OrderSet}
use Rattle.kinds_export.specs.Codes.{sign_of, set_of}
use Rattle.kinds_export.proofs.orders.OrderSetFromOrderCodes.from.Goals as goal
use borrow.Author.Tests.{tests}

pub returns : goal.returns
unfolding set_of
returns c =
    let xs = c.args.set.codes in
    let ys = c.from_fn.result in
    let items = c.from_fn.ensures.items in
    let long : length xs ≡ 49 = omega arith in
    let sign : ℕ → OrderSign = λ p. sign_of (get_or xs p 0) in
    let one : (i : ℕ) → i < 49 → get_or ys i Below ≡ sign i
    = λ i lt. subst (λ (l : List OrderSign). get_or l i Below ≡ sign i) (map-id ys) (made_at _ _ ys 49 items (λ y. y) sign Below (λ k y q h called. search (rules, tests)) i lt) in
    let same : ys ≡ map sign_of xs =
    ext_get_or Below ys (map sign_of xs) (items.long ∙ sym (length-map xs sign_of ∙ long))
    (λ i h. let lt : i < 49 = omega (arith, items.long) in one i lt ∙ sym (get_or-map sign_of xs i 0 Below (omega arith))) in
    let f : List OrderSign → OrderSet = λ s. record { signs = s } in
    ap f same
