use Rattle.std.proofs.Common.{◌≡◌, ℕ, ◌≢◌, map, length, get_or, set, replicate, sym, ◌∙◌, arith, below_more}
use Rattle.std.proofs.lemmas.List.{ext_get_or, get_or-replicate, get_or-set_other, get_or-set_same, length-map, map-set}
use Rattle.weight.specs.Closing.{empty_form}
use Rattle.weight.proofs.closing.wipe.Goals as goal

pub loop-x-preserved : goal.loop-x-preserved
loop-x-preserved g c =
    let w = g.W.Weight in
    let xs = map w.value c.loop-x.m in
    let n = c.loop-x.x-index in
    let v = w.value c.args.weight in
    let long : length xs ≡ length c.loop-x.m = length-map c.loop-x.m w.value in
    let put : map w.value (set c.loop-x.m n c.args.weight) ≡ set xs n v = map-set w.value c.loop-x.m n c.args.weight in
    let P : ℕ → Type 0 = λ p. get_or (map w.value (set c.loop-x.m n c.args.weight)) p w.unbounded ≡ v in
    below_more P n
    (λ k h. let ne : k ≢ n = omega arith in rw put (get_or-set_other xs n k v w.unbounded ne ∙ c.loop-x.invariant k h))
    (rw put (get_or-set_same xs n v w.unbounded (omega arith)))

pub returns : goal.returns
unfolding empty_form
returns g c =
    let w = g.W.Weight in
    let xs = map w.value c.loop-x.m in
    let long : length xs ≡ 49 = simp length-map (omega arith) in
    ext_get_or w.unbounded xs (replicate 49 (w.value c.args.weight)) long
    (λ i h. c.loop-x.invariant i (omega arith) ∙ sym (get_or-replicate 49 i (w.value c.args.weight) w.unbounded (omega arith)))
