use Rattle.std.proofs.Common.{◌≡◌, [], ◌∷◌, ◌++◌, map, vec_items, vec_len}
use Rattle.wire_fields.proofs.Many.{HasRead}
use Rattle.wire_fields.proofs.record.read_many.Given as goal

abbrev pub invariant-loop-k : goal.invariant-loop-k
invariant-loop-k g l =
    record {
      read : HasRead (λ xs _ x. xs ++ x ∷ []) (λ _. g.R.Record.stands) [] l._k (map g.R.Record.seen (vec_items l.records)) l.initial.reader l.reader;
      counted : vec_len l.records ≡ l._k;
    }
