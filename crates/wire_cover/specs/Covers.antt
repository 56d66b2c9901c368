-- The cover file.
use Rattle.std.specs.Prelude.{ℕ, List, [], ◌∷◌, ◌++◌, map, Ok, vec_items, Result}
use Rattle.slip.specs.declared.Slip.{Slip}
use Rattle.clocks.specs.declared.Gap.{Gap}
use Rattle.wire_fields.specs.Reading.{Parsed, ◌⨟◌, many, count_at, close_at, sized}
use Rattle.wire_cover.specs.declared.cover.CoverEntry.{CoverEntry}
use Rattle.wire_cover.specs.declared.cover.CoverFile.{CoverFile}
use Rattle.wire_cover.specs.CoverFormat.{entry_at}

unfoldable pub entries_at : ℕ → List ℕ → ℕ → Parsed (List (ℕ × List Gap))
entries_at n s p = many (λ es _ e. es ++ e ∷ []) (λ _. entry_at) [] n s p

-- entries, each a cell and its gaps
abbrev pub cover_at : List ℕ → Parsed (List (ℕ × List Gap))
cover_at s = count_at 0 256 s 0 ⨟ λ n p. entries_at n s p ⨟ λ entries q. close_at s q ⨟ λ _ r. Ok (entries, r)

abbrev pub cover_file : List ℕ → Result (List (ℕ × List Gap)) Slip
cover_file s = sized s (cover_at s)

-- size and count, which are read before any memory is asked for
abbrev pub cover_head : List ℕ → Result ℕ Slip
cover_head s = sized s (count_at 0 256 s 0)

abbrev pub entry_seen : CoverEntry → ℕ × List Gap
entry_seen e = (e.cell, vec_items e.gaps)

abbrev pub cover_seen : CoverFile → List (ℕ × List Gap)
cover_seen f = map entry_seen (vec_items f.entries)
