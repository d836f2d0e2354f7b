-- Tallies added up.
use Rattle.std.specs.Prelude.{◌+◌, ◌%◌, List, [], ◌∷◌, map, slice_index}
use Rattle.counter.specs.Counting.{list_from, no_tally}
use Rattle.counter.specs.declared.Tally.{Tally}

-- two tallies as one: the numbers taken, the numbers spoilt, the counts of each region and the numbers unclaimed added
unfoldable pub together : Tally → Tally → Tally
together a b = record {
  taken = a.taken + b.taken;
  spoilt = a.spoilt + b.spoilt;
  counts = list_from (λ r. slice_index a.counts r + slice_index b.counts r) 0 64;
  unclaimed = a.unclaimed + b.unclaimed;
}

-- all tallies of a list as one
unfoldable pub total : List Tally → Tally
total [] = no_tally
total (t ∷ ts) = together t (total ts)

-- each number modulo 2^64
unfoldable pub wrapped : Tally → Tally
wrapped t = record {
  taken = t.taken % 18446744073709551616;
  spoilt = t.spoilt % 18446744073709551616;
  counts = map (λ c. c % 18446744073709551616) t.counts;
  unclaimed = t.unclaimed % 18446744073709551616;
}
