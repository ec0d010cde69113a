-- `search::back_from` meets its contract: what is left to do from the vector in hand, which is in range, leaves what was to do at entry.
use Rattle.std.proofs.Common.{◌≡◌, true, get_or}
use Rattle.search.specs.Vector.{in_range, back_from}
use Rattle.search.specs.Code.{Backs}
use Rattle.search.proofs.back_from.Given as goal

abbrev pub invariant-loop-k : goal.invariant-loop-k
invariant-loop-k l = record {
  backs : Backs l.cells l.m l.pivots l.count l.v;
  whole : in_range l.v ≡ true;
  same : back_from l.k l.m l.cells (λ j. get_or l.pivots j 0) l.v ≡ back_from l.count l.m l.cells (λ j. get_or l.pivots j 0) l.fn.first;
}
