-- `finish` ends within its run.
use Rattle.std.proofs.Common.{◌≡◌, length, arith, rules}
use Rattle.lines.proofs.Laws.Feed.{finish_within}
use Rattle.interp.proofs.Stream.finish.Goals as goal

pub invariant_of-self : goal.invariant_of-self
invariant_of-self g c =
    let before = c.make_room.new.self in
    let wide : length before.out ≡ 65536 = search rules in
    record {
      few = before.few;
      within = omega (arith, c.finish-self.ensures.value, finish_within before.carry before.held before.out before.made (omega (arith, c.in_ok-make_room.ensures)), c.finish-self.auto.out);
    }
