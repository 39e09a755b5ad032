-- `bench::turns::follow` meets its contract: each line is a turn of the log, and with the last line the log is whole.
use Rattle.std.proofs.Common.{◌≡◌, ◌<◌, ◌≤◌, ℕ, Bool, true, false, List, length, eqb, arith}
use Rattle.std.proofs.lemmas.Bool.Decides.{nat_tests}
use Rattle.bench.proofs.Carried.{stops, show_room, goes_on, count_ends}
use Rattle.bench.proofs.turns.follow.Goals as goal

-- the loop's test
some : (rest : List ℕ) (b : Bool) → b ≡ eqb (length rest) 0 → b ≡ false → 0 < length rest
some rest b e f = grind (arith, nat_tests)

none : (rest : List ℕ) (b : Bool) → b ≡ eqb (length rest) 0 → b ≡ true → length rest ≤ 0
none rest b e f = grind (arith, nat_tests)

pub write_shown-at-requires : goal.write_shown-at-requires
write_shown-at-requires c =
    show_room _ _ _ _ _ _ _ _ c.loop-rest.invariant (some c.loop-rest.rest.now _ c.is_empty.ensures c.loop-rest-test.true) _ _ _ (c.in-Ok.ensures.0 _)

pub loop-rest-preserved : goal.loop-rest-preserved
loop-rest-preserved c =
    goes_on _ _ _ _ _ _ _ _ c.loop-rest.invariant (some c.loop-rest.rest.now _ c.is_empty.ensures c.loop-rest-test.true) _ _ _ (c.in-Ok.ensures.0 _) c.row-row.result
    c.row-row.ensures c.in-Ok.ensures.1 _ _ c.write_shown-at.ensures c.rest-rest.result.now c.rest-rest.ensures

pub returns-in-Err : goal.returns-in-Err
returns-in-Err c =
    stops _ _ _ _ _ _ _ _ c.loop-rest.invariant (some c.loop-rest.rest.now _ c.is_empty.ensures c.loop-rest-test.true) _ (c.in-Err.ensures _) _ _ c.write_refused_at.ensures

pub returns : goal.returns
returns c = count_ends _ _ _ _ _ _ _ _ c.loop-rest.invariant (none c.loop-rest.rest.now _ c.is_empty.ensures c.loop-rest-test.false) _ _ c.write_counted.ensures
