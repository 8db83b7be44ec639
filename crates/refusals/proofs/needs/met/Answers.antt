-- `refusals::needs::met` meets its contract: the ranges that are met are counted, each of which is small.
use Rattle.std.specs.Prelude.{◌≡◌, count_by, take}
use Rattle.std.proofs.Common.{◌∙◌, rules, arith}
use Rattle.std.proofs.lemmas.Iterator.{YieldsList-from_slice}
use Rattle.std.proofs.lemmas.Iterator.Adapters.{serves_from_places}
use Rattle.std.proofs.lemmas.List.{length-take}
use Rattle.std.proofs.lemmas.List.Sums.{count_by-le-length}
use Rattle.table.specs.Table.{Small}
use Rattle.refusals.specs.Spans.{overlaps, parts_counted_by, small_taken}
use Rattle.refusals.proofs.needs.met.Goals as goal

pub count-requires-clause-can : goal.count-requires-clause-can
count-requires-clause-can c =
    let s = c.args.s.now in
    let e : c.filter.result.iter.rest.now ≡ take s.count s.ranges = search rules in
    (tt, tt, serves_from_places (YieldsList-from_slice (take s.count s.ranges) e) (λ x q r. search rules) (λ x k l e. let z : Small x.now = small_taken s.ranges s.count c.requires x.now k l e in search rules))

pub returns : goal.returns
returns c =
    let s = c.args.s.now in
    let k : c.count.result ≡ count_by (overlaps c.args.a c.args.e) (take s.count s.ranges) = search rules in
    let q = k ∙ parts_counted_by c.args.a c.args.e (take s.count s.ranges) in
    (q, omega (arith, k, count_by-le-length (overlaps c.args.a c.args.e) (take s.count s.ranges), length-take s.count s.ranges, c.requires.few))
