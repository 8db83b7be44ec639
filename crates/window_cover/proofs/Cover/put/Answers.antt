use Rattle.std.proofs.Common.{◌≡◌, List, [], ◌++◌, ℕ, append-nil, drop, drop_of_length-le, length, length-set, arith, rules, set, take, take_all}
use Rattle.window_cover.specs.declared.Interval.{Interval}
use Rattle.window_cover.specs.Intervals.{put_new, put_united}
use Rattle.window_cover.proofs.Cover.put.Goals as goal

-- what is written through the slice of all intervals
written : (xs : List Interval) (i : ℕ) (a : Interval) → take (length xs) (set xs i a ++ drop (length (set xs i a)) xs) ≡ set xs i a
written xs i a =
    let n : length (set xs i a) ≡ length xs = simp length-set (omega arith) in
    let d : drop (length (set xs i a)) xs ≡ [] = drop_of_length-le xs (omega (arith, n)) in
    rw (d, append-nil (set xs i a)) (take_all (length xs) (set xs i a) (omega (arith, n)))

pub returns-in-Some-clause-put : goal.returns-in-Some-clause-put
returns-in-Some-clause-put c = λ chain F.
    let H = c.in-Some.ensures.first chain F in
    let k = H.2 in
    rw (c.united.ensures, c.deref.ensures.0, c.deref_mut.ensures.value, written) (put_united chain c.args.self.now c.args.h c.args.interval F c.in-Some.i H.0 H.1 (search rules))

pub returns-in-None-clause-put : goal.returns-in-None-clause-put
returns-in-None-clause-put c = λ chain F.
    rw (c.put.ensures, c.len.ensures.value, c.push.ensures.items) (put_new chain c.args.self.now c.args.h c.args.interval F c.requires.1 c.requires.0)
