-- `bench_bulk::large` meets its contract. The rounds fall with each call of itself.
use Rattle.bench_bulk.proofs.+large.Given as goal

abbrev pub decreases-large : goal.decreases-large
decreases-large g l = l.rounds
