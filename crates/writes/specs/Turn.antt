-- One page's turn of a write: what is left to write after it, and what the pages left still want.
use Rattle.std.specs.Prelude.{◌≡◌, List, ℕ, suc, ◌+◌, ◌-◌, ◌/◌, ◌%◌, ◌≤◌, ◌<◌, length, take, drop}
use Rattle.std.proofs.Math.Path.{ap}
use Rattle.std.proofs.Common.{◌∙◌, arith, take_all, eq-eqb}
use Rattle.lists.specs.Test.{by-lt}
use Rattle.book.specs.Page.{touched, over}
use Rattle.book.specs.Work.{Work, write_page}
use Rattle.book.specs.Bytes.{write_from}
use Rattle.book.specs.Need.{wants, wanted}
use Rattle.laws.specs.State.{Ordered, Tight}
use Rattle.laws.specs.Enough.{wanted_less}
use Rattle.laws.specs.Turn.{in_page, turn_page, turn_place, turn_touched}

-- the data d, n bytes of it, written from offset x on
abbrev pub write_at : ℕ → ℕ → ℕ → List ℕ → Work → Work
write_at o x n d w = write_from 4096 (touched 4096 x n) o (x / 4096) (x % 4096) d w

-- how many of the pages that n bytes from offset x touch want a frame
abbrev pub want_at : ℕ → ℕ → ℕ → Work → ℕ
want_at o x n w = wanted (touched 4096 x n) o (x / 4096) w

-- no bytes touch no page
pub none_left : (x n : ℕ) → n ≡ 0 → touched 4096 x n ≡ 0
none_left x n e = rw (eq-eqb n 0 e)

module _ (o x n : ℕ) (h : 0 < n) where
  abbrev m : ℕ
  m = in_page 4096 x n

  abbrev p : ℕ
  p = x / 4096

  abbrev k : ℕ
  k = x % 4096

  -- the pages touched by what is left
  abbrev i : ℕ
  i = touched 4096 (x + m) (n - m)

  -- one page fewer
  more_pages : touched 4096 x n ≡ suc i
  more_pages = turn_touched 4096 x n (omega arith) h

  -- THE FIRST PAGE, THEN THE REST
  pub write_turn : (d : List ℕ) (w : Work) → length d ≡ n
      → write_at o x n d w ≡ write_at o (x + m) (n - m) (drop m d) (write_page o p (over k (take m d)) w)
  unfolding write_from
  write_turn d w l = ap (λ j. write_from 4096 j o p k d w) more_pages ∙ by-lt m n more last
    where
      v : Work
      v = write_page o p (over k (take m d)) w

      more : m < n → write_from 4096 (suc i) o p k d w ≡ write_from 4096 i o ((x + m) / 4096) ((x + m) % 4096) (drop m d) v
      more u = let e : m ≡ 4096 - k = omega arith in rw (turn_page 4096 x n (omega arith) u, turn_place 4096 x n (omega arith) u, e)

      last : n ≤ m → write_from 4096 (suc i) o p k d w ≡ write_from 4096 i o ((x + m) / 4096) ((x + m) % 4096) (drop m d) v
      last u = rw (none_left (x + m) (n - m) (omega arith), take_all (4096 - k) d (omega arith), take_all m d (omega arith))

  -- what the first page wants, and the rest after it, was counted before
  pub want_turn : (g : List ℕ → List ℕ) (w : Work) → Ordered w → Tight w → p < 262144 → wants o p w + want_at o (x + m) (n - m) (write_page o p g w) ≤ want_at o x n w
  unfolding wanted
  want_turn g w W T hp = rw more_pages (by-lt m n more last)
    where
      v : Work
      v = write_page o p g w

      more : m < n → wants o p w + wanted i o ((x + m) / 4096) v ≤ wants o p w + wanted i o (suc p) w
      more u = rw (turn_page 4096 x n (omega arith) u) (omega (arith, wanted_less o p g w W T hp i (suc p) (omega arith)))

      last : n ≤ m → wants o p w + wanted i o ((x + m) / 4096) v ≤ wants o p w + wanted i o (suc p) w
      last u = rw (none_left (x + m) (n - m) (omega arith)) (omega arith)

  -- the first page wants no more than all
  pub want_first : (w : Work) → wants o p w ≤ want_at o x n w
  unfolding wanted
  want_first w = rw more_pages (omega arith)
