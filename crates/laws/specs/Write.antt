-- A write, page by page: what it leaves.
use Rattle.std.specs.Prelude.{◌≡◌, refl, ◌⊎◌, List, ℕ, zero, suc, ◌+◌, ◌-◌, ◌≤◌, ◌<◌, take, drop}
use Rattle.std.proofs.Common.{◌∙◌, inl, inr, ⊎_elim, arith}
use Rattle.ranges.specs.Range.{line}
use Rattle.book.specs.Page.{over}
use Rattle.book.specs.Work.{Work, page_of, write_page}
use Rattle.book.specs.Bytes.{write_from}
use Rattle.laws.specs.State.{Ordered, Tight}
use Rattle.laws.specs.PageLaw.{write_elsewhere, write_good, write_page_size}

-- pages outside the span are left, and the state stays good
pub write_from_out : (size i o p k : ℕ) (d : List ℕ) (w : Work) → Ordered w → Tight w → p + i ≤ 262144
    → (g : ℕ) → (g < line o p) ⊎ (line o p + i ≤ g) → page_of g (write_from size i o p k d w) ≡ page_of g w
unfolding write_from
write_from_out size zero o p k d w W T h g x = refl
write_from_out size (suc i) o p k d w W T h g x =
    let f : List ℕ → List ℕ = over k (take (size - k) d) in
    let G = write_good o p f w W T (omega arith) in
    write_from_out size i o (suc p) 0 (drop (size - k) d) (write_page o p f w) G.0 G.1 (omega arith) g
    (⊎_elim (λ (l : g < line o p). inl (omega arith)) (λ (l : line o p + suc i ≤ g). inr (omega arith)) x)
    ∙ write_elsewhere o p f w W T (omega arith) g
    (⊎_elim (λ (l : g < line o p) e. omega arith) (λ (l : line o p + suc i ≤ g) e. omega arith) x)

-- the page size stays
pub write_from_size : (size i o p k : ℕ) (d : List ℕ) (w : Work) → Ordered w → Tight w → p + i ≤ 262144 → (write_from size i o p k d w).size ≡ w.size
unfolding write_from
write_from_size size zero o p k d w W T h = refl
write_from_size size (suc i) o p k d w W T h =
    let f : List ℕ → List ℕ = over k (take (size - k) d) in
    let G = write_good o p f w W T (omega arith) in
    write_from_size size i o (suc p) 0 (drop (size - k) d) (write_page o p f w) G.0 G.1 (omega arith) ∙ write_page_size o p f w W (omega arith)
