-- Members of lists: of one that all have a property, of a mapped list, of the ranges of a table.
use Rattle.std.specs.Prelude.{◌≡◌, refl}
use Rattle.std.proofs.Math.Logic.{⊎_elim}
use mathlib.Core.List.Memᴰ
use mathlib.Core.List.{List, [], ◌∷◌, map, Memᴰ}
use Rattle.table.specs.declared.PageRange.{PageRange}
use Rattle.table.specs.declared.BackingPages.{BackingPages}
use Rattle.lists.specs.Every.{All}
use Rattle.ranges.specs.Range.{Range, Ranged}
use Rattle.table.specs.Table.{ranged, ranged_of, range_of, ranges_of}

-- `All P l` says P of each member, and is said so
module _ {A : Type 0} where
  pub all_of : (P : A → Type 0) (l : List A) → All P l → (x : A) → Memᴰ x l → P x
  unfolding All
  all_of P [] a x m = absurd (Memᴰ.not-nil m)
  all_of P (y ∷ l) a x m = ⊎_elim (λ e. rw e a.0) (λ k. all_of P l a.1 x k) (Memᴰ.cases_cons m)

  pub of_all : (P : A → Type 0) (l : List A) → ((x : A) → Memᴰ x l → P x) → All P l
  unfolding All
  of_all P [] h = tt
  of_all P (y ∷ l) h = (h y (Memᴰ.head refl), of_all P l (λ x m. h x (Memᴰ.tail m)))

-- a member of a mapped list comes from a member
pub record Origin {A B : Type 0} (f : A → B) (y : B) (l : List A) : Type 0 where
  pub source : A
  pub mem : Memᴰ source l
  pub is : y ≡ f source

pub origin : {A B : Type 0} (f : A → B) (y : B) (l : List A) → Memᴰ y (map f l) → Origin f y l
origin f y [] m = absurd (Memᴰ.not-nil m)
origin f y (x ∷ l) m =
    ⊎_elim
    (λ e. record { source = x; mem = Memᴰ.head refl; is = e })
    (λ k. let F = origin f y l k in record { source = F.source; mem = Memᴰ.tail F.mem; is = F.is })
    (Memᴰ.cases_cons m)

pub mem_map : {A B : Type 0} (f : A → B) (x : A) (l : List A) → Memᴰ x l → Memᴰ (f x) (map f l)
mem_map f x [] m = absurd (Memᴰ.not-nil m)
mem_map f x (y ∷ l) m = ⊎_elim (λ e. Memᴰ.head {x = f y} (cc)) (λ k. Memᴰ.tail (mem_map f x l k)) (Memᴰ.cases_cons m)

-- a range of the book, and one with its backing, comes from a used slot
pub range_from : (l : List PageRange) (r : Range) → Memᴰ r (ranges_of l) → Origin range_of r l
unfolding ranges_of
range_from l r m = origin range_of r l m

pub ranged_from : (l : List PageRange) (r : Ranged BackingPages) → Memᴰ r (ranged_of l) → Origin ranged r l
unfolding ranged_of
ranged_from l r m = origin ranged r l m

pub range_mem : (l : List PageRange) (q : PageRange) → Memᴰ q l → Memᴰ (range_of q) (ranges_of l)
unfolding ranges_of
range_mem l q m = mem_map range_of q l m
