-- That a store and a pool are inside a call has one proof at most: a ghost field asks it. What names a frame is the range of one page, and no other frame stands at its place.
use Rattle.std.specs.Prelude.{◌≡◌, refl, ◌⊎◌, List, [], ◌∷◌, ℕ, ◌<◌, get_or, Option, Some, None}
use Rattle.std.proofs.Common.{sym, ap, ap₂, ◌∙◌, inl, inr, arith}
use Rattle.std.proofs.Props.{props}
use mathlib.Core.HLevel.{collapsible→set, is_prop→PathP}
use Rattle.table.specs.declared.PageRange.{PageRange}
use Rattle.table.specs.declared.BackingPages.{BackingPages}
use Rattle.table.specs.declared.BackingPages.TheVariants.{Nothing, Single, Many}
use Rattle.store.specs.declared.Store.{Store}
use Rattle.lists.specs.Every.{All}
use Rattle.ranges.specs.Range.{Ranged, Rising, upto}
use Rattle.book.specs.Cell.{Cell, free, holds}
use Rattle.laws.specs.State.{Apart, Spare, Tight, Fits, Good}
use Rattle.places.specs.Places.{place_at}
use Rattle.pool.specs.Bytes.{frame_at}
use Rattle.store.specs.Abs.{used}
use Rattle.store.specs.Sound.{Kind, Stands}
use Rattle.store.specs.Edits.{cell_at, cell_holds}
use Rattle.store.specs.Idle.{Idle}
use Rattle.store.specs.Spare.{work_of}
use Rattle.pages.specs.Inside.{Inside}

-- a type that maps into a set and back is a set
retract_set : {A B : Type 0} (to : A → B) (from : B → A) → ((x : A) → from (to x) ≡ x) → IsSet B → IsSet A
retract_set to from back set = collapsible→set (λ x y p. sym (back x) ∙ ap from (ap to p) ∙ back y)
    (λ x y p q. ap (λ z. sym (back x) ∙ ap from z ∙ back y) (set (to x) (to y) (ap to p) (ap to q)))

backing_set : IsSet BackingPages
backing_set = retract_set {B = Option (ℕ ⊎ ℕ)} to from back (hlevel props)
  where
    to : BackingPages → Option (ℕ ⊎ ℕ)
    to Nothing = None
    to (Single n) = Some (inl n)
    to (Many n) = Some (inr n)

    from : Option (ℕ ⊎ ℕ) → BackingPages
    from None = Nothing
    from (Some (inl n)) = Single n
    from (Some (inr n)) = Many n

    back : (b : BackingPages) → from (to b) ≡ b
    back Nothing = refl
    back (Single n) = refl
    back (Many n) = refl

cell_set : IsSet Cell
cell_set = retract_set {B = Option (ℕ × ℕ × List ℕ)} to from back (hlevel props)
  where
    to : Cell → Option (ℕ × ℕ × List ℕ)
    to free = None
    to (holds b i x) = Some (b, i, x)

    from : Option (ℕ × ℕ × List ℕ) → Cell
    from None = free
    from (Some (b, i, x)) = holds b i x

    back : (c : Cell) → from (to c) ≡ c
    back free = refl
    back (holds b i x) = refl

rising_prop : {B : Type 0} (low : ℕ) (rs : List (Ranged B)) → IsProp (Rising low rs)
unfolding Rising
rising_prop low [] = hlevel props
rising_prop low (r ∷ rs) = hlevel (props, rising_prop (upto r) rs)

all_prop : {A : Type 0} (P : A → Type 0) → ((a : A) → IsProp (P a)) → (l : List A) → IsProp (All P l)
unfolding All
all_prop P h [] = hlevel props
all_prop P h (a ∷ l) = hlevel (props, h, all_prop P h l)

spare_prop : (top : ℕ) (cs : List Cell) (fs : List ℕ) → IsProp (Spare top cs fs)
unfolding Spare
spare_prop top cs [] = hlevel props
spare_prop top cs (f ∷ fs) = hlevel (props, cell_set, spare_prop f cs fs)

good_prop : (s : Store) (x : List ℕ) → IsProp (Good (work_of s x))
unfolding Tight Fits Apart
good_prop s x = hlevel (props, rising_prop, spare_prop)

module _ (s : Store) (x : List ℕ) (A : Apart (work_of s x)) where
  -- what stands at index 0 of a backing is one frame
  same_frame : (b : ℕ) → 0 < b → (p q : Stands s.places s.frames b 0) → p.frame ≡ q.frame
  unfolding work_of Apart
  same_frame b h p q = A p.frame q.frame b 0 (frame_at 4096 x p.frame) (frame_at 4096 x q.frame) (cell p) (cell q)
    where
      cell : (p : Stands s.places s.frames b 0) → get_or (work_of s x).cells p.frame free ≡ holds b 0 (frame_at 4096 x p.frame)
      cell p =
          cell_at 4096 s.frames s.places x p.frame p.below
          ∙ cell_holds (place_at s.places p.frame) (frame_at 4096 x p.frame) (λ e. omega (arith, p.backing, h, e))
          ∙ ap₂ (λ c i. holds c i (frame_at 4096 x p.frame)) p.backing p.index

  stands_prop : (b : ℕ) → 0 < b → IsProp (Stands s.places s.frames b 0)
  stands_prop b h p q =
      let e : p.frame ≡ q.frame = same_frame b h p q in
      λ i. record {
        frame = e i;
        below = is_prop→PathP (λ j. e j < s.frames) (λ j. hlevel props) p.below q.below i;
        backing = is_prop→PathP (λ j. (place_at s.places (e j)).backing ≡ b) (λ j. hlevel props) p.backing q.backing i;
        index = is_prop→PathP (λ j. (place_at s.places (e j)).index ≡ 0) (λ j. hlevel props) p.index q.index i;
      }

  kind_prop : (r : PageRange) (k : BackingPages) → IsProp (Kind s.frames s.places r k)
  kind_prop r Nothing = hlevel props
  kind_prop r (Single b) = λ u v. let h : IsProp (Kind s.frames s.places r (Single b)) = hlevel (props, stands_prop b u.0) in h u v
  kind_prop r (Many b) = hlevel props

pub inside_prop : (s : Store) (x : List ℕ) → IsProp (Inside s x)
unfolding Idle
inside_prop s x a b =
    let kinds : IsProp (All (λ r. Kind s.frames s.places r r.backing) (used s)) = all_prop _ (λ r. kind_prop s x a.good.apart r r.backing) (used s) in
    let one : IsProp (Inside s x) = hlevel (props, good_prop, kinds, all_prop, backing_set) in
    one a b
