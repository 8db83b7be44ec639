-- INTO A CALL AND OUT OF IT: a sound store and its pool are inside a call, and a store that a call leaves has its free map made anew.
use Rattle.std.specs.Prelude.{◌≡◌, List, ℕ, ◌*◌, length}
use Rattle.std.proofs.Common.{subst, arith}
use Rattle.store.specs.declared.Store.{Store}
use Rattle.book.specs.Book.{leave}
use Rattle.laws.specs.State.{Good}
use Rattle.laws.specs.Sound.{good}
use Rattle.places.specs.Places.{FreeMap}
use Rattle.store.specs.Abs.{book_of}
use Rattle.store.specs.Sound.{Sound, Sized}
use Rattle.store.specs.Good.{sound_book}
use Rattle.store.specs.Spare.{work_of, entry_work}
use Rattle.store.specs.Back.{Besides, sound_besides, leave_work}
use Rattle.pages.specs.Inside.{Inside}

-- a sound store whose pool is of the right length is inside a call
pub enter : (s : Store) → Sized s → Sound s → (x : List ℕ) → length x ≡ s.frames * 4096 → Inside s x
enter s Z S x l =
    let B = sound_besides s Z S in
    record {
      sized = Z;
      few_frames = S.few_frames;
      few_ranges = S.few_ranges;
      pool = l;
      good = subst (λ w. Good w) (entry_work s Z S x) (good (book_of s x) (sound_book s Z S x (omega arith)));
      kinds = B.kinds;
      agree = B.agree;
      rest_ranges = B.rest_ranges;
      rest_places = B.rest_places;
    }

-- the store that a call leaves: its free map is made anew
abbrev pub closed : Store → List ℕ → Store
closed t d = record { frames = t.frames; live = t.live; count = t.count; ranges = t.ranges; places = t.places; free = d }

-- it has what a sound book does not say
pub closed_besides : (t : Store) (y d : List ℕ) → Inside t y → FreeMap t.frames t.places d → Besides (closed t d)
closed_besides t y d I m = record {
  few_ranges = I.few_ranges;
  kinds = I.kinds;
  agree = I.agree;
  rest_ranges = I.rest_ranges;
  rest_places = I.rest_places;
  bits = m;
}

-- and its book is the one that the call's work leaves
pub closed_book : (s t : Store) (x y d : List ℕ) → t.frames ≡ s.frames → t.live ≡ s.live → length y ≡ length x
    → book_of (closed t d) y ≡ leave (book_of s x) (work_of t y)
unfolding work_of
closed_book s t x y d e f l = leave_work s (closed t d) x y e f l
