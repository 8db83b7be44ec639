-- A store made anew.
use Rattle.std.specs.Prelude.{◌≡◌, true, false, ◌&&◌, List, ℕ, ◌≤◌, leb, length, replicate, Result, Ok, Err}
use Rattle.std.proofs.Common.{ap, sym, subst, ◌∙◌, arith, leb-true}
use Rattle.store.specs.declared.Store.{Store}
use Rattle.lists.specs.Every.{All, both_true}
use Rattle.lists.specs.Listed.{one_at}
use Rattle.book.specs.Book.{done, create}
use Rattle.std.proofs.lemmas.List.{length-replicate}
use Rattle.table.specs.declared.PageRange.{PageRange}
use Rattle.places.specs.declared.Place.{Place}
use Rattle.table.specs.Table.{zero_range}
use Rattle.places.specs.Places.{place_at, nowhere}
use Rattle.store.specs.Abs.{book_of}
use Rattle.store.specs.Sound.{sound?, Sized}
use Rattle.store.specs.Iff.{says_sound}
use Rattle.store.specs.Ranges.{zeros_all}
use Rattle.store.specs.Empty.{Blank, empty_book, empty_sound}
use Rattle.freeing.specs.Closed.{Closed}
use Rattle.refusals.specs.Number.{number}
use Rattle.calls.specs.declared.NotCreated.{NotCreated}
use Rattle.calls.specs.Calls.{said}

-- The creation of a store with so many frames, with the number k and the store t handed back.
pub record Created (frames k : ℕ) (t : Store) : Type 0 where
  -- it is the book's, whatever the pool has
  pub book : (x : List ℕ) → record { answer = said k done; book = book_of t x } ≡ create frames (length x)
  -- and the store handed back is sound
  pub sound : sound? t ≡ true
  -- with tables of their lengths
  pub sized : Sized t

-- a creation's number
abbrev pub created_number : Result Store NotCreated → ℕ
created_number (Ok t) = 0
created_number (Err n) = number n.refusal

-- and its store: "A refused creation of a store hands back the empty store of one frame."
abbrev pub created_store : Result Store NotCreated → Store
created_store (Ok t) = t
created_store (Err n) = n.store

-- a store of zeros with its frames, whose free map is made
abbrev pub zeros : ℕ → Store
zeros n = record { frames = n; live = 0; count = 0; ranges = replicate 512 zero_range; places = replicate 1024 nowhere; free = replicate 16 0 }

pub blank_made : (n : ℕ) (t : Store) → Closed (zeros n) t → (Blank t) × (t.frames ≡ n) × (Sized t)
blank_made n t C =
    let e = C.0 in (
      record {
        live = ap (λ (u : Store). u.live) e;
        count = ap (λ (u : Store). u.count) e;
        ranges = subst (λ (l : List PageRange). All (λ r. r ≡ zero_range) l) (ap (λ (u : Store). u.ranges) (sym e)) (zeros_all 512);
        places = λ k. ap (λ (u : Store). place_at u.places k) e ∙ one_at nowhere 1024 k;
        free = rw (← ap (λ (u : Store). u.frames) e, ← ap (λ (u : Store). u.places) e) at C.1;
      },
      ap (λ (u : Store). u.frames) e,
      record {
        ranges = ap (λ (u : Store). length u.ranges) e ∙ length-replicate {A = PageRange} 512 zero_range;
        places = ap (λ (u : Store). length u.places) e ∙ length-replicate {A = Place} 1024 nowhere;
        free = C.1.long;
      },
    )

pub frames_in : (n : ℕ) → (leb 1 n && leb n 1024) ≡ true → (1 ≤ n) × (n ≤ 1024)
frames_in n b = let h = both_true (leb 1 n) (leb n 1024) b in (leb-true 1 n h.0, leb-true n 1024 h.1)

module _ (t : Store) (B : Blank t) (Z : Sized t) where
  pub made : (n : ℕ) → t.frames ≡ n → (leb 1 n && leb n 1024) ≡ true → Created n 0 t
  unfolding create
  made n e b =
      let h = frames_in n b in
      record { book = λ x. rw (b, empty_book t B x, e); sound = says_sound t (empty_sound t B (omega arith) (omega arith)); sized = Z }

  pub not_made : (n : ℕ) → t.frames ≡ 1 → (leb 1 n && leb n 1024) ≡ false → Created n 2 t
  unfolding create
  not_made n e b = record { book = λ x. rw (b, empty_book t B x, e); sound = says_sound t (empty_sound t B (omega arith) (omega arith)); sized = Z }
