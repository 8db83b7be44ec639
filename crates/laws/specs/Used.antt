-- FRAMES IN USE: "the number of frames in use .. is the number of distinct frames that the book's covered pages name; all others are free."
use Rattle.std.specs.Prelude.{◌≡◌, refl, true, false, ◌⊎◌, ℕ, zero, suc, ◌+◌, ◌-◌, ◌/◌, ◌≤◌, ◌<◌, length, get_or, Option, Some, None}
use Rattle.std.proofs.Common.{ap, ap₂, sym, ◌∙◌, inl, inr, ⊎_elim, le_refl, not-suc-le-zero, add-zero, arith, eq-eqb}
use Rattle.std.proofs.lemmas.Bool.{false≢true}
use mathlib.Core.List.Memᴰ
use mathlib.Core.List.{List, [], ◌∷◌, Memᴰ}
use Rattle.lists.specs.Test.{by-test}
use Rattle.ranges.specs.Range.{Range, Slot, line, from, slot_at}
use Rattle.ranges.specs.Find.{In, named_in, slot_mem}
use Rattle.book.specs.Page.{object_bytes}
use Rattle.book.specs.Cell.{Cell, free, holds, is_at, frame_at, free_from}
use Rattle.book.specs.Book.{Book, in_use, frame_in, frame_of, free_frames}
use Rattle.book.specs.Sound.{Sound}
use Rattle.laws.specs.Cells.{same_slot, holds_free}
use Rattle.laws.specs.Cap.{free_count_lem}

-- the numbers of the cells that are not free, counted from n
unfoldable pub used_from : ℕ → List Cell → List ℕ
used_from n [] = []
used_from n (free ∷ cs) = used_from (suc n) cs
used_from n (holds b i x ∷ cs) = n ∷ used_from (suc n) cs

-- the frames in use, the lowest first
abbrev pub used_frames : Book → List ℕ
used_frames b = used_from 0 b.cells

-- each of the numbers is at least `low` and above those before it
unfoldable pub Upward : ℕ → List ℕ → Type 0
Upward low [] = Unit {0}
Upward low (f ∷ fs) = (low ≤ f) × Upward (suc f) fs

-- there are as many as counts gives
pub used_length : (n : ℕ) (cs : List Cell) → length (used_from n cs) ≡ in_use cs
unfolding used_from in_use
used_length n [] = refl
used_length n (free ∷ cs) = used_length (suc n) cs
used_length n (holds b i x ∷ cs) = ap suc (used_length (suc n) cs)

upward_weaken : (low low' : ℕ) (fs : List ℕ) → low' ≤ low → Upward low fs → Upward low' fs
unfolding Upward
upward_weaken low low' [] h u = tt
upward_weaken low low' (f ∷ fs) h u = (omega arith, u.1)

-- they rise
pub used_upward : (n : ℕ) (cs : List Cell) → Upward n (used_from n cs)
unfolding used_from Upward
used_upward n [] = tt
used_upward n (free ∷ cs) = upward_weaken (suc n) n (used_from (suc n) cs) (omega arith) (used_upward (suc n) cs)
used_upward n (holds b i x ∷ cs) = (le_refl n, used_upward (suc n) cs)

upward_low : (low j : ℕ) (fs : List ℕ) → Upward low fs → j < length fs → low ≤ get_or fs j 0
unfolding Upward
upward_low low j [] u h = absurd (not-suc-le-zero h)
upward_low low zero (f ∷ fs) u h = u.0
upward_low low (suc j) (f ∷ fs) u h = omega (arith, upward_low (suc f) j fs u.1 (omega arith), u.0)

-- the numbers of a rising list are distinct: of two places the later has the greater number
pub upward_distinct : (low i j : ℕ) (fs : List ℕ) → Upward low fs → i < j → j < length fs → get_or fs i 0 < get_or fs j 0
unfolding Upward
upward_distinct low i j [] u l h = absurd (not-suc-le-zero h)
upward_distinct low i zero (f ∷ fs) u l h = absurd (not-suc-le-zero l)
upward_distinct low zero (suc j) (f ∷ fs) u l h = upward_low (suc f) j fs u.1 (omega arith)
upward_distinct low (suc i) (suc j) (f ∷ fs) u l h = upward_distinct (suc f) i j fs u.1 (omega arith) (omega arith)

-- ---- members

-- the cell at f is in use
pub record Held (f : ℕ) (cs : List Cell) : Type 0 where
  pub inside : ℕ
  pub index : ℕ
  pub bytes : List ℕ
  pub is : get_or cs f free ≡ holds inside index bytes

abbrev held_tail : (f : ℕ) (c : Cell) (cs : List Cell) → Held f cs → Held (suc f) (c ∷ cs)
held_tail f c cs H = record { inside = H.inside; index = H.index; bytes = H.bytes; is = H.is }

abbrev held_under : (f : ℕ) (c : Cell) (cs : List Cell) → Held (suc f) (c ∷ cs) → Held f cs
held_under f c cs H = record { inside = H.inside; index = H.index; bytes = H.bytes; is = H.is }

held_not_free : (f : ℕ) (cs : List Cell) → Held f cs → get_or cs f free ≡ free → ⊥
held_not_free f cs H e = holds_free H.inside H.index H.bytes (sym H.is ∙ e)

-- a cell is free or in use
held_or : (f : ℕ) (cs : List Cell) → (get_or cs f free ≡ free) ⊎ Held f cs
held_or f cs = go (get_or cs f free) refl
  where
    go : (c : Cell) → get_or cs f free ≡ c → (get_or cs f free ≡ free) ⊎ Held f cs
    go free e = inl e
    go (holds b i x) e = inr (record { inside = b; index = i; bytes = x; is = e })

held_small : (f : ℕ) (cs : List Cell) → Held f cs → f < length cs
held_small f [] H = absurd (held_not_free f [] H refl)
held_small zero (c ∷ cs) H = omega arith
held_small (suc f) (c ∷ cs) H = omega (arith, held_small f cs (held_under f c cs H))

used_from_in : (n f : ℕ) (cs : List Cell) → Held f cs → Memᴰ (n + f) (used_from n cs)
unfolding used_from
used_from_in n f [] H = absurd (held_not_free f [] H refl)
used_from_in n zero (free ∷ cs) H = absurd (held_not_free 0 (free ∷ cs) H refl)
used_from_in n zero (holds b i x ∷ cs) H = Memᴰ.head (add-zero n)
used_from_in n (suc f) (free ∷ cs) H = Memᴰ.cast (omega arith) (used_from_in (suc n) f cs (held_under f free cs H))
used_from_in n (suc f) (holds b i x ∷ cs) H = Memᴰ.tail (Memᴰ.cast (omega arith) (used_from_in (suc n) f cs (held_under f (holds b i x) cs H)))

-- f is the number of a place that has P, counted from n
record Placed (n f : ℕ) (P : ℕ → Type 0) : Type 0 where
  place : ℕ
  sum : f ≡ n + place
  has : P place

placed_next : (n f : ℕ) (P Q : ℕ → Type 0) → ((j : ℕ) → P j → Q (suc j)) → Placed (suc n) f P → Placed n f Q
placed_next n f P Q h A = record { place = suc A.place; sum = omega (arith, A.sum); has = h A.place A.has }

placed_here : (f : ℕ) (P : ℕ → Type 0) → Placed 0 f P → P f
placed_here f P A = let e : f ≡ A.place = omega (arith, A.sum) in rw e A.has

-- a number of the list is that of a cell in use
used_from_at : (n f : ℕ) (cs : List Cell) → Memᴰ f (used_from n cs) → Placed n f (λ j. Held j cs)
unfolding used_from
used_from_at n f [] m = absurd (Memᴰ.not-nil m)
used_from_at n f (free ∷ cs) m = placed_next n f _ _ (λ j H. held_tail j free cs H) (used_from_at (suc n) f cs m)
used_from_at n f (holds b i x ∷ cs) m =
    ⊎_elim
    (λ e. record { place = 0; sum = e ∙ sym (add-zero n); has = record { inside = b; index = i; bytes = x; is = refl } })
    (λ k. placed_next n f _ _ (λ j H. held_tail j (holds b i x) cs H) (used_from_at (suc n) f cs k))
    (Memᴰ.cases_cons m)

-- a frame is in the list exactly if its cell is in use
pub used_held : (f : ℕ) (cs : List Cell) → Memᴰ f (used_from 0 cs) → Held f cs
used_held f cs m = placed_here f _ (used_from_at 0 f cs m)

pub held_used : (f : ℕ) (cs : List Cell) → Held f cs → Memᴰ f (used_from 0 cs)
held_used f cs H = Memᴰ.cast (omega arith) (used_from_in 0 f cs H)

-- ---- free frames

free_from_keeps : (n f : ℕ) (acc : List ℕ) (cs : List Cell) → Memᴰ f acc → Memᴰ f (free_from n acc cs)
unfolding free_from
free_from_keeps n f acc [] m = m
free_from_keeps n f acc (free ∷ cs) m = free_from_keeps (suc n) f (n ∷ acc) cs (Memᴰ.tail m)
free_from_keeps n f acc (holds b i x ∷ cs) m = free_from_keeps (suc n) f acc cs m

free_from_in : (n f : ℕ) (acc : List ℕ) (cs : List Cell) → f < length cs → get_or cs f free ≡ free → Memᴰ (n + f) (free_from n acc cs)
unfolding free_from
free_from_in n f acc [] l e = absurd (not-suc-le-zero l)
free_from_in n zero acc (free ∷ cs) l e = free_from_keeps (suc n) (n + 0) (n ∷ acc) cs (Memᴰ.head (add-zero n))
free_from_in n zero acc (holds b i x ∷ cs) l e = absurd (holds_free b i x e)
free_from_in n (suc f) acc (free ∷ cs) l e = Memᴰ.cast (omega arith) (free_from_in (suc n) f (n ∷ acc) cs (omega arith) e)
free_from_in n (suc f) acc (holds b i x ∷ cs) l e = Memᴰ.cast (omega arith) (free_from_in (suc n) f acc cs (omega arith) e)

-- a number of the list is that of a free cell
abbrev Empty : List Cell → ℕ → Type 0
Empty cs j = (j < length cs) × (get_or cs j free ≡ free)

empty_tail : (c : Cell) (cs : List Cell) (j : ℕ) → Empty cs j → Empty (c ∷ cs) (suc j)
empty_tail c cs j e = (omega arith, e.1)

free_from_at : (n f : ℕ) (acc : List ℕ) (cs : List Cell) → Memᴰ f (free_from n acc cs) → Memᴰ f acc ⊎ Placed n f (Empty cs)
unfolding free_from
free_from_at n f acc [] m = inl m
free_from_at n f acc (free ∷ cs) m =
    ⊎_elim
    (λ k. ⊎_elim
    (λ e. inr (record { place = 0; sum = e ∙ sym (add-zero n); has = (omega arith, refl) }))
    (λ j. inl j)
    (Memᴰ.cases_cons k))
    (λ A. inr (placed_next n f _ _ (empty_tail free cs) A))
    (free_from_at (suc n) f (n ∷ acc) cs m)
free_from_at n f acc (holds b i x ∷ cs) m = ⊎_elim (λ k. inl k) (λ A. inr (placed_next n f _ _ (empty_tail (holds b i x) cs) A)) (free_from_at (suc n) f acc cs m)

module _ (b : Book) where
  -- a frame is free exactly if it is one of the book's frames and its cell is free
  pub free_is : (f : ℕ) → Memᴰ f (free_frames b) → (f < length b.cells) × (get_or b.cells f free ≡ free)
  free_is f m = ⊎_elim (λ k. absurd (Memᴰ.not-nil k)) (λ A. placed_here f (Empty b.cells) A) (free_from_at 0 f [] b.cells m)

  pub is_free_lem : (f : ℕ) → f < length b.cells → get_or b.cells f free ≡ free → Memᴰ f (free_frames b)
  is_free_lem f l e = Memᴰ.cast (omega arith) (free_from_in 0 f [] b.cells l e)

  -- "all others are free": a frame is free exactly if it is one of the book's frames and not in use
  pub free_unused : (f : ℕ) → Memᴰ f (free_frames b) → (f < length b.cells) × (Memᴰ f (used_frames b) → ⊥)
  free_unused f m = ((free_is f m).0, λ u. held_not_free f b.cells (used_held f b.cells u) (free_is f m).1)

  pub unused_free : (f : ℕ) → f < length b.cells → (Memᴰ f (used_frames b) → ⊥) → Memᴰ f (free_frames b)
  unused_free f l n = ⊎_elim (λ e. is_free_lem f l e) (λ H. absurd (n (held_used f b.cells H))) (held_or f b.cells)

  -- frames in use and free frames are all frames
  pub used_and_free : length (free_frames b) + length (used_frames b) ≡ length b.cells
  used_and_free = omega (arith, free_count_lem 0 [] b.cells, used_length 0 b.cells)

-- ---- the frame at a slot

-- the cell at f stands at the slot
record Stands (s : Slot) (f : ℕ) (cs : List Cell) : Type 0 where
  bytes : List ℕ
  is : get_or cs f free ≡ holds s.inside s.index bytes

stands_held : (s : Slot) (f : ℕ) (cs : List Cell) → Stands s f cs → Held f cs
stands_held s f cs S = record { inside = s.inside; index = s.index; bytes = S.bytes; is = S.is }

frame_at_lem : (s : Slot) (n f : ℕ) (cs : List Cell) → frame_at s n cs ≡ Some f → Placed n f (λ j. Stands s j cs)
unfolding frame_at
frame_at_lem s n f [] e = absurd (let z : ◌≡◌ {A = ℕ} 0 1 = cc in omega arith)
frame_at_lem s n f (c ∷ cs) e =
    by-test (is_at s c)
    (λ t. let h : Some n ≡ Some f = rw t at e in let g : n ≡ f = cc in here c t g)
    (λ t. placed_next n f (λ j. Stands s j cs) (λ j. Stands s j (c ∷ cs)) (λ j S. record { bytes = S.bytes; is = S.is }) (frame_at_lem s (suc n) f cs (rw t at e)))
  where
    here : (d : Cell) → is_at s d ≡ true → n ≡ f → Placed n f (λ j. Stands s j (d ∷ cs))
    here free t g = absurd (false≢true t)
    here (holds b i x) t g =
        let q = same_slot s b i x t in
        record { place = 0; sum = sym g ∙ sym (add-zero n); has = record { bytes = x; is = ap₂ (λ k j. holds k j x) q.0 q.1 } }

record Frame (s : Slot) (n : ℕ) (cs : List Cell) : Type 0 where
  frame : ℕ
  is : frame_at s n cs ≡ Some frame

-- some frame is found where a cell stands at the slot
frame_some : (s : Slot) (n f : ℕ) (cs : List Cell) → Stands s f cs → Frame s n cs
unfolding frame_at
frame_some s n f [] S = absurd (held_not_free f [] (stands_held s f [] S) refl)
frame_some s n zero (c ∷ cs) S =
    let t : is_at s c ≡ true = rw S.is (rw (eq-eqb s.inside s.inside refl, eq-eqb s.index s.index refl)) in
    record { frame = n; is = rw t }
frame_some s n (suc f) (c ∷ cs) S =
    by-test (is_at s c)
    (λ t. record { frame = n; is = rw t })
    (λ t. let F = frame_some s (suc n) f cs (record { bytes = S.bytes; is = S.is }) in record { frame = F.frame; is = rw t F.is })

-- ---- pages that name frames

-- some page of a live object names the frame
pub record NamedBy (b : Book) (f : ℕ) : Type 0 where
  pub object : ℕ
  pub page : ℕ
  pub live : get_or b.live object false ≡ true
  pub small : page < object_bytes / b.size
  pub names : frame_of b object page ≡ Some f

-- a frame that a page names is in use
pub named_used : (b : Book) (o p f : ℕ) → frame_of b o p ≡ Some f → Memᴰ f (used_frames b) × (f < length b.cells)
unfolding frame_of
named_used b o p f e = go (slot_at (line o p) b.ranges) e
  where
    go : (s : Option Slot) → frame_in b.cells s ≡ Some f → Memᴰ f (used_frames b) × (f < length b.cells)
    go None h = absurd (let z : ◌≡◌ {A = ℕ} 0 1 = cc in omega arith)
    go (Some s) h =
        let H : Held f b.cells = stands_held s f b.cells (placed_here f _ (frame_at_lem s 0 f b.cells h)) in
        (held_used f b.cells H, held_small f b.cells H)

-- a frame in use is named by a page
pub used_named : (b : Book) → Sound b → (f : ℕ) → Memᴰ f (used_frames b) → NamedBy b f
unfolding frame_of
used_named b S f m =
    let H = used_held f b.cells m in
    let I : In H.inside H.index b.ranges = named_in H.inside H.index b.ranges (S.windows f H.inside H.index H.bytes H.is) in
    let r : Range = I.r in
    let e' : r.start + r.len ≤ object_bytes / b.size = S.ends r I.mem in
    let p : ℕ = r.start + (H.index - r.offset) in
    let s : Slot = record { inside = H.inside; index = H.index } in
    let j : r.offset + (line r.object p - from r) ≡ H.index = omega (arith, I.low) in
    let e : slot_at (line r.object p) b.ranges ≡ Some s =
    slot_mem 0 (line r.object p) r b.ranges S.order I.mem (omega arith) (omega (arith, I.low, I.high))
    ∙ ap Some (λ i. record { inside = sym I.backing i; index = j i }) in
    let F : Frame s 0 b.cells = frame_some s 0 f b.cells (record { bytes = H.bytes; is = H.is }) in
    let T : Stands s F.frame b.cells = placed_here F.frame _ (frame_at_lem s 0 F.frame b.cells F.is) in
    let g : F.frame ≡ f = S.apart F.frame f H.inside H.index T.bytes H.bytes T.is H.is in
    record { object = r.object; page = p; live = S.owned r I.mem; small = omega (arith, I.low, I.high); names = rw e (F.is ∙ ap Some g) }

-- THE FRAMES IN USE of a book: as many as counts gives, all distinct, exactly those that pages name; all others are free.
pub record Frames (b : Book) : Type 0 where
  pub number : length (used_frames b) ≡ in_use b.cells
  pub distinct : Upward 0 (used_frames b)
  pub named : (f : ℕ) → Memᴰ f (used_frames b) → NamedBy b f
  pub used : (f : ℕ) → NamedBy b f → Memᴰ f (used_frames b)
  pub others : (f : ℕ) → f < length b.cells → (NamedBy b f → ⊥) → Memᴰ f (free_frames b)

pub frames : (b : Book) → Sound b → Frames b
frames b S = record {
  number = used_length 0 b.cells;
  distinct = used_upward 0 b.cells;
  named = used_named b S;
  used = λ f n. (named_used b n.object n.page f n.names).0;
  others = λ f l n. unused_free b f l (λ m. n (used_named b S f m));
}
