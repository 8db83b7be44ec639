-- A STEP AS A CHANGE OF FILES: the bytes from a up to e of object o become f, and every other byte of every object stays.
use Rattle.std.specs.Prelude.{◌≡◌, refl, ◌&&◌, ◌⊎◌, List, ℕ, ◌+◌, ◌-◌, ◌*◌, ◌/◌, ◌%◌, ◌≤◌, ◌<◌, ltb, leb, eqb, get_or, Option}
use Rattle.std.proofs.Common.{ap, sym, ◌∙◌, inl, inr, ⊎_elim, div-lt_iff_lt-mul, le-div_iff_mul-le, arith, eq-eqb, ne_eqb, lt-ltb, le-ltb, le-leb}
use Rattle.std.proofs.lemmas.Bool.{lt-leb}
use Rattle.lists.specs.Test.{pick, by-lt, by-eq}
use Rattle.ranges.specs.Range.{line}
use Rattle.book.specs.Page.{object_bytes}
use Rattle.book.specs.Work.{Work, seen, page_of}
use Rattle.book.specs.Bytes.{byte_at}
use Rattle.laws.specs.Reading.{page_div, page_mod}
use Rattle.laws.specs.Spans.{page_in}

-- from state u to state v, the bytes a up to e of object o become f; every other byte reads as it did
pub record Rewrites (o a e : ℕ) (f : ℕ → ℕ) (u v : Work) : Type 0 where
  pub within : (y : ℕ) → a ≤ y → y < e → byte_at o y v ≡ f y
  pub outside : (o' y : ℕ) → y < object_bytes → (o' ≡ o → (y < a) ⊎ (e ≤ y)) → byte_at o' y v ≡ byte_at o' y u

-- an empty span: nothing happens
pub rewrites_none : (o a e : ℕ) (f : ℕ → ℕ) (u v : Work) → e ≤ a → v ≡ u → Rewrites o a e f u v
rewrites_none o a e f u v h s = record { within = λ y l m. absurd (omega arith); outside = λ o' y b c. ap (λ z. byte_at o' y z) s }

-- the edges by other names
pub rewrites_cast : (o a a' e e' : ℕ) (f : ℕ → ℕ) (u v : Work) → a ≡ a' → e ≡ e' → Rewrites o a e f u v → Rewrites o a' e' f u v
rewrites_cast o a a' e e' f u v p q A = record {
  within = λ y l k. A.within y (omega arith) (omega arith);
  outside = λ o' y h c. A.outside o' y h (λ w. ⊎_elim (λ (d : y < a'). inl (omega arith)) (λ (d : e' ≤ y). inr (omega arith)) (c w));
}

-- values that agree on the span
pub rewrites_as : (o a e : ℕ) (f g : ℕ → ℕ) (u v : Work) → ((y : ℕ) → a ≤ y → y < e → f y ≡ g y) → Rewrites o a e f u v → Rewrites o a e g u v
rewrites_as o a e f g u v h A = record { within = λ y l k. A.within y l k ∙ h y l k; outside = A.outside }

-- a span whose end lies past the object
pub rewrites_top : (o a e : ℕ) (f : ℕ → ℕ) (u v : Work) → object_bytes ≤ e → Rewrites o a e f u v → Rewrites o a object_bytes f u v
rewrites_top o a e f u v h A = record {
  within = λ y l k. A.within y l (omega arith);
  outside = λ o' y k c. A.outside o' y k (λ w. ⊎_elim (λ (d : y < a). inl d) (λ (d : object_bytes ≤ y). absurd (omega arith)) (c w));
}

-- a smaller span, where the values beside it are the old bytes
pub rewrites_narrow : (o a b c e : ℕ) (f : ℕ → ℕ) (u v : Work) → a ≤ b → c ≤ e → ((y : ℕ) → a ≤ y → y < e → (y < b) ⊎ (c ≤ y) → f y ≡ byte_at o y u)
    → Rewrites o a e f u v → Rewrites o b c f u v
rewrites_narrow o a b c e f u v l m h A = record {
  within = λ y p q. A.within y (omega arith) (omega arith);
  outside = λ o' y k d. by-eq o' o
      (λ w. by-lt y a
      (λ p. A.outside o' y k (λ _. inl p))
      (λ p. by-lt y e (λ q. rw w (A.within y p q ∙ h y p q (d w))) (λ q. A.outside o' y k (λ _. inr q))))
      (λ n. A.outside o' y k (λ w. absurd (n w)));
}

-- two neighbouring spans, one after the other
pub rewrites_join : (o a m e : ℕ) (f : ℕ → ℕ) (u v z : Work) → a ≤ m → m ≤ e → e ≤ object_bytes → Rewrites o a m f u v → Rewrites o m e f v z → Rewrites o a e f u z
rewrites_join o a m e f u v z p q b A B = record {
  within = λ y l k. by-lt y m (λ c. B.outside o y (omega arith) (λ _. inl c) ∙ A.within y l c) (λ c. B.within y c k);
  outside = λ o' y h c.
      B.outside o' y h (λ w. ⊎_elim (λ (d : y < a). inl (omega arith)) (λ (d : e ≤ y). inr d) (c w))
      ∙ A.outside o' y h (λ w. ⊎_elim (λ (d : y < a). inl d) (λ (d : e ≤ y). inr (omega arith)) (c w));
}

-- every byte after such a step
pub rewritten : (o a e : ℕ) (f : ℕ → ℕ) (u v : Work) → Rewrites o a e f u v → (o' y : ℕ) → y < object_bytes
    → byte_at o' y v ≡ pick (eqb o' o && (leb a y && ltb y e)) (f y) (byte_at o' y u)
rewritten o a e f u v A o' y h =
    by-eq o' o
    (λ w. by-lt y a
    (λ l. rw (eq-eqb o' o w, lt-leb a y l) (A.outside o' y h (λ _. inl l)))
    (λ l. by-lt y e
    (λ m. rw (eq-eqb o' o w, le-leb a y l, lt-ltb y e m) (rw w (A.within y l m)))
    (λ m. rw (eq-eqb o' o w, le-leb a y l, le-ltb y e m) (A.outside o' y h (λ _. inr m)))))
    (λ n. rw (ne_eqb o' o n) (A.outside o' y h (λ w. absurd (n w))))

-- ---- bytes and pages

-- a byte read by another name of the page size
pub by_size : (o y n : ℕ) (v : Work) → v.size ≡ n → byte_at o y v ≡ get_or (seen n (page_of (line o (y / n)) v)) (y % n) 0
unfolding byte_at
by_size o y n v e = ap (λ z. get_or (seen z (page_of (line o (y / z)) v)) (y % z) 0) e

-- where the page reads the same, the byte does
pub same_page : (o y : ℕ) (u v : Work) → v.size ≡ u.size → page_of (line o (y / u.size)) v ≡ page_of (line o (y / u.size)) u → byte_at o y v ≡ byte_at o y u
same_page o y u v e p = by_size o y u.size v e ∙ ap (λ t. get_or (seen u.size t) (y % u.size) 0) p ∙ sym (by_size o y u.size u refl)

-- place r of page p
pub at_place : (o p r n : ℕ) (v : Work) → v.size ≡ n → r < n → byte_at o (p * n + r) v ≡ get_or (seen n (page_of (line o p) v)) r 0
at_place o p r n v e l =
    by_size o (p * n + r) n v e
    ∙ ap (λ q. get_or (seen n (page_of (line o q) v)) ((p * n + r) % n) 0) (page_div n p r l)
    ∙ ap (λ q. get_or (seen n (page_of (line o p) v)) q 0) (page_mod n p r l)

-- pages and bytes of a stretch of pages from p on
module _ (n p y : ℕ) (pos : 0 < n) where
  pub page_from : p * n ≤ y → p ≤ y / n
  page_from l = (le-div_iff_mul-le pos).1 l

  pub page_to : y < p * n → y / n < p
  page_to l = (div-lt_iff_lt-mul pos).1 l

-- a byte at or after page p, by how many pages after
pub byte_from : (o p y n : ℕ) (v : Work) → v.size ≡ n → 0 < n → p * n ≤ y → byte_at o y v ≡ get_or (seen n (page_of (line o (p + (y / n - p))) v)) (y % n) 0
byte_from o p y n v e pos l =
    let q : y / n ≡ p + (y / n - p) = omega (arith, page_from n p y pos l) in
    by_size o y n v e ∙ ap (λ z. get_or (seen n (page_of (line o z) v)) (y % n) 0) q

-- A STEP ON WHOLE PAGES: page j of the n pages from page p of object o becomes g j, every other page of every object stays
pub pages_rewrite : (o p n : ℕ) (g : ℕ → Option (List ℕ)) (u v : Work) → 4096 ≤ u.size → v.size ≡ u.size → p + n ≤ 262144
    → ((j : ℕ) → j < n → page_of (line o (p + j)) v ≡ g j)
    → ((h : ℕ) → (h < line o p) ⊎ (line o p + n ≤ h) → page_of h v ≡ page_of h u)
    → Rewrites o (p * u.size) ((p + n) * u.size) (λ y. get_or (seen u.size (g (y / u.size - p))) (y % u.size) 0) u v
pages_rewrite o p n g u v hs same top here there = record {
  within = λ y l m.
      byte_from o p y u.size v same pos l
      ∙ ap (λ t. get_or (seen u.size t) (y % u.size) 0) (here (y / u.size - p) (omega (arith, page_from u.size p y pos l, page_to u.size (p + n) y pos m)));
  outside = λ o' y h c.
      let hp : y / u.size < 262144 = page_in u.size y 1 hs (omega arith) (omega arith) in
      same_page o' y u v same (there (line o' (y / u.size))
      (by-eq o' o
      (λ e. ⊎_elim
      (λ (d : y < p * u.size). inl (omega (arith, page_to u.size p y pos d)))
      (λ (d : (p + n) * u.size ≤ y). inr (omega (arith, page_from u.size (p + n) y pos d)))
      (c e))
      (λ ne. by-lt o' o (λ k. inl (omega arith)) (λ k. inr (omega arith)))));
}
  where
    pos : 0 < u.size
    pos = omega arith
